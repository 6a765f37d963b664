-- What the object table says: what loops over it find, an entry by its handle and one that repeats an earlier, and the same in
-- the promises' plain terms. Assumes nothing.
use Rattle.std.proofs.Common.{◌≡◌, ℕ, zero, suc, ◌+◌, ◌*◌, ◌<◌, ◌≤◌, [], length, get_or, take, drop, Bool, true, false, not, ◌⊎◌, ◌↔◌, List, sym, refl, ap, ◌∙◌, subst, inl, inr, arith, eq-eqb, ne_eqb, eqb-true}
use mathlib.Core.Bool.{false≢true}
use mathlib.Core.Option as maybe
use mathlib.Core.Option.{none, some}
use Rattle.std.specs.Prelude.{Option, Some, None, MatchOption, option_map}
use Rattle.std.specs.Bool.{MatchBool}
use Rattle.std.specs.Cmp.{both_ways}
use Rattle.std.specs.List.{AllWithin, HoldsAt}
use Rattle.std.specs.Simd.{first_chunks}
use Rattle.std.proofs.lemmas.List.{get_or-take, get_or-drop, length-take}
use denote.Ref.{Bor}
use borrow.Author.Tests.{eqb-false, not-true}
use Rattle.word.proofs.Tests.{equal_plain, not_plain}
use Rattle.word.specs.Lowest.{lowest, found?}
use Rattle.puller.specs.Object.{entries, handle, object_at, has, found_at, lookup_of, repeats, repeat_at, repeat_of}
use Rattle.puller.specs.Promises.{Whole, Describes, Names, NamesNone, Repeated}
use Rattle.puller.specs.declared.object.Object.{Object}
use Rattle.word.proofs.Lowest.{lowest_at, lowest_none, lowest_some}

-- a word of one of the chunks of four
chunk_word : (t : List ℕ) (n i k m : ℕ) (d : List ℕ) → i < n → k < 4 → m ≡ 4 * i + k → get_or (get_or (first_chunks 4 n t) i d) k 0 ≡ get_or t m 0
chunk_word t zero i k m d l s e = absurd (omega arith)
chunk_word t (suc n) zero k m d l s e = get_or-take 4 t k 0 s ∙ ap (λ m. get_or t m 0) (omega arith)
chunk_word t (suc n) (suc i) k m d l s e =
    chunk_word (drop 4 t) n i k (4 * i + k) d (omega arith) s refl
    ∙ get_or-drop 4 t (4 * i + k) 0
    ∙ ap (λ m. get_or t m 0) (omega arith)

length-chunks : (t : List ℕ) (n : ℕ) → length (first_chunks 4 n t) ≡ n
length-chunks t zero = refl
length-chunks t (suc n) = ap suc (length-chunks (drop 4 t) n)

module _ (t : List ℕ) where
  -- the entries, each of its four words
  abbrev pub rows : List (List ℕ)
  rows = first_chunks 4 (entries t) t

  row_handle : (i : ℕ) (d : List ℕ) → i < entries t → get_or (get_or rows i d) 0 0 ≡ handle t i
  row_handle i d l = chunk_word t (entries t) i 0 (4 * i) d l (omega arith) (omega arith)

  row_object : (i : ℕ) (d : List ℕ) → i < entries t → object_at (get_or rows i d) 0 ≡ object_at t i
  unfolding object_at
  row_object i d l =
      let word : (k : ℕ) → k < 4 → get_or (get_or rows i d) k 0 ≡ get_or t (4 * i + k) 0 = λ k m. chunk_word t (entries t) i k _ d l m refl in
      rw (word 1 (omega arith), word 2 (omega arith), word 3 (omega arith))

  -- the object that is looked up: of the first entry with the handle, or none
  pub lookup_at : (h k : ℕ) → lowest (has t h) k ≡ none → k < entries t → handle t k ≡ h → Some (object_at t k) ≡ lookup_of t h
  unfolding lookup_of found_at has
  lookup_at h k e l q = rw (lowest_at (has t h) (entries t) k e l (eq-eqb _ _ q))

  pub lookup_none : (h : ℕ) → lowest (has t h) (entries t) ≡ none → None ≡ lookup_of t h
  unfolding lookup_of found_at
  lookup_none h e = rw e

  -- what a search of the entries finds, by its handle
  abbrev Other : ℕ → List ℕ → Type 0
  Other h e = get_or e 0 0 ≡ h → ⊥

  pub lookup_by :
      (h : ℕ) (r : Option (Bor (List ℕ)))
      → MatchOption r (AllWithin (Other h) rows 0 (length rows))
      (λ e. (get_or e.now 0 0 ≡ h) × (i : ℕ) × (i < length rows) × HoldsAt (λ x. x ≡ e.now) rows i × AllWithin (Other h) rows 0 i)
      → option_map (λ (e : Bor (List ℕ)). object_at e.now 0) r ≡ lookup_of t h
  unfolding has
  lookup_by h None others =
      lookup_none h
      ((lowest_none (has t h) (entries t)).1
      (λ i l. ne_eqb _ _ (λ e. others i [] (omega arith) (omega (arith, length-chunks t (entries t))) (row_handle i [] l ∙ e))))
  lookup_by h (Some e) found =
      let i = found.1 in
      let l : i < entries t = omega (arith, found.2, length-chunks t (entries t)) in
      let read = found.3 [] in
      let before = (lowest_none (has t h) i).1 (λ k m. ne_eqb _ _ (λ q. found.4 k [] (omega arith) m (row_handle k [] (omega arith) ∙ q))) in
      ap Some (ap (λ (x : List ℕ). object_at x 0) (sym read) ∙ row_object i [] l)
      ∙ lookup_at h i before l (sym (row_handle i [] l) ∙ ap (λ (x : List ℕ). get_or x 0 0) read ∙ found.0)

  -- whether an entry repeats an earlier one
  pub repeats_not : (j : ℕ) → lowest (has t (handle t j)) j ≡ none → repeats t j ≡ false
  unfolding repeats found?
  repeats_not j e = rw e

  -- the first entry that does, or none
  pub repeat_at_lem : (j : ℕ) → lowest (repeats t) j ≡ none → j < entries t → repeats t j ≡ true → Some j ≡ repeat_of t
  unfolding repeat_of repeat_at
  repeat_at_lem j e l h = rw (lowest_at (repeats t) (entries t) j e l h)

  pub repeat_none : lowest (repeats t) (entries t) ≡ none → None ≡ repeat_of t
  unfolding repeat_of repeat_at
  repeat_none e = rw e

  -- In plain terms: an entry describes the object read there, and no other.
  describes_read : (i : ℕ) → Describes t i (object_at t i)
  unfolding object_at
  describes_read i =
      record {
        engine = omega arith;
        address = refl;
        class = omega arith;
        writeonly = equal_plain _ _;
        paged = equal_plain _ _;
      }

  describes_one : (i : ℕ) (a b : Object) → Describes t i a → Describes t i b → a ≡ b
  describes_one i a b x y =
      let engine = x.engine ∙ sym y.engine in
      let address = x.address ∙ sym y.address in
      let class = x.class ∙ sym y.class in
      let writeonly = both_ways _ _ (λ e. y.writeonly.1 (x.writeonly.0 e)) (λ e. x.writeonly.1 (y.writeonly.0 e)) in
      let paged = both_ways _ _ (λ e. y.paged.1 (x.paged.0 e)) (λ e. x.paged.1 (y.paged.0 e)) in
      rw (engine, address, class, writeonly, paged)

  module _ (h : ℕ) where
    -- a handle that names an object looks it up, and one that names none finds nothing;
    pub named_is : (o : Object) → Names t h o → lookup_of t h ≡ Some o
    unfolding has
    named_is o n =
        let none_before = (lowest_none (has t h) n.entry).1 (λ i l. ne_eqb _ _ (n.lowest i l)) in
        sym (lookup_at h n.entry none_before (omega (arith, n.whole)) n.matches)
        ∙ ap Some (describes_one n.entry _ o (describes_read n.entry) n.describes)

    pub unnamed_is : NamesNone t h → lookup_of t h ≡ None
    unfolding has
    unnamed_is n = sym (lookup_none h ((lowest_none (has t h) (entries t)).1 (λ i l. ne_eqb _ _ (n i (omega arith)))))

    -- and back
    pub names_found : (o : Object) → lookup_of t h ≡ Some o → Names t h o
    unfolding lookup_of found_at has
    names_found o e = go (lowest (has t h) (entries t)) refl
      where
        go : (k : maybe.Option ℕ) → lowest (has t h) (entries t) ≡ k → Names t h o
        go none k = let z : ◌≡◌ {A = ℕ} 0 1 = cc in absurd (omega arith)
        go (some i) k =
            let read : object_at t i ≡ o = cc in
            let first = (lowest_some (has t h) (entries t) i).0 k in
            record {
              entry = i;
              whole = omega (arith, first.0);
              matches = eqb-true _ _ first.1;
              lowest = λ j l. eqb-false _ _ (first.2 j l);
              describes = subst (Describes t i) read (describes_read i);
            }

    pub names_nothing : lookup_of t h ≡ None → NamesNone t h
    unfolding lookup_of found_at has
    names_nothing e = go (lowest (has t h) (entries t)) refl
      where
        go : (k : maybe.Option ℕ) → lowest (has t h) (entries t) ≡ k → NamesNone t h
        go none k = λ i l. eqb-false _ _ ((lowest_none (has t h) (entries t)).0 k i (omega arith))
        go (some i) k = let z : ◌≡◌ {A = ℕ} 0 1 = cc in absurd (omega arith)

    -- so it is one or the other
    pub named_or_not : ((o : Object) × Names t h o) ⊎ NamesNone t h
    named_or_not = go (lookup_of t h) refl
      where
        go : (r : Option Object) → lookup_of t h ≡ r → ((o : Object) × Names t h o) ⊎ NamesNone t h
        go (Some o) e = inl (o, names_found o e)
        go None e = inr (names_nothing e)

  -- an entry repeats an earlier one, or does not
  repeated_is : (j : ℕ) → repeats t j ≡ true ↔ Repeated t j
  unfolding repeats found? has
  repeated_is j = go (lowest (has t (handle t j)) j) refl
    where
      go : (k : maybe.Option ℕ) → lowest (has t (handle t j)) j ≡ k → repeats t j ≡ true ↔ Repeated t j
      go none k = (
        λ e. absurd (false≢true (sym (repeats_not j k) ∙ e)),
        λ r. absurd (eqb-false _ _ ((lowest_none (has t (handle t j)) j).0 k r.earlier r.before) r.same),
      )
      go (some i) k =
          let first = (lowest_some (has t (handle t j)) j i).0 k in
          (λ e. record { earlier = i; before = first.0; same = eqb-true _ _ first.1 }, λ r. rw k)

  unrepeated_is : (j : ℕ) → repeats t j ≡ false ↔ (Repeated t j → ⊥)
  unrepeated_is j =
      let test = not_plain (repeats t j) (repeated_is j) in
      (λ e. test.0 (ap not e), λ n. not-true _ (test.1 n))

  -- the first that does, and that none does
  pub repeat_is : (i : ℕ) → repeat_of t ≡ Some i ↔ (Whole t i × Repeated t i × ((j : ℕ) → j < i → Repeated t j → ⊥))
  unfolding repeat_of repeat_at
  repeat_is i = (λ e. go (lowest (repeats t) (entries t)) refl e, λ h. back h)
    where
      go : (k : maybe.Option ℕ) → lowest (repeats t) (entries t) ≡ k → repeat_at k ≡ Some i → Whole t i × Repeated t i × ((j : ℕ) → j < i → Repeated t j → ⊥)
      go none k e = let z : ◌≡◌ {A = ℕ} 0 1 = cc in absurd (omega arith)
      go (some n) k e =
          let same : n ≡ i = cc in
          let first = (lowest_some (repeats t) (entries t) i).0 (k ∙ ap some same) in
          (omega (arith, first.0), (repeated_is i).0 first.1, λ j l. (unrepeated_is j).0 (first.2 j l))

      back : Whole t i × Repeated t i × ((j : ℕ) → j < i → Repeated t j → ⊥) → repeat_of t ≡ Some i
      back h = sym (repeat_at_lem i ((lowest_none (repeats t) i).1 (λ j l. (unrepeated_is j).1 (h.2 j l))) (omega (arith, h.0)) ((repeated_is i).1 h.1))

  -- so a search of the entries before one says whether it repeats one of them, and a search for the first that does finds it
  pub repeats_by :
      (j : ℕ) (r : Bool)
      → j < entries t
      → MatchBool r ((i : ℕ) × (i < length (take j rows)) × HoldsAt (λ e. get_or e 0 0 ≡ get_or (get_or rows j []) 0 0) (take j rows) i)
      (AllWithin (Other (get_or (get_or rows j []) 0 0)) (take j rows) 0 (length (take j rows)))
      → r ≡ repeats t j
  repeats_by j true l found =
      let i = found.0 in
      let before : i < j = omega (arith, found.1, length-take j rows) in
      let same = sym (get_or-take j rows i [] before) in
      sym
      ((repeated_is j).1
      (record {
        earlier = i;
        before = before;
        same = sym (row_handle i [] (omega arith)) ∙ ap (λ (e : List ℕ). get_or e 0 0) same ∙ found.2 [] ∙ row_handle j [] l;
      }))
  repeats_by j false l others =
      sym
      ((unrepeated_is j).1
      (λ r.
      let i = r.earlier in
      let before = r.before in
      others i [] (omega arith) (omega (arith, before, length-take j rows, length-chunks t (entries t)))
      (ap (λ (e : List ℕ). get_or e 0 0) (get_or-take j rows i [] before) ∙ row_handle i [] (omega (arith, before)) ∙ r.same ∙ sym (row_handle j [] l))))

  pub repeat_by :
      (r : Option ℕ)
      → MatchOption r ((i : ℕ) → 0 ≤ i → i < entries t → repeats t i ≡ false)
      (λ i. (0 ≤ i) × (i < entries t) × (repeats t i ≡ true) × ((k : ℕ) → 0 ≤ k → k < i → repeats t k ≡ false))
      → r ≡ repeat_of t
  repeat_by None others = repeat_none ((lowest_none (repeats t) (entries t)).1 (λ i l. others i (omega arith) l))
  repeat_by (Some i) found = repeat_at_lem i ((lowest_none (repeats t) i).1 (λ k l. found.3 k (omega arith) l)) found.1 found.2

  pub repeat_nothing : repeat_of t ≡ None ↔ ((i : ℕ) → Whole t i → Repeated t i → ⊥)
  unfolding repeat_of repeat_at
  repeat_nothing = (
    λ e. go (lowest (repeats t) (entries t)) refl e,
    λ n. sym (repeat_none ((lowest_none (repeats t) (entries t)).1 (λ i l. (unrepeated_is i).1 (n i (omega arith))))),
  )
    where
      go : (k : maybe.Option ℕ) → lowest (repeats t) (entries t) ≡ k → repeat_at k ≡ None → (i : ℕ) → Whole t i → Repeated t i → ⊥
      go none k e = λ i l. (unrepeated_is i).0 ((lowest_none (repeats t) (entries t)).0 k i (omega arith))
      go (some n) k e = let z : ◌≡◌ {A = ℕ} 0 1 = cc in absurd (omega arith)
