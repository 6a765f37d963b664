-- `Listed`: the list says what changed, and nothing else. Assumes nothing.
use Prim.Native.Nat.{ℕ, zero, suc, ◌/◌, ◌%◌, ◌^◌, ◌≤◌, ◌<◌}
use mathlib.Core.Path.{◌≡◌, refl, ap, ◌∙◌}
use mathlib.Core.List.{List, [], ◌∷◌, ◌++◌}
use mathlib.Core.Logic.{◌⊎◌, ⊎_elim}
use native.Mathlib.Nat.{eq-or-lt_of_le}
use native.Mathlib.Omega.{arith}
use lib.ListN.{length, get_or, length-append, get_or-append}
use lib.Seq.{get_or-append_seam}
use borrow.Author.Tests.{eqb-true, eqb-false}
use Rattle.word.proofs.First.{by_test}
use Rattle.repair.specs.Changes.{change, changes_below, changes, at_front}
use Rattle.repair.specs.Promises.{place_in, old_in, new_in, Says}
use Rattle.repair.proofs.Rewriting.{below_most, front_length, front_first, front_rest}

module _ (old new : List ℕ) (few : length old < 2 ^ 32) (old_byte : (i : ℕ) → get_or old i 0 < 2 ^ 8) (new_byte : (i : ℕ) → get_or new i 0 < 2 ^ 8) where
  -- the parts of an entry
  parts : (p e : ℕ) → p < 2 ^ 32 → e ≡ change p (get_or old p 0) (get_or new p 0) → (e % 2 ^ 32 ≡ p) × (e / 2 ^ 32 % 2 ^ 8 ≡ get_or old p 0) × (e / 2 ^ 40 ≡ get_or new p 0)
  unfolding change
  parts p e l is = let a = old_byte p in let b = new_byte p in (omega arith, omega arith, omega arith)

  -- what the entries of the first n places say
  record Below (n : ℕ) (cs : List ℕ) : Type 0 where
    place : (i : ℕ) → i < length cs → place_in cs i < n
    before : (i : ℕ) → i < length cs → old_in cs i ≡ get_or old (place_in cs i) 0
    now : (i : ℕ) → i < length cs → new_in cs i ≡ get_or new (place_in cs i) 0
    differ : (i : ℕ) → i < length cs → get_or old (place_in cs i) 0 ≡ get_or new (place_in cs i) 0 → ⊥
    rising : (i j : ℕ) → i < j → j < length cs → place_in cs i < place_in cs j
    all : (p : ℕ) → p < n → (get_or old p 0 ≡ get_or new p 0 → ⊥) → (i : ℕ) × (i < length cs) × (place_in cs i ≡ p)

  -- where the bytes of the next place are the same
  same_more : (n : ℕ) (cs : List ℕ) → get_or old n 0 ≡ get_or new n 0 → Below n cs → Below (suc n) cs
  same_more n cs e b =
      record {
        place = λ i l. let h = b.place i l in omega arith;
        before = b.before;
        now = b.now;
        differ = b.differ;
        rising = b.rising;
        all = λ p l ne. ⊎_elim (λ (q : p ≡ n). absurd (ne (rw q e))) (λ less. b.all p less ne) (eq-or-lt_of_le {n = p} {m = n} (omega arith));
      }

  -- and where they are not
  module _ (n : ℕ) (there : n < 2 ^ 32) (cs : List ℕ) (ne : get_or old n 0 ≡ get_or new n 0 → ⊥) (b : Below n cs) where
    abbrev last : ℕ
    last = change n (get_or old n 0) (get_or new n 0)

    abbrev more : List ℕ
    more = cs ++ (last ∷ [])

    earlier : (i : ℕ) → i < length cs → get_or more i 0 ≡ get_or cs i 0
    earlier i l = get_or-append cs (last ∷ []) 0 i l

    latest : (i : ℕ) → i ≡ length cs → get_or more i 0 ≡ last
    latest i e = ap (λ (k : ℕ). get_or more k 0) e ∙ get_or-append_seam cs last [] 0

    last_or : (i : ℕ) → i < length more → (i ≡ length cs) ⊎ (i < length cs)
    last_or i l = let long = length-append cs (last ∷ []) in eq-or-lt_of_le {n = i} {m = length cs} (omega arith)

    -- a fact of each entry's number, of the last and of those before it
    each : (P : ℕ → Type 0) → P last → ((i : ℕ) → i < length cs → P (get_or cs i 0)) → (i : ℕ) → i < length more → P (get_or more i 0)
    each P here before i l = ⊎_elim (λ e. rw (latest i e) here) (λ less. rw (earlier i less) (before i less)) (last_or i l)

    at_last : (last % 2 ^ 32 ≡ n) × (last / 2 ^ 32 % 2 ^ 8 ≡ get_or old n 0) × (last / 2 ^ 40 ≡ get_or new n 0)
    at_last = parts n last there refl

    other_more : Below (suc n) more
    other_more =
        record {
          place = each (λ v. v % 2 ^ 32 < suc n) (rw at_last.0 (omega arith)) (λ i l. let h = b.place i l in omega arith);
          before = each (λ v. v / 2 ^ 32 % 2 ^ 8 ≡ get_or old (v % 2 ^ 32) 0) (rw at_last.0 at_last.1) b.before;
          now = each (λ v. v / 2 ^ 40 ≡ get_or new (v % 2 ^ 32) 0) (rw at_last.0 at_last.2) b.now;
          differ = each (λ v. get_or old (v % 2 ^ 32) 0 ≡ get_or new (v % 2 ^ 32) 0 → ⊥) (rw at_last.0 ne) b.differ;
          rising = λ i j less l.
              let long = length-append cs (last ∷ []) in
              ⊎_elim
              (λ (e : j ≡ length cs). rw (latest j e, earlier i (omega arith), at_last.0) (b.place i (omega arith)))
              (λ before. rw (earlier j before, earlier i (omega arith)) (b.rising i j less before))
              (last_or j l);
          all = λ p l differ.
              let long = length-append cs (last ∷ []) in
              ⊎_elim
              (λ (e : p ≡ n). (length cs, omega arith, rw (latest (length cs) refl, e) at_last.0))
              (λ less. let w = b.all p less differ in (w.0, omega (arith, w.1), rw (earlier w.0 w.1) w.2))
              (eq-or-lt_of_le {n = p} {m = n} (omega arith));
        }

  below : (n : ℕ) → n ≤ length old → Below n (changes_below old new n)
  unfolding changes_below
  below zero l =
      record {
        place = λ i m. absurd (omega arith);
        before = λ i m. absurd (omega arith);
        now = λ i m. absurd (omega arith);
        differ = λ i m. absurd (omega arith);
        rising = λ i j less m. absurd (omega arith);
        all = λ p m. absurd (omega arith);
      }
  below (suc n) l =
      let cs = changes_below old new n in
      let b = below n (omega arith) in
      by_test (Below (suc n)) (λ e. same_more n cs (eqb-true _ _ e) b) (λ e. other_more n (omega arith) cs (eqb-false _ _ e) b)

  -- at the front of a room that is long enough
  module _ (room : List ℕ) (enough : length old ≤ length room) where
    abbrev cs : List ℕ
    cs = changes_below old new (length old)

    b : Below (length old) cs
    b = below (length old) (omega arith)

    front : (i : ℕ) → i < length cs → get_or (at_front cs room) i 0 ≡ get_or cs i 0
    front = front_first cs room

    pub says : Says old new room (at_front (changes old new) room) (length (changes old new))
    unfolding changes
    says =
        let most = below_most old new (length old) in
        record {
          place = λ i l. rw (front i l) (b.place i l);
          before = λ i l. rw (front i l) (b.before i l);
          now = λ i l. rw (front i l) (b.now i l);
          differ = λ i l. rw (front i l) (b.differ i l);
          rising = λ i j less l. rw (front i (omega arith), front j l) (b.rising i j less l);
          all = λ p l ne. let w = b.all p l ne in (w.0, w.1, rw (front w.0 w.1) w.2);
          long = front_length cs room (omega arith);
          rest = front_rest cs room;
        }
