-- How map, list and work room are rewritten, place by place. Assumes nothing.
use Prim.Native.Nat.{ℕ, zero, suc, ◌+◌, ◌-◌, ◌*◌, ◌≤◌, ◌<◌}
use mathlib.Core.Path.{◌≡◌, refl, sym, ap, ◌∙◌}
use mathlib.Core.Bool.{Bool, true, false}
use mathlib.Core.List.{List, [], ◌∷◌, ◌++◌, append_assoc}
use mathlib.Core.Logic.{⊎_elim}
use native.Mathlib.Nat.{eq-or-lt_of_le}
use native.Mathlib.Numerals.{add-one}
use native.Mathlib.Omega.{arith}
use lib.Dec.{eqb}
use lib.ListN.{length, get_or, drop, set, length-append, length-drop, length-set, get_or-append}
use lib.Seq.{drop-cons, set-append_seam, set-get_or, get_or-append-add, get_or-drop, get_or-set_same, get_or-set_other, ext_get_or}
use borrow.Author.Tests.{eq-eqb, ne_eqb}
use Rattle.word.specs.First.{choose}
use Rattle.word.proofs.First.{by_test}
use Rattle.rules.specs.Search.{list_of}
use Rattle.rules.proofs.ExactMap.{list_length, list_element}
use Rattle.repair.specs.Changes.{change, changes_below, changes, at_front, byte_by, Puts, Rewrites}

-- there are no more changes than places
pub below_most : (old new : List ℕ) (n : ℕ) → length (changes_below old new n) ≤ n
unfolding changes_below
below_most old new zero = omega arith
below_most old new (suc n) =
    let before = below_most old new n in
    let more = length-append (changes_below old new n) (change n (get_or old n 0) (get_or new n 0) ∷ []) in
    by_test (λ (cs : List ℕ). length cs ≤ suc n) (λ e. omega arith) (λ e. omega arith)

-- one more at the end of what is at the front
pub front_more : (cs list : List ℕ) (v : ℕ) → length cs < length list → set (at_front cs list) (length cs) v ≡ at_front (cs ++ (v ∷ [])) list
unfolding at_front
front_more cs list v l =
    let many : length (cs ++ (v ∷ [])) ≡ suc (length cs) = length-append cs (v ∷ []) ∙ add-one (length cs) in
    rw (drop-cons list (length cs) 0 l, set-append_seam cs (get_or list (length cs) 0) (drop (suc (length cs)) list) v, many)
    (sym (append_assoc cs (v ∷ []) (drop (suc (length cs)) list)))

pub front_length : (cs list : List ℕ) → length cs ≤ length list → length (at_front cs list) ≡ length list
unfolding at_front
front_length cs list l = let a = length-append cs (drop (length cs) list) in let b = length-drop (length cs) list in omega arith

pub front_first : (cs list : List ℕ) (i : ℕ) → i < length cs → get_or (at_front cs list) i 0 ≡ get_or cs i 0
unfolding at_front
front_first cs list i l = get_or-append cs (drop (length cs) list) 0 i l

pub front_rest : (cs list : List ℕ) (k : ℕ) → length cs ≤ k → get_or (at_front cs list) k 0 ≡ get_or list k 0
unfolding at_front
front_rest cs list k l =
    let here : length cs + (k - length cs) ≡ k = omega arith in
    ap (λ (n : ℕ). get_or (cs ++ drop (length cs) list) n 0) (sym here)
    ∙ get_or-append-add cs (drop (length cs) list) (k - length cs) 0
    ∙ get_or-drop (length cs) list (k - length cs) 0
    ∙ ap (λ (n : ℕ). get_or list n 0) here

chosen_front : (t : Bool) (cs list : List ℕ) (v : ℕ) → length cs < length list → choose t (at_front cs list) (set (at_front cs list) (length cs) v) ≡ at_front (choose t cs (cs ++ (v ∷ []))) list
unfolding choose
chosen_front true cs list v l = refl
chosen_front false cs list v l = front_more cs list v l

chosen_length : (t : Bool) (cs : List ℕ) (v : ℕ) → choose t (length cs) (length cs + 1) ≡ length (choose t cs (cs ++ (v ∷ [])))
unfolding choose
chosen_length true cs v = refl
chosen_length false cs v = sym (length-append cs (v ∷ []))

-- the byte of one place: as it was, or another
module _ (map list work work' : List ℕ) (p count : ℕ) (taken : work' ≡ set (set work (2 * p) 0) (2 * p + 1) 0) where
  pub same_byte : get_or map p 0 ≡ byte_by work p → Puts map list work p count map list work' count
  unfolding choose
  same_byte e =
      record {
        mark = sym (ap (set map p) (sym e) ∙ set-get_or map p 0);
        listed = rw (eq-eqb (get_or map p 0) (byte_by work p) e);
        counted = rw (eq-eqb (get_or map p 0) (byte_by work p) e);
        cleared = taken;
      }

  pub other_byte :
      {b v : ℕ}
      → b ≡ byte_by work p
      → (get_or map p 0 ≡ b → ⊥)
      → v ≡ change p (get_or map p 0) b
      → Puts map list work p count (set map p b) (set list count v) work' (count + 1)
  unfolding choose
  other_byte is ne made =
      let test = ne_eqb (get_or map p 0) (byte_by work p) (λ e. ne (e ∙ sym is)) in
      record {
        mark = ap (set map p) is;
        listed = rw (test, made, is);
        counted = rw test;
        cleared = taken;
      }

module _ (map₀ list₀ work₀ : List ℕ) where
  abbrev new : List ℕ
  new = list_of (byte_by work₀) (length map₀)

  -- what holds where so many places were passed
  pub record Passed (p : ℕ) (map list work : List ℕ) (count : ℕ) : Type 0 where
    pub map_long : length map ≡ length map₀
    pub list_long : length list ≡ length list₀
    pub work_long : length work ≡ length work₀
    pub done : (i : ℕ) → i < p → get_or map i 0 ≡ byte_by work₀ i
    pub left : (i : ℕ) → p ≤ i → get_or map i 0 ≡ get_or map₀ i 0
    pub cleared : (k : ℕ) → k < 2 * p → get_or work k 0 ≡ 0
    pub kept : (k : ℕ) → 2 * p ≤ k → get_or work k 0 ≡ get_or work₀ k 0
    pub listed : list ≡ at_front (changes_below map₀ new p) list₀
    pub counted : count ≡ length (changes_below map₀ new p)

  pub passed_none : Passed 0 map₀ list₀ work₀ 0
  unfolding changes_below at_front
  passed_none =
      record {
        map_long = refl;
        list_long = refl;
        work_long = refl;
        done = λ i l. absurd (omega arith);
        left = λ i l. refl;
        cleared = λ k l. absurd (omega arith);
        kept = λ k l. refl;
        listed = refl;
        counted = refl;
      }

  -- no more than those places changed
  pub few : (p : ℕ) (map list work : List ℕ) (count : ℕ) → Passed p map list work count → count ≤ p
  few p map list work count h = let most = below_most map₀ new p in omega (arith, h.counted)

  module _
      (p : ℕ)
      (map list work : List ℕ)
      (count : ℕ)
      (h : Passed p map list work count)
      (there : p < length map₀)
      (rooms : length map₀ ≤ length list₀)
      (pairs : length work₀ ≡ 2 * length map₀)
    where
      -- the byte that is put, and the one that was there
      same_mark : byte_by work p ≡ byte_by work₀ p
      unfolding byte_by
      same_mark = rw (h.kept (2 * p) (omega arith), h.kept (2 * p + 1) (omega arith))

      now_byte : get_or new p 0 ≡ byte_by work₀ p
      now_byte = list_element (byte_by work₀) (length map₀) p there

      module _ (map' list' work' : List ℕ) (r : ℕ) (put : Puts map list work p count map' list' work' r) where
        abbrev before : List ℕ
        before = changes_below map₀ new p

        abbrev entry : ℕ
        entry = change p (get_or map₀ p 0) (get_or new p 0)

        same_test : eqb (get_or map p 0) (byte_by work p) ≡ eqb (get_or map₀ p 0) (get_or new p 0)
        same_test = rw (h.left p (omega arith), same_mark, now_byte)

        one_more : changes_below map₀ new (p + 1) ≡ choose (eqb (get_or map₀ p 0) (get_or new p 0)) before (before ++ (entry ∷ []))
        unfolding changes_below
        one_more = rw (add-one p)

        map_there : p < length map
        map_there = omega (arith, h.map_long)

        done_more : (i : ℕ) → i < p + 1 → get_or map' i 0 ≡ byte_by work₀ i
        done_more i l =
            rw put.mark
            (⊎_elim (λ (e : i ≡ p). rw e (get_or-set_same map p (byte_by work p) 0 map_there ∙ same_mark))
            (λ less. get_or-set_other map p i (byte_by work p) 0 (λ (e : i ≡ p). omega arith) ∙ h.done i less)
            (eq-or-lt_of_le {n = i} {m = p} (omega arith)))

        left_more : (i : ℕ) → p + 1 ≤ i → get_or map' i 0 ≡ get_or map₀ i 0
        left_more i l = rw put.mark (get_or-set_other map p i (byte_by work p) 0 (λ (e : i ≡ p). omega arith) ∙ h.left i (omega arith))

        abbrev once : List ℕ
        once = set work (2 * p) 0

        cleared_more : (k : ℕ) → k < 2 * (p + 1) → get_or work' k 0 ≡ 0
        cleared_more k l =
            let long = length-set work (2 * p) 0 in
            rw put.cleared
            (⊎_elim (λ (e : k ≡ 2 * p + 1). rw e (get_or-set_same once (2 * p + 1) 0 0 (omega (arith, h.work_long))))
            (λ less.
            get_or-set_other once (2 * p + 1) k 0 0 (λ (e : k ≡ 2 * p + 1). omega arith)
            ∙ ⊎_elim (λ (e : k ≡ 2 * p). rw e (get_or-set_same work (2 * p) 0 0 (omega (arith, h.work_long))))
            (λ lower. get_or-set_other work (2 * p) k 0 0 (λ (e : k ≡ 2 * p). omega arith) ∙ h.cleared k lower)
            (eq-or-lt_of_le {n = k} {m = 2 * p} (omega arith)))
            (eq-or-lt_of_le {n = k} {m = 2 * p + 1} (omega arith)))

        kept_more : (k : ℕ) → 2 * (p + 1) ≤ k → get_or work' k 0 ≡ get_or work₀ k 0
        kept_more k l =
            rw put.cleared
            (get_or-set_other once (2 * p + 1) k 0 0 (λ (e : k ≡ 2 * p + 1). omega arith)
            ∙ get_or-set_other work (2 * p) k 0 0 (λ (e : k ≡ 2 * p). omega arith)
            ∙ h.kept k (omega arith))

        listed_more : list' ≡ at_front (changes_below map₀ new (p + 1)) list₀
        listed_more =
            let few = below_most map₀ new p in
            put.listed
            ∙ rw (same_test, h.left p (omega arith), same_mark, ← now_byte, h.listed, h.counted, one_more)
            (chosen_front (eqb (get_or map₀ p 0) (get_or new p 0)) before list₀ entry (omega arith))

        counted_more : r ≡ length (changes_below map₀ new (p + 1))
        counted_more = put.counted ∙ rw (same_test, h.counted, one_more) (chosen_length (eqb (get_or map₀ p 0) (get_or new p 0)) before entry)

        pub passed_more : Passed (p + 1) map' list' work' r
        passed_more =
            let few = below_most map₀ new (p + 1) in
            record {
              map_long = rw put.mark (length-set map p (byte_by work p) ∙ h.map_long);
              list_long = rw listed_more (front_length (changes_below map₀ new (p + 1)) list₀ (omega arith));
              work_long = rw put.cleared (length-set once (2 * p + 1) 0 ∙ length-set work (2 * p) 0 ∙ h.work_long);
              done = done_more;
              left = left_more;
              cleared = cleared_more;
              kept = kept_more;
              listed = listed_more;
              counted = counted_more;
            }

  pub passed_all :
      length work₀ ≡ 2 * length map₀
      → (map list work : List ℕ) (count : ℕ)
      → Passed (length map₀) map list work count
      → Rewrites map₀ list₀ work₀ map list work count
  unfolding changes
  passed_all pairs map list work count h =
      let marks : map ≡ new = ext_get_or 0 map new (h.map_long ∙ sym (list_length (byte_by work₀) (length map₀))) (λ i l. let here : i < length map₀ = omega (arith, h.map_long) in h.done i here ∙ sym (list_element (byte_by work₀) (length map₀) i here)) in
      record {
        marks = marks;
        listed = rw marks h.listed;
        counted = rw marks h.counted;
        cleared =
            ext_get_or 0 work (list_of (λ k. 0) (length work₀)) (h.work_long ∙ sym (list_length (λ k. 0) (length work₀)))
            (λ k l. let here : k < length work₀ = omega (arith, h.work_long) in h.cleared k (omega arith) ∙ sym (list_element (λ k. 0) (length work₀) k here));
      }
