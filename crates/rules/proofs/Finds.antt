-- `Finds`: the order in which pairs are found, and from where each is. Assumes nothing.
use Prim.Native.Nat.{ℕ, suc, ◌+◌, ◌*◌, ◌%◌, ◌≤◌, ◌<◌}
use mathlib.Core.Path.{◌≡◌, refl, sym, ap, ◌∙◌}
use mathlib.Core.Bool.{Bool, true, false, false≢true}
use mathlib.Core.List.{List, [], ◌∷◌, ◌++◌, append-nil}
use mathlib.Core.Logic.{◌⊎◌, ⊎_elim, ◌↔◌}
use native.Mathlib.Nat.{eq-or-lt_of_le}
use native.Mathlib.Omega.{arith}
use lib.Dec.{eqb}
use lib.ListN.{length, get_or, length-append, get_or-append}
use lib.Seq.{get_or-append_seam}
use borrow.Author.Tests.{eqb-true, eqb-false}
use Rattle.word.specs.First.{choose}
use Rattle.word.proofs.First.{by_test}
use Rattle.rules.specs.Next.{◌in_state◌}
use Rattle.rules.specs.Reason.{Submission, size}
use Rattle.rules.specs.Judging.{place_of, state_of}
use Rattle.rules.specs.Search.{number_of, Found, ◌found_from◌, is_found, taking, found_after, found}
use Rattle.rules.specs.Promises.{Numbers, Leads, Finds}
use Rattle.rules.proofs.Growing.{nth_found, found_nth, New, taking_keeps, Begins, begins_more, after_keeps}
use Rattle.rules.proofs.ExactMap.{reached_found, found_reached}

-- a pair's number in plain terms
pub number_plain : (q : ℕ) (t : Bool) (k : ℕ) → k ≡ number_of (q in_state t) ↔ Numbers k q t
unfolding number_of choose
number_plain q false k = (λ e. omega arith, λ e. omega arith)
number_plain q true k = (λ e. e, λ e. e)

place_state : (k : ℕ) → Numbers k (place_of k) (state_of k)
place_state k = go (eqb (k % 2) 1) refl
  where
    go : (b : Bool) → eqb (k % 2) 1 ≡ b → Numbers k (place_of k) b
    go true e = let h = eqb-true (k % 2) 1 e in omega arith
    go false e = let h = eqb-false (k % 2) 1 e in omega arith

-- the i-th of a list
abbrev ith : List Found → ℕ → Found
ith fs i = get_or fs i (0 found_from 0)

module _ (x : Submission) where
  new_leads : (j q : ℕ) (t : Bool) (fs : List Found) → New x fs j q t → Leads x j (number_of (q in_state t))
  new_leads j q t fs n =
      record {
        place = place_of j;
        state = state_of j;
        numbered = place_state j;
        next_place = q;
        next_state = t;
        next_numbered = (number_plain q t (number_of (q in_state t))).0 refl;
        flawless = n.sound;
        next = n.next;
        not_the_end = n.inner;
      }

  -- a list whose pairs are found each once, and from the first n
  record Ordered (n : ℕ) (fs : List Found) : Type 0 where
    once : (i j : ℕ) → i < j → j < length fs → (ith fs i).pair ≡ (ith fs j).pair → ⊥
    first : 0 < length fs → ((ith fs 0).pair ≡ 0) × ((ith fs 0).from ≡ 0)
    from : (i : ℕ) → 0 < i → i < length fs → (h : ℕ) × (h < i) × (h < n) × ((ith fs i).from ≡ (ith fs h).pair) × Leads x (ith fs h).pair (ith fs i).pair
    in_turn :
        (i j h g : ℕ)
        → 0 < i
        → i < j
        → j < length fs
        → h < length fs
        → g < length fs
        → (ith fs i).from ≡ (ith fs h).pair
        → (ith fs j).from ≡ (ith fs g).pair
        → h ≤ g

  -- one that is found from the first n is found from the first n + 1
  ordered_later : (n : ℕ) (fs : List Found) → Ordered n fs → Ordered (suc n) fs
  ordered_later n fs o =
      record {
        once = o.once;
        first = o.first;
        from = λ i a b. let w = o.from i a b in (w.0, w.1, omega (arith, w.2), w.3, w.4);
        in_turn = o.in_turn;
      }

  -- one more, found from the n-th
  module _ (n : ℕ) (fs : List Found) (f : Found) (l : n < length fs) (o : Ordered (suc n) fs) where
    old : (i : ℕ) → i < length fs → ith (fs ++ (f ∷ [])) i ≡ ith fs i
    old i m = get_or-append fs (f ∷ []) (0 found_from 0) i m

    new : (i : ℕ) → i ≡ length fs → ith (fs ++ (f ∷ [])) i ≡ f
    new i e = ap (ith (fs ++ (f ∷ []))) e ∙ get_or-append_seam fs f [] (0 found_from 0)

    -- it is the last
    last_or_old : (i : ℕ) → i < length (fs ++ (f ∷ [])) → (i ≡ length fs) ⊎ (i < length fs)
    last_or_old i m = let more = length-append fs (f ∷ []) in eq-or-lt_of_le {n = i} {m = length fs} (omega arith)

    module _ (unfound : is_found fs f.pair ≡ false) (back : f.from ≡ (ith fs n).pair) (leads : Leads x f.from f.pair) where
      once_more : (i j : ℕ) → i < j → j < length (fs ++ (f ∷ [])) → (ith (fs ++ (f ∷ [])) i).pair ≡ (ith (fs ++ (f ∷ [])) j).pair → ⊥
      once_more i j less m e =
          ⊎_elim
          (λ (is : j ≡ length fs).
          let same : (ith fs i).pair ≡ f.pair = rw (old i (omega arith), new j is) at e in
          false≢true (sym unfound ∙ rw same at (nth_found fs i (omega arith))))
          (λ before. o.once i j less before (rw (old i (omega arith), old j before) at e))
          (last_or_old j m)

      from_more :
          (i : ℕ)
          → 0 < i
          → i < length (fs ++ (f ∷ []))
          → (h : ℕ) × (h < i) × (h < suc n) × ((ith (fs ++ (f ∷ [])) i).from ≡ (ith (fs ++ (f ∷ [])) h).pair) × Leads x (ith (fs ++ (f ∷ [])) h).pair (ith (fs ++ (f ∷ [])) i).pair
      from_more i positive m =
          ⊎_elim (λ (is : i ≡ length fs). (n, omega arith, omega arith, rw (new i is, old n l) back, rw (new i is, old n l, ← back) leads))
          (λ before.
          let w = o.from i positive before in
          let earlier : w.0 < length fs = omega (arith, w.1) in
          (w.0, w.1, w.2, rw (old i before, old w.0 earlier) w.3, rw (old i before, old w.0 earlier) w.4))
          (last_or_old i m)

      unique : (i j : ℕ) → i < length (fs ++ (f ∷ [])) → j < length (fs ++ (f ∷ [])) → (ith (fs ++ (f ∷ [])) i).pair ≡ (ith (fs ++ (f ∷ [])) j).pair → i ≡ j
      unique i j a b e =
          let up : i < j → ⊥ = λ less. once_more i j less b e in
          let down : j < i → ⊥ = λ less. once_more j i less a (sym e) in
          omega arith

      turn_more :
          (i j h g : ℕ)
          → 0 < i
          → i < j
          → j < length (fs ++ (f ∷ []))
          → h < length (fs ++ (f ∷ []))
          → g < length (fs ++ (f ∷ []))
          → (ith (fs ++ (f ∷ [])) i).from ≡ (ith (fs ++ (f ∷ [])) h).pair
          → (ith (fs ++ (f ∷ [])) j).from ≡ (ith (fs ++ (f ∷ [])) g).pair
          → h ≤ g
      turn_more i j h g positive less m a b d e =
          let w = from_more i positive (omega arith) in
          let v = from_more j (omega arith) m in
          let here : w.0 ≡ h = unique w.0 h (omega (arith, w.1)) a (sym w.3 ∙ d) in
          let there : v.0 ≡ g = unique v.0 g (omega (arith, v.1)) b (sym v.3 ∙ e) in
          ⊎_elim
          (λ (is : j ≡ length fs).
          let last : n ≡ g = unique n g (omega (arith, l)) b (rw (old n l) (sym back ∙ (rw (new j is) at e))) in
          omega (arith, w.2))
          (λ before.
          let h_old : h < length fs = omega (arith, w.1) in
          let g_old : g < length fs = omega (arith, v.1) in
          o.in_turn i j h g positive less before h_old g_old
          (rw (old i (omega arith), old h h_old) at d)
          (rw (old j before, old g g_old) at e))
          (last_or_old j m)

      ordered_more : Ordered (suc n) (fs ++ (f ∷ []))
      ordered_more =
          record {
            once = once_more;
            first = λ m. rw (old 0 (omega arith)) (o.first (omega arith));
            from = from_more;
            in_turn = turn_more;
          }

  ordered_start : Ordered 0 (found_after x 0)
  unfolding found_after
  ordered_start =
      by_test (Ordered 0)
      (λ e.
      record {
        once = λ i j less m. absurd (omega arith);
        first = λ m. absurd (omega arith);
        from = λ i positive m. absurd (omega arith);
        in_turn = λ i j h g positive less m. absurd (omega arith);
      })
      (λ e.
      record {
        once = λ i j less m. absurd (omega arith);
        first = λ m. (refl, refl);
        from = λ i positive m. absurd (omega arith);
        in_turn = λ i j h g positive less m. absurd (omega arith);
      })

  ordered_taking : (n : ℕ) (fs : List Found) → n < length fs → Ordered n fs → Ordered (suc n) (taking x (ith fs n).pair fs)
  ordered_taking n fs l o =
      let j = (ith fs n).pair in
      (taking_keeps x j (λ hs. Begins fs hs × Ordered (suc n) hs)
      (λ hs q t new both.
      let long : length hs ≡ length fs + length both.0.0 = ap length both.0.1 ∙ length-append fs both.0.0 in
      let there : n < length hs = omega arith in
      let same : j ≡ (ith hs n).pair = rw both.0.1 (ap (λ (f : Found). f.pair) (sym (get_or-append fs both.0.0 (0 found_from 0) n l))) in
      (begins_more x j fs hs q t new both.0, ordered_more n hs (number_of (q in_state t) found_from j) there both.1 new.unfound same (new_leads j q t hs new)))
      fs (([], sym (append-nil fs)), ordered_later n fs o)).1

  ordered : (n : ℕ) → Ordered n (found_after x n)
  ordered = after_keeps x Ordered ordered_start ordered_taking (λ n fs l o. ordered_later n fs o)

-- what is found is reached, in plain terms
pub finds : Finds
unfolding found
finds x =
    let o = ordered x (2 * size x) in
    record {
      reached = λ p s. (
        λ r.
            let at = found_nth (found x) (number_of (p in_state s)) (reached_found x r) in
            (at.0, at.1, (number_plain p s (ith (found x) at.0).pair).0 at.2),
        λ h. found_reached x p s (rw ((number_plain p s (ith (found x) h.0).pair).1 h.2) at (nth_found (found x) h.0 h.1)),
      );
      once = o.once;
      first = o.first;
      from = λ i positive l. let w = o.from i positive l in (w.0, w.1, w.3, w.4);
      in_turn = o.in_turn;
    }
