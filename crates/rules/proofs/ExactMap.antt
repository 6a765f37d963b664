-- `ExactMap`: what is found is what is reached, so that the map that marks it is exact. Assumes nothing.
use Prim.Native.Nat.{ℕ, zero, suc, ◌+◌, ◌*◌, ◌/◌, ◌%◌, ◌≤◌, ◌<◌}
use mathlib.Core.Path.{◌≡◌, refl, sym, ap, ◌∙◌}
use mathlib.Core.Bool.{Bool, true, false, or-false, false≢true}
use mathlib.Core.List.{List, [], ◌∷◌, ◌++◌}
use mathlib.Core.Logic.Iff
use mathlib.Core.Logic.{⊎_elim, ◌↔◌}
use mathlib.Core.Option.{none}
use native.Mathlib.Nat.{eq-or-lt_of_le}
use native.Mathlib.Omega.{arith}
use lib.ListN.{length, get_or, length-append, get_or-append}
use lib.Seq.{get_or-append_seam}
use borrow.Author.Tests.{eqb-false, eq-eqb, ne_eqb}
use Rattle.word.specs.First.{choose}
use Rattle.word.proofs.First.{by_test, choose_false}
use Rattle.rules.specs.Map.{main, inside}
use Rattle.rules.specs.Next.{◌in_state◌}
use Rattle.rules.specs.Reason.{Submission, size, command_at, flaw_at}
use Rattle.rules.specs.Judging.{place_of, state_of}
use Rattle.rules.specs.Path.{Next, Reached, origin, onward}
use Rattle.rules.specs.Search.{number_of, Found, ◌found_from◌, is_found, found_below, taking, found_after, found, list_of, exact_byte, exact_map}
use Rattle.rules.specs.Promises.{ExactMap}
use Rattle.rules.proofs.Complete.{next_within}
use Rattle.rules.proofs.Growing.{place_of_lem, state_of_lem, found_append, found_more, nth_found, found_nth, New, taking_keeps, taking_begins, begins_found, taking_found, after_keeps}

-- a list by its elements
pub list_length : (f : ℕ → ℕ) (n : ℕ) → length (list_of f n) ≡ n
unfolding list_of
list_length f zero = refl
list_length f (suc n) = let h = list_length f n in rw (length-append (list_of f n) (f n ∷ [])) (omega arith)

pub list_element : (f : ℕ → ℕ) (n i : ℕ) → i < n → get_or (list_of f n) i 0 ≡ f i
unfolding list_of
list_element f zero i l = absurd (omega arith)
list_element f (suc n) i l =
    let long = list_length f n in
    ⊎_elim (λ (e : i ≡ n). rw e (ap (λ (k : ℕ). get_or (list_of f n ++ (f n ∷ [])) k 0) (sym long) ∙ get_or-append_seam (list_of f n) (f n) [] 0))
    (λ m. get_or-append (list_of f n) (f n ∷ []) 0 i (omega arith) ∙ list_element f n i m)
    (eq-or-lt_of_le {n = i} {m = n} (omega arith))

-- how many numbers below m are found of two lists: as many, or one more of the second
as_many : (fs gs : List Found) (m : ℕ) → ((k : ℕ) → k < m → is_found gs k ≡ is_found fs k) → found_below gs m ≡ found_below fs m
unfolding found_below
as_many fs gs zero h = refl
as_many fs gs (suc m) h = rw (as_many fs gs m (λ k l. h k (omega arith)), h m (omega arith))

one_more :
    (fs gs : List Found) (m i : ℕ)
    → i < m
    → is_found fs i ≡ false
    → is_found gs i ≡ true
    → ((k : ℕ) → k < m → (k ≡ i → ⊥) → is_found gs k ≡ is_found fs k)
    → found_below gs m ≡ found_below fs m + 1
unfolding found_below choose
one_more fs gs zero i l e f h = absurd (omega arith)
one_more fs gs (suc m) i l e f h =
    ⊎_elim
    (λ (q : i ≡ m).
    let low = as_many fs gs m (λ k n. h k (omega arith) (λ z. omega arith)) in
    rw (sym q, e, f, q) (omega arith))
    (λ n.
    let low = one_more fs gs m i n e f (λ k a b. h k (omega arith) b) in
    rw (h m (omega arith) (λ z. omega arith)) (omega arith))
    (eq-or-lt_of_le {n = i} {m = m} (omega arith))

below_most : (fs : List Found) (m : ℕ) → found_below fs m ≤ m
unfolding found_below
below_most fs zero = omega arith
below_most fs (suc m) =
    let low = below_most fs m in
    by_test (λ (n : ℕ). found_below fs m + n ≤ suc m) (λ e. omega arith) (λ e. omega arith)

-- a list is as long as there are pairs below m that are found in it, so that it holds each once; and so at most m
abbrev pub Counts : ℕ → List Found → Type 0
Counts m fs = length fs ≡ found_below fs m

pub counts_none : (m : ℕ) → Counts m []
unfolding found_below is_found choose
counts_none zero = refl
counts_none (suc m) = let low = counts_none m in omega arith

pub counts_more : (m : ℕ) (fs : List Found) (k j : ℕ) → k < m → is_found fs k ≡ false → Counts m fs → Counts m (fs ++ (k found_from j ∷ []))
unfolding is_found
counts_more m fs k j l e h =
    let hs = fs ++ (k found_from j ∷ []) in
    let here : is_found hs k ≡ true = rw (found_append fs (k found_from j ∷ []) k, e, eq-eqb k k refl) in
    let others : (i : ℕ) → i < m → (i ≡ k → ⊥) → is_found hs i ≡ is_found fs i =
    λ i l ne. rw (found_append fs (k found_from j ∷ []) i, ne_eqb k i (λ z. ne (sym z)), or-false (is_found fs i)) in
    let more = one_more fs hs m k l e here others in
    rw (length-append fs (k found_from j ∷ [])) (omega arith)

pub counts_most : (m : ℕ) (fs : List Found) → Counts m fs → length fs ≤ m
counts_most m fs h = let most = below_most fs m in omega arith

module _ (x : Submission) where
  -- each pair that is found is reached, and they are counted
  pub record FoundWell (fs : List Found) : Type 0 where
    pub reached : (k : ℕ) → is_found fs k ≡ true → Reached x (place_of k) (state_of k)
    pub counts : Counts (2 * size x) fs

  new_within : (j q : ℕ) (t : Bool) (fs : List Found) → New x fs j q t → number_of (q in_state t) < 2 * size x
  new_within j q t fs n =
      let l = next_within x (place_of j) (state_of j) q t n.sound n.next in
      let p = place_of_lem q t in
      let ne = n.inner in
      omega arith

  well_more : (j : ℕ) → Reached x (place_of j) (state_of j) → (fs : List Found) (q : ℕ) (t : Bool) → New x fs j q t → FoundWell fs → FoundWell (fs ++ (number_of (q in_state t) found_from j ∷ []))
  well_more j r fs q t n w =
      let k = number_of (q in_state t) in
      let new : Reached x q t = onward r n.sound n.next n.inner in
      record {
        reached = λ i e. ⊎_elim (w.reached i) (λ (s : i ≡ k). rw (s, place_of_lem q t, state_of_lem q t) new) (found_more fs k j i e);
        counts = counts_more (2 * size x) fs k j (new_within j q t fs n) n.unfound w.counts;
      }

  well_start : FoundWell (found_after x 0)
  unfolding found_after is_found
  well_start =
      let none : FoundWell [] = record { reached = λ k e. absurd (false≢true e); counts = counts_none (2 * size x) } in
      by_test FoundWell (λ e. none)
      (λ e.
      let ne = eqb-false (size x) 0 e in
      let words : 0 < size x = omega arith in
      record {
        reached = λ i f. ⊎_elim (λ g. absurd (false≢true g)) (λ (s : i ≡ 0). rw s (origin words)) (found_more [] 0 0 i f);
        counts = counts_more (2 * size x) [] 0 0 (omega arith) refl none.counts;
      })

  pub found_well : (i : ℕ) → FoundWell (found_after x i)
  found_well =
      after_keeps x (λ i. FoundWell) well_start
      (λ i fs l w.
      let j = (get_or fs i (0 found_from 0)).pair in
      taking_keeps x j FoundWell (well_more j (w.reached j (nth_found fs i l))) fs w)
      (λ i fs l w. w)

  -- where so many were taken, what they lead to is found
  abbrev Followed : ℕ → List Found → Type 0
  Followed n fs =
      (i : ℕ)
      → i < n
      → i < length fs
      → let j = (get_or fs i (0 found_from 0)).pair in
      flaw_at x (place_of j) (state_of j) ≡ none
      → (q : ℕ) (t : Bool)
      → Next (command_at x (place_of j)) (place_of j) (state_of j) q t
      → (q ≡ size x → ⊥)
      → is_found fs (number_of (q in_state t)) ≡ true

  followed_more : (n : ℕ) (fs : List Found) → n < length fs → Followed n fs → Followed (suc n) (taking x (get_or fs n (0 found_from 0)).pair fs)
  followed_more n fs l f i m k sound q t next ne =
      let j = (get_or fs n (0 found_from 0)).pair in
      let b = taking_begins x j fs in
      let same : get_or (taking x j fs) i (0 found_from 0) ≡ get_or fs i (0 found_from 0) = rw b.1 (get_or-append fs b.0 (0 found_from 0) i (omega arith)) in
      let flawless = rw same at sound in
      let onwards = rw same at next in
      ⊎_elim (λ (e : i ≡ n). taking_found x j (rw e at flawless) fs q t (rw e at onwards) ne)
      (λ less. begins_found fs (taking x j fs) (number_of (q in_state t)) b (f i less (omega arith) flawless q t onwards ne))
      (eq-or-lt_of_le {n = i} {m = n} (omega arith))

  followed : (n : ℕ) → Followed n (found_after x n)
  followed =
      after_keeps x Followed (λ i l k. absurd (omega arith)) followed_more
      (λ n fs l f i m k. f i (omega arith) k)

  -- so what is reached is found
  starts_found : 0 < size x → is_found (found_after x 0) 0 ≡ true
  unfolding found_after is_found
  starts_found l = rw (choose_false (ne_eqb (size x) 0 (λ e. omega arith)) [] (0 found_from 0 ∷ []))

  start_found : 0 < size x → (n : ℕ) → is_found (found_after x n) 0 ≡ true
  start_found l =
      after_keeps x (λ n fs. is_found fs 0 ≡ true) (starts_found l)
      (λ n fs m e. begins_found fs (taking x (get_or fs n (0 found_from 0)).pair fs) 0 (taking_begins x (get_or fs n (0 found_from 0)).pair fs) e)
      (λ n fs m e. e)

  pub reached_found : {p : ℕ} {s : Bool} → Reached x p s → is_found (found x) (number_of (p in_state s)) ≡ true
  unfolding found number_of choose
  reached_found (origin l) = start_found l (2 * size x)
  reached_found (onward {p} {s} {q} {t} r e n ne) =
      let h = found_nth (found x) (number_of (p in_state s)) (reached_found r) in
      let few = counts_most (2 * size x) (found x) (found_well (2 * size x)).counts in
      let j = (get_or (found x) h.0 (0 found_from 0)).pair in
      let place : place_of j ≡ p = ap place_of h.2 ∙ place_of_lem p s in
      let state : state_of j ≡ s = ap state_of h.2 ∙ state_of_lem p s in
      followed (2 * size x) h.0 (omega (arith, h.1)) h.1 (rw (place, state) e) q t (rw (place, state) n) ne

  pub found_reached : (p : ℕ) (s : Bool) → is_found (found x) (number_of (p in_state s)) ≡ true → Reached x p s
  unfolding found
  found_reached p s e = rw (place_of_lem p s, state_of_lem p s) at ((found_well (2 * size x)).reached (number_of (p in_state s)) e)

  both_found : (p : ℕ) (s : Bool) → is_found (found x) (number_of (p in_state s)) ≡ true ↔ Reached x p s
  both_found p s = (found_reached p s, reached_found)

-- a byte of two digits
digits : (a b : Bool) → let n = choose a 1 0 + choose b 2 0 in (n ≤ 3) × (n % 2 ≡ 1 ↔ (a ≡ true)) × (n / 2 ≡ 1 ↔ (b ≡ true))
unfolding choose
digits true true = (omega arith, (λ e. refl, λ e. refl), (λ e. refl, λ e. refl))
digits true false = (omega arith, (λ e. refl, λ e. refl), (λ e. absurd (omega arith), λ e. absurd (false≢true e)))
digits false true = (omega arith, (λ e. absurd (omega arith), λ e. absurd (false≢true e)), (λ e. refl, λ e. refl))
digits false false = (omega arith, (λ e. absurd (omega arith), λ e. absurd (false≢true e)), (λ e. absurd (omega arith), λ e. absurd (false≢true e)))

pub exact_map_lem : ExactMap
unfolding exact_map exact_byte
exact_map_lem x =
    let fs = found x in
    let at = list_element (exact_byte fs) (size x) in
    record {
      bytes = list_length (exact_byte fs) (size x);
      narrow = λ p l. rw (at p l) (digits (is_found fs (number_of (p in_state main))) (is_found fs (number_of (p in_state inside)))).0;
      in_main = λ p l. rw (at p l) (Iff.trans (digits (is_found fs (number_of (p in_state main))) (is_found fs (number_of (p in_state inside)))).1 (both_found x p main));
      in_subroutine = λ p l. rw (at p l) (Iff.trans (digits (is_found fs (number_of (p in_state main))) (is_found fs (number_of (p in_state inside)))).2 (both_found x p inside));
    }
