-- How the list of what is found grows: a pair at a time, at its end, each a next pair that was not found before. Assumes nothing.
use Prim.Native.Nat.{ℕ, zero, suc, ◌+◌, ◌*◌, ◌%◌, ◌≤◌, ◌<◌}
use mathlib.Core.Path.{◌≡◌, refl, sym, ◌∙◌}
use mathlib.Core.Bool.{Bool, true, false, ◌||◌, or-true, false≢true}
use mathlib.Core.List.{List, [], ◌∷◌, ◌++◌, append_assoc, append-nil}
use mathlib.Core.Logic.{◌⊎◌, inl, inr}
use mathlib.Core.Option.{Option, none, some}
use native.Mathlib.Omega.{arith}
use lib.Dec.{eqb}
use lib.ListN.{length, get_or}
use borrow.Author.Tests.{eqb-true, eqb-false, eq-eqb, ne_eqb, ltb-true, ltb-false}
use Rattle.word.specs.First.{choose}
use Rattle.word.specs.Lowest.{found?}
use Rattle.word.proofs.First.{by_test, choose_false}
use Rattle.rules.specs.Next.{◌in_state◌, nexts}
use Rattle.rules.specs.Reason.{Submission, size, command_at, flaw_at}
use Rattle.rules.specs.Judging.{place_of, state_of}
use Rattle.rules.specs.Path.{OneOf, Next}
use Rattle.rules.specs.Search.{number_of, Found, ◌found_from◌, is_found, find, find_each, taking, take_nth, found_after}
use Rattle.rules.specs.declared.pair.Pair.{Pair}

-- a pair's number has its place and its state
pub place_of_lem : (q : ℕ) (t : Bool) → place_of (number_of (q in_state t)) ≡ q
unfolding number_of choose
place_of_lem q false = omega arith
place_of_lem q true = omega arith

pub state_of_lem : (q : ℕ) (t : Bool) → state_of (number_of (q in_state t)) ≡ t
unfolding number_of choose
state_of_lem q false = ne_eqb ((2 * q + 0) % 2) 1 (λ e. omega arith)
state_of_lem q true = eq-eqb ((2 * q + 1) % 2) 1 (omega arith)

-- what is found of two lists is found of one of them
pub found_append : (fs gs : List Found) (k : ℕ) → is_found (fs ++ gs) k ≡ is_found fs k || is_found gs k
unfolding is_found
found_append [] gs k = refl
found_append (f ∷ fs) gs k = go (eqb f.pair k) (found_append fs gs k)
  where
    go : (b : Bool) → is_found (fs ++ gs) k ≡ is_found fs k || is_found gs k → b || is_found (fs ++ gs) k ≡ (b || is_found fs k) || is_found gs k
    go true e = refl
    go false e = e

-- with one more, what is found is that one or was found before
pub found_more : (fs : List Found) (k j i : ℕ) → is_found (fs ++ (k found_from j ∷ [])) i ≡ true → (is_found fs i ≡ true) ⊎ (i ≡ k)
unfolding is_found
found_more fs k j i e = go (is_found fs i) refl (eqb k i) refl (sym (found_append fs (k found_from j ∷ []) i) ∙ e)
  where
    go : (a : Bool) → is_found fs i ≡ a → (b : Bool) → eqb k i ≡ b → a || (b || false) ≡ true → (is_found fs i ≡ true) ⊎ (i ≡ k)
    go true f b g h = inl f
    go false f true g h = inr (sym (eqb-true k i g))
    go false f false g h = absurd (false≢true h)

-- the i-th is found, and what is found is an i-th
pub nth_found : (fs : List Found) (i : ℕ) → i < length fs → is_found fs (get_or fs i (0 found_from 0)).pair ≡ true
unfolding is_found
nth_found [] i l = absurd (omega arith)
nth_found (f ∷ fs) zero l = rw (eq-eqb f.pair f.pair refl)
nth_found (f ∷ fs) (suc i) l = rw (nth_found fs i (omega arith), or-true)

pub found_nth : (fs : List Found) (k : ℕ) → is_found fs k ≡ true → (i : ℕ) × (i < length fs) × ((get_or fs i (0 found_from 0)).pair ≡ k)
unfolding is_found
found_nth [] k e = absurd (false≢true e)
found_nth (f ∷ fs) k e = go (eqb f.pair k) refl e (found_nth fs k)
  where
    go :
        (b : Bool)
        → eqb f.pair k ≡ b
        → b || is_found fs k ≡ true
        → (is_found fs k ≡ true → (i : ℕ) × (i < length fs) × ((get_or fs i (0 found_from 0)).pair ≡ k))
        → (i : ℕ) × (i < length (f ∷ fs)) × ((get_or (f ∷ fs) i (0 found_from 0)).pair ≡ k)
    go true h e later = (0, omega arith, eqb-true _ _ h)
    go false h e later = let at = later e in (suc at.0, omega (arith, at.1), at.2)

-- a pair (q, t) that is found from the pair j
pub record New (x : Submission) (fs : List Found) (j q : ℕ) (t : Bool) : Type 0 where
  pub sound : flaw_at x (place_of j) (state_of j) ≡ none
  pub next : Next (command_at x (place_of j)) (place_of j) (state_of j) q t
  pub inner : q ≡ size x → ⊥
  pub unfound : is_found fs (number_of (q in_state t)) ≡ false

neither : (a b : Bool) → a || b ≡ false → (a ≡ false) × (b ≡ false)
neither true b e = absurd (false≢true (sym e))
neither false b e = (refl, e)

unfound_none : (o : Option ℕ) → found? o ≡ false → o ≡ none
unfolding found?
unfound_none none e = refl
unfound_none (some n) e = absurd (false≢true (sym e))

-- what stays true where such a pair is added stays true where a pair is taken
module _
    (x : Submission)
    (j : ℕ)
    (P : List Found → Type 0)
    (add : (fs : List Found) (q : ℕ) (t : Bool) → New x fs j q t → P fs → P (fs ++ (number_of (q in_state t) found_from j ∷ [])))
  where
    find_keeps :
        flaw_at x (place_of j) (state_of j) ≡ none
        → (fs : List Found) (q : Pair)
        → Next (command_at x (place_of j)) (place_of j) (state_of j) q.place q.inside
        → P fs
        → P (find (size x) j fs q)
    unfolding find
    find_keeps sound fs q n h =
        by_test P (λ e. h)
        (λ e.
        let not = neither (eqb q.place (size x)) (is_found fs (number_of q)) e in
        add fs q.place q.inside (record { sound = sound; next = n; inner = eqb-false _ _ not.0; unfound = not.1 }) h)

    each_keeps :
        flaw_at x (place_of j) (state_of j) ≡ none
        → (qs : List Pair)
        → ((q : ℕ) (t : Bool) → OneOf qs q t → Next (command_at x (place_of j)) (place_of j) (state_of j) q t)
        → (fs : List Found)
        → P fs
        → P (find_each (size x) j fs qs)
    unfolding find_each
    each_keeps sound [] n fs h = h
    each_keeps sound (q ∷ qs) n fs h =
        each_keeps sound qs (λ a t o. n a t (inr o)) (find (size x) j fs q) (find_keeps sound fs q (n q.place q.inside (inl (refl, refl))) h)

    pub taking_keeps : (fs : List Found) → P fs → P (taking x j fs)
    unfolding taking
    taking_keeps fs h =
        by_test P (λ e. h) (λ e. each_keeps (unfound_none (flaw_at x (place_of j) (state_of j)) e) (nexts (command_at x (place_of j)) (place_of j) (state_of j)) (λ q t o. o) fs h)

-- the list only grows
abbrev pub Begins : List Found → List Found → Type 0
Begins fs hs = (gs : List Found) × (hs ≡ fs ++ gs)

pub begins_found : (fs hs : List Found) (k : ℕ) → Begins fs hs → is_found fs k ≡ true → is_found hs k ≡ true
begins_found fs hs k b e = rw (b.1, found_append fs b.0 k, e)

module _ (x : Submission) (j : ℕ) where
  pub begins_more : (fs hs : List Found) (q : ℕ) (t : Bool) → New x hs j q t → Begins fs hs → Begins fs (hs ++ (number_of (q in_state t) found_from j ∷ []))
  begins_more fs hs q t n b = (b.0 ++ (number_of (q in_state t) found_from j ∷ []), rw b.1 (append_assoc fs b.0 (number_of (q in_state t) found_from j ∷ [])))

  pub taking_begins : (fs : List Found) → Begins fs (taking x j fs)
  taking_begins fs = taking_keeps x j (Begins fs) (begins_more fs) fs ([], sym (append-nil fs))

  -- and where a pair without those reasons is taken, all its next pairs but the end are found
  module _ (sound : flaw_at x (place_of j) (state_of j) ≡ none) where
    find_found : (fs : List Found) (q : Pair) → (q.place ≡ size x → ⊥) → is_found (find (size x) j fs q) (number_of q) ≡ true
    unfolding find is_found
    find_found fs q ne =
        by_test (λ (hs : List Found). is_found hs (number_of q) ≡ true)
        (λ e. rw (ne_eqb q.place (size x) ne) at e)
        (λ e. rw (found_append fs (number_of q found_from j ∷ []) (number_of q), eq-eqb (number_of q) (number_of q) refl) (or-true (is_found fs (number_of q))))

    each_found :
        (qs : List Pair)
        → ((q : ℕ) (t : Bool) → OneOf qs q t → Next (command_at x (place_of j)) (place_of j) (state_of j) q t)
        → (fs : List Found) (q : ℕ) (t : Bool)
        → OneOf qs q t
        → (q ≡ size x → ⊥)
        → is_found (find_each (size x) j fs qs) (number_of (q in_state t)) ≡ true
    unfolding find_each
    each_found [] n fs q t o ne = absurd o
    each_found (a ∷ qs) n fs q t (inl h) ne =
        let now = find_found fs a (λ e. ne (h.0 ∙ e)) in
        let more = each_keeps x j (Begins (find (size x) j fs a)) (begins_more (find (size x) j fs a)) sound qs (λ b u o. n b u (inr o)) (find (size x) j fs a) ([], sym (append-nil (find (size x) j fs a))) in
        rw (h.0, h.1) (begins_found (find (size x) j fs a) (find_each (size x) j (find (size x) j fs a) qs) (number_of a) more now)
    each_found (a ∷ qs) n fs q t (inr o) ne = each_found qs (λ b u o. n b u (inr o)) (find (size x) j fs a) q t o ne

    pub taking_found :
        (fs : List Found) (q : ℕ) (t : Bool)
        → Next (command_at x (place_of j)) (place_of j) (state_of j) q t
        → (q ≡ size x → ⊥)
        → is_found (taking x j fs) (number_of (q in_state t)) ≡ true
    unfolding taking found?
    taking_found fs q t n ne =
        rw (sound, choose_false refl fs (find_each (size x) j fs (nexts (command_at x (place_of j)) (place_of j) (state_of j))))
        (each_found (nexts (command_at x (place_of j)) (place_of j) (state_of j)) (λ b u o. o) fs q t n ne)

-- what stays true where a pair that was found is taken is true once any number were
module _ (x : Submission) (P : ℕ → List Found → Type 0) where
  pub after_keeps :
      P 0 (found_after x 0)
      → ((i : ℕ) (fs : List Found) → i < length fs → P i fs → P (suc i) (taking x (get_or fs i (0 found_from 0)).pair fs))
      → ((i : ℕ) (fs : List Found) → length fs ≤ i → P i fs → P (suc i) fs)
      → (i : ℕ)
      → P i (found_after x i)
  unfolding found_after take_nth
  after_keeps start one past zero = start
  after_keeps start one past (suc i) =
      let fs = found_after x i in
      let h = after_keeps start one past i in
      by_test (P (suc i)) (λ e. one i fs (ltb-true _ _ e) h) (λ e. past i fs (ltb-false _ _ e) h)
