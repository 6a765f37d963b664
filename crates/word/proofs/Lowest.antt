-- The lowest number below n that passes a test: what it says, and how a loop comes to it. Assumes nothing.
use Prim.Native.Nat.{ℕ, zero, suc, ◌+◌, ◌<◌}
use mathlib.Core.Path.{◌≡◌, refl, sym, ap, ◌∙◌}
use mathlib.Core.Bool.{Bool, true, false, false≢true}
use mathlib.Core.Logic.{◌⊎◌, inl, inr, ⊎_elim, ◌↔◌}
use mathlib.Core.Option.{Option, none, some}
use native.Mathlib.Nat.{eq-or-lt_of_le}
use native.Mathlib.Numerals.{add-one}
use native.Mathlib.Omega.{arith}
use Rattle.word.specs.First.{choose}
use Rattle.word.specs.Lowest.{keep, lowest, found?}

-- none of two, and k of two: of the first, or of the second where the first has none
keep_none : (a b : Option ℕ) → keep a b ≡ none → (a ≡ none) × (b ≡ none)
unfolding keep
keep_none none b e = (refl, e)
keep_none (some k) b e = let z : ◌≡◌ {A = ℕ} 0 1 = cc in absurd (omega arith)

keep_some : (a b : Option ℕ) (k : ℕ) → keep a b ≡ some k → (a ≡ some k) ⊎ ((a ≡ none) × (b ≡ some k))
unfolding keep
keep_some none b k e = inr (refl, e)
keep_some (some j) b k e = inl e

chosen_none : (t : Bool) (n : ℕ) → choose t (some n) none ≡ none → t ≡ false
unfolding choose
chosen_none true n e = cc
chosen_none false n e = refl

chosen_some : (t : Bool) (n k : ℕ) → choose t (some n) none ≡ some k → (t ≡ true) × (n ≡ k)
unfolding choose
chosen_some true n k e = (refl, cc)
chosen_some false n k e = let z : ◌≡◌ {A = ℕ} 0 1 = cc in absurd (omega arith)

module _ (f : ℕ → Bool) where
  -- a loop's next turn, where the number that it is at does not pass
  pub lowest_more : (n : ℕ) → lowest f n ≡ none → f n ≡ false → lowest f (n + 1) ≡ none
  unfolding lowest keep choose
  lowest_more n e h = rw (add-one, e, h)

  -- and its end, at the first that does
  pub lowest_at : (n k : ℕ) → lowest f k ≡ none → k < n → f k ≡ true → lowest f n ≡ some k
  unfolding lowest keep choose
  lowest_at zero k e l h = absurd (omega arith)
  lowest_at (suc n) k e l h = ⊎_elim here (λ m. rw (lowest_at n k e m h)) (eq-or-lt_of_le {n = k} {m = n} (omega arith))
    where
      here : k ≡ n → keep (lowest f n) (choose (f n) (some n) none) ≡ some k
      here q = rw (← q, e, h)

  -- there is none exactly if no number below n passes
  pub lowest_none : (n : ℕ) → lowest f n ≡ none ↔ ((i : ℕ) → i < n → f i ≡ false)
  unfolding lowest keep choose
  lowest_none zero = (λ e i l. absurd (omega arith), λ h. refl)
  lowest_none (suc n) =
      let before = lowest_none n in (
        λ e i l.
            let parts = keep_none (lowest f n) (choose (f n) (some n) none) e in
            ⊎_elim (λ q. ap f q ∙ chosen_none (f n) n parts.1) (λ m. before.0 parts.0 i m) (eq-or-lt_of_le {n = i} {m = n} (omega arith)),
        λ h. rw (before.1 (λ i l. h i (omega arith)), h n (omega arith)),
      )

  -- it is k exactly if k is below n and passes, and no number below k does
  pub lowest_some : (n k : ℕ) → lowest f n ≡ some k ↔ ((k < n) × (f k ≡ true) × ((i : ℕ) → i < k → f i ≡ false))
  unfolding lowest
  lowest_some zero k = (λ e. let z : ◌≡◌ {A = ℕ} 0 1 = cc in absurd (omega arith), λ h. absurd (omega arith))
  lowest_some (suc n) k =
      let before = lowest_some n k in (
        λ e.
            ⊎_elim (λ p. let x = before.0 p in (omega arith, x.1, x.2))
            (λ p.
            let q = chosen_some (f n) n k p.1 in
            (omega arith, ap f (sym q.1) ∙ q.0, λ i l. (lowest_none n).0 p.0 i (omega arith)))
            (keep_some (lowest f n) (choose (f n) (some n) none) k e),
        λ h. lowest_at (suc n) k ((lowest_none k).1 h.2) h.0 h.1,
      )

-- no number below n passes a test that is found to hold nowhere, and the other way round
pub found_none : (f : ℕ → Bool) (n : ℕ) → found? (lowest f n) ≡ false → (k : ℕ) → k < n → f k ≡ false
unfolding found?
found_none f n e = go (lowest f n) refl e
  where
    go : (o : Option ℕ) → lowest f n ≡ o → found? o ≡ false → (k : ℕ) → k < n → f k ≡ false
    go none q e = (lowest_none f n).0 q
    go (some j) q e = absurd (false≢true (sym e))

pub none_found : (f : ℕ → Bool) (n : ℕ) → ((k : ℕ) → k < n → f k ≡ false) → found? (lowest f n) ≡ false
unfolding found?
none_found f n h = rw ((lowest_none f n).1 h)
