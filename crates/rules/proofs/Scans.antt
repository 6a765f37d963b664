-- Loops that look for the lowest number below n that passes a test, and the one that counts bits: what holds at each turn, and
-- what they come to. Assumes nothing.
use Prim.Native.Nat.{ℕ, ◌+◌, ◌≤◌, ◌<◌}
use mathlib.Core.Path.{◌≡◌, refl, sym, subst, ◌∙◌, ap}
use mathlib.Core.Bool.{Bool, true, false, false≢true}
use mathlib.Core.List.{List}
use mathlib.Core.Logic.{◌↔◌}
use mathlib.Core.Option.{Option, none, some}
use native.Mathlib.Numerals.{add-one}
use native.Mathlib.Omega.{arith}
use lib.Count.{ones}
use lib.ListN.{get_or}
use Rattle.word.specs.Lowest.{lowest, found?}
use Rattle.word.proofs.Lowest.{lowest_more, lowest_at, lowest_some, found_none}
use Rattle.rules.specs.Permit.{set_bits}

-- what holds when a loop comes to k: no number below it passes;
abbrev pub Passed : (ℕ → Bool) → ℕ → ℕ → Type 0
Passed f n k = (k ≤ n) × (lowest f k ≡ none)

module _ (f : ℕ → Bool) (n : ℕ) where
  -- so before the first turn,
  pub outset : Passed f n 0
  unfolding lowest
  outset = (omega arith, refl)

  module _ (k : ℕ) (passed : Passed f n k) where
    -- and after a turn whose number does not pass
    pub onward : k < n → f k ≡ false → Passed f n (k + 1)
    onward l h = (omega arith, lowest_more f k passed.1 h)

    -- at a number that does, it is the lowest;
    pub met : k < n → f k ≡ true → lowest f n ≡ some k
    met l h = lowest_at f n k passed.1 l h

    -- after the last, there is none
    pub unmet : n ≤ k → lowest f n ≡ none
    unmet l = let last : k ≡ n = omega arith in subst (λ (i : ℕ). lowest f i ≡ none) last passed.1

    -- the same of whether any passes: one does,
    pub passes : k < n → f k ≡ true → true ≡ found? (lowest f n)
    unfolding found?
    passes l h = sym (ap found? (met l h))

    -- or none
    pub none_passes : n ≤ k → false ≡ found? (lowest f n)
    unfolding found?
    none_passes l = sym (ap found? (unmet l))

-- a test found to hold somewhere
pub found_plain : (f : ℕ → Bool) (n : ℕ) {P : ℕ → Type 0} → ((k : ℕ) → f k ≡ true ↔ P k) → found? (lowest f n) ≡ true ↔ ((k : ℕ) × (k < n) × P k)
unfolding found?
found_plain f n {P} h = (λ e. go (lowest f n) refl e, λ x. back (found? (lowest f n)) refl x)
  where
    go : (o : Option ℕ) → lowest f n ≡ o → found? o ≡ true → (k : ℕ) × (k < n) × P k
    go none q e = absurd (false≢true e)
    go (some k) q e = let y = (lowest_some f n k).0 q in (k, y.0, (h k).0 y.1)

    back : (b : Bool) → found? (lowest f n) ≡ b → ((k : ℕ) × (k < n) × P k) → b ≡ true
    back true e x = refl
    back false e x = sym (found_none f n e x.0 x.1) ∙ (h x.0).1 x.2

-- how many bits are set, with one byte more
pub set_bits_more : (list : List ℕ) (n count : ℕ) → count ≡ set_bits list n → count + ones (get_or list n 0) ≡ set_bits list (n + 1)
unfolding set_bits
set_bits_more list n count e = rw (add-one, e)
