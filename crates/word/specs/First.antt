-- Of several that may apply, the first in order (R21): a list of numbers with their conditions, and the first that holds.
use Rattle.std.specs.Prelude.{ℕ, ◌≡◌, Bool, true, false, List, [], ◌∷◌, ◌⊎◌}
use Rattle.std.proofs.Math.Option.{Option, none, some}

-- the first of two where the test holds, else the second
unfoldable pub choose : {A : Type 0} → Bool → A → A → A
choose true x y = x
choose false x y = y

-- a number, given when its condition holds
pub record Case : Type 0 where
  pub number : ℕ
  pub holds : Bool

infix 70 ◌when◌
abbrev pub ◌when◌ : ℕ → Bool → Case
n when b = record { number = n; holds = b }

-- R21: the number of the first case that holds, if any does
unfoldable pub first : List Case → Option ℕ
first [] = none
first (c ∷ cs) = choose c.holds (some c.number) (first cs)

-- The same in plain terms, for the promises: a number with a proposition,
pub record PlainCase : Type 1 where
  pub number : ℕ
  pub holds : Type 0

infix 70 ◌if◌
abbrev pub ◌if◌ : ℕ → Type 0 → PlainCase
n if p = record { number = n; holds = p }

-- R21: and that n is the number of the first that holds: its condition holds, and none before it does
abbrev pub FirstIs : List PlainCase → ℕ → Type 0
FirstIs [] n = ⊥
FirstIs (c ∷ cs) n = (c.holds × (n ≡ c.number)) ⊎ ((c.holds → ⊥) × FirstIs cs n)

-- that one of them holds, whichever
abbrev pub SomeHolds : List PlainCase → Type 0
SomeHolds [] = ⊥
SomeHolds (c ∷ cs) = c.holds ⊎ SomeHolds cs
