-- `ExactIsOne`: maps that mark exactly what is reached have the same bytes. Assumes nothing.
use Prim.Native.Nat.{ℕ, ◌/◌, ◌%◌, ◌≤◌, ◌<◌}
use mathlib.Core.Path.{◌≡◌, refl, sym, ◌∙◌}
use mathlib.Core.Bool.{Bool, true, false}
use mathlib.Core.Logic.Iff
use mathlib.Core.Logic.{◌↔◌}
use native.Mathlib.Omega.{arith}
use lib.Dec.{eqb}
use lib.ListN.{length, get_or}
use lib.Seq.{ext_get_or}
use borrow.Author.Tests.{eqb-true, eqb-false}
use Rattle.rules.specs.Promises.{ExactIsOne}

-- digits that are 1 together are the same
same_digit : (a b : ℕ) → a < 2 → b < 2 → a ≡ 1 ↔ b ≡ 1 → a ≡ b
same_digit a b l m h = go (eqb a 1) refl
  where
    go : (t : Bool) → eqb a 1 ≡ t → a ≡ b
    go true e = eqb-true a 1 e ∙ sym (h.0 (eqb-true a 1 e))
    go false e =
        let unset = eqb-false a 1 e in
        let other : b ≡ 1 → ⊥ = λ q. unset (h.1 q) in
        omega arith

-- so are bytes of two digits whose digits are
same_byte : (a b : ℕ) → a ≤ 3 → b ≤ 3 → a % 2 ≡ 1 ↔ b % 2 ≡ 1 → a / 2 ≡ 1 ↔ b / 2 ≡ 1 → a ≡ b
same_byte a b l m low high =
    let lower = same_digit (a % 2) (b % 2) (omega arith) (omega arith) low in
    let upper = same_digit (a / 2) (b / 2) (omega arith) (omega arith) high in
    omega arith

pub exact_is_one : ExactIsOne
exact_is_one x a b e f =
    ext_get_or 0 a b (e.bytes ∙ sym f.bytes)
    (λ p l.
    let within : p < length x.words = omega (arith, e.bytes) in
    same_byte (get_or a p 0) (get_or b p 0) (e.narrow p within) (f.narrow p within)
    (Iff.trans (e.in_main p within) (Iff.symm (f.in_main p within)))
    (Iff.trans (e.in_subroutine p within) (Iff.symm (f.in_subroutine p within))))
