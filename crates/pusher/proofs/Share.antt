-- Two numbers have a bitwise 'and' exactly if they share a set bit. Assumes nothing.
use Prim.Native.Nat.{ℕ, zero, suc, ◌+◌, ◌*◌, ◌/◌, ◌%◌, ◌^◌, ◌≤◌, min}
use mathlib.Core.Path.{◌≡◌, refl, sym, ap, ◌∙◌}
use mathlib.Core.Bool.{Bool, true, false}
use mathlib.Core.Logic.{◌⊎◌, inl, inr, ⊎_elim, ◌↔◌}
use native.Mathlib.Nat.{zero-div, min-zero, zero-min}
use native.Mathlib.Omega.{arith}
use lib.Bits.{bit_and, and_step, and_shr, and_zero_l}
use lib.Dec.{eqb}
use lib.Pow.{shr-shr}
use borrow.Author.Tests.{eqb-true, eqb-false}
use Rattle.pusher.specs.Promises.{Share}

-- the lowest digits of two numbers are both 1, or their 'and' is 0
digits : (a b : ℕ) → ((a % 2 ≡ 1) × (b % 2 ≡ 1)) ⊎ (min (a % 2) (b % 2) ≡ 0)
digits a b = go (eqb (a % 2) 1) (eqb (b % 2) 1) refl refl
  where
    go : (x y : Bool) → eqb (a % 2) 1 ≡ x → eqb (b % 2) 1 ≡ y → ((a % 2 ≡ 1) × (b % 2 ≡ 1)) ⊎ (min (a % 2) (b % 2) ≡ 0)
    go true true p q = inl (eqb-true _ _ p, eqb-true _ _ q)
    go true false p q =
        let n = eqb-false (b % 2) 1 q in
        let z : b % 2 ≡ 0 = omega arith in
        inr (ap (λ (d : ℕ). min (a % 2) d) z ∙ min-zero (a % 2))
    go false y p q =
        let n = eqb-false (a % 2) 1 p in
        let z : a % 2 ≡ 0 = omega arith in
        inr (ap (λ (d : ℕ). min d (b % 2)) z ∙ zero-min (b % 2))

-- a bit shared by the halves is shared by the numbers, one place further up
further : (a b : ℕ) → Share (a / 2) (b / 2) → Share a b
further a b x =
    record {
      bit = 1 + x.bit;
      one = ap (λ (n : ℕ). n % 2) (sym (shr-shr a 1 x.bit)) ∙ x.one;
      other = ap (λ (n : ℕ). n % 2) (sym (shr-shr b 1 x.bit)) ∙ x.other;
    }

-- by induction on how large the first number is
shared : (n a b : ℕ) → a ≤ n → (bit_and a b ≡ 0 → ⊥) → Share a b
shared zero a b h some = let z : a ≡ 0 = omega arith in absurd (some (ap (λ (n : ℕ). bit_and n b) z ∙ and_zero_l b))
shared (suc n) a b h some =
    ⊎_elim (λ d. record { bit = 0; one = omega arith; other = omega arith })
    (λ d. further a b (shared n (a / 2) (b / 2) (omega arith) (λ e. let sum = and_step a b in some (omega arith))))
    (digits a b)

pub share : (a b : ℕ) → (bit_and a b ≡ 0 → ⊥) ↔ Share a b
share a b = (
  shared a a b (omega arith),
  λ x e.
      let i = x.bit in
      let up : bit_and (a / 2 ^ i) (b / 2 ^ i) ≡ 0 = sym (and_shr a b i) ∙ ap (λ (n : ℕ). n / 2 ^ i) e ∙ zero-div (2 ^ i) in
      let low : min (a / 2 ^ i % 2) (b / 2 ^ i % 2) ≡ 1 = rw (x.one, x.other) in
      let step : bit_and (a / 2 ^ i) (b / 2 ^ i) ≡ bit_and (a / 2 ^ i / 2) (b / 2 ^ i / 2) * 2 + 1 = and_step (a / 2 ^ i) (b / 2 ^ i) ∙ rw low in
      omega arith,
)
