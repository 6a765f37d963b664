-- Numbers as masks, whose bit n says whether n passes a test. Assumes nothing.
use Prim.Native.Nat.{ℕ, zero, suc, ◌+◌, ◌-◌, ◌*◌, ◌/◌, ◌%◌, ◌^◌, ◌≤◌, ◌<◌}
use mathlib.Core.Path.{◌≡◌, refl, sym, ap, ◌∙◌}
use mathlib.Core.Bool.{Bool, true, false, ◌&&◌}
use mathlib.Core.Logic.{◌↔◌}
use native.Mathlib.Nat.{pow-suc}
use native.Mathlib.Numerals.{one-add}
use native.Mathlib.Omega.{arith}
use lib.Bits.{bit_and, and_shr, and_mod, and_le_l, shifted_half, shifted_even}
use lib.Dec.{eqb}
use lib.Pow.{pow_pos, shl_exact, shr-shr, shr_le, high, ones_lt, ones_split}
use borrow.Author.Tests.{eqb-true, eqb-false, eq-eqb}
use Rattle.word.specs.First.{choose}
use Rattle.word.proofs.Tests.{both, equal_plain}

-- bit n of a number
abbrev pub bit : ℕ → ℕ → Bool
bit a n = eqb (a / 2 ^ n % 2) 1

bit_plain : (a n : ℕ) → bit a n ≡ true ↔ (a / 2 ^ n % 2 ≡ 1)
bit_plain a n = equal_plain (a / 2 ^ n % 2) 1

-- a bit above the lowest is one of the half's
half_bit : (a n : ℕ) → bit (a / 2) n ≡ bit a (suc n)
half_bit a n = ap (λ (x : ℕ). eqb (x % 2) 1) (shr-shr a 1 n ∙ ap (λ (i : ℕ). a / 2 ^ i) (one-add n))

-- numbers of w bits are the same if their bits are
same_digit : (x y : ℕ) → x < 2 → y < 2 → eqb x 1 ≡ eqb y 1 → x ≡ y
same_digit x y lx ly e = go (eqb y 1) refl e
  where
    go : (t : Bool) → eqb y 1 ≡ t → eqb x 1 ≡ t → x ≡ y
    go true f g = eqb-true x 1 g ∙ sym (eqb-true y 1 f)
    go false f g = let ny = eqb-false y 1 f in let nx = eqb-false x 1 g in omega arith

pub same_bits : (w a b : ℕ) → a < 2 ^ w → b < 2 ^ w → ((n : ℕ) → n < w → bit a n ≡ bit b n) → a ≡ b
same_bits zero a b la lb same = omega arith
same_bits (suc w) a b la lb same =
    let double = pow-suc 2 w in
    let low = same_digit (a / 2 ^ 0 % 2) (b / 2 ^ 0 % 2) (omega arith) (omega arith) (same 0 (omega arith)) in
    let high = same_bits w (a / 2) (b / 2) (omega arith) (omega arith) (λ n l. half_bit a n ∙ same (suc n) (omega arith) ∙ sym (half_bit b n)) in
    omega arith

-- the bits that two numbers share
and_digit : (x y : ℕ) → x < 2 → y < 2 → eqb (bit_and x y) 1 ≡ eqb x 1 && eqb y 1
and_digit zero y lx ly = refl
and_digit (suc zero) zero lx ly = refl
and_digit (suc zero) (suc zero) lx ly = refl
and_digit (suc zero) (suc (suc y)) lx ly = absurd (omega arith)
and_digit (suc (suc x)) y lx ly = absurd (omega arith)

and_bit : (a b n : ℕ) → bit (bit_and a b) n ≡ bit a n && bit b n
and_bit a b n =
    ap (λ (x : ℕ). eqb x 1) (ap (λ (x : ℕ). x % 2) (and_shr a b n) ∙ and_mod (a / 2 ^ n) (b / 2 ^ n) 1)
    ∙ and_digit (a / 2 ^ n % 2) (b / 2 ^ n % 2) (omega arith) (omega arith)

-- a number shares all of its bits with another exactly if that has them
pub holds_bits : (w a b : ℕ) → a < 2 ^ w → eqb (bit_and a b) a ≡ true ↔ ((n : ℕ) → n < w → bit a n ≡ true → bit b n ≡ true)
holds_bits w a b narrow =
    let least = and_le_l a b in (
      λ e n l h. (both (bit a n) (bit b n) (sym (and_bit a b n) ∙ ap (λ (x : ℕ). bit x n) (eqb-true _ _ e) ∙ h)).1,
      λ all. eq-eqb _ _ (same_bits w (bit_and a b) a (omega arith) narrow (λ n l. and_bit a b n ∙ go n (bit a n) refl (all n l))),
    )
  where
    go : (n : ℕ) (t : Bool) → bit a n ≡ t → (bit a n ≡ true → bit b n ≡ true) → bit a n && bit b n ≡ bit a n
    go n true e h = rw (e, h e)
    go n false e h = rw e

-- j bits, from the lowest on, and from bit k on
ones_bit : (j n : ℕ) → bit (2 ^ j - 1) n ≡ true ↔ (n < j)
ones_bit zero n = (λ e. let one = (bit_plain 0 n).0 e in let none = shr_le 0 n in absurd (omega arith), λ l. absurd (omega arith))
ones_bit (suc j) zero =
    let double = pow-suc 2 j in
    let some = pow_pos j in
    (λ e. omega arith, λ l. (bit_plain (2 ^ suc j - 1) 0).1 (omega arith))
ones_bit (suc j) (suc n) =
    let double = pow-suc 2 j in
    let half : (2 ^ suc j - 1) / 2 ≡ 2 ^ j - 1 = omega arith in
    let rest = ones_bit j n in
    let same : bit (2 ^ j - 1) n ≡ bit (2 ^ suc j - 1) (suc n) = ap (λ (x : ℕ). bit x n) (sym half) ∙ half_bit _ n in
    (λ e. let l = rest.0 (same ∙ e) in omega arith, λ l. sym same ∙ rest.1 (omega arith))

pub span_bit : (j k n : ℕ) → bit ((2 ^ j - 1) * 2 ^ k) n ≡ true ↔ ((k ≤ n) × (n < k + j))
span_bit j zero n =
    let rest = ones_bit j n in
    let same : bit (2 ^ j - 1) n ≡ bit ((2 ^ j - 1) * 2 ^ 0) n = ap (λ (x : ℕ). bit x n) (omega arith) in
    (λ e. let l = rest.0 (same ∙ e) in (omega arith, omega arith), λ l. sym same ∙ rest.1 (omega arith))
span_bit j (suc k) zero =
    let even = shifted_even (2 ^ j - 1) k in
    (λ e. let one = (bit_plain ((2 ^ j - 1) * 2 ^ suc k) 0).0 e in absurd (omega arith), λ l. absurd (omega arith))
span_bit j (suc k) (suc n) =
    let rest = span_bit j k n in
    let same : bit ((2 ^ j - 1) * 2 ^ k) n ≡ bit ((2 ^ j - 1) * 2 ^ suc k) (suc n) = ap (λ (x : ℕ). bit x n) (sym (shifted_half (2 ^ j - 1) k)) ∙ half_bit _ n in
    (λ e. let l = rest.0 (same ∙ e) in (omega arith, omega arith), λ l. sym same ∙ rest.1 (omega arith, omega arith))

-- made by shifts within w bits: all of them, all but j shifted out, and those to their place
pub span_made : (w j k : ℕ) → j + k ≤ w → (2 ^ w - 1) / 2 ^ (w - j) * 2 ^ k % 2 ^ w ≡ (2 ^ j - 1) * 2 ^ k
span_made w j k room =
    let i = w - j in
    let whole : j + i ≡ w = omega arith in
    let ones = ap (λ (x : ℕ). x / 2 ^ i) (ones_split j i) ∙ high (2 ^ j - 1) i (ones_lt i) in
    ap (λ (x : ℕ). x * 2 ^ k % 2 ^ w) (rw whole at ones) ∙ shl_exact {a = 2 ^ j - 1} j k w (ones_lt j) room

-- the mask of a test, of w bits
unfoldable pub mask_of : (ℕ → Bool) → ℕ → ℕ
mask_of f zero = 0
mask_of f (suc w) = choose (f 0) 1 0 + 2 * mask_of (λ n. f (suc n)) w

digit_below : (b : Bool) → choose b 1 0 < 2
unfolding choose
digit_below true = omega arith
digit_below false = omega arith

digit_is : (b : Bool) → eqb (choose b 1 0) 1 ≡ b
unfolding choose
digit_is true = refl
digit_is false = refl

pub mask_wide : (f : ℕ → Bool) (w : ℕ) → mask_of f w < 2 ^ w
unfolding mask_of
mask_wide f zero = omega arith
mask_wide f (suc w) =
    let double = pow-suc 2 w in
    let low = digit_below (f 0) in
    let high = mask_wide (λ n. f (suc n)) w in
    omega arith

pub mask_bit : (f : ℕ → Bool) (w n : ℕ) → n < w → bit (mask_of f w) n ≡ f n
unfolding mask_of
mask_bit f zero n l = absurd (omega arith)
mask_bit f (suc w) zero l =
    let low = digit_below (f 0) in
    let digit : (choose (f 0) 1 0 + 2 * mask_of (λ n. f (suc n)) w) / 2 ^ 0 % 2 ≡ choose (f 0) 1 0 = omega arith in
    ap (λ (x : ℕ). eqb x 1) digit ∙ digit_is (f 0)
mask_bit f (suc w) (suc n) l =
    let low = digit_below (f 0) in
    let half : (choose (f 0) 1 0 + 2 * mask_of (λ n. f (suc n)) w) / 2 ≡ mask_of (λ n. f (suc n)) w = omega arith in
    sym (half_bit _ n) ∙ ap (λ (x : ℕ). bit x n) half ∙ mask_bit (λ n. f (suc n)) w n (omega arith)
