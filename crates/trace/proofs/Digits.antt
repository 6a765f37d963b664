-- Numbers in decimal: the digits that are written are those of the number's width, and make it. Assumes nothing.
use Prim.Native.Nat.{ℕ, zero, suc, ◌+◌, ◌-◌, ◌*◌, ◌/◌, ◌%◌, ◌^◌, ◌≤◌, ◌<◌}
use mathlib.Core.Path.{◌≡◌, refl, sym, ap, subst, ◌∙◌}
use mathlib.Core.Bool.{Bool}
use mathlib.Core.List.{[], ◌∷◌, foldl-append}
use mathlib.Core.Logic.{⊎_elim}
use mathlib.Core.Option.{Option, none, some}
use native.Mathlib.Nat.{pow-le-pow_right, pow-suc, le_trans, lt_of_not-le, eq-or-lt_of_le, le_of_suc-le-suc}
use native.Mathlib.Omega.{arith}
use lib.Dec.{ltb}
use lib.ListN.{length, get_or, length-append, get_or-append}
use lib.Seq.{get_or_at}
use borrow.Author.Tests.{lt-ltb, le-ltb, ltb-true, ltb-false}
use Rattle.word.specs.Lowest.{lowest}
use Rattle.word.proofs.Lowest.{lowest_at, lowest_none, lowest_some}
use Rattle.io.specs.Digits.{hex_digit_ascii, last_digits, IsDigitCount}
use Rattle.trace.specs.Text.{or_else, width, decimal}
use Rattle.trace.specs.Promises.{value_of, Decimal}

-- one digit more than the lowest k with n below 10^(k+1)
fewest : (n k : ℕ) → k < 20 → n < 10 ^ suc k → (0 < k → 10 ^ k ≤ n) → width n ≡ suc k
unfolding width or_else
fewest n k l below above =
    let f : ℕ → Bool = λ i. ltb n (10 ^ suc i) in
    let none_before = (lowest_none f k).1 (λ i h. le-ltb n (10 ^ suc i) (le_trans (pow-le-pow_right {n = 10} (omega arith) (omega arith)) (above (omega arith)))) in
    rw (lowest_at f 20 k none_before l (lt-ltb n (10 ^ suc k) below))

-- a number of 64 bits has at most 20 digits
few : (n k : ℕ) → n < 2 ^ 64 → (0 < k → 10 ^ k ≤ n) → k < 20
few n k narrow above =
    lt_of_not-le
    (λ h.
    let long : 10 ^ 20 ≤ n = le_trans (pow-le-pow_right {n = 10} (omega arith) h) (above (omega arith)) in
    omega arith)

pub decimal_is : (n r : ℕ) → n < 2 ^ 64 → IsDigitCount 10 1 n r → last_digits 10 r n ≡ decimal n
unfolding decimal
decimal_is n zero narrow h = absurd (omega (arith, h.0))
decimal_is n (suc k) narrow h =
    let less : suc k - 1 ≡ k = omega arith in
    let above : 0 < k → 10 ^ k ≤ n = λ p. subst (λ (i : ℕ). 10 ^ i ≤ n) less (h.2 (omega arith)) in
    ap (λ (w : ℕ). last_digits 10 w n) (sym (fewest n k (few n k narrow above) h.1 above))

-- Of k digits, where they hold the number:
pub digits_many : (k n : ℕ) → length (last_digits 10 k n) ≡ k
digits_many zero n = refl
digits_many (suc k) n = length-append (last_digits 10 k (n / 10)) _ ∙ rw (digits_many k (n / 10)) (omega arith)

-- the byte of the last
last_byte : (n : ℕ) → hex_digit_ascii (n % 10) ≡ 48 + n % 10
last_byte n = rw (lt-ltb (n % 10) 10 (omega arith))

-- a tenth of the number needs one digit less,
tenth : (k n : ℕ) → n < 10 ^ suc k → n / 10 < 10 ^ k
tenth k n h = omega (arith, pow-suc 10 k)

-- they make the number,
digits_value : (k n : ℕ) → n < 10 ^ k → value_of (last_digits 10 k n) ≡ n
digits_value zero n h = omega arith
digits_value (suc k) n h =
    foldl-append (λ v d. 10 * v + (d - 48)) 0 (last_digits 10 k (n / 10)) (hex_digit_ascii (n % 10) ∷ [])
    ∙ rw (digits_value k (n / 10) (tenth k n h), last_byte n) (omega arith)

-- they are digits,
digits_bytes : (k n i : ℕ) → i < k → (48 ≤ get_or (last_digits 10 k n) i 0) × (get_or (last_digits 10 k n) i 0 ≤ 57)
digits_bytes zero n i h = absurd (omega arith)
digits_bytes (suc k) n i h =
    let long = digits_many k (n / 10) in
    ⊎_elim (λ e. rw (get_or_at (last_digits 10 k (n / 10)) (hex_digit_ascii (n % 10)) [] 0 i (long ∙ sym e), last_byte n) (omega arith, omega arith))
    (λ l. rw (get_or-append (last_digits 10 k (n / 10)) (hex_digit_ascii (n % 10) ∷ []) 0 i (omega arith)) (digits_bytes k (n / 10) i l)) (eq-or-lt_of_le (le_of_suc-le-suc h))

-- and where fewer do not hold it, the first is not 0
first_digit : (k n : ℕ) → n < 10 ^ suc k → 10 ^ k ≤ n → get_or (last_digits 10 (suc k) n) 0 0 ≡ 48 → ⊥
first_digit zero n below above e = omega (arith, last_byte n)
first_digit (suc k) n below above e =
    let long = digits_many (suc k) (n / 10) in
    first_digit k (n / 10) (tenth (suc k) n below) (omega (arith, pow-suc 10 k)) (sym (get_or-append (last_digits 10 (suc k) (n / 10)) (hex_digit_ascii (n % 10) ∷ []) 0 0 (omega arith)) ∙ e)

-- a width's digits hold the number, and fewer do not
width_holds : (n : ℕ) → n < 2 ^ 64 → (k : ℕ) × (width n ≡ suc k) × (n < 10 ^ suc k) × (0 < k → 10 ^ k ≤ n)
unfolding width or_else
width_holds n narrow = go (lowest f 20) refl
  where
    f : ℕ → Bool
    f k = ltb n (10 ^ suc k)

    go : (o : Option ℕ) → lowest f 20 ≡ o → (k : ℕ) × (suc (or_else o 20) ≡ suc k) × (n < 10 ^ suc k) × (0 < k → 10 ^ k ≤ n)
    go none e = let long = ltb-false n (10 ^ 20) ((lowest_none f 20).0 e 19 (omega arith)) in absurd (omega arith)
    go (some zero) e = (zero, refl, ltb-true n (10 ^ 1) ((lowest_some f 20 zero).0 e).1, λ p. absurd (omega arith))
    go (some (suc k)) e =
        let h = (lowest_some f 20 (suc k)).0 e in
        (suc k, refl, ltb-true n (10 ^ suc (suc k)) h.1, λ p. ltb-false n (10 ^ suc k) (h.2 k (omega arith)))

-- T10
pub decimal_plain : (n : ℕ) → n < 2 ^ 64 → Decimal n (decimal n)
unfolding decimal
decimal_plain n narrow =
    let w = width_holds n narrow in
    let k = w.0 in
    let long = digits_many (suc k) n in
    rw w.1 (record {
      value = digits_value (suc k) n w.2;
      digits = λ i h. digits_bytes (suc k) n i (omega arith);
      some = omega arith;
      no_zero = λ more. first_digit k n w.2 (w.3 (omega arith));
    })
