-- What a word's bits make it, as the reader's tests find it: one law a form, and the four ways to be reserved. Assumes nothing.
use Prim.Native.Nat.{ℕ, ◌+◌, ◌-◌, ◌*◌, ◌/◌, ◌%◌, ◌^◌, ◌<◌}
use mathlib.Core.Path.{◌≡◌, sym, ap, ◌∙◌}
use mathlib.Core.Bool.{true, and-false}
use native.Mathlib.Nat.{div-one}
use native.Mathlib.Omega.{arith}
use lib.Bits.{bit_and, and_mask}
use lib.Pow.{mod-mod-pow, shr_mod, shr-shr, field as pow_field}
use borrow.Author.Tests.{ne_eqb}
use Rattle.word.specs.First.{choose}
use Rattle.word.specs.Parts.{bits, has_bits, numbers_in}
use Rattle.word.specs.Form.{Form, increasing, non_increasing, sli_conditional, returning, long, old_jump, jump, call, everything_else, forms, form_in, form_of}
use Rattle.word.specs.Reading.{command_in}
use Rattle.word.specs.declared.why.Why.TheVariants as why
use Rattle.word.specs.declared.reading.Reading.TheVariants.{Increasing, NonIncreasing, Sli, Return, Long, OldJump, Jump, Call, Reserved}
use Rattle.word.proofs.Table.{In, here, there, the_form}

-- a shift and a mask are the bits
pub field : (w hi lo : ℕ) → bit_and (w / 2 ^ lo) (2 ^ (hi + 1 - lo) - 1) ≡ bits hi lo w
field w hi lo = and_mask (w / 2 ^ lo) (hi + 1 - lo)

-- and where there is no shift
pub field_0 : (w hi : ℕ) → bit_and w (2 ^ (hi + 1 - 0) - 1) ≡ bits hi 0 w
field_0 w hi = and_mask w (hi + 1 - 0) ∙ ap (λ (n : ℕ). n % 2 ^ (hi + 1 - 0)) (sym (div-one w))

-- the upper half, and the whole, of a word need no mask
pub upper_half : (w : ℕ) → w < 2 ^ 32 → bits 31 16 w ≡ w / 2 ^ 16
upper_half w h = shr_mod 16 16 h

pub whole_word : (w : ℕ) → w < 2 ^ 32 → bits 31 0 w ≡ w
whole_word w h = omega arith

-- what bits 31-16 say of bits 17-16, and bits 31-`lo` of bits 31-29
middle_of : (w : ℕ) → bits 17 16 w ≡ bits 31 16 w % 4
middle_of w = sym (mod-mod-pow (w / 2 ^ 16) 14 2)

top_of : (w lo k : ℕ) → w / 2 ^ (lo + k) % 2 ^ 3 ≡ w / 2 ^ lo % 2 ^ (3 + k) / 2 ^ k
top_of w lo k = sym (pow_field (w / 2 ^ lo) 3 k ∙ ap (λ (n : ℕ). n % 2 ^ 3) (shr-shr w lo k))

module _ (w n : ℕ) where
  by : (f : Form) → In f forms → has_bits f.word w ≡ true → command_in (form_of w) w n ≡ command_in f w n
  by f i e = ap (λ (g : Form). command_in g w n) (the_form f i w e)

  pub jump_is : bits 1 0 w ≡ 1 → command_in (form_of w) w n ≡ Jump (bits 31 2 w * 2 ^ 2)
  unfolding forms has_bits jump command_in numbers_in
  jump_is low = by jump (there (there (there (there (there (there here)))))) (rw low)

  pub call_is : bits 1 0 w ≡ 2 → command_in (form_of w) w n ≡ Call (bits 31 2 w * 2 ^ 2)
  unfolding forms has_bits call command_in numbers_in
  call_is low = by call (there (there (there (there (there (there (there here))))))) (rw low)

  pub return_is : bits 31 0 w ≡ 0x20000 → command_in (form_of w) w n ≡ Return
  unfolding forms has_bits returning command_in numbers_in
  return_is e = by returning (there (there (there here))) (rw e)

  pub sli_is : bits 31 16 w ≡ 1 → bits 3 0 w ≡ 0 → command_in (form_of w) w n ≡ Sli (bits 15 4 w)
  unfolding forms has_bits sli_conditional command_in numbers_in
  sli_is half rest = by sli_conditional (there (there here)) (rw (half, rest))

  module _ (low : bits 1 0 w ≡ 0) where
    pub old_jump_is : bits 31 29 w ≡ 1 → command_in (form_of w) w n ≡ OldJump (bits 28 2 w * 2 ^ 2)
    unfolding forms has_bits old_jump command_in numbers_in
    old_jump_is top = by old_jump (there (there (there (there (there here))))) (rw (top, low))

    pub increasing_is : bits 31 29 w ≡ 0 → bits 17 16 w ≡ 0 → command_in (form_of w) w n ≡ Increasing (bits 28 18 w) (bits 15 13 w) (bits 12 2 w * 2 ^ 2)
    unfolding forms has_bits increasing command_in numbers_in
    increasing_is top middle = by increasing here (rw (top, middle, low))

    pub non_increasing_is : bits 31 29 w ≡ 2 → bits 17 16 w ≡ 0 → command_in (form_of w) w n ≡ NonIncreasing (bits 28 18 w) (bits 15 13 w) (bits 12 2 w * 2 ^ 2)
    unfolding forms has_bits non_increasing command_in numbers_in
    non_increasing_is top middle = by non_increasing (there here) (rw (top, middle, low))

    pub long_is : bits 31 16 w ≡ 3 → command_in (form_of w) w n ≡ Long (bits 15 13 w) (bits 12 2 w * 2 ^ 2) (bits 23 0 n)
    unfolding forms has_bits long command_in numbers_in
    long_is half = by long (there (there (there (there here)))) (rw (half, low))

  -- a word that has no form's bits
  none : form_of w ≡ everything_else → Reserved why.Form ≡ command_in (form_of w) w n
  unfolding everything_else command_in
  none e = sym (ap (λ (g : Form). command_in g w n) e)

  pub three_is : bits 1 0 w ≡ 3 → Reserved why.Form ≡ command_in (form_of w) w n
  unfolding forms form_in has_bits choose increasing non_increasing sli_conditional returning long old_jump jump call
  three_is low = none (simp (low, and-false, ne_eqb (bits 3 0 w) 0 (omega arith), ne_eqb (bits 31 0 w) 0x20000 (omega arith)))

  module _ (low : bits 1 0 w ≡ 0) where
    pub odd_top_is : (bits 31 29 w ≡ 0 → ⊥) → (bits 31 29 w ≡ 1 → ⊥) → (bits 31 29 w ≡ 2 → ⊥) → Reserved why.Form ≡ command_in (form_of w) w n
    unfolding forms form_in has_bits choose increasing non_increasing sli_conditional returning long old_jump jump call
    odd_top_is t0 t1 t2 =
        let half : (k : ℕ) → k < 2 ^ 13 → bits 31 16 w ≡ k → ⊥ = λ k h e. t0 (top_of w 16 13 ∙ omega arith) in
        let whole : bits 31 0 w ≡ 0x20000 → ⊥ = λ e. t0 (top_of w 0 29 ∙ omega arith) in
        none (simp (low, ne_eqb _ _ t0, ne_eqb _ _ t1, ne_eqb _ _ t2, ne_eqb _ _ (half 1 (omega arith)), ne_eqb _ _ (half 3 (omega arith)), ne_eqb _ _ whole))

    pub odd_sli_is : bits 31 16 w ≡ 1 → (bits 3 0 w ≡ 0 → ⊥) → Reserved why.Form ≡ command_in (form_of w) w n
    unfolding forms form_in has_bits choose increasing non_increasing sli_conditional returning long old_jump jump call
    odd_sli_is half rest =
        let middle : bits 17 16 w ≡ 1 = rw (middle_of w, half) in
        let top : bits 31 29 w ≡ 0 = rw (top_of w 16 13, half) in
        none (simp (low, half, top, middle, ne_eqb _ _ rest, ne_eqb (bits 31 0 w) 0x20000 (omega arith)))

    pub rest_is :
        (bits 17 16 w ≡ 0 → ⊥)
        → (bits 31 29 w ≡ 1 → ⊥)
        → (bits 31 16 w ≡ 1 → ⊥)
        → (bits 31 16 w ≡ 3 → ⊥)
        → (bits 31 0 w ≡ 0x20000 → ⊥)
        → Reserved why.Form ≡ command_in (form_of w) w n
    unfolding forms form_in has_bits choose increasing non_increasing sli_conditional returning long old_jump jump call
    rest_is middle top h1 h3 e =
        none (simp (low, and-false, ne_eqb _ _ middle, ne_eqb _ _ top, ne_eqb _ _ h1, ne_eqb _ _ h3, ne_eqb _ _ e))
