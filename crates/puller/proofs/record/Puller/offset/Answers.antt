use Rattle.std.proofs.Common.{◌≡◌, ℕ, ◌+◌, ◌*◌, ◌/◌, ◌%◌, ◌^◌, Bool, true, false, ◌&&◌, eqb, sym, refl, ap, ◌∙◌, arith, lt-ltb, eq-eqb, ne_eqb, eqb-true}
use lib.Bits.{bit_and, and_mask, and_block}
use lib.Pow.{split}
use borrow.Author.Tests.{eqb-false}
use Rattle.word.specs.First.{choose}
use Rattle.word.specs.Parts.{bits}
use Rattle.word.proofs.Tests.{below}
use Rattle.puller.specs.Taking.{offset_of}
use Rattle.puller.proofs.record.Puller.offset.Goals as goal

-- the bits outside 0xffc are bits 31-12 and bits 1-0
outside : (w : ℕ) → bit_and w 0xfffff003 ≡ bits 31 12 w * 2 ^ 12 + bits 1 0 w
outside w =
    ap (λ (n : ℕ). bit_and n 0xfffff003) (sym (split w 12))
    ∙ and_block 12 (w / 2 ^ 12) 0xfffff (w % 2 ^ 12) 3 (omega arith) (omega arith)
    ∙ rw (and_mask (w / 2 ^ 12) 20, and_mask (w % 2 ^ 12) 2) (omega arith)

-- so the mask finds none of them exactly if neither part has any
none_outside : (w : ℕ) → eqb (bit_and w 0xfffff003) 0 ≡ (eqb (bits 1 0 w) 0 && eqb (bits 31 12 w) 0)
none_outside w = rw (outside w) (go (bits 31 12 w) (bits 1 0 w) (eqb (bits 1 0 w) 0) refl (eqb (bits 31 12 w) 0) refl)
  where
    go : (high low : ℕ) (b : Bool) → eqb low 0 ≡ b → (a : Bool) → eqb high 0 ≡ a → eqb (high * 2 ^ 12 + low) 0 ≡ (b && a)
    go high low true p true q = eq-eqb (high * 2 ^ 12 + low) 0 (omega (arith, eqb-true low 0 p, eqb-true high 0 q))
    go high low true p false q = ne_eqb (high * 2 ^ 12 + low) 0 (λ e. eqb-false high 0 q (omega arith))
    go high low false p a q = ne_eqb (high * 2 ^ 12 + low) 0 (λ e. eqb-false low 0 p (omega arith))

pub returns-then-offset-ne0 : goal.returns-then-offset-ne0
unfolding offset_of choose
returns-then-offset-ne0 c =
    let w = c.args.method.parameter in
    rw (c.failed.ensures, lt-ltb _ _ (below c.if-lt.ensures), sym (none_outside w) ∙ ne_eqb _ _ c.if-offset-ne0.true)

pub returns-then-lt : goal.returns-then-lt
unfolding offset_of choose
returns-then-lt c =
    let w = c.args.method.parameter in
    rw (c.done.ensures, lt-ltb _ _ (below c.if-lt.ensures), sym (none_outside w) ∙ eq-eqb _ _ c.if-offset-ne0.false)
