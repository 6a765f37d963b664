use mathlib.Core.Path.{sym, ◌∙◌}
use native.Mathlib.Omega.{arith}
use lib.Bits.{and_high}
use Rattle.word.proofs.Decode.{field, field_0, sli_is, long_is, odd_sli_is}
use Rattle.word.proofs.reading.by_upper_half.Goals as goal

pub returns-then-word-eq0 : goal.returns-then-word-eq0
returns-then-word-eq0 c =
    let w = c.args.word in
    simp (field w 15 4) (sym (sli_is w _ (omega arith) (sym (field_0 w 3) ∙ c.if-word-eq0.true)))

pub returns-then-upper-eq1 : goal.returns-then-upper-eq1
returns-then-upper-eq1 c = let w = c.args.word in odd_sli_is w _ c.requires.0 (omega arith) (omega (arith, field_0 w 3))

pub returns-then-upper-eq3 : goal.returns-then-upper-eq3
returns-then-upper-eq3 c =
    let a = c.args in
    simp (field a.word 15 13, field_0 a.next 23, and_high a.word 11 2) (sym (long_is a.word a.next c.requires.0 (omega arith)))
