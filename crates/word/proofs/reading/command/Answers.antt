use mathlib.Core.Path.{sym, ◌∙◌}
use native.Mathlib.Omega.{arith}
use lib.Bits.{and_high}
use Rattle.word.proofs.Decode.{field_0, jump_is, call_is, three_is}
use Rattle.word.proofs.reading.command.Goals as goal

pub returns-then-low-eq1 : goal.returns-then-low-eq1
returns-then-low-eq1 c = let w = c.args.word in simp (and_high w 30 2) (sym (jump_is w _ (sym (field_0 w 1) ∙ c.if-low-eq1.true)))

pub returns-then-low-eq2 : goal.returns-then-low-eq2
returns-then-low-eq2 c = let w = c.args.word in simp (and_high w 30 2) (sym (call_is w _ (sym (field_0 w 1) ∙ c.if-low-eq2.true)))

pub returns : goal.returns
returns c = let w = c.args.word in three_is w _ (omega (arith, field_0 w 1))
