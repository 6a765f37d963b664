use mathlib.Core.Path.{sym}
use native.Mathlib.Omega.{arith}
use lib.Bits.{and_high}
use Rattle.word.proofs.Decode.{old_jump_is}
use Rattle.word.proofs.reading.by_upper_bits.Goals as goal

pub returns-then-top-eq1 : goal.returns-then-top-eq1
returns-then-top-eq1 c = let w = c.args.word in simp (and_high w 27 2) (sym (old_jump_is w _ c.requires (omega arith)))
