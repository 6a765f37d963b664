use mathlib.Core.Path.{◌≡◌}
use lib.ListN.{take}
use Rattle.trace.specs.Line.{added}
use Rattle.trace.proofs.line.Line.say.Given as goal

-- the bytes passed are behind the line
abbrev pub invariant-loop-byte : goal.invariant-loop-byte
invariant-loop-byte l = l.line ≡ added l.initial.line (take l.byte-index l.text)
