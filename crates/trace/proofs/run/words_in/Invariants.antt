use mathlib.Core.Path.{◌≡◌}
use lib.ListN.{take}
use Rattle.word.specs.Lent.{words_of}
use Rattle.trace.proofs.run.words_in.Given as goal

-- the words passed are stored
abbrev pub invariant-loop-place : goal.invariant-loop-place
invariant-loop-place l = take l.place l.word-items ≡ take l.place (words_of l.bytes)
