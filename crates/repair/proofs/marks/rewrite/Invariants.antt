use Rattle.repair.specs.Marking.{AreSame}
use Rattle.repair.proofs.Rewriting.{Passed}
use Rattle.repair.proofs.marks.rewrite.Given as goal

-- so many places are rewritten, in the same rooms
abbrev pub invariant-loop-place : goal.invariant-loop-place
invariant-loop-place l =
    AreSame l.initial.marks l.marks
    × Passed l.fn.map l.fn.list l.fn.work l.place l.marks.map.now l.marks.list.now l.marks.work.now l.marks.count
