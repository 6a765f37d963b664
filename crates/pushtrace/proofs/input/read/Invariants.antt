use Rattle.std.proofs.Common.{◌≤◌, length}
use Rattle.pushtrace.proofs.input.read.Given as goal

-- what was read fits the room
abbrev pub invariant-loop : goal.invariant-loop
invariant-loop g l = l.done ≤ length l.room
