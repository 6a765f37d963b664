use Prim.Native.Nat.{◌+◌, ◌*◌, ◌-◌, ◌≤◌}
use Rattle.rules.specs.Reason.{submitted, size}
use Rattle.rules.specs.Judging.{refused_pair}
use Rattle.rules.proofs.Scans.{Passed}
use Rattle.gate.proofs.judging.first_refused.Given as goal

-- no pair passed over has a reason; a pair's number is twice its place, plus one inside a subroutine
abbrev pub invariant-loop-place : goal.invariant-loop-place
invariant-loop-place l = (l.place ≤ l.end) × Passed (refused_pair (submitted l.submission) l.map) (2 * size (submitted l.submission)) (2 * l.place)

abbrev pub decreases-loop-place : goal.decreases-loop-place
decreases-loop-place l = l.end - l.place

abbrev pub invariant-loop-inside : goal.invariant-loop-inside
invariant-loop-inside l = Passed (refused_pair (submitted l.submission) l.map) (2 * size (submitted l.submission)) (2 * l.place + l.inside-index)
