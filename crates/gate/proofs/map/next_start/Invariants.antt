use Prim.Native.Nat.{ℕ, ◌≤◌, ◌<◌}
use mathlib.Core.Path.{◌≡◌}
use lib.ListN.{get_or}
use Rattle.gate.proofs.map.next_start.Given as goal

-- no place passed over is a start
abbrev pub invariant-loop-place : goal.invariant-loop-place
invariant-loop-place l = (l.from ≤ l.place) × (l.place ≤ l.to) × ((k : ℕ) → l.from ≤ k → k < l.place → get_or l.map k 0 ≡ 0)
