use Prim.Native.Nat.{◌*◌, ◌≤◌}
use mathlib.Core.Path.{◌≡◌}
use Rattle.rules.specs.Permit.{set_bits}
use Rattle.gate.proofs.permit.set_bits.Given as goal

-- the bits of the bytes passed
abbrev pub invariant-loop-byte : goal.invariant-loop-byte
invariant-loop-byte l = (l.count ≤ 8 * l.byte-index) × (l.count ≡ set_bits l.permit l.byte-index)
