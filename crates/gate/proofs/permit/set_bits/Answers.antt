use Prim.Native.Nat.{ℕ, ◌≤◌}
use mir.Val.{Fits}
use mir.Syntax.{w8}
use mathlib.Core.Path.{refl}
use native.Mathlib.Omega.{arith}
use lib.Count.{ones, ones-le}
use Rattle.rules.specs.Permit.{set_bits}
use Rattle.rules.proofs.Scans.{set_bits_more}
use Rattle.gate.proofs.permit.set_bits.Goals as goal

-- a byte has at most eight bits
few : (b : ℕ) → Fits w8 b → ones b ≤ 8
few b h = ones-le 8 b (omega (arith, h))

pub loop-byte-init : goal.loop-byte-init
loop-byte-init c = (omega arith, unfold set_bits in refl)

pub loop-byte-preserved : goal.loop-byte-preserved
loop-byte-preserved c = (omega (arith, few _ (c.type_inv.permit c.loop-byte.byte-index)), set_bits_more _ _ _ c.loop-byte.invariant.1)
