use mathlib.Core.Path.{◌≡◌}
use Rattle.rules.specs.Map.{all_bits}
use Rattle.gate.proofs.map.all_bits.Given as goal

-- the bits of the bytes passed
abbrev pub invariant-loop-byte : goal.invariant-loop-byte
invariant-loop-byte l = l.bits ≡ all_bits l.part l.byte-index
