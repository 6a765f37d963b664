use mathlib.Core.Path.{refl}
use Rattle.rules.specs.Map.{all_bits}
use Rattle.rules.proofs.AllBits.{bits_more}
use Rattle.gate.proofs.map.all_bits.Goals as goal

pub loop-byte-init : goal.loop-byte-init
loop-byte-init c = unfold all_bits in refl

pub loop-byte-preserved : goal.loop-byte-preserved
loop-byte-preserved c = bits_more _ _ _ c.loop-byte.invariant
