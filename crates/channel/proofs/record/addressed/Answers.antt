use native.Mathlib.Omega.{arith}
use Rattle.channel.specs.State.{within, aligned}
use Rattle.channel.proofs.Setups.{order_most, power}
use Rattle.channel.proofs.record.addressed.Goals as goal

pub overflow_shl-indices : goal.overflow_shl-indices
overflow_shl-indices c = omega (arith, order_most _ c.requires)

pub returns-else-pusher-eq0-2 : goal.returns-else-pusher-eq0-2
unfolding within aligned
returns-else-pusher-eq0-2 c = grind (arith, power c.args.setup c.requires)
