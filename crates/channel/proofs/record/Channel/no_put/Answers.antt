use native.Mathlib.Omega.{arith}
use Rattle.channel.proofs.Widths.{set_up_fits}
use Rattle.channel.proofs.Setups.{order_most}
use Rattle.channel.proofs.record.Channel.no_put.Goals as goal

pub overflow_shl-result : goal.overflow_shl-result
overflow_shl-result c = omega (arith, order_most _ (set_up_fits c.args.self c.requires))
