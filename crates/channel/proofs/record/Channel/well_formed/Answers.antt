use native.Mathlib.Omega.{arith}
use Rattle.channel.proofs.Widths.{others, well_formed_lem}
use Rattle.channel.proofs.record.Channel.well_formed.Goals as goal

pub returns-then-running : goal.returns-then-running
returns-then-running c = rw (well_formed_lem c.args.self (others c.args.self _ c.well_formed.0)) (grind arith)

pub returns-else-running : goal.returns-else-running
returns-else-running c = rw (well_formed_lem c.args.self (others c.args.self _ c.well_formed.0)) (grind arith)
