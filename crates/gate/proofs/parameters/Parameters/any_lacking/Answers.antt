use mathlib.Core.Path.{ap}
use mathlib.Core.Bool.{not}
use Rattle.word.specs.Special.{present_of}
use Rattle.rules.proofs.Scans.{outset}
use Rattle.rules.proofs.MethodLaws.{method_met}
use Rattle.gate.proofs.parameters.Parameters.any_lacking.Goals as goal

pub loop-k-init : goal.loop-k-init
loop-k-init c = outset _ _

pub returns-then-not-present : goal.returns-then-not-present
returns-then-not-present c =
    method_met (present_of c.args.setting.level.number) _ _ _ c.loop-k.invariant c.loop-k-test.true c.method_for.ensures c.present.ensures (ap not c.if-not-present.true)
