use mathlib.Core.Path.{ap}
use mathlib.Core.Bool.{not}
use Rattle.rules.specs.Permit.{permits}
use Rattle.rules.proofs.Scans.{outset}
use Rattle.rules.proofs.MethodLaws.{method_met}
use Rattle.gate.proofs.parameters.Parameters.any_denied.Goals as goal

pub loop-k-init : goal.loop-k-init
loop-k-init c = outset _ _

pub returns-then-not-permitted : goal.returns-then-not-permitted
returns-then-not-permitted c =
    let a = c.args in
    method_met (permits a.permit.now a.self.now.methods.subchannel) _ _ _ c.loop-k.invariant c.loop-k-test.true c.method_for.ensures c.permitted.ensures (ap not c.if-not-permitted.true)
