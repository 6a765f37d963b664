use Rattle.rules.specs.Permit.{permits}
use Rattle.rules.proofs.Scans.{Passed}
use Rattle.rules.proofs.MethodLaws.{fails}
use Rattle.gate.proofs.parameters.Parameters.any_denied.Given as goal

-- no parameter passed over goes to a method that is not permitted
abbrev pub invariant-loop-k : goal.invariant-loop-k
invariant-loop-k l = Passed (fails (permits l.permit l.self.methods.subchannel) l.self.methods) l.self.count l.k
