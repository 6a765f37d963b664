use Rattle.word.specs.Special.{present_of}
use Rattle.rules.proofs.Scans.{Passed}
use Rattle.rules.proofs.MethodLaws.{fails}
use Rattle.gate.proofs.parameters.Parameters.any_lacking.Given as goal

-- no parameter passed over goes to a method that the level lacks
abbrev pub invariant-loop-k : goal.invariant-loop-k
invariant-loop-k l = Passed (fails (present_of l.setting.level.number) l.self.methods) l.self.count l.k
