use Rattle.std.proofs.Common.{rules, ◌+◌, [], ◌∷◌, ◌++◌}
use Rattle.word.specs.First.{◌when◌}
use Rattle.word.specs.Reading.{parameter_count}
use Rattle.rules.specs.Reason.{MARKED_PARAMETER, submitted, size, own_cases, next_cases}
use Rattle.rules.specs.Next.{pairs_in}
use Rattle.rules.proofs.Findings.{or_found}
use Rattle.gate.proofs.reason.command_reason.Goals as goal

pub returns : goal.returns
returns g c =
    let a = c.args in
    let x = submitted a.submission.now in
    let tests = g.M.Marks.tests a.marks.now in
    let own = own_cases x a.command a.pair.place a.pair.inside in
    let marked = MARKED_PARAMETER when tests.among (a.pair.place + 1) (parameter_count a.command) ∷ [] in
    or_found (own ++ marked) (next_cases tests.lacks (size x) (pairs_in a.next)) _ (or_found own marked _ c.own_reason.ensures c.or_else.ensures (λ h. search rules)) c.or_else-2.ensures (λ h. search rules)
