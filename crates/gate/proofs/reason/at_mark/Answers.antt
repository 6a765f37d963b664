use mathlib.Core.Path.{sym, ap, ◌∙◌}
use Rattle.rules.specs.Next.{pairs_in}
use Rattle.rules.proofs.Findings.{at_command}
use Rattle.rules.proofs.NextLaws.{held_pairs}
use Rattle.gate.proofs.reason.at_mark.Goals as goal

pub returns : goal.returns
returns c =
    let next = ap pairs_in c.next_pairs-next.ensures ∙ held_pairs c.command_at-command.result c.args.pair.place c.args.pair.inside in
    at_command _ _ _ _ (sym c.is_marked.ensures ∙ c.if-not-is_marked.false) c.command_at-command.ensures (rw next at c.command_reason.ensures)
