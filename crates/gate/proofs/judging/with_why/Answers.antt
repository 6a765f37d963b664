use borrow.Author.Tests.{not-false}
use mathlib.Core.Path.{sym, ap, ◌∙◌}
use Rattle.std.specs.declared.result.Result.TheVariants.{Err}
use Rattle.word.specs.Why.{why_of}
use Rattle.word.specs.Reading.{why}
use Rattle.word.specs.declared.reading.Reading.{Reading}
use Rattle.rules.specs.Reason.{submitted}
use Rattle.rules.proofs.Verdicts.{accepted_stays, reserved_reason}
use Rattle.gate.proofs.judging.with_why.Goals as goal

pub returns-in_default : goal.returns-in_default
returns-in_default c = rw c.in_default.is (accepted_stays _)

pub returns : goal.returns
returns c =
    let is = c.in-Err.is ∙ ap Err c.in-Rejected.is in
    reserved_reason (submitted c.args.submission.now) is (not-false _ (sym c.ne.ensures ∙ c.if-ne.false))
    (c.why_of.ensures ∙ ap (λ (d : Reading). why_of (why d)) c.command_at.ensures)
