use mathlib.Core.Path.{sym}
use Rattle.channel.specs.Loan.{to_step}
use Rattle.channel.proofs.Steps.{steps}
use Rattle.channel.proofs.record.Channel.step.Goals as goal

pub returns : goal.returns
returns c =
    let a = c.args in
    steps _ (to_step a.words.now a.entries.now a.table.now a.semaphores.now a.clock) (sym c.if-not-well_formed.ensures) c.if-words-gt-MOST_WORDS.false c.if-semaphores-gt-MOST_WORDS.false (sym c.if-no_table.ensures) c.act.ensures c.with_acted.ensures
