use mathlib.Core.Path.{sym, ◌∙◌}
use mathlib.Core.List.{[]}
use Rattle.word.specs.First.{first}
use Rattle.word.specs.Setting.{refused_or}
use Rattle.word.specs.Reading.{read_of}
use Rattle.word.specs.declared.reading.Reading.TheVariants.{Refused}
use Rattle.word.proofs.Settings.{refused_by, passed_by}
use Rattle.word.proofs.reading.read.Goals as goal

pub returns-in-Ok : goal.returns-in-Ok
unfolding read_of refused_or first
returns-in-Ok c =
    let a = c.args in
    c.read_checked.ensures ∙ sym (passed_by a.setting [] Refused _ (sym c.check.ensures ∙ c.in-Ok.is))

pub returns-in-Err : goal.returns-in-Err
unfolding read_of refused_or first
returns-in-Err c =
    let a = c.args in
    sym (refused_by a.setting [] Refused _ _ (sym c.check.ensures ∙ c.in-Err.is))
