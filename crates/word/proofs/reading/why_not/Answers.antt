use mathlib.Core.Path.{refl}
use Rattle.word.proofs.Usable.{said, told}
use Rattle.word.proofs.reading.why_not.Goals as goal

pub returns-in-Increasing : goal.returns-in-Increasing
unfolding said
returns-in-Increasing c = told c.args.setting c.in-Increasing.is refl

pub returns-in-Reserved : goal.returns-in-Reserved
unfolding said
returns-in-Reserved c = told c.args.setting c.in-Reserved.is refl

pub returns-in-Refused : goal.returns-in-Refused
unfolding said
returns-in-Refused c = told c.args.setting c.in-Refused.is refl
