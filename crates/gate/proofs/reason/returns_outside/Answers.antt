use borrow.Enum.Refused.{opened}
use Rattle.word.specs.Reading.{number}
use Rattle.rules.specs.Reason.{return?}
use Rattle.rules.proofs.Readings.{no_return}
use Rattle.gate.proofs.reason.returns_outside.Goals as goal

pub returns-in_default : goal.returns-in_default
unfolding number return?
returns-in_default c = rw (no_return c.args.command (opened c.in_default.in_default-own.keys2))

pub returns-in-Return : goal.returns-in-Return
unfolding number return?
returns-in-Return c = rw c.in-Return.is
