use borrow.Enum.Refused.{opened}
use Rattle.word.specs.Reading.{number}
use Rattle.rules.specs.Reason.{call?}
use Rattle.rules.proofs.Readings.{no_call}
use Rattle.gate.proofs.reason.calls_inside.Goals as goal

pub returns-in_default : goal.returns-in_default
unfolding number call?
returns-in_default c = rw (no_call c.args.command (opened c.in_default.in_default-own.keys2))

pub returns-in-Call : goal.returns-in-Call
unfolding number call?
returns-in-Call c = rw c.in-Call.is
