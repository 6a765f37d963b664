use mathlib.Core.List.{[]}
use native.Mathlib.Omega.{arith}
use Rattle.word.specs.First.{choose}
use Rattle.pusher.specs.Loan.{to_pusher}
use Rattle.pusher.specs.Moving.{role, push_of}
use Rattle.pusher.proofs.moving.push.Goals as goal

pub returns-then-pusher : goal.returns-then-pusher
unfolding push_of role choose
returns-then-pusher c = grind (arith, c.word.ensures (to_pusher [] c.args.entries.now))

pub returns : goal.returns
unfolding push_of role choose
returns c = grind (arith, c.entry.ensures (to_pusher c.args.words.now []))
