use Prim.Native.Nat.{◌≤◌, ◌<◌}
use native.Mathlib.Omega.{arith}
use borrow.Author.Rules.{rules}
use borrow.Author.Tests.{tests, lt-ltb}
use Rattle.std.proofs.lemmas.Iterator.{cases_from_all, YieldsList-from_slice}
use Rattle.channel.specs.State.{within}
use Rattle.channel.proofs.Widths.{engines_by}
use Rattle.channel.proofs.record.bound.Goals as goal

pub returns-then-puller-lt1099511627776 : goal.returns-then-puller-lt1099511627776
unfolding within
returns-then-puller-lt1099511627776 c =
    let p = c.args.puller in
    let t = c.if-puller-lt1099511627776.true in
    rw (lt-ltb _ _ t.0, lt-ltb _ _ t.1)
    (engines_by p _ (search rules)
    (cases_from_all _ _ _ (λ e. e < 32) (λ e. 32 ≤ e) c.all.ensures.ran (YieldsList-from_slice p.engines cc) (λ x q k. search (rules, tests)) (λ x q k. search (rules, tests))))

pub returns-else-puller-lt1099511627776 : goal.returns-else-puller-lt1099511627776
unfolding within
returns-else-puller-lt1099511627776 c = grind arith
