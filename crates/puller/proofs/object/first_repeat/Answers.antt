use Rattle.std.proofs.Common.{◌≡◌, true, false, rules}
use borrow.Author.Tests.{tests}
use Rattle.std.proofs.lemmas.Iterator.{first_from_Range}
use Rattle.puller.specs.Object.{repeats}
use Rattle.puller.proofs.Table.{repeat_by}
use Rattle.puller.proofs.object.first_repeat.Goals as goal

pub returns : goal.returns
returns c =
    let t = c.args.table.now in
    repeat_by t _
    (first_from_Range _ _ _ c.find.result (λ i. repeats t i ≡ true) (λ i. repeats t i ≡ false) c.find.ensures.ran (λ x q k. search (rules, tests)) (λ x q k. search (rules, tests)))
