use Rattle.std.proofs.Common.{◌≡◌, [], get_or, take, rules}
use borrow.Author.Tests.{tests}
use Rattle.std.proofs.lemmas.Iterator.{cases_from_any, YieldsList-from_slice}
use Rattle.puller.proofs.Table.{rows, repeats_by}
use Rattle.puller.proofs.object.repeats.Goals as goal

pub returns : goal.returns
returns c =
    let t = c.args.table.now in
    let j = c.args.later in
    let h = get_or (get_or (rows t) j []) 0 0 in
    repeats_by t j _ c.requires
    (cases_from_any _ _ _ (λ e. get_or e 0 0 ≡ h) (λ e. get_or e 0 0 ≡ h → ⊥) c.any.ensures.ran (YieldsList-from_slice (take j (rows t)) cc) (λ x q k. search (rules, tests)) (λ x q k. search (rules, tests)))
