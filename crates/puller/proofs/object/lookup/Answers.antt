use Rattle.std.proofs.Common.{◌≡◌, ◌∙◌, get_or, rules}
use Rattle.std.specs.Prelude.{option_map}
use borrow.Author.Tests.{tests}
use Rattle.std.proofs.lemmas.Iterator.{first_from_find, YieldsList-from_slice}
use Rattle.puller.specs.Object.{object_at}
use Rattle.puller.proofs.Table.{rows, lookup_by}
use Rattle.puller.proofs.object.lookup.Goals as goal

pub returns : goal.returns
returns c =
    let t = c.args.table.now in
    let h = c.args.handle in
    let mapped : c.map.result ≡ option_map (λ e. object_at e.now 0) c.find.result = search rules in
    mapped
    ∙ lookup_by t h c.find.result
    (first_from_find _ _ c.find.result (λ e. get_or e 0 0 ≡ h) (λ e. get_or e 0 0 ≡ h → ⊥) c.find.ensures.ran (YieldsList-from_slice (rows t) cc) (λ x q k. search (rules, tests)) (λ x q k. search (rules, tests)))
