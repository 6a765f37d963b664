use mathlib.Core.Path.{refl, ◌∙◌}
use Rattle.repair.proofs.Rewriting.{same_byte, other_byte}
use Rattle.repair.proofs.marks.Marks.put.Goals as goal

pub returns-then-old-new : goal.returns-then-old-new
returns-then-old-new c =
    let m = c.args.self.now in
    let taken = c.take_byte-new.ensures in
    let same = rw taken.0 at c.if-old-new.true in
    rw (taken.0, taken.1, taken.2)
    ((refl, refl, taken.3), same_byte m.map.now m.list.now m.work.now _ c.args.place m.count taken.4 (same ∙ taken.5))

pub returns : goal.returns
returns c =
    let m = c.args.self.now in
    let taken = c.take_byte-new.ensures in
    let other = rw taken.0 at c.if-old-new.false in
    let made = rw taken.0 at c.change.ensures in
    rw (taken.0, taken.1, taken.2)
    ((refl, refl, taken.3), other_byte m.map.now m.list.now m.work.now _ c.args.place m.count taken.4 taken.5 other made)
