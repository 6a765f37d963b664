use mathlib.Core.Path.{◌≡◌, refl, ◌∙◌}
use native.Mathlib.Omega.{arith}
use lib.ListN.{length}
use Rattle.std.proofs.Common.{rules}
use Rattle.repair.proofs.Rewriting.{passed_none, few, passed_more, passed_all}
use Rattle.repair.proofs.marks.rewrite.Goals as goal

pub loop-place-init : goal.loop-place-init
loop-place-init c =
    let same = c.begin-marks.ensures.unchanged in
    ((refl, refl, refl), rw (same.0, same.1, same.2, same.3) (passed_none _ _ _))

pub put-requires : goal.put-requires
put-requires c =
    let h = c.loop-place.invariant.1 in (
      omega (arith, h.map_long),
      few c.args.map.now c.args.list.now c.args.work.now c.loop-place.place c.loop-place.marks.map.now c.loop-place.marks.list.now c.loop-place.marks.work.now c.loop-place.marks.count h,
    )

pub loop-place-preserved : goal.loop-place-preserved
loop-place-preserved c =
    let m = c.loop-place.marks in
    let held = c.loop-place.invariant in
    let more = c.put.ensures in (
      (more.0.0 ∙ held.0.0, more.0.1 ∙ held.0.1, more.0.2 ∙ held.0.2),
      passed_more c.args.map.now c.args.list.now c.args.work.now c.loop-place.place m.map.now m.list.now m.work.now m.count held.1 (omega arith) c.requires.1 c.requires.2 _ _ _ _ more.1,
    )

pub returns : goal.returns
returns c =
    let m = c.loop-place.marks in
    let held = c.loop-place.invariant in
    let end : c.loop-place.place ≡ length c.args.map.now = omega arith in
    let all = passed_all c.args.map.now c.args.list.now c.args.work.now c.requires.2 m.map.now m.list.now m.work.now m.count (rw end at held.1) in
    let same_map = held.0.0 ∙ c.begin-marks.ensures.same_map in
    let same_list = held.0.1 ∙ c.begin-marks.ensures.same_list in
    let same_work = held.0.2 ∙ c.begin-marks.ensures.same_work in
    search rules
