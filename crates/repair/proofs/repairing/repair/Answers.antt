use mathlib.Core.Path.{sym, ap, ◌∙◌}
use native.Mathlib.Omega.{arith}
use lib.ListN.{length}
use Rattle.std.proofs.lemmas.Result.{err_from_is_err_and}
use Rattle.word.proofs.Bytes.{words_length}
use Rattle.rules.specs.Reason.{size}
use Rattle.rules.proofs.Table.{fits}
use Rattle.repair.specs.Outcomes.{to_repair}
use Rattle.repair.proofs.Outcomes.{table_refused, rooms_fit, room_refused_lem, mended}
use Rattle.repair.proofs.repairing.repair.Goals as goal

pub returns-in_err-submission : goal.returns-in_err-submission
returns-in_err-submission c =
    let a = c.args in
    let p = err_from_is_err_and c.from_residual.result c.from_residual.ensures.1 in
    rw (p.1, p.2) (table_refused a.level a.sli (to_repair a.words.now a.map.now a.permit.now a.list.now a.work.now) c.in_err-submission.field-0.0 c.in_err-submission.ensures)

pub returns-then-no_room : goal.returns-then-no_room
returns-then-no_room c =
    let a = c.args in
    room_refused_lem a.level a.sli (to_repair a.words.now a.map.now a.permit.now a.list.now a.work.now) c.in_ok-submission.ensures.0 (sym c.no_room.ensures ∙ c.if-no_room.true)

pub mend-requires : goal.mend-requires
mend-requires c =
    let a = c.args in
    let fit = fits 8192 a.level a.sli a.words.now a.map.now a.permit.now c.in_ok-submission.ensures.0 in
    let space = rooms_fit (length a.words.now) (length a.list.now) (length a.work.now) (sym c.no_room.ensures ∙ c.if-no_room.false) in
    let many = fit.bytes_map in
    let count = words_length a.words.now in
    (ap size c.in_ok-submission.ensures.1 ∙ sym many, omega (arith, fit.words, many), omega (arith, space.0, many), omega (arith, space.1, many))

pub returns : goal.returns
returns c =
    let a = c.args in
    mended a.level a.sli (to_repair a.words.now a.map.now a.permit.now a.list.now a.work.now) c.in_ok-submission.ensures.0 (sym c.no_room.ensures ∙ c.if-no_room.false) (rw c.in_ok-submission.ensures.1 at c.mend.ensures)
