use mathlib.Core.Path.{sym, ap, ◌∙◌}
use native.Mathlib.Omega.{arith}
use Rattle.rules.specs.Reason.{size}
use Rattle.rules.proofs.Refusals.{judge_refused, judge_made}
use Rattle.rules.proofs.Table.{fits}
use Rattle.gate.proofs.judging.judge.Goals as goal

pub whole_verdict-requires : goal.whole_verdict-requires
whole_verdict-requires c =
    let a = c.args in
    let fit = fits 1048576 a.level a.sli a.words.now a.map.now a.permit.now c.in-Ok.ensures.0 in
    (ap size c.in-Ok.ensures.1 ∙ sym fit.bytes_map, omega (arith, fit.words, fit.bytes_map))

pub set_bits-requires : goal.set_bits-requires
set_bits-requires c =
    let a = c.args in
    (fits 1048576 a.level a.sli a.words.now a.map.now a.permit.now c.in-Ok.ensures.0).permit

pub returns-in-Ok : goal.returns-in-Ok
returns-in-Ok c =
    rw (c.with_why.ensures, c.whole_verdict.ensures, c.set_bits.ensures, c.in-Ok.ensures.1) (judge_made _ _ _ _ _ _ c.in-Ok.ensures.0)

pub returns-in-Err : goal.returns-in-Err
returns-in-Err c = judge_refused _ _ _ _ _ _ _ c.in-Err.ensures
