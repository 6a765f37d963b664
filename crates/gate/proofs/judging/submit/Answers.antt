use mathlib.Core.Path.{refl, sym, ◌∙◌}
use native.Mathlib.Omega.{arith}
use Rattle.std.proofs.lemmas.Result.{err_from_is_err_and}
use Rattle.rules.proofs.Refusals.{by_setting, by_size, by_length, unrefused}
use Rattle.gate.proofs.judging.submit.Goals as goal

pub returns-in_err-check : goal.returns-in_err-check
returns-in_err-check c =
    let p = err_from_is_err_and c.from_residual.result c.from_residual.ensures.1 in
    rw (p.1, p.2) (by_setting _ _ _ _ _ _ _ (sym c.check.ensures ∙ c.in_err-check.was))

pub returns-then-saturating_mul-words : goal.returns-then-saturating_mul-words
returns-then-saturating_mul-words c = by_size _ _ _ _ _ _ (sym c.check.ensures ∙ c.in_ok-check.was) (omega arith)

pub returns-then-no_such_lengths : goal.returns-then-no_such_lengths
returns-then-no_such_lengths c =
    by_length _ _ _ _ _ _ (sym c.check.ensures ∙ c.in_ok-check.was) (omega arith) (sym c.no_such_lengths.ensures ∙ c.if-no_such_lengths.true)

pub returns : goal.returns
returns c =
    (unrefused _ _ _ _ _ _ (sym c.check.ensures ∙ c.in_ok-check.was) (omega arith) (sym c.no_such_lengths.ensures ∙ c.if-no_such_lengths.false), refl, refl)
