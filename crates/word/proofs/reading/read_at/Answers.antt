use Prim.Native.Nat.{◌+◌}
use mathlib.Core.Path.{◌≡◌, sym, ap, ◌∙◌}
use mathlib.Core.List.{[]}
use lib.ListN.{length, get_or}
use borrow.Author.Rules.{rules}
use borrow.Author.Tests.{lt-ltb, le-ltb}
use Rattle.std.specs.declared.result.Result.TheVariants.{Ok, Err}
use Rattle.std.proofs.lemmas.Option.{unwrap_or-slice_get}
use Rattle.std.proofs.lemmas.Result.{err_from_is_err_and}
use Rattle.word.specs.First.{first}
use Rattle.word.specs.Setting.{refused_or, size_cases, SIZE}
use Rattle.word.specs.Reading.{read_at_of}
use Rattle.word.proofs.First.{choose_true, choose_false}
use Rattle.word.proofs.Settings.{refused_by, passed_by, hit, miss}
use Rattle.word.proofs.reading.read_at.Goals as goal

pub returns-in_err-check : goal.returns-in_err-check
unfolding read_at_of
returns-in_err-check c =
    let a = c.args in
    let p = err_from_is_err_and c.from_residual.result c.from_residual.ensures.1 in
    rw (p.1, p.2) (sym (refused_by a.setting (size_cases (length a.words.now)) Err _ _ (sym c.check.ensures ∙ c.in_err-check.was)))

pub returns-then-words-gt-MOST_WORDS : goal.returns-then-words-gt-MOST_WORDS
unfolding read_at_of
returns-then-words-gt-MOST_WORDS c =
    let a = c.args in
    sym (passed_by a.setting (size_cases (length a.words.now)) Err _ (sym c.check.ensures ∙ c.in_ok-check.was) ∙ hit SIZE [] Err _ (lt-ltb _ _ c.if-words-gt-MOST_WORDS.true))

pub returns-then-words-place : goal.returns-then-words-place
unfolding read_at_of refused_or first
returns-then-words-place c =
    let a = c.args in
    sym (passed_by a.setting (size_cases (length a.words.now)) Err _ (sym c.check.ensures ∙ c.in_ok-check.was) ∙ miss SIZE [] Err _ (le-ltb _ _ c.if-words-gt-MOST_WORDS.false) ∙ ap Ok (choose_false (le-ltb _ _ c.if-words-place.true) _ _))

pub returns : goal.returns
unfolding read_at_of refused_or first
returns c =
    let a = c.args in
    let next : c.unwrap_or-next.result ≡ get_or a.words.now (a.place + 1) 0 = search (rules, unwrap_or-slice_get) in
    rw (c.read_checked.ensures, next)
    (sym (passed_by a.setting (size_cases (length a.words.now)) Err _ (sym c.check.ensures ∙ c.in_ok-check.was) ∙ miss SIZE [] Err _ (le-ltb _ _ c.if-words-gt-MOST_WORDS.false) ∙ ap Ok (choose_true (lt-ltb _ _ c.if-words-place.false) _ _)))
