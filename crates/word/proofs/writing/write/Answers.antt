use Prim.Native.Nat.{ℕ}
use mathlib.Core.Path.{◌≡◌, refl, sym, ap, ◌∙◌}
use mathlib.Core.Bool.{Bool, true}
use mathlib.Core.List.{List, [], ◌∷◌, ◌++◌}
use lib.ListN.{length}
use lib.Seq.{sets}
use Rattle.std.specs.declared.result.Result.{Result}
use Rattle.std.specs.declared.result.Result.TheVariants.{Ok, Err}
use Rattle.std.proofs.lemmas.Result.{err_from_is_err_and}
use Rattle.word.specs.Setting.{check_of}
use Rattle.word.specs.Form.{usable}
use Rattle.word.specs.Reading.{form, values}
use Rattle.word.specs.Parts.{numbers_fit}
use Rattle.word.specs.Writing.{own_words, write_of, out_after}
use Rattle.word.specs.Outcomes.{Writes}
use Rattle.word.specs.declared.setting.Refusal.{Refusal}
use Rattle.word.specs.declared.setting.Setting.{Setting}
use Rattle.word.specs.declared.reading.Reading.{Reading}
use Rattle.word.specs.declared.writing.Unwritten.{Unwritten}
use Rattle.word.specs.declared.writing.Unwritten.TheVariants as unwritten
use Rattle.word.proofs.Writer.{Past, one_word, two_words, by_setting, by_field, by_form, by_room, by_words}
use Rattle.word.proofs.writing.write.Goals as goal

-- an answer with the output that goes with it
module _ (s : Setting) (r : Reading) (out : List ℕ) where
  refused : {y : Unwritten} → write_of s r (length out) ≡ Err y → Writes s r out (Err y) out
  unfolding out_after
  refused e = record { answer = sym e; memory = refl }

  wrote : {k : ℕ} {ws : List ℕ} → own_words r ≡ ws → write_of s r (length out) ≡ Ok k → Writes s r out (Ok k) (sets out 0 ws)
  unfolding out_after
  wrote w e = record { answer = sym e; memory = ap (sets out 0) (sym w) }

-- what the tests before that of the room have shown
past : {s : Setting} {r : Reading} {o : Result Unit Refusal} {f : Bool}
    → o ≡ check_of s → o ≡ Ok tt → f ≡ numbers_fit ((form r).word ++ (form r).next) (values r) → f ≡ true → usable s (form r) ≡ true → Past s r
past o fine f fields there = record { fine = sym o ∙ fine; fields = sym f ∙ fields; there = there }

pub returns-in_err-check : goal.returns-in_err-check
returns-in_err-check c =
    let p = err_from_is_err_and c.from_residual.result c.from_residual.ensures.1 in
    rw (p.1, p.2) (refused _ _ _ (by_setting _ _ _ _ (sym c.check.ensures ∙ c.in_err-check.was)))

pub returns-then-not-fields_fit : goal.returns-then-not-fields_fit
returns-then-not-fields_fit c = rw c.from.ensures (refused _ _ _ (by_field _ _ _ (sym c.check.ensures ∙ c.in_ok-check.was) (sym c.fields_fit.ensures ∙ c.if-not-fields_fit.true)))

pub returns-in-Some : goal.returns-in-Some
returns-in-Some c =
    refused _ _ _
    (by_form _ _ _ (sym c.check.ensures ∙ c.in_ok-check.was) (sym c.fields_fit.ensures ∙ c.if-not-fields_fit.false) c.in-Some.ensures.0 ∙ ap (λ y. Err (unwritten.Form y)) (sym c.in-Some.ensures.1))

pub returns-then-out-lt1 : goal.returns-then-out-lt1
returns-then-out-lt1 c = rw c.from-then-out-lt1.ensures (refused _ _ _ (by_room _ _ _ (past c.check.ensures c.in_ok-check.was c.fields_fit.ensures c.if-not-fields_fit.false c.in_default.ensures) (one_word _ c.in_default-command.not-Long) c.if-out-lt1.true))

pub returns-in_default-command : goal.returns-in_default-command
returns-in_default-command c =
    let one = one_word _ c.in_default-command.not-Long ∙ ap (λ (w : ℕ). w ∷ []) (sym c.first_word.ensures) in
    wrote _ _ _ one (by_words _ _ _ (past c.check.ensures c.in_ok-check.was c.fields_fit.ensures c.if-not-fields_fit.false c.in_default.ensures) one c.if-out-lt1.false)

pub returns-then-out-lt2 : goal.returns-then-out-lt2
returns-then-out-lt2 c = rw c.from-then-out-lt2.ensures (refused _ _ _ (by_room _ _ _ (past c.check.ensures c.in_ok-check.was c.fields_fit.ensures c.if-not-fields_fit.false c.in_default.ensures) (two_words c.in-Long.is) c.if-out-lt2.true))

pub returns : goal.returns
returns c =
    let two = two_words c.in-Long.is ∙ ap (λ (w : ℕ). w ∷ c.in-Long.count ∷ []) (sym c.first_word-2.ensures) in
    wrote _ _ _ two (by_words _ _ _ (past c.check.ensures c.in_ok-check.was c.fields_fit.ensures c.if-not-fields_fit.false c.in_default.ensures) two c.if-out-lt2.false)
