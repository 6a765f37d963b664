-- `Whys`: reason 3 has the why of the word at its place. Assumes nothing.
use Prim.Native.Nat.{ℕ, ◌≤◌}
use mathlib.Core.Path.{◌≡◌, refl, sym, ap, ◌∙◌}
use mathlib.Core.Bool.{Bool}
use mathlib.Core.List.{List, [], ◌∷◌}
use mathlib.Core.Logic.{◌⊎◌, inl, inr, ⊎_elim}
use mathlib.Core.Option.{Option, none, some, none-ne-some}
use native.Mathlib.Omega.{arith}
use Rattle.std.specs.declared.result.Result.TheVariants.{Ok, Err}
use Rattle.word.specs.First.{choose, PlainCase, FirstIs, SomeHolds}
use Rattle.word.specs.Reading as reading
use Rattle.word.specs.Promises.{setting_plain}
use Rattle.word.specs.declared.setting.Setting.{Setting}
use Rattle.word.specs.declared.reading.Reading.{Reading}
use Rattle.word.proofs.Told.{why_back}
use Rattle.word.proofs.Forms.{forms, at_most_nine, accepted}
use Rattle.rules.specs.Next.{nexts}
use Rattle.rules.specs.Reason.{Submission, submission, command_at}
use Rattle.rules.specs.Judging.{with_why, verdict_of, setting_of}
use Rattle.rules.specs.Answers.{number, verdict_refusal, values, verdict_why}
use Rattle.rules.specs.Outcomes.{Judges}
use Rattle.rules.specs.Reasons.{next_plain, command_plain, Against, Whys}
use Rattle.rules.specs.declared.pair.Pair.{Pair}
use Rattle.rules.specs.Judging.{Verdict}
use Rattle.rules.specs.declared.judging.Unfit.TheVariants.{Rejected, Refused, Reserved}
use Rattle.rules.specs.declared.judging.Judgement.{Judgement}
use Rattle.rules.proofs.Answers.{told_rejected, number_kept, values_kept}
use Rattle.rules.proofs.Promises.{refused, judged_fits, judged_is}
use Rattle.rules.proofs.Reasons.{no_why, verdict_plain}

-- no case of a list has the number n, which then is not the first's
abbrev Without : ℕ → List PlainCase → Type 0
Without n [] = Unit {0}
Without n (c ∷ cs) = (c.number ≡ n → ⊥) × Without n cs

not_first : (n : ℕ) (cs : List PlainCase) → Without n cs → FirstIs cs n → ⊥
not_first n [] w f = f
not_first n (c ∷ cs) w (inl f) = w.0 (sym f.1)
not_first n (c ∷ cs) w (inr f) = not_first n cs w.1 f.1

-- so reason 3 is given of what is no command of NV04-style, and of nothing else
none_arrives : (x : Submission) (map : List ℕ) (qs : List Pair) → Without 3 (next_plain x map qs)
none_arrives x map [] = tt
none_arrives x map (q ∷ qs) = (λ e. omega arith, (λ e. omega arith, (λ e. omega arith, none_arrives x map qs)))

no_command : (x : Submission) (map : List ℕ) (d : Reading) (p : ℕ) (s : Bool) → FirstIs (command_plain x map d p s) 3 → (reading.number d ≡ 5) ⊎ (9 ≤ reading.number d)
no_command x map d p s (inl f) = f.0
no_command x map d p s (inr f) = absurd (not_first 3 (rest (command_plain x map d p s)) others f.1)
  where
    rest : List PlainCase → List PlainCase
    rest [] = []
    rest (c ∷ cs) = cs

    others : Without 3 (rest (command_plain x map d p s))
    others = (λ e. omega arith, (λ e. omega arith, (λ e. omega arith, (λ e. omega arith, (λ e. omega arith, (λ e. omega arith, (λ e. omega arith, none_arrives x map (nexts d p s))))))))

-- at a setting of NV04-style that is not refused that is a reserved word
module _ (s : Setting) (style : s.mode.number ≡ 0) (w : ℕ) (fine : SomeHolds (setting_plain s) → ⊥) where
  abbrev d : Reading
  d = reading.read_of s w 0

  not_long : reading.number d ≡ 5 → ⊥
  not_long e = omega (arith, ((forms.each s w 0 d refl fine).1.1.1.1.0.exactly.0 e).1)

  reserved_word : (reading.number d ≡ 5) ⊎ (9 ≤ reading.number d) → reading.number d ≡ 9
  reserved_word h =
      let most : reading.number d ≤ 9 = rw (accepted s w 0 d refl fine) (at_most_nine s w 0) in
      ⊎_elim (λ e. absurd (not_long e)) (λ n. omega arith) h

-- the why of a verdict that is a rejection
why_given : (x : Submission) (v : Verdict) (p : ℕ) → v ≡ Err (Rejected (record { number = 3 }) p) → reading.number (command_at x p) ≡ 9 → verdict_why (with_why x v) ≡ reading.why (command_at x p)
unfolding with_why verdict_why choose
why_given x v p e nine = rw e (why_back (command_at x p) nine)

-- a judgement that gives a reason is none that was refused
module _ (level : ℕ) (sli : Bool) (bytes map list : List ℕ) (r : Judgement) (j : Judges level sli bytes map list r) where
  given : {n : ℕ} → number r.verdict ≡ some n → verdict_refusal r.verdict ≡ none
  given {n} e = go (verdict_refusal r.verdict) refl
    where
      go : (o : Option ℕ) → verdict_refusal r.verdict ≡ o → o ≡ none
      go none h = refl
      go (some m) h = absurd (none-ne-some n (sym (refused.nothing_else level sli bytes map list r j m h).0 ∙ e))

  abbrev x : Submission
  x = submission (setting_of level sli) bytes list

  -- reason 3 stands at a reserved word
  nine : (p : ℕ) → Against x map 3 p → verdict_refusal r.verdict ≡ none → reading.number (command_at x p) ≡ 9
  nine p (inl a) h = absurd (omega arith)
  nine p (inr (narrow, inl a)) h = absurd (omega arith)
  nine p (inr (narrow, inr a)) h =
      let fit = judged_fits _ level sli bytes map list r j h in
      reserved_word (setting_of level sli) refl _
      (λ k. ⊎_elim (λ l. omega (arith, fit.level_fits)) (λ k. ⊎_elim (λ m. ⊎_elim (λ a. omega arith) (λ a. omega arith) m) (λ k. ⊎_elim (λ b. omega (arith, fit.sli_fits b.0)) (λ b. b) k) k) k)
      (no_command x map (command_at x p) p a.1.0 a.1.1.reason)

  at_place : (p : ℕ) → number r.verdict ≡ some 3 → values r.verdict ≡ p ∷ [] → (verdict_why r.verdict ≡ reading.why (command_at x p)) × (reading.number (command_at x p) ≡ 9)
  at_place p e v =
      let h = given e in
      let is : r.verdict ≡ with_why x (verdict_of x map) = ap (λ (y : Judgement). y.verdict) (judged_is _ level sli bytes map list r j h) in
      let told : verdict_of x map ≡ Err (Rejected (record { number = 3 }) p) =
      (told_rejected (verdict_of x map) 3 p (no_why x map)).0 (sym (number_kept x _) ∙ ap number (sym is) ∙ e, sym (values_kept x _) ∙ ap values (sym is) ∙ v) in
      let reserved = nine p ((verdict_plain x map (judged_fits _ level sli bytes map list r j h).bytes_map 3 p).0 told) h in
      (ap verdict_why is ∙ why_given x (verdict_of x map) p told reserved, reserved)

-- a verdict with a why has reason 3, and one with a reason has a place
reason_three : (v : Verdict) → (number v ≡ some 3 → ⊥) → verdict_why v ≡ none
unfolding number verdict_why
reason_three (Ok u) h = refl
reason_three (Err (Rejected r p)) h = refl
reason_three (Err (Refused n)) h = refl
reason_three (Err (Reserved y p)) h = absurd (h refl)

placed : (v : Verdict) (n : ℕ) → number v ≡ some n → (p : ℕ) × (values v ≡ p ∷ [])
unfolding number values
placed (Ok u) n e = absurd (none-ne-some n e)
placed (Err (Rejected r p)) n e = (p, refl)
placed (Err (Refused m)) n e = absurd (none-ne-some n e)
placed (Err (Reserved y p)) n e = (p, refl)

pub whys : Whys
whys =
    record {
      reserved = λ level sli bytes map list r p j e v. (at_place level sli bytes map list r j p e v).0;
      one = λ level sli bytes map list r j. (
        λ w e.
            let p = placed r.verdict 3 e in
            let a = at_place level sli bytes map list r j p.0 e p.1 in
            none-ne-some _ (sym w ∙ a.0 ∙ sym (why_back (command_at (submission (setting_of level sli) bytes list) p.0) a.1)),
        reason_three r.verdict,
      );
    }
