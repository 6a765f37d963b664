-- The promises, each proved under its name. (Those that take more than a few lines stand in files of their own: Reasons, SoundMoves,
-- Sound, ExactIsOne, Examples.) Assumes nothing.
use Prim.Native.Nat.{ℕ, ◌*◌, ◌/◌, ◌%◌, ◌≤◌}
use mathlib.Core.Path.{◌≡◌, refl, sym, ap, ◌∙◌}
use mathlib.Core.Bool.{Bool, true}
use mathlib.Core.List.{List}
use mathlib.Core.Logic.{◌↔◌}
use mathlib.Core.Option.{Option, none, some, some-injective}
use native.Mathlib.Omega.{arith}
use lib.ListN.{length}
use Rattle.std.specs.declared.option.Option as code
use Rattle.std.specs.declared.option.Option.TheVariants.{None, Some}
use Rattle.word.specs.First.{first, FirstIs}
use Rattle.word.specs.declared.setting.Refusal.{Refusal}
use Rattle.word.proofs.First.{by_test, one_outcome, first_is}
use Rattle.word.proofs.Settings.{told_first, told_plain}
use Rattle.channel.proofs.Refusals.{refused_is, accepted_is}
use Rattle.rules.specs.Reason.{Submission, submission}
use Rattle.rules.specs.Judging.{judge_cases, place_verdict, start_verdict, pair_verdict, verdict_of, refusing, setting_of, judged, judge_up_to}
use Rattle.rules.specs.Answers.{submit_refusal, number, verdict_refusal}
use Rattle.rules.specs.Outcomes.{HandsIn}
use Rattle.rules.specs.declared.submission.Submission as code_submission
use Rattle.std.specs.declared.result.Result.{Result}
use Rattle.std.specs.declared.result.Result.TheVariants.{Ok, Err}
use Rattle.rules.specs.Promises.{judge_plain, Lengths, Refused, SameHandedIn, One, Counted, Complete, NoneBad}
use Rattle.rules.specs.Reasons.{Submitted}
use Rattle.rules.specs.declared.judging.FirstRefused.{FirstRefused}
use Rattle.rules.specs.Judging.{Verdict}
use Rattle.rules.specs.declared.judging.Judgement.{Judgement}
use Rattle.word.proofs.Bytes.{words_length}
use Rattle.rules.proofs.Answers.{accepts, refusal_kept, accepted_kept}
use Rattle.rules.proofs.Table.{lengths_plain, judge_agree, none_told, Fits, unrefused, fits, passed}
use Rattle.rules.proofs.Counted.{count_pairs}
use Rattle.rules.proofs.Clean.{one_of_three, clean}
use Rattle.rules.proofs.Complete.{complete_verdict, reached_none_bad}

-- what an answer tells of the table
abbrev tells : Judgement → Option ℕ
tells r = verdict_refusal r.verdict

tells_number : (n : Refusal) → tells (refusing n) ≡ some n.number
unfolding verdict_refusal
tells_number n = refl

-- a refusal is its number
same_number : {n m : Refusal} → some n.number ≡ some m.number → n ≡ m
same_number {n} {m} e = ap (λ (k : ℕ). record { number = k }) (some-injective _ _ e)

same_handed_in :
    (most level : ℕ) (sli : Bool) (bytes map list : List ℕ) (a b : Result code_submission.Submission Refusal)
    → HandsIn most level sli bytes map list a
    → HandsIn most level sli bytes map list b
    → SameHandedIn a b
same_handed_in most level sli bytes map list (Ok x) (Ok y) h k = (
  ap (λ (z : Submission). z.setting) (h.1 ∙ sym k.1),
  h.2 ∙ sym k.2,
  ap (λ (z : Submission). z.permit) (h.1 ∙ sym k.1),
)
same_handed_in most level sli bytes map list (Ok x) (Err m) h k = cc (h.0, k)
same_handed_in most level sli bytes map list (Err n) (Ok y) h k = cc (h, k.0)
same_handed_in most level sli bytes map list (Err n) (Err m) h k = same_number (sym h ∙ k)

pub one : One
one =
    record {
      counts = λ setting bytes list a b. one_outcome;
      reads_at = λ setting bytes list p a b. one_outcome;
      own_reason = λ setting bytes list d p s a b. one_outcome;
      marked_among = λ map p c a b. one_outcome;
      arrival = λ n q lacks a b. one_outcome;
      nexts = λ d p s a b. one_outcome;
      command_reason = λ setting bytes list m d p s ns a b. one_outcome;
      first_refused = λ setting bytes map list a b. one_outcome;
      submit = same_handed_in;
      no_such_lengths = λ bytes map list a b. one_outcome;
      judge = λ level sli bytes map list a b. one_outcome;
    }

pub lengths : Lengths
lengths bytes map list r is = rw is (lengths_plain bytes map list)

pub submitted : Submitted
submitted =
    record {
      setting = λ level sli. (refl, refl, refl);
      lent = λ s bytes list. (refl, refl, refl);
      how_many = λ s bytes list. words_length bytes;
      command = λ s bytes list p w r lent reads. sym (rw lent at reads);
      counts = λ s bytes list n is. is ∙ words_length bytes;
      reads_at = λ s bytes list p w d r lent reads is. is ∙ sym (rw lent at reads);
      submits = λ most level sli bytes map list x is. (
        ap (λ (y : Submission). y.setting) is.1,
        is.2,
        ap (λ (y : Submission). y.permit) is.1,
      );
    }

-- a judgement that is made refuses nothing
place_tells : (o : Option ℕ) → verdict_refusal (place_verdict o) ≡ none
unfolding place_verdict verdict_refusal
place_tells none = refl
place_tells (some p) = refl

pair_tells : (f : code.Option FirstRefused) → verdict_refusal (pair_verdict f) ≡ none
unfolding pair_verdict verdict_refusal
pair_tells None = refl
pair_tells (Some f) = refl

module _ (x : Submission) (map : List ℕ) where
  start_tells : verdict_refusal (start_verdict map) ≡ none
  unfolding start_verdict verdict_refusal
  start_tells = by_test (λ (v : Verdict). verdict_refusal v ≡ none) (λ e. refl) (λ e. refl)

  verdict_tells : verdict_refusal (verdict_of x map) ≡ none
  verdict_tells = one_of_three x map (λ v. verdict_refusal v ≡ none) (place_tells _) start_tells (pair_tells _)

module _ (most level : ℕ) (sli : Bool) (bytes map list : List ℕ) (r : Judgement) (j : r ≡ judge_up_to most level sli bytes map list) where
  judged_tells : tells (judged level sli bytes map list) ≡ none
  judged_tells = let x = submission (setting_of level sli) bytes list in refusal_kept x (verdict_of x map) ∙ verdict_tells x map

  exactly : (n : ℕ) → tells r ≡ some n ↔ FirstIs (judge_plain most level sli bytes map list) n
  unfolding judge_up_to
  exactly =
      told_plain refusing tells tells_number (judge_cases most level sli bytes map list) (judge_plain most level sli bytes map list) (judged level sli bytes map list) r (judge_agree most level sli bytes map list) judged_tells j

  nothing_else : (n : ℕ) → tells r ≡ some n → (number r.verdict ≡ none) × (r.count ≡ 0)
  unfolding judge_up_to number
  nothing_else n e =
      let is = j ∙ refused_is refusing tells tells_number (first (judge_cases most level sli bytes map list)) (judged level sli bytes map list) n judged_tells (rw j at e) in
      rw is (refl, refl)

  -- where nothing is refused, the table has been passed, and the answer is the judgement
  pub judged_fits : tells r ≡ none → Fits most level sli bytes map list
  unfolding judge_up_to
  judged_fits e =
      fits most level sli bytes map list
      (sym (told_first refusing tells tells_number (judge_cases most level sli bytes map list) (judged level sli bytes map list) r judged_tells j) ∙ e)

  pub judged_is : tells r ≡ none → r ≡ judged level sli bytes map list
  unfolding judge_up_to
  judged_is e = j ∙ accepted_is refusing tells tells_number (first (judge_cases most level sli bytes map list)) (judged level sli bytes map list) (rw j at e)

  -- sizes that the table does not refuse
  sized : level ≤ 5 → (sli ≡ true → 3 ≤ level) → length bytes ≤ 4 * most → length bytes % 4 ≡ 0 → length map ≡ length bytes / 4 → length list ≡ 2048 → tells r ≡ none
  sized a b c d e f = none_told (tells r) (judge_plain most level sli bytes map list) exactly (unrefused most level sli bytes map list a b c d e f)

-- what is submitted tells of the table too
submit_tells : (most level : ℕ) (sli : Bool) (bytes map list : List ℕ) (r : Result code_submission.Submission Refusal) → HandsIn most level sli bytes map list r → submit_refusal r ≡ first (judge_cases most level sli bytes map list)
unfolding submit_refusal
submit_tells most level sli bytes map list (Ok x) is = sym is.0
submit_tells most level sli bytes map list (Err n) is = sym is

pub refused : Refused
refused =
    record {
      exactly = exactly _;
      nothing_else = nothing_else _;
      submitting = λ most level sli bytes map list r is n.
          rw (submit_tells most level sli bytes map list r is)
          (first_is (judge_cases most level sli bytes map list) (judge_plain most level sli bytes map list) (judge_agree most level sli bytes map list) n);
    }

pub counted : Counted
counted level sli bytes map list r h j e = rw (judged_is _ level sli bytes map list r j e) (count_pairs list h)

pub complete : Complete
complete level sli bytes map list r h j s fair exact =
    let x = submission (setting_of level sli) bytes list in
    let count = words_length bytes in
    let same = exact.bytes in
    let told = sized _ level sli bytes map list r j s.level_fits s.sli_fits s.words s.whole (omega arith) s.permit in
    ((accepts r.verdict).1 (rw (judged_is _ level sli bytes map list r j told) ((accepted_kept x (verdict_of x map)).1 (complete_verdict x map exact fair))), counted level sli bytes map list r h j told)

pub none_bad : NoneBad
none_bad level sli bytes map list r j a p b =
    let x = submission (setting_of level sli) bytes list in
    let h = passed _ level sli bytes map list r j a in
    reached_none_bad x map (clean x map h.0.bytes_map h.1) p b
