-- `NextLine`: the next line of a run, and what it leaves. Assumes nothing.
use Prim.Native.Nat.{ℕ, ◌+◌}
use mathlib.Core.Path.{◌≡◌, refl, sym, subst, ◌∙◌}
use mathlib.Core.List.{List, []}
use mathlib.Core.Option.{some}
use Rattle.word.specs.declared.setting.Refusal.{Refusal}
use Rattle.event.specs.Event.{values}
use Rattle.event.specs.declared.Event.{Event}
use Rattle.channel.specs.Answers.{step_refusal, answer_values}
use Rattle.channel.specs.Loan.{to_step}
use Rattle.channel.specs.Outcomes.{StepsTo}
use Rattle.channel.specs.Stepping.{step_of}
use Rattle.std.specs.declared.result.Result.{Result}
use Rattle.std.specs.declared.result.Result.TheVariants.{Ok, Err}
use Rattle.channel.specs.declared.stepping.Stepped.{Stepped}
use Rattle.channel.proofs.Answers.{says_event, says_refusal}
use Rattle.channel.proofs.Promises as channel
use Rattle.trace.specs.Line.{line_of}
use Rattle.trace.specs.Lines.{end_text, refused_text}
use Rattle.trace.specs.LineByLine.{lending, Leaving, closing, answered, or_end, by_stage}
use Rattle.trace.specs.Answers.{stage_number, stage_refusal, ending_number, ending_values, ending_why}
use Rattle.trace.specs.Outcomes.{RefusedLine, StepLine, Ends, Leaves, Tells}
use Rattle.trace.specs.Promises.{Closes, Counts, NextLine}
use Rattle.trace.specs.End.{Ending}
use Rattle.std.specs.declared.option.Option.TheVariants.{None, Some}
use Rattle.trace.specs.declared.run.Stage.{Stage}
use Rattle.trace.specs.declared.run.Trace.{Trace}
use Rattle.trace.specs.declared.run.Told.{Told}
use Rattle.trace.proofs.Room.{none_has}
use Rattle.trace.proofs.Telling.{by_answer}
use Rattle.trace.proofs.ToldLaws.{endings, goes_on, is_refused, is_running, is_over}

-- The next line of a run:
module _ (t : Trace) (ws sems : List ℕ) (told : Told) (exit : List ℕ) where
  -- its last,
  closes : (text memory : List ℕ) → memory ≡ sems → Leaves (closing t text memory) told exit → (told.line ≡ line_of text) × Closes t sems told exit
  unfolding stage_number
  closes text memory same x = rw (x.answer, x.memory) (refl, record { stage = refl; channel = refl; steps = refl; memory = same })

  module _ (h : Tells t ws sems told exit) where
    -- by its stage,
    staged : (s : Stage) → t.stage ≡ s → Leaves (by_stage t ws sems s) told exit
    staged s e = subst (λ (x : Stage). Leaves (by_stage t ws sems x) told exit) e h

    at_refused : (n : Refusal) → stage_refusal t.stage ≡ some n.number → (told.line ≡ line_of (refused_text n.number)) × Closes t sems told exit
    unfolding by_stage
    at_refused n s = closes (refused_text n.number) sems refl (staged _ (is_refused t.stage n.number s))

    at_over : stage_number t.stage ≡ 3 → (told.line ≡ line_of []) × Closes t sems told exit
    unfolding by_stage
    at_over s = closes [] sems refl (staged _ (is_over t.stage s))

    -- of one that runs, by its ending
    module _ (s : stage_number t.stage ≡ 2) (a : Ending) (is : Ends t.channel t.steps a) where
      ending : (b : Ending) → a ≡ b → Leaves (or_end t ws sems b) told exit
      unfolding by_stage
      ending b e = subst (λ (x : Ending). Leaves (or_end t ws sems x) told exit) (sym is ∙ e) (staged _ (is_running t.stage s))

      -- and of one that goes on, by what its step answers
      module _ (goes : ending_number a ≡ 0) (r : Stepped) (after : List ℕ) (m : StepsTo t.channel (to_step ws [] [] sems 0) r after) where
        answers : (b : Result Event Refusal) → r.answer ≡ b → Leaves (answered t r.channel after b) told exit
        unfolding or_end
        answers b e =
            subst (λ (x : Leaving). Leaves x told exit) (by_answer t (step_of t.channel (lending ws sems)) r after m.answer m.memory b e) (ending None (goes_on a goes))

        at_event : (e : Event) → answer_values r.answer ≡ values e → StepLine (t.steps + 1) t.channel.pusher.get e told.line × Counts t r after told exit
        unfolding answered stage_number
        at_event e v =
            let x = answers (Ok e) (says_event r.answer e v) in
            rw (x.answer, x.memory) (refl, record { stage = refl; channel = refl; steps = refl; memory = refl })

        at_refusal : (n : Refusal) → step_refusal r.answer ≡ some n.number → RefusedLine n told.line × Closes t sems told exit
        unfolding answered
        at_refusal n v =
            closes (refused_text n.number) after ((channel.refused).step_unchanged t.channel (to_step ws [] [] sems 0) after r m n.number v).1
            (answers (Err n) (says_refusal r.answer n.number v))

pub next_line : NextLine
unfolding or_end ending_number ending_values ending_why
next_line =
    record {
      refused = λ t ws sems told exit n h s. at_refused t ws sems told exit h n s;
      over = λ t ws sems told exit h s. let x = at_over t ws sems told exit h s in (none_has told.line x.0, x.1);
      end = λ t ws sems told exit a e h s is n v w. closes t ws sems told exit (end_text e t.steps t.channel.pusher.get t.channel.puller.reference) sems refl (ending t ws sems told exit h s a is (Some e) (endings a (Some e) n v w));
      step = λ t ws sems told exit a r after e h s is goes m v. at_event t ws sems told exit h s a is goes r after m e v;
      refused_step = λ t ws sems told exit a r after n h s is goes m v. at_refusal t ws sems told exit h s a is goes r after m n v;
    }
