-- The promises about the trace, each under its name in specs/Promises.antt. Assumes nothing.
use Prim.Native.Nat.{ℕ}
use mathlib.Core.Path.{◌≡◌, refl, sym, ap, ◌∙◌}
use mathlib.Core.List.{List}
use native.Mathlib.Omega.{arith}
use lib.ListN.{length}
use Rattle.word.proofs.First.{one_outcome}
use Rattle.channel.specs.Answers.{step_refusal}
use Rattle.channel.specs.Stepping.{Outcome, step_of}
use Rattle.word.specs.declared.setting.Refusal.{Refusal}
use Rattle.event.specs.declared.Event.{Event}
use Rattle.std.specs.declared.result.Result.{Result}
use Rattle.std.specs.declared.result.Result.TheVariants.{Ok, Err}
use Rattle.channel.proofs.Promises as channel
use Rattle.trace.specs.End.{Ending, ending_of}
use Rattle.trace.specs.LineByLine.{lending, Leaving, answered, or_end, by_stage}
use Rattle.trace.specs.Answers.{stage_number, cause_number, cause_values, cause_why, end_number, end_values, end_why, ending_number, ending_values, ending_why}
use Rattle.trace.specs.Promises.{Refused, One, Begun, Ended, Endings, Whole, Texts, Names, NextLine, Loaded, Printed, Cases}
use Rattle.std.specs.declared.option.Option.TheVariants.{None, Some}
use Rattle.trace.specs.declared.run.Stage.{Stage}
use Rattle.trace.specs.declared.run.Stage.TheVariants as stage
use Rattle.trace.specs.declared.run.Trace.{Trace}
use Rattle.trace.proofs.Loading.{all_fit, some_fit}
use Rattle.trace.proofs.Spelling as spelling
use Rattle.trace.proofs.Ends.{if_stopped, by_pusher, by_puller, not_stopped, idle_iff, step_iff, budget_iff}
use Rattle.trace.proofs.Beginning as beginning
use Rattle.trace.proofs.NextLine as next
use Rattle.trace.proofs.ToldLaws as told
use Rattle.trace.proofs.Turns.{prints, none_refused_there}
use Rattle.trace.proofs.Examples.{examples}

-- what is told last leaves channel and semaphore words
module _ (t : Trace) (ws sems : List ℕ) where
  abbrev Same : Leaving → Type 0
  Same o = stage_number o.told.trace.stage ≡ 3 → (o.told.trace.channel ≡ t.channel) × (o.memory ≡ sems)

  -- a refused step leaves the semaphore words
  abbrev stepped : Outcome
  stepped = step_of t.channel (lending ws sems)

  answer_same : (a : Result Event Refusal) → stepped.stepped.answer ≡ a → Same (answered t stepped.stepped.channel stepped.memory a)
  unfolding answered step_refusal stage_number
  answer_same (Ok e) h over = absurd (omega arith)
  answer_same (Err r) h over =
      (refl, ((channel.refused).step_unchanged t.channel (lending ws sems) stepped.memory stepped.stepped (record { answer = refl; memory = refl }) r.number (ap step_refusal h)).1)

  ending_same : (e : Ending) → Same (or_end t ws sems e)
  unfolding or_end
  ending_same None over = answer_same stepped.stepped.answer refl over
  ending_same (Some e) over = (refl, refl)

  tell_same : (s : Stage) → Same (by_stage t ws sems s)
  unfolding by_stage
  tell_same (stage.Refused r) over = (refl, refl)
  tell_same stage.Running over = ending_same (ending_of t.channel t.steps) over
  tell_same stage.Over over = (refl, refl)

pub refused : Refused
refused =
    record {
      begin = beginning.refusal_is;
      unchanged = λ t ws sems told exit h over. rw (h.answer, h.memory) (tell_same t ws sems t.stage (rw h.answer at over));
    }

pub one : One
one =
    record {
      step_line = λ step get e a b x y. one_outcome x y;
      end_line = λ e steps get ref a b x y. one_outcome x y;
      refused_line = λ n a b x y. one_outcome x y;
      ended = λ c steps a b x y. one_outcome x y;
      words_in = λ bytes words a b x y h k. (one_outcome h.answer k.answer, one_outcome h.memory k.memory);
      begin = λ bytes a b x y. one_outcome x y;
      next_line = λ t ws sems a b x y h k. (one_outcome h.answer k.answer, one_outcome h.memory k.memory);
    }

pub begun : Begun
begun = beginning.begun

pub ended : Ended
unfolding cause_number cause_values cause_why end_number end_values end_why ending_number ending_values ending_why
ended =
    record {
      pusher_error = λ c n a h e. let s = by_pusher c e in rw (h, if_stopped c n s.0, s.1) (refl, refl, refl);
      puller_error = λ c n a h z e. let s = by_puller c z e in rw (h, if_stopped c n s.0, s.1) (refl, refl, refl);
      idle = λ c n a b h i. rw (h, i) (idle_iff c n);
      further_step = λ c n a l exit r h m taken. rw h (step_iff c n l exit r m taken);
      budget = λ c n a b h x y i busy. rw h (budget_iff c n (not_stopped c x y) (sym i ∙ busy));
    }

pub endings : Endings
endings = told.endings

pub whole : Whole
whole = spelling.whole

pub texts : Texts
texts = spelling.texts

pub names : Names
names = spelling.names

pub next_line : NextLine
next_line = next.next_line

pub loaded : Loaded
loaded = record { all = all_fit; some = some_fit }

pub printed : Printed
printed =
    record {
      lines = λ bytes t narrow h. rw h (prints bytes narrow);
      none_refused = λ bytes t d sems exit r narrow h runs led m. none_refused_there bytes d sems exit r narrow (sym (beginning.refusal_first (length bytes) t h) ∙ runs) (rw h at led) m;
    }

pub cases : Cases
cases = examples
