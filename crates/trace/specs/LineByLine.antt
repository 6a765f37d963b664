-- The run line by line: how it begins, and what each line leaves.
use Rattle.std.specs.Prelude.{ℕ, ◌+◌, ◌%◌, false, not, List, [], ◌∷◌, eqb, ltb, length, take}
use Rattle.word.specs.First.{Case, ◌when◌, first}
use Rattle.word.specs.Lent.{words_of}
use Rattle.word.specs.Setting.{SIZE, LENGTH, refused_or}
use Rattle.channel.specs.Loan.{Loan, to_step}
use Rattle.channel.specs.Opening.{open_of}
use Rattle.channel.specs.Putting.{put_of}
use Rattle.channel.specs.Stepping.{Outcome, step_of}
use Rattle.channel.specs.declared.record.Channel.{Channel}
use Rattle.word.specs.declared.setting.Refusal.{Refusal}
use Rattle.event.specs.declared.Event.{Event}
use Rattle.std.specs.declared.result.Result.{Result}
use Rattle.std.specs.declared.result.Result.TheVariants.{Ok, Err}
use Rattle.trace.specs.Line.{line_of}
use Rattle.trace.specs.End.{Ending, ending_of}
use Rattle.trace.specs.Lines.{step_text, end_text, refused_text}
use Rattle.trace.specs.declared.line.Line.{Line}
use Rattle.std.specs.declared.option.Option.TheVariants.{None, Some}
use Rattle.trace.specs.declared.run.Stage.{Stage}
use Rattle.trace.specs.declared.run.Stage.TheVariants.{Refused, Running, Over}
use Rattle.trace.specs.declared.run.Trace.{Trace}
use Rattle.trace.specs.declared.run.Told.{Told}

-- W17: the words that are read from bytes, into so much room
abbrev pub fitting : List ℕ → List ℕ → List ℕ
fitting bytes room = take (length room) (words_of bytes)

-- T1: the channel of a run
abbrev pub fresh : Channel
fresh = (open_of 3 0 0 false 0 0xffffffff []).channel

abbrev pub trace_at : Stage → Channel → ℕ → Trace
trace_at s c n = record { stage = s; channel = c; steps = n }

-- R29: the program's order
abbrev pub program_cases : ℕ → List Case
program_cases bytes = SIZE when ltb 32768 bytes ∷ LENGTH when not (eqb (bytes % 4) 0) ∷ []

-- R29, T1: a run that is refused, or its channel with put at the end of the words
unfoldable pub begin_of : ℕ → Trace
begin_of bytes = refused_or (λ r. trace_at (Refused r) fresh 0) (first (program_cases bytes)) (trace_at Running (put_of fresh bytes).channel 0)

-- T1: what each step is lent
abbrev pub lending : List ℕ → List ℕ → Loan
lending ws sems = to_step ws [] [] sems 0

-- What a line leaves: the line with the run after it, and the semaphore words.
pub record Leaving : Type 0 where
  pub told : Told
  pub memory : List ℕ

-- the last line of a run
abbrev pub closed : Trace → Line → Told
closed t l = record { line = l; trace = trace_at Over t.channel t.steps }

abbrev pub closing : Trace → List ℕ → List ℕ → Leaving
closing t line sems = record { told = closed t (line_of line); memory = sems }

-- T3: the line of a further step, with the read address before it; where the step is refused, the refusal's
unfoldable pub answered : Trace → Channel → List ℕ → Result Event Refusal → Leaving
answered t c memory (Ok e) =
    record {
      told = record { line = line_of (step_text (t.steps + 1) t.channel.pusher.get e); trace = trace_at Running c (t.steps + 1) };
      memory = memory;
    }
answered t c memory (Err r) = closing t (refused_text r.number) memory

abbrev pub stepped_on : Trace → Outcome → Leaving
stepped_on t o = answered t o.stepped.channel o.memory o.stepped.answer

-- T6, T7: the end line where the run has ended, else that of a further step
unfoldable pub or_end : Trace → List ℕ → List ℕ → Ending → Leaving
or_end t ws sems None = stepped_on t (step_of t.channel (lending ws sems))
or_end t ws sems (Some e) = closing t (end_text e t.steps t.channel.pusher.get t.channel.puller.reference) sems

abbrev pub running : Trace → List ℕ → List ℕ → Leaving
running t ws sems = or_end t ws sems (ending_of t.channel t.steps)

-- T2: a refusal's line, the run's next one, or nothing more
unfoldable pub by_stage : Trace → List ℕ → List ℕ → Stage → Leaving
by_stage t ws sems (Refused r) = closing t (refused_text r.number) sems
by_stage t ws sems Running = running t ws sems
by_stage t ws sems Over = closing t [] sems

abbrev pub tell_of : Trace → List ℕ → List ℕ → Leaving
tell_of t ws sems = by_stage t ws sems t.stage
