-- The contracts of the public functions, each as a predicate over inputs, answer and lent memory.
use Rattle.std.specs.Prelude.{ℕ, ◌≡◌, List, length}
use Rattle.std.proofs.lemmas.List.Edits.{sets}
use Rattle.word.specs.declared.setting.Refusal.{Refusal}
use Rattle.event.specs.declared.Event.{Event}
use Rattle.channel.specs.declared.record.Channel.{Channel}
use Rattle.trace.specs.Line.{line_of}
use Rattle.trace.specs.Lines.{step_text, end_text, refused_text}
use Rattle.trace.specs.End.{Ending, ending_of}
use Rattle.trace.specs.LineByLine.{fitting, begin_of, Leaving, tell_of}
use Rattle.trace.specs.declared.line.Line.{Line}
use Rattle.trace.specs.declared.end.End.{End}
use Rattle.trace.specs.declared.run.Trace.{Trace}
use Rattle.trace.specs.declared.run.Told.{Told}

-- `step_line`, of the step's number, the read address before it, and its event
abbrev pub StepLine : ℕ → ℕ → Event → Line → Type 0
StepLine step get e r = r ≡ line_of (step_text step get e)

-- `end_line`, of the end, how many steps there were, the read address and the reference counter
abbrev pub EndLine : End → ℕ → ℕ → ℕ → Line → Type 0
EndLine e steps get ref r = r ≡ line_of (end_text e steps get ref)

-- `refused_line`
abbrev pub RefusedLine : Refusal → Line → Type 0
RefusedLine n r = r ≡ line_of (refused_text n.number)

-- `ended`, of a channel and how many steps it has made
abbrev pub Ends : Channel → ℕ → Ending → Type 0
Ends c steps r = r ≡ ending_of c steps

-- `words_in`, of bytes and the lent words at entry: how many words were read, and the lent words at exit
pub record Loads (bytes words : List ℕ) (r : ℕ) (exit : List ℕ) : Type 0 where
  pub answer : r ≡ length (fitting bytes words)
  pub memory : exit ≡ sets words 0 (fitting bytes words)

-- `begin`, of the number of bytes
abbrev pub Begins : ℕ → Trace → Type 0
Begins bytes r = r ≡ begin_of bytes

-- a line with its run, and the semaphore words at exit, are what is left
pub record Leaves (o : Leaving) (r : Told) (exit : List ℕ) : Type 0 where
  pub answer : r ≡ o.told
  pub memory : exit ≡ o.memory

-- `next_line`, of a run, its words and the semaphore words
abbrev pub Tells : Trace → List ℕ → List ℕ → Told → List ℕ → Type 0
Tells t ws sems r exit = Leaves (tell_of t ws sems) r exit
