-- What the program prints of the bytes on its input, as a whole (docs/CARD.md, T).
use Rattle.std.specs.Prelude.{ℕ, zero, suc, ◌+◌, Bool, true, false, List, [], ◌++◌, length, replicate}
use Rattle.word.specs.First.{first}
use Rattle.word.specs.Lowest.{lowest}
use Rattle.word.specs.Lent.{words_of}
use Rattle.word.specs.Setting.{refused_or}
use Rattle.channel.specs.Loan.{Loan}
use Rattle.channel.specs.Many.{Moment, step_at, after}
use Rattle.channel.specs.Stepping.{Outcome}
use Rattle.channel.specs.declared.record.Channel.{Channel}
use Rattle.word.specs.declared.setting.Refusal.{Refusal}
use Rattle.event.specs.declared.Event.{Event}
use Rattle.std.specs.declared.result.Result.{Result}
use Rattle.std.specs.declared.result.Result.TheVariants.{Ok, Err}
use Rattle.trace.specs.Text.{or_else}
use Rattle.trace.specs.End.{Ending, ending_of}
use Rattle.trace.specs.Lines.{step_text, end_text, refused_text}
use Rattle.trace.specs.LineByLine.{program_cases, begin_of, lending}
use Rattle.std.specs.declared.option.Option.TheVariants.{None, Some}

-- T1: what the run is lent: the words that the bytes are, and at first 1,024 semaphore words that are 0
abbrev pub lent_for : List ℕ → Loan
lent_for bytes = lending (words_of bytes) (replicate 1024 0)

-- after n steps, and the step after them
abbrev pub moment_after : List ℕ → ℕ → Moment
moment_after bytes n = after (lent_for bytes) n (begin_of (length bytes)).channel

abbrev pub step_after : List ℕ → ℕ → Outcome
step_after bytes n = step_at (lent_for bytes) (moment_after bytes n)

abbrev pub ending_at : List ℕ → ℕ → Ending
ending_at bytes n = ending_of (moment_after bytes n).channel n

unfoldable pub over? : Ending → Bool
over? None = false
over? (Some e) = true

-- T6: how many steps the run makes: the lowest number after which it has ended, which 65,536 is at the latest
unfoldable pub steps_of : List ℕ → ℕ
steps_of bytes = or_else (lowest (λ n. over? (ending_at bytes n)) 65536) 65536

-- the line of a step; none of this run is refused (`Printed`)
unfoldable pub answer_text : ℕ → ℕ → Result Event Refusal → List ℕ
answer_text step get (Ok e) = step_text step get e
answer_text step get (Err r) = refused_text r.number

abbrev pub line_after : List ℕ → ℕ → List ℕ
line_after bytes n = answer_text (n + 1) (moment_after bytes n).channel.pusher.get (step_after bytes n).stepped.answer

-- the lines of k steps after the first n
unfoldable pub lines_from : List ℕ → ℕ → ℕ → List ℕ
lines_from bytes n zero = []
lines_from bytes n (suc k) = line_after bytes n ++ lines_from bytes (suc n) k

-- T7: the end line, after n steps
unfoldable pub line_of_end : Ending → ℕ → Channel → List ℕ
line_of_end None n c = []
line_of_end (Some e) n c = end_text e n c.pusher.get c.puller.reference

unfoldable pub run_text : List ℕ → List ℕ
run_text bytes = lines_from bytes 0 (steps_of bytes) ++ line_of_end (ending_at bytes (steps_of bytes)) (steps_of bytes) (moment_after bytes (steps_of bytes)).channel

-- T2: a refusal alone, or the run
unfoldable pub printed : List ℕ → List ℕ
printed bytes = refused_or (λ r. refused_text r.number) (first (program_cases (length bytes))) (run_text bytes)
