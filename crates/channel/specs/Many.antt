-- Steps one after another.
use Rattle.std.specs.Prelude.{ℕ, zero, suc, List}
use Rattle.channel.specs.Loan.{Loan, with_semaphores}
use Rattle.channel.specs.Stepping.{Outcome, step_of}
use Rattle.channel.specs.declared.record.Channel.{Channel}

-- The channel and the semaphore words between two steps.
pub record Moment : Type 0 where
  pub channel : Channel
  pub semaphores : List ℕ

-- the step at a moment: all is lent as at first but the semaphore words, which are the moment's
abbrev pub step_at : Loan → Moment → Outcome
step_at l m = step_of m.channel (with_semaphores l m.semaphores)

-- what n steps leave
unfoldable pub after : Loan → ℕ → Channel → Moment
after l zero c = record { channel = c; semaphores = l.puller.semaphores }
after l (suc n) c = let o = step_at l (after l n c) in record { channel = o.stepped.channel; semaphores = o.memory }
