-- What is lent to a step, as one thing: what speaks of a step names it whole, whatever is in it.
use Rattle.std.specs.Prelude.{ℕ, List}
use Rattle.puller.specs.Loan as puller
use Rattle.puller.specs.Loan.{PullerLoan, to_puller}
use Rattle.pusher.specs.Loan.{PusherLoan, to_pusher}

-- What a step is lent: what either half is.
pub record Loan : Type 0 where
  pub pusher : PusherLoan
  pub puller : PullerLoan

-- of words, IB entries, object table, semaphore words and the clock
abbrev pub to_step : List ℕ → List ℕ → List ℕ → List ℕ → ℕ → Loan
to_step ws es t sems clock = record { pusher = to_pusher ws es; puller = to_puller t sems clock }

-- the loan with other semaphore words
abbrev pub with_semaphores : Loan → List ℕ → Loan
with_semaphores l sems = record { pusher = l.pusher; puller = puller.with_semaphores l.puller sems }
