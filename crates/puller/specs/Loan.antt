-- What the puller is lent to take a method: the object table, the semaphore words, and the clock.
use Rattle.std.specs.Prelude.{ℕ, List}

pub record PullerLoan : Type 0 where
  pub table : List ℕ
  pub semaphores : List ℕ
  pub clock : ℕ

abbrev pub to_puller : List ℕ → List ℕ → ℕ → PullerLoan
to_puller t sems clock = record { table = t; semaphores = sems; clock = clock }

-- the loan with other semaphore words
abbrev pub with_semaphores : PullerLoan → List ℕ → PullerLoan
with_semaphores l sems = record { table = l.table; semaphores = sems; clock = l.clock }
