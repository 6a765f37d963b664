-- The contracts of the public functions, each as a predicate over inputs, answer, channel and lent memory.
use Rattle.std.specs.Prelude.{ℕ, ◌≡◌, Bool, List}
use Rattle.channel.specs.Loan.{Loan}
use Rattle.channel.specs.Opening.{open_of}
use Rattle.channel.specs.Putting.{put_of}
use Rattle.channel.specs.Stepping.{Effect, step_of}
use Rattle.channel.specs.Idle.{idles}
use Rattle.channel.specs.declared.record.Channel.{Channel}
use Rattle.channel.specs.declared.opening.Opened.{Opened}
use Rattle.channel.specs.declared.putting.Put.{Put}
use Rattle.channel.specs.declared.stepping.Acted.{Acted}
use Rattle.channel.specs.declared.stepping.Stepped.{Stepped}

-- `Channel::open`, of level, mode, ib_order, SLI, mask, limit and table: answer and channel
abbrev pub Opens : ℕ → ℕ → ℕ → Bool → ℕ → ℕ → List ℕ → Opened → Type 0
Opens level mode order sli mask limit table r = r ≡ open_of level mode order sli mask limit table

-- `Channel::set_put`: answer and channel
abbrev pub Puts : Channel → ℕ → Put → Type 0
Puts c n r = r ≡ put_of c n

-- `Channel::step`, of what is lent at entry: answer with its channel, and the semaphore memory at exit
pub record StepsTo (c : Channel) (l : Loan) (r : Stepped) (exit : List ℕ) : Type 0 where
  pub answer : r ≡ (step_of c l).stepped
  pub memory : exit ≡ (step_of c l).memory

-- the part of it that acts on the halves
pub record Affects (x : Effect) (r : Acted) (exit : List ℕ) : Type 0 where
  pub answer : r ≡ x.acted
  pub memory : exit ≡ x.memory

-- `Channel::idle`
abbrev pub Idles : Channel → Bool → Type 0
Idles c r = r ≡ idles c
