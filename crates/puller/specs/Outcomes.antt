-- The contracts of the public functions, each as a predicate over inputs, answer and lent memory.
use Rattle.std.specs.Prelude.{◌≡◌, ℕ, Bool, List, Option}
use Rattle.word.specs.declared.setting.Level.{Level}
use Rattle.event.specs.declared.Method.{Method}
use Rattle.puller.specs.Loan.{PullerLoan, to_puller}
use Rattle.puller.specs.Object.{lookup_of, repeat_of}
use Rattle.puller.specs.Record.{number, halts}
use Rattle.puller.specs.Taking.{Result, take_of, retry_of}
use Rattle.puller.specs.declared.object.Object.{Object}
use Rattle.puller.specs.declared.record.PullerError.{PullerError}
use Rattle.puller.specs.declared.record.Puller.{Puller}
use Rattle.puller.specs.declared.taking.Taken.{Taken}

-- `lookup`, of a table and a handle
abbrev pub Finds : List ℕ → ℕ → Option Object → Type 0
Finds t h r = r ≡ lookup_of t h

-- `first_repeat`, of a table
abbrev pub Repeats : List ℕ → Option ℕ → Type 0
Repeats t r = r ≡ repeat_of t

-- `error_number`, `PullerError::number` of the error that it has, and `Puller::stopped`
abbrev pub Numbers : Option PullerError → ℕ → Type 0
Numbers e r = r ≡ number e

abbrev pub Halts : Puller → Bool → Type 0
Halts p r = r ≡ halts p.error

-- `take`, of a level, a puller, a method and what is lent at entry: what is taken, and the semaphore memory at exit
pub record Takes (level : Level) (p : Puller) (m : Method) (l : PullerLoan) (r : Taken) (exit : List ℕ) : Type 0 where
  pub answer : r ≡ (take_of level.number p m l).taken
  pub memory : exit ≡ (take_of level.number p m l).memory

-- the parts of it that write, each by what it leaves; and the part that looks at no table
pub record Writes (o : Result) (r : Taken) (exit : List ℕ) : Type 0 where
  pub answer : r ≡ o.taken
  pub memory : exit ≡ o.memory

abbrev pub TakesLong : Level → Puller → Method → List ℕ → ℕ → Taken → List ℕ → Type 0
TakesLong level p m sems clock r exit = (table : List ℕ) → Takes level p m (to_puller table sems clock) r exit

-- `retry`, of a level, a puller and the semaphore memory, which it leaves
abbrev pub Retries : Level → Puller → List ℕ → Taken → Type 0
Retries level p sems r = r ≡ retry_of level.number p sems
