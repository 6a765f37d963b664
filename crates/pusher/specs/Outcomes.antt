-- The contracts of the public functions, each as a predicate over inputs and answer.
use Rattle.std.specs.Prelude.{ℕ, ◌≡◌, Bool, Option}
use Rattle.pusher.specs.Record.{number, halts}
use Rattle.pusher.specs.Loan.{PusherLoan}
use Rattle.pusher.specs.Moving.{push_of}
use Rattle.pusher.specs.declared.record.Setup.{Setup}
use Rattle.pusher.specs.declared.record.PusherError.{PusherError}
use Rattle.pusher.specs.declared.record.Pusher.{Pusher}
use Rattle.pusher.specs.declared.moving.Pushed.{Pushed}

-- `PusherError::number`, `error_number` and `Pusher::stopped`
abbrev pub Numbers : Option PusherError → ℕ → Type 0
Numbers e r = r ≡ number e

abbrev pub Halts : Pusher → Bool → Type 0
Halts p r = r ≡ halts p.error

-- `push`, of a set-up, a pusher and what it is lent
abbrev pub Moves : Setup → Pusher → PusherLoan → Pushed → Type 0
Moves s p l r = r ≡ push_of s p l
