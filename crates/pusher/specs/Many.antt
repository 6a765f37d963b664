-- Moves one after another.
use Rattle.std.specs.Prelude.{ℕ, zero, suc, ◌≡◌, List, ◌∷◌, ◌⊎◌}
use Rattle.event.specs.Event as event
use Rattle.event.specs.declared.Kind.TheVariants as kind
use Rattle.event.specs.declared.Method.{Method}
use Rattle.pusher.specs.Loan.{PusherLoan}
use Rattle.pusher.specs.Moving.{push_of}
use Rattle.pusher.specs.Answers.{method_values, Tells}
use Rattle.pusher.specs.Outcomes.{Moves}
use Rattle.pusher.specs.declared.record.Setup.{Setup}
use Rattle.pusher.specs.declared.record.Pusher.{Pusher}
use Rattle.pusher.specs.declared.moving.Pushed.{Pushed}

-- the pusher after n moves, each on what is lent
unfoldable pub after_moves : Setup → PusherLoan → ℕ → Pusher → Pusher
after_moves s l zero p = p
after_moves s l (suc n) p = (push_of s (after_moves s l n p) l).pusher

-- q comes of p by any number of moves on these words, whatever else is lent to each
pub data Moved (s : Setup) (ws : List ℕ) (p : Pusher) : Pusher → Type 0 where
  unmoved : Moved s ws p p
  move : {q t : Pusher} (l : PusherLoan) (x : Pushed) → Moved s ws p q → l.words ≡ ws → Moves s q l x → t ≡ x.pusher → Moved s ws p t

-- a move submits a method: it is handed to the puller, or discarded
abbrev pub Submits : Pushed → Method → Type 0
Submits x m = Tells x.did 2 (method_values m) ⊎ Tells x.did 1 (event.number kind.Discard ∷ method_values m)
