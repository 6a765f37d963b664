-- Moves one after another. Assumes nothing.
use Prim.Native.Nat.{ℕ, zero, suc}
use mathlib.Core.Path.{◌≡◌, refl}
use mathlib.Core.List.{◌∷◌}
use mathlib.Core.Logic.{◌⊎◌, inl, inr}
use Rattle.event.specs.Event as event
use Rattle.event.specs.declared.Kind.TheVariants as kind
use Rattle.event.specs.declared.Method.{Method}
use Rattle.event.specs.declared.Event.TheVariants.{Of}
use Rattle.pusher.specs.Loan.{PusherLoan}
use Rattle.pusher.specs.Answers.{did_number, did_values, method_values, Tells}
use Rattle.pusher.specs.Many.{after_moves, Moved, unmoved, move}
use Rattle.pusher.specs.declared.record.Setup.{Setup}
use Rattle.pusher.specs.declared.record.Pusher.{Pusher}
use Rattle.pusher.specs.declared.moving.Did.{Did}
use Rattle.pusher.specs.declared.moving.Did.TheVariants as did
use Rattle.pusher.proofs.Told.{told, did_submit}

-- what a move that submits a method did
pub submits_is : (d : Did) (m : Method) → Tells d 2 (method_values m) ⊎ Tells d 1 (event.number kind.Discard ∷ method_values m) → (d ≡ did.Submit m) ⊎ (d ≡ did.Event (Of kind.Discard m))
unfolding did_number did_values event.values
submits_is d m (inl t) = inl (did_submit d m t)
submits_is d m (inr t) = inr (told d (did.Event (Of kind.Discard m)) t.number t.values)

-- n moves on what is lent are a number of moves on its words
pub moves_moved : (s : Setup) (l : PusherLoan) (n : ℕ) (p : Pusher) → Moved s l.words p (after_moves s l n p)
unfolding after_moves
moves_moved s l zero p = unmoved
moves_moved s l (suc n) p = move l _ (moves_moved s l n p) refl refl refl
