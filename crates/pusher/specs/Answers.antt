-- What a move did, as numbers.
use Rattle.std.specs.Prelude.{ℕ, ◌≡◌, List, [], ◌∷◌}
use Rattle.event.specs.Event as event
use Rattle.event.specs.declared.Method.{Method}
use Rattle.pusher.specs.declared.moving.Did.{Did}
use Rattle.pusher.specs.declared.moving.Did.TheVariants as did

-- 1 an event by itself, 2 a method submitted to the puller
unfoldable pub did_number : Did → ℕ
did_number (did.Event e) = 1
did_number (did.Submit m) = 2

-- a method's subchannel, its byte number and its parameter
abbrev pub method_values : Method → List ℕ
method_values m = m.subchannel ∷ m.method ∷ m.parameter ∷ []

-- the event's values, or the method's
unfoldable pub did_values : Did → List ℕ
did_values (did.Event e) = event.values e
did_values (did.Submit m) = method_values m

-- what a move did has this number and these values
pub record Tells (d : Did) (k : ℕ) (said : List ℕ) : Type 0 where
  pub number : did_number d ≡ k
  pub values : did_values d ≡ said
