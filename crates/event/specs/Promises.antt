-- The promises about kinds and events, each proved under its own name in proofs/.
use Rattle.std.specs.Prelude.{ℕ, ◌≡◌, List, [], ◌∷◌, map, get_or}
use Rattle.std.proofs.Math.Option.{Option, none, some}
use Rattle.event.specs.Event.{number, values}
use Rattle.event.specs.Outcomes.{Numbers}
use Rattle.event.specs.declared.Kind.{Kind}
use Rattle.event.specs.declared.Kind.TheVariants as kind
use Rattle.event.specs.declared.Event.{Event}

-- The contract leaves one outcome.
abbrev pub One : Type 0
One = (k : Kind) (a b : ℕ) → Numbers k a → Numbers k b → a ≡ b

-- Every x of a type stands in a list, at the place that its number counts, from 0; a place that is nobody's has none.
abbrev pub StandsIn : {A : Type 0} → List (Option A) → (A → ℕ) → Type 0
StandsIn {A = A} list number_of = (x : A) → get_or list (number_of x) none ≡ some x

-- S30: the kinds in order, from 1; a kind's number is its place in this list.
abbrev pub kind_list : List (Option Kind)
kind_list =
    none
    ∷ map some
    (kind.Command ∷ kind.Count ∷ kind.Bind ∷ kind.Ref ∷ kind.Event ∷ kind.Dma ∷ kind.Offset ∷ kind.Acquire ∷ kind.Release ∷ kind.Wait ∷ kind.Forward ∷ kind.Error ∷ kind.Entry ∷ kind.Discard ∷ kind.Idle ∷ kind.Stopped ∷ [])

-- S30: every kind stands there
abbrev pub Kinds : Type 0
Kinds = StandsIn kind_list number

-- S29: an event is told by its numbers: what a promise says of an event, it says of them.
abbrev pub Told : Type 0
Told = (x y : Event) → values x ≡ values y → x ≡ y
