-- The numbers of the kinds, and what an event says as numbers.
use Rattle.std.specs.Prelude.{ℕ, List, [], ◌∷◌}
use Rattle.event.specs.declared.Kind.{Kind}
use Rattle.event.specs.declared.Kind.TheVariants as kind
use Rattle.event.specs.declared.Event.{Event}
use Rattle.event.specs.declared.Event.TheVariants.{Plain, Of}

-- S30: a kind's number
unfoldable pub number : Kind → ℕ
number kind.Command = 1
number kind.Count = 2
number kind.Bind = 3
number kind.Ref = 4
number kind.Event = 5
number kind.Dma = 6
number kind.Offset = 7
number kind.Acquire = 8
number kind.Release = 9
number kind.Wait = 10
number kind.Forward = 11
number kind.Error = 12
number kind.Entry = 13
number kind.Discard = 14
number kind.Idle = 15
number kind.Stopped = 16

-- S29: a kind, and of a method that is taken or discarded its subchannel, byte number and parameter
unfoldable pub values : Event → List ℕ
values (Plain k) = number k ∷ []
values (Of k m) = number k ∷ m.subchannel ∷ m.method ∷ m.parameter ∷ []
