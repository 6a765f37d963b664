-- The numbers of the answers that are enums: the refusal's, and none where nothing is refused; and what else an answer says.
use Rattle.std.specs.Prelude.{ℕ, List, [], ◌∷◌, Result, Ok, Err, ⊤}
use Rattle.std.proofs.Math.Option.{Option, none, some}
use Rattle.event.specs.Event.{values}
use Rattle.word.specs.declared.setting.Refusal.{Refusal}
use Rattle.event.specs.declared.Event.{Event}
use Rattle.channel.specs.declared.opening.Unopened.{Unopened}
use Rattle.channel.specs.declared.opening.Unopened.TheVariants.{Refused, Duplicate}

unfoldable pub opening_refusal : Result ⊤ Unopened → Option ℕ
opening_refusal (Ok u) = none
opening_refusal (Err (Refused r)) = some r.number
opening_refusal (Err (Duplicate i)) = some 6

unfoldable pub step_refusal : Result Event Refusal → Option ℕ
step_refusal (Ok e) = none
step_refusal (Err r) = some r.number

-- of a handle that stands twice, the entry
unfoldable pub opening_values : Result ⊤ Unopened → List ℕ
opening_values (Ok u) = []
opening_values (Err (Refused r)) = []
opening_values (Err (Duplicate i)) = i ∷ []

-- the event's kind, and the fields of a method that is taken or discarded
unfoldable pub answer_values : Result Event Refusal → List ℕ
answer_values (Ok e) = values e
answer_values (Err r) = []
