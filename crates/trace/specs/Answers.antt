-- The numbers of the answers that are enums, and their values: of a run's stage; and of the ends, in the order in which they are
-- tried, 0 where a run goes on.
use Rattle.std.specs.Prelude.{ℕ, List, [], ◌∷◌}
use Rattle.std.proofs.Math.Option.{Option, none, some}
use Rattle.pusher.specs.Record as pusher
use Rattle.puller.specs.Record as puller
use Rattle.trace.specs.declared.end.Cause.{Cause}
use Rattle.trace.specs.declared.end.Cause.TheVariants as cause
use Rattle.trace.specs.declared.end.End.{End}
use Rattle.trace.specs.declared.end.End.TheVariants.{Error, Idle, Budget}
use Rattle.trace.specs.End.{Ending}
use Rattle.std.specs.declared.option.Option.TheVariants.{None, Some}
use Rattle.trace.specs.declared.run.Stage.{Stage}
use Rattle.trace.specs.declared.run.Stage.TheVariants as stage

-- 1 a run that is refused, 2 one that goes on, 3 one that is over
unfoldable pub stage_number : Stage → ℕ
stage_number (stage.Refused r) = 1
stage_number stage.Running = 2
stage_number stage.Over = 3

-- the refusal's number, and none where nothing is refused
unfoldable pub stage_refusal : Stage → Option ℕ
stage_refusal (stage.Refused r) = some r.number
stage_refusal stage.Running = none
stage_refusal stage.Over = none

-- 1 the pusher, 2 the puller; and the error's number
unfoldable pub cause_number : Cause → ℕ
cause_number (cause.Pusher e) = 1
cause_number (cause.Puller e) = 2

unfoldable pub cause_values : Cause → List ℕ
cause_values (cause.Pusher e) = pusher.number e ∷ []
cause_values (cause.Puller e) = puller.number e ∷ []

-- S33: the number of a why, which RESERVED_CMD alone has
unfoldable pub cause_why : Cause → Option ℕ
cause_why (cause.Pusher e) = pusher.why e
cause_why (cause.Puller e) = none

-- 1 error, 2 idle, 3 budget; of an error, its cause's number and values
unfoldable pub end_number : End → ℕ
end_number (Error c) = 1
end_number Idle = 2
end_number Budget = 3

unfoldable pub end_values : End → List ℕ
end_values (Error c) = cause_number c ∷ cause_values c
end_values Idle = []
end_values Budget = []

unfoldable pub end_why : End → Option ℕ
end_why (Error c) = cause_why c
end_why Idle = none
end_why Budget = none

unfoldable pub ending_number : Ending → ℕ
ending_number None = 0
ending_number (Some e) = end_number e

unfoldable pub ending_values : Ending → List ℕ
ending_values None = []
ending_values (Some e) = end_values e

unfoldable pub ending_why : Ending → Option ℕ
ending_why None = none
ending_why (Some e) = end_why e
