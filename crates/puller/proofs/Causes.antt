-- An error's number says whether it halts, and which it is. Assumes nothing.
use Rattle.std.proofs.Common.{◌≡◌, true, false, not, refl, ap, eq-eqb, ne_eqb}
use Rattle.std.specs.Prelude.{Option, Some, None}
use Rattle.event.specs.Promises.{StandsIn}
use Rattle.event.proofs.Promises.{numbered_told}
use Rattle.puller.specs.Record.{number, halts}
use Rattle.puller.specs.Promises.{error_list}
use Rattle.puller.specs.declared.record.PullerError.{PullerError}
use Rattle.puller.specs.declared.record.PullerError.TheVariants as cause

pub runs : (e : Option PullerError) → number e ≡ 0 → halts e ≡ false
unfolding halts
runs e h = ap not (eq-eqb _ _ h)

pub stands : (e : Option PullerError) → (number e ≡ 0 → ⊥) → halts e ≡ true
unfolding halts
stands e n = ap not (ne_eqb _ _ n)

-- an error by its number
pub error_numbered : StandsIn error_list number
unfolding number
error_numbered None = refl
error_numbered (Some cause.NoHash) = refl
error_numbered (Some cause.EmptySubchannel) = refl
error_numbered (Some cause.Semaphore1) = refl
error_numbered (Some cause.Semaphore2) = refl
error_numbered (Some cause.Semaphore3) = refl
error_numbered (Some cause.Semaphore4) = refl

pub error_told : (d e : Option PullerError) → number d ≡ number e → d ≡ e
error_told d e n = numbered_told error_list number error_numbered d e n
