-- The event of a method that is taken tells the method, or that it failed. Assumes nothing.
use Rattle.std.proofs.Common.{◌≡◌, ℕ, ◌⊎◌, refl, inl, inr}
use Rattle.event.specs.declared.Kind.{Kind}
use Rattle.event.specs.declared.Kind.TheVariants as kind
use Rattle.event.specs.declared.Method.{Method}
use Rattle.event.specs.declared.Event.{Event}
use Rattle.event.specs.declared.Event.TheVariants.{Plain, Of}
use Rattle.puller.specs.Loan.{PullerLoan}
use Rattle.puller.specs.Taking.{Result, take_of}
use Rattle.puller.specs.declared.record.Puller.{Puller}
use Rattle.puller.proofs.Ways.{Way, failed, failed_bound, done, released, released_long, goes}

-- an event tells the method, or that it failed
abbrev pub Tells : Method → Event → Type 0
Tells m e = (e ≡ Plain kind.Error) ⊎ ((k : Kind) × (n : ℕ) × (e ≡ Of k (record { subchannel = m.subchannel; method = m.method; parameter = n })))

pub told : (m : Method) (k : Kind) (n : ℕ) → Tells m (Of k (record { subchannel = m.subchannel; method = m.method; parameter = n }))
told m k n = inr (k, n, refl)

-- what the puller says of a method that it takes
tells : {p : Puller} (m : Method) {l : PullerLoan} (o : Result) → Way p m l o → Tells m o.taken.event
tells m o (failed e) = inl refl
tells m o (failed_bound z) = inl refl
tells m o (done k x h) = told m k x
tells m o released = told m _ _
tells m o released_long = told m _ _

pub takes_tell : (level : ℕ) (p : Puller) (m : Method) (l : PullerLoan) → Tells m (take_of level p m l).taken.event
takes_tell level p m l = tells m _ (goes level p m l)
