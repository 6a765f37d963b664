use Rattle.std.proofs.Common.{◌<◌, ◌≤◌, ◌⊎◌, refl, inl, inr, arith}
use Rattle.puller.proofs.taking.take.Goals.{in_default-via-then-method-lt384, in_default-via-else-method-lt384+else-method-lt509, then-method-lt16, else-method-lt16+else-method-lt37+then-method-lt256}
use Rattle.puller.specs.Taking.{binds, refers, logs, binds_semaphore, offsets, acquires, releases, forwards, looks_and_forwards, act}
use Rattle.puller.proofs.Deeds.{none_beyond, numbered, logs_at, no_effect_at, looks_at, forwards_at, taken_by}
use Rattle.puller.proofs.taking.take.Goals as goal

pub returns-in-0 : goal.returns-in-0
unfolding act
returns-in-0 c = taken_by binds ((numbered _ _).bind c.in-0.is) c.bind.ensures refl

pub returns-in-80 : goal.returns-in-80
unfolding act
returns-in-80 c = taken_by refers ((numbered _ _).ref c.in-80.is) c.refer.ensures refl

pub returns-in-96 : goal.returns-in-96
unfolding act
returns-in-96 c = taken_by binds_semaphore ((numbered _ _).dma c.in-96.is) c.dma.ensures refl

pub returns-in-100 : goal.returns-in-100
unfolding act
returns-in-100 c = taken_by offsets ((numbered _ _).offset c.in-100.is) c.offset.ensures refl

pub returns-in-104 : goal.returns-in-104
unfolding act
returns-in-104 c = taken_by acquires ((numbered _ _).acquire c.in-104.is) c.acquire.ensures refl

pub returns-in-108 : goal.returns-in-108
unfolding act
returns-in-108 c =
    taken_by releases ((numbered _ _).release c.in-108.is) c.release.ensures.answer c.release.ensures.memory

pub returns-in-128 : goal.returns-in-128
unfolding act
returns-in-128 c = taken_by logs (logs_at _ _ (inl c.in-128.is)) c.done.ensures refl

pub returns-in-16-to-36 : goal.returns-in-16-to-36
unfolding act
returns-in-16-to-36 c = c.long.ensures _

pub returns-in-384-to-508 : goal.returns-in-384-to-508
unfolding act
returns-in-384-to-508 c = taken_by looks_and_forwards (looks_at _ _ (omega arith) (omega arith)) c.forward_object.ensures refl

pub returns-in_default : goal.returns-in_default
unfolding act
returns-in_default c =
    taken_by forwards
    (forwards_at _ _ (omega arith)
    (elim c.in_default.branch [
      | in_default-via-then-method-lt384 w ↦ inl (omega arith)
      | in_default-via-else-method-lt384+else-method-lt509 w ↦ inr (omega arith)
    ]))
    c.forward.ensures refl

pub returns-in-0-to-255 : goal.returns-in-0-to-255
unfolding act
returns-in-0-to-255 c =
    let n = c.args.method.method in
    let below : n < 0x100 = elim c.in-0-to-255-1.branch [ then-method-lt16 w ↦ omega arith | else-method-lt16+else-method-lt37+then-method-lt256 w ↦ omega arith ] in
    let outside : (n < 0x10) ⊎ (0x25 ≤ n) = elim c.in-0-to-255-1.branch [ then-method-lt16 w ↦ inl (omega arith) | else-method-lt16+else-method-lt37+then-method-lt256 w ↦ inr (omega arith) ] in
    taken_by logs
    (no_effect_at _ _ below (λ e. omega arith) (λ e. omega arith) (λ e. omega arith) (λ e. omega arith) (λ e. omega arith) (λ e. omega arith) (λ h. none_beyond _ outside h.1))
    c.done-in-0-to-255.ensures refl
