use Rattle.std.proofs.Common.{refl}
use Rattle.word.proofs.Tests.{not_below}
use Rattle.puller.specs.Taking.{addresses_high, addresses_low, sequences, triggers, act}
use Rattle.puller.proofs.Deeds.{numbered, taken_by}
use Rattle.puller.proofs.record.Puller.long.Goals as goal

pub returns-in-16 : goal.returns-in-16
unfolding act
returns-in-16 c t = taken_by addresses_high ((numbered _ _).high (not_below c.if-lt.ensures) c.in-16.is) c.address_high.ensures refl

pub returns-in-20 : goal.returns-in-20
unfolding act
returns-in-20 c t = taken_by addresses_low ((numbered _ _).low (not_below c.if-lt.ensures) c.in-20.is) c.address_low.ensures refl

pub returns-in-24 : goal.returns-in-24
unfolding act
returns-in-24 c t = taken_by sequences ((numbered _ _).sequence (not_below c.if-lt.ensures) c.in-24.is) c.done-in-24.ensures refl

pub returns-in-28 : goal.returns-in-28
unfolding act
returns-in-28 c t =
    taken_by triggers ((numbered _ _).trigger (not_below c.if-lt.ensures) c.in-28.is) c.trigger.ensures.answer c.trigger.ensures.memory
