-- The puller's record: its errors' numbers, and the record with one thing changed.
use Rattle.std.specs.Prelude.{ℕ, Bool, false, not, ◌==◌, slice_index, slice_set, Option, Some, None}
use Rattle.puller.specs.declared.record.PullerError.{PullerError}
use Rattle.puller.specs.declared.record.PullerError.TheVariants as cause
use Rattle.puller.specs.declared.record.Semaphore.{Semaphore}
use Rattle.puller.specs.declared.record.LongSemaphore.{LongSemaphore}
use Rattle.puller.specs.declared.record.AcquireMode.{AcquireMode}
use Rattle.puller.specs.declared.record.Puller.{Puller}

-- P23: the errors' numbers; 0 is none
unfoldable pub number : Option PullerError → ℕ
number None = 0
number (Some cause.NoHash) = 1
number (Some cause.EmptySubchannel) = 2
number (Some cause.Semaphore1) = 3
number (Some cause.Semaphore2) = 4
number (Some cause.Semaphore3) = 5
number (Some cause.Semaphore4) = 6

-- S4, P20: an error stops the puller
unfoldable pub halts : Option PullerError → Bool
halts e = not (number e == 0)

-- P20: the error is stored, and nothing else with it
abbrev pub with_error : Puller → PullerError → Puller
with_error p e = record { engines = p.engines; last = p.last; reference = p.reference; semaphore = p.semaphore; acquire = p.acquire; error = Some e; long = p.long }

-- P24: the engine of a subchannel; there are eight, and a number above them reads 0 and stores nothing
abbrev pub engine_of : Puller → ℕ → ℕ
engine_of p s = slice_index p.engines s

abbrev pub with_engine : Puller → ℕ → ℕ → Puller
with_engine p s e = record { engines = slice_set p.engines s e; last = p.last; reference = p.reference; semaphore = p.semaphore; acquire = p.acquire; error = p.error; long = p.long }

-- the record with another number and all else as it was
abbrev pub with_last : Puller → ℕ → Puller
with_last p e = record { engines = p.engines; last = e; reference = p.reference; semaphore = p.semaphore; acquire = p.acquire; error = p.error; long = p.long }

abbrev pub with_reference : Puller → ℕ → Puller
with_reference p x = record { engines = p.engines; last = p.last; reference = x; semaphore = p.semaphore; acquire = p.acquire; error = p.error; long = p.long }

abbrev pub with_semaphore : Puller → Semaphore → Puller
with_semaphore p s = record { engines = p.engines; last = p.last; reference = p.reference; semaphore = s; acquire = p.acquire; error = p.error; long = p.long }

-- its semaphore with another object, and with another offset
abbrev pub with_dma : Puller → ℕ → Puller
with_dma p a = with_semaphore p (record { dma = a; offset = p.semaphore.offset; valid = p.semaphore.valid })

abbrev pub with_offset : Puller → ℕ → Bool → Puller
with_offset p x valid = with_semaphore p (record { dma = p.semaphore.dma; offset = x; valid = valid })

-- its acquire active or not, with a value and a mode; and active no longer, value and mode left
abbrev pub with_acquire : Puller → Bool → ℕ → AcquireMode → Puller
with_acquire p a v mode = record { engines = p.engines; last = p.last; reference = p.reference; semaphore = p.semaphore; acquire = record { active = a; value = v; mode = mode }; error = p.error; long = p.long }

abbrev pub without_acquire : Puller → Puller
without_acquire p = with_acquire p false p.acquire.value p.acquire.mode

-- with another long semaphore; its address, and its sequence
abbrev pub with_long : Puller → LongSemaphore → Puller
with_long p s = record { engines = p.engines; last = p.last; reference = p.reference; semaphore = p.semaphore; acquire = p.acquire; error = p.error; long = s }

abbrev pub with_address : Puller → ℕ → Puller
with_address p a = with_long p (record { address = a; sequence = p.long.sequence })

abbrev pub with_sequence : Puller → ℕ → Puller
with_sequence p x = with_long p (record { address = p.long.address; sequence = x })
