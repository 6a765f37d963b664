-- What the puller does with a method, and with an acquire that waits (docs/CARD.md, P).
use Rattle.std.specs.Prelude.{ℕ, ◌+◌, ◌-◌, ◌*◌, ◌/◌, ◌%◌, ◌^◌, Bool, true, not, ◌&&◌, ◌||◌, List, [], ◌∷◌, length, ◌==◌, nat_le, nat_lt, slice_index, slice_set, Option, Some, None}
use Rattle.std.proofs.lemmas.List.Edits.{sets}
use Rattle.word.specs.First.{choose}
use Rattle.word.specs.Parts.{bits}
use Rattle.event.specs.declared.Kind.{Kind}
use Rattle.event.specs.declared.Kind.TheVariants as kind
use Rattle.event.specs.declared.Method.{Method}
use Rattle.event.specs.declared.Event.TheVariants.{Plain, Of}
use Rattle.puller.specs.Object.{lookup_of}
use Rattle.puller.specs.Loan.{PullerLoan}
use Rattle.puller.specs.Record.{with_error, engine_of, with_engine, with_last, with_reference, with_dma, with_offset, with_acquire, without_acquire, with_address, with_sequence}
use Rattle.puller.specs.declared.object.Object.{Object}
use Rattle.puller.specs.declared.record.PullerError.{PullerError}
use Rattle.puller.specs.declared.record.PullerError.TheVariants as cause
use Rattle.puller.specs.declared.record.AcquireMode.{AcquireMode}
use Rattle.puller.specs.declared.record.AcquireMode.TheVariants as mode
use Rattle.puller.specs.declared.record.Puller.{Puller}
use Rattle.puller.specs.declared.taking.Taken.{Taken}
use Rattle.puller.specs.declared.taking.Trial.{Trial}
use Rattle.puller.specs.declared.taking.Trial.TheVariants as trial

-- What a method is to the puller.
pub data Deed : Type 0 where
  binds refers logs binds_semaphore offsets acquires releases forwards looks_and_forwards addresses_high addresses_low sequences triggers : Deed

-- methods `from` to `to`, from a level on
pub record Row : Type 0 where
  pub from : ℕ
  pub to : ℕ
  pub level : ℕ
  pub deed : Deed

abbrev row : ℕ → ℕ → ℕ → Deed → Row
row from to level deed = record { from = from; to = to; level = level; deed = deed }

-- P3: the methods by their byte numbers; P8, P25 to P28: long semaphores from level 5 on
unfoldable pub rows : List Row
rows =
    row 0x00 0x00 0 binds
    ∷ row 0x50 0x50 0 refers
    ∷ row 0x80 0x80 0 logs
    ∷ row 0x10 0x10 5 addresses_high
    ∷ row 0x14 0x14 5 addresses_low
    ∷ row 0x18 0x18 5 sequences
    ∷ row 0x1c 0x1c 5 triggers
    ∷ row 0x10 0x24 0 logs
    ∷ row 0x60 0x60 0 binds_semaphore
    ∷ row 0x64 0x64 0 offsets
    ∷ row 0x68 0x68 0 acquires
    ∷ row 0x6c 0x6c 0 releases
    ∷ row 0x180 0x1fc 0 looks_and_forwards
    ∷ []

-- P18, P24: from 0x100 up the others are forwarded; below, a method that no pusher submits has no effect
unfoldable pub deed_in : List Row → ℕ → ℕ → Deed
deed_in [] level m = choose (nat_le 0x100 m) forwards logs
deed_in (r ∷ rs) level m = choose ((nat_le r.from m && nat_le m r.to) && nat_le r.level level) r.deed (deed_in rs level m)

unfoldable pub deed_of : ℕ → ℕ → Deed
deed_of level m = deed_in rows level m

-- P22: the event of a method taken, with the parameter that is handed on
abbrev pub done_with : Puller → Kind → Method → ℕ → Taken
done_with p k m x = record { puller = p; event = Of k (record { subchannel = m.subchannel; method = m.method; parameter = x }) }

abbrev pub saying : Puller → Kind → Taken
saying p k = record { puller = p; event = Plain k }

-- P20: an error has no fields
abbrev pub failed_by : Puller → PullerError → Taken
failed_by p e = saying (with_error p e) kind.Error

-- P2: a handle that names no object is NO_HASH
unfoldable pub looking_up : Puller → Option Object → (Object → Taken) → Taken
looking_up p (Some o) next = next o
looking_up p None next = failed_by p cause.NoHash

-- P4, P5: the engine is bound, and becomes the last one, unless it is 0
unfoldable pub bind_to : Puller → Method → Object → Taken
bind_to p m o =
    choose (o.engine == 0) (failed_by (with_engine p m.subchannel o.engine) cause.EmptySubchannel)
    (done_with (with_last (with_engine p m.subchannel o.engine) o.engine) kind.Bind m o.address)

-- P4: the parameter is a handle
unfoldable pub bind_of : Puller → Method → List ℕ → Taken
bind_of p m t = looking_up p (lookup_of t m.parameter) (bind_to p m)

-- P6: the reference counter
abbrev pub ref_of : Puller → Method → Taken
ref_of p m = done_with (with_reference p m.parameter) kind.Ref m m.parameter

-- P9: an object that can't be a semaphore's, below level 4
unfoldable pub unfit_for : ℕ → Object → Bool
unfit_for level o = nat_lt level 4 && (not (o.class == 2) || (not o.writeonly || not o.paged))

-- P9, P10: SEMAPHORE 1, or its address is stored
unfoldable pub dma_to : ℕ → Puller → Method → Object → Taken
dma_to level p m o =
    choose (unfit_for level o) (failed_by p cause.Semaphore1)
    (done_with (with_dma p o.address) kind.Dma m o.address)

unfoldable pub dma_of : ℕ → Puller → Method → List ℕ → Taken
dma_of level p m t = looking_up p (lookup_of t m.parameter) (dma_to level p m)

-- an offset that is stored
abbrev pub offset_stored : Puller → Method → Bool → Taken
offset_stored p m valid = done_with (with_offset p m.parameter valid) kind.Offset m m.parameter

-- P11, P12: which bits an offset may not have, below level 4 and from there
unfoldable pub offset_of : ℕ → Puller → Method → Taken
offset_of level p m =
    choose (nat_lt level 4)
    (choose (not (bits 1 0 m.parameter == 0 && bits 31 12 m.parameter == 0)) (failed_by p cause.Semaphore1)
    (offset_stored p m p.semaphore.valid))
    (choose (not (bits 1 0 m.parameter == 0)) (failed_by p cause.Semaphore1)
    (choose (not (bits 31 16 m.parameter == 0)) (failed_by p cause.Semaphore3)
    (offset_stored p m true)))

-- P13, P10: below level 4 no object is bound, from there no offset is valid
unfoldable pub unready_at : ℕ → Puller → Bool
unready_at level p = choose (nat_lt level 4) (p.semaphore.dma == 0) (not p.semaphore.valid)

-- P14: the place of the semaphore's word
abbrev pub place_of : Puller → ℕ
place_of p = p.semaphore.offset / 4

-- P29: the place of the long semaphore's first word
abbrev pub long_place : Puller → ℕ
long_place p = p.long.address / 4

-- P14, P30: where an acquire's word is, by the mode
unfoldable pub place_in : Puller → AcquireMode → ℕ
place_in p mode.Old = place_of p
place_in p mode.Equal = long_place p
place_in p mode.GreaterOrEqual = long_place p

-- P14, P29: whether the memory ends before a place
abbrev pub is_past : ℕ → List ℕ → Bool
is_past place sems = nat_le (length sems) place

-- P14, P30: and the error that this is
unfoldable pub past_end_error : ℕ → AcquireMode → PullerError
past_end_error level mode.Old = choose (nat_lt level 4) cause.Semaphore2 cause.Semaphore4
past_end_error level mode.Equal = cause.Semaphore4
past_end_error level mode.GreaterOrEqual = cause.Semaphore4

-- P30: a word minus a value, modulo 2^32
abbrev pub ahead : ℕ → ℕ → ℕ
ahead word value = (word + (2 ^ 32 - value % 2 ^ 32)) % 2 ^ 32

-- P15, P30: whether a word lets an acquire of a value pass, by the mode
unfoldable pub passes_in : AcquireMode → ℕ → ℕ → Bool
passes_in mode.Old word value = word == value
passes_in mode.Equal word value = word == value
passes_in mode.GreaterOrEqual word value = nat_lt (ahead word value) (2 ^ 31)

-- P14 to P16, P30, P31: what an acquire of a value comes to at a place of the memory: there is no such word, it goes on, or it waits.
unfoldable pub trial_of : AcquireMode → ℕ → ℕ → List ℕ → Trial
trial_of a place value sems =
    choose (is_past place sems) trial.Outside
    (choose (passes_in a (slice_index sems place) value) trial.Passes trial.Waits)

-- it goes by that the first time and at each retry: past the end it fails, else there are two ways to go
unfoldable pub tried : Puller → PullerError → Trial → Taken → Taken → Taken
tried p e trial.Outside passes waits = failed_by p e
tried p e trial.Passes passes waits = passes
tried p e trial.Waits passes waits = waits

-- P15, P30: an acquire that passes changes nothing; one that waits is active, with its value and mode
unfoldable pub acquire_in : ℕ → Puller → Method → AcquireMode → ℕ → List ℕ → Taken
acquire_in level p m a value sems =
    tried p (past_end_error level a) (trial_of a (place_in p a) value sems)
    (done_with p kind.Acquire m m.parameter)
    (done_with (with_acquire p true value a) kind.Wait m m.parameter)

-- P13, P15: an old one, of the parameter
unfoldable pub acquire_of : ℕ → Puller → Method → List ℕ → Taken
acquire_of level p m sems = choose (unready_at level p) (failed_by p cause.Semaphore2) (acquire_in level p m mode.Old m.parameter sems)

-- P16, P31: a retry goes by the mode and the value that were stored. It asks for neither object nor offset, and its event has no fields
unfoldable pub retry_of : ℕ → Puller → List ℕ → Taken
retry_of level p sems =
    tried p (past_end_error level p.acquire.mode) (trial_of p.acquire.mode (place_in p p.acquire.mode) p.acquire.value sems)
    (saying (without_acquire p) kind.Acquire)
    (saying p kind.Wait)

-- P18: handed on to the subchannel's engine, if it has one
unfoldable pub forward_of : Puller → Method → ℕ → Taken
forward_of p m x =
    choose (engine_of p m.subchannel == 0) (failed_by p cause.EmptySubchannel)
    (done_with (with_last p (engine_of p m.subchannel)) kind.Forward m x)

-- P19: the same with the address of the object that the parameter names
unfoldable pub forward_object_of : Puller → Method → List ℕ → Taken
forward_object_of p m t = looking_up p (lookup_of t m.parameter) (λ (o : Object). forward_of p m o.address)

-- What a method leaves: the puller with its event, and the semaphore memory.
pub record Result : Type 0 where
  pub taken : Taken
  pub memory : List ℕ

-- the memory as it was
abbrev pub unwritten : List ℕ → Taken → Result
unwritten sems t = record { taken = t; memory = sems }

-- P13, P14, P17: a release writes that word only; P21: an error writes none
unfoldable pub release_of : ℕ → Puller → Method → List ℕ → Result
release_of level p m sems =
    choose (unready_at level p) (unwritten sems (failed_by p cause.Semaphore2))
    (choose (is_past (place_of p) sems) (unwritten sems (failed_by p (past_end_error level mode.Old)))
    (record { taken = done_with p kind.Release m m.parameter; memory = slice_set sems (place_of p) m.parameter }))

-- an address of a long semaphore, put together from bits 39-32 and bits 31-0
abbrev pub address_of : ℕ → ℕ → ℕ
address_of high low = high * 2 ^ 32 + low

-- P25: SEMAPHORE 3, or bits 39-32 of it are set
unfoldable pub high_of : Puller → Method → Taken
high_of p m =
    choose (nat_lt 255 m.parameter) (failed_by p cause.Semaphore3)
    (done_with (with_address p (address_of m.parameter (bits 31 0 p.long.address))) kind.Event m m.parameter)

-- P26: SEMAPHORE 1, or bits 31-0 are
unfoldable pub low_of : Puller → Method → Taken
low_of p m =
    choose (not (bits 1 0 m.parameter == 0)) (failed_by p cause.Semaphore1)
    (done_with (with_address p (address_of (bits 39 32 p.long.address) (bits 31 0 m.parameter))) kind.Event m m.parameter)

-- P27: the sequence
abbrev pub sequence_of : Puller → Method → Taken
sequence_of p m = done_with (with_sequence p m.parameter) kind.Event m m.parameter

-- P29: the words of a long semaphore
abbrev pub long_words : ℕ → ℕ → List ℕ
long_words sequence clock = sequence ∷ 0 ∷ bits 31 0 clock ∷ bits 63 32 clock ∷ []

-- P29: all four are written, or none is
unfoldable pub long_release_of : Puller → Method → ℕ → List ℕ → Result
long_release_of p m clock sems =
    choose (is_past (long_place p + 3) sems) (unwritten sems (failed_by p cause.Semaphore4))
    (record { taken = done_with p kind.Release m m.parameter; memory = sets sems (long_place p) (long_words p.long.sequence clock) })

-- P28: the operations by their numbers; any other is SEMAPHORE 2
unfoldable pub trigger_of : ℕ → Puller → Method → ℕ → List ℕ → Result
trigger_of level p m clock sems =
    choose (m.parameter == 1) (unwritten sems (acquire_in level p m mode.Equal p.long.sequence sems))
    (choose (m.parameter == 2) (long_release_of p m clock sems)
    (choose (m.parameter == 4) (unwritten sems (acquire_in level p m mode.GreaterOrEqual p.long.sequence sems))
    (unwritten sems (failed_by p cause.Semaphore2))))

-- P3, P7, P8: what each method does; all but the releases leave the memory
unfoldable pub act : ℕ → Puller → Method → PullerLoan → Deed → Result
act level p m l binds = unwritten l.semaphores (bind_of p m l.table)
act level p m l refers = unwritten l.semaphores (ref_of p m)
act level p m l logs = unwritten l.semaphores (done_with p kind.Event m m.parameter)
act level p m l binds_semaphore = unwritten l.semaphores (dma_of level p m l.table)
act level p m l offsets = unwritten l.semaphores (offset_of level p m)
act level p m l acquires = unwritten l.semaphores (acquire_of level p m l.semaphores)
act level p m l releases = release_of level p m l.semaphores
act level p m l forwards = unwritten l.semaphores (forward_of p m m.parameter)
act level p m l looks_and_forwards = unwritten l.semaphores (forward_object_of p m l.table)
act level p m l addresses_high = unwritten l.semaphores (high_of p m)
act level p m l addresses_low = unwritten l.semaphores (low_of p m)
act level p m l sequences = unwritten l.semaphores (sequence_of p m)
act level p m l triggers = trigger_of level p m l.clock l.semaphores

-- one method taken
unfoldable pub take_of : ℕ → Puller → Method → PullerLoan → Result
take_of level p m l = act level p m l (deed_of level m.method)
