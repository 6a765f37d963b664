-- The promises about the object table and the puller, each a statement that is proved under its own name in proofs/. They
-- speak of the public functions through their contracts (Outcomes.antt): of everything that a contract allows.
use Rattle.std.specs.Prelude.{◌≡◌, ℕ, ◌+◌, ◌*◌, ◌/◌, ◌%◌, ◌^◌, ◌<◌, ◌≤◌, Bool, true, false, ◌⊎◌, ◌↔◌, List, [], ◌∷◌, map, length, ◌≢◌, slice_index, slice_index_or, slice_set, Option, Some, None}
use Rattle.std.proofs.Math.Option as maybe
use Rattle.std.proofs.Math.Option.{some}
use Rattle.word.specs.declared.setting.Level.{Level}
use Rattle.event.specs.Event.{values, number as kind_number}
use Rattle.event.specs.Promises.{StandsIn}
use Rattle.event.specs.declared.Kind.{Kind}
use Rattle.event.specs.declared.Kind.TheVariants as kind
use Rattle.event.specs.declared.Method.{Method}
use Rattle.puller.specs.Loan.{PullerLoan, to_puller}
use Rattle.puller.specs.Record.{number, with_engine, with_last, with_reference, with_dma, with_offset, with_acquire, without_acquire, with_address, with_sequence}
use Rattle.puller.specs.Answers.{object_values, found_number, found_values, repeat_number, repeat_values}
use Rattle.puller.specs.Outcomes.{Finds, Repeats, Numbers, Halts, Takes, Retries}
use Rattle.puller.specs.declared.object.Object.{Object}
use Rattle.puller.specs.declared.record.PullerError.{PullerError}
use Rattle.puller.specs.declared.record.PullerError.TheVariants as cause
use Rattle.puller.specs.declared.record.AcquireMode.{AcquireMode}
use Rattle.puller.specs.declared.record.AcquireMode.TheVariants as mode
use Rattle.puller.specs.declared.record.Puller.{Puller}
use Rattle.puller.specs.declared.taking.Taken.{Taken}

-- P1: entry i is whole, and its handle
abbrev pub Whole : List ℕ → ℕ → Type 0
Whole t i = 4 * i + 3 < length t

abbrev pub handle_at : List ℕ → ℕ → ℕ
handle_at t i = slice_index t (4 * i)

-- P1: o is what entry i describes
pub record Describes (t : List ℕ) (i : ℕ) (o : Object) : Type 0 where
  pub engine : o.engine ≡ slice_index t (4 * i + 1) % 2 ^ 5
  pub address : o.address ≡ slice_index t (4 * i + 2)
  pub class : o.class ≡ slice_index t (4 * i + 3) % 2 ^ 16
  pub writeonly : o.writeonly ≡ true ↔ (slice_index t (4 * i + 3) / 2 ^ 16 % 2 ≡ 1)
  pub paged : o.paged ≡ true ↔ (slice_index t (4 * i + 3) / 2 ^ 17 % 2 ≡ 1)

-- P2: a handle names the object o, of the lowest entry that has it
pub record Names (t : List ℕ) (handle : ℕ) (o : Object) : Type 0 where
  pub entry : ℕ
  pub whole : Whole t entry
  pub matches : handle_at t entry ≡ handle
  pub lowest : (i : ℕ) → i < entry → handle_at t i ≢ handle
  pub describes : Describes t entry o

abbrev pub NamesNone : List ℕ → ℕ → Type 0
NamesNone t handle = (i : ℕ) → Whole t i → handle_at t i ≢ handle

-- P1, P2: `lookup` says so
pub record Looks : Type 0 where
  pub named :
      (t : List ℕ) (handle : ℕ) (o : Object) (r : Option Object)
      → Finds t handle r
      → Names t handle o
      → (found_number r ≡ 1) × (found_values r ≡ object_values o)
  pub unnamed : (t : List ℕ) (handle : ℕ) (r : Option Object) → Finds t handle r → NamesNone t handle → found_number r ≡ 2
  -- and the other way round
  pub always :
      (t : List ℕ) (handle : ℕ) (o : Object) (r : Option Object)
      → Finds t handle r
      → found_number r ≡ 1
      → found_values r ≡ object_values o
      → Names t handle o
  pub never : (t : List ℕ) (handle : ℕ) (r : Option Object) → Finds t handle r → found_number r ≡ 2 → NamesNone t handle

-- entry i repeats an earlier one
pub record Repeated (t : List ℕ) (i : ℕ) : Type 0 where
  pub earlier : ℕ
  pub before : earlier < i
  pub same : handle_at t earlier ≡ handle_at t i

-- R6: the lowest that does
pub record FirstRepeat : Type 0 where
  pub entry :
      (t : List ℕ) (i : ℕ) (r : Option ℕ)
      → Repeats t r
      → ((repeat_number r ≡ 1) × (repeat_values r ≡ i ∷ [])) ↔ (Whole t i × Repeated t i × ((j : ℕ) → j < i → Repeated t j → ⊥))
  pub nothing : (t : List ℕ) (r : Option ℕ) → Repeats t r → repeat_number r ≡ 2 ↔ ((i : ℕ) → Whole t i → Repeated t i → ⊥)

-- P13, P10: no semaphore to acquire or release, or one
abbrev pub Unready : Level → Puller → Type 0
Unready level p = ((level.number < 4) × (p.semaphore.dma ≡ 0)) ⊎ ((4 ≤ level.number) × (p.semaphore.valid ≡ false))

abbrev pub Ready : Level → Puller → Type 0
Ready level p = ((level.number < 4) × (p.semaphore.dma ≢ 0)) ⊎ ((4 ≤ level.number) × (p.semaphore.valid ≡ true))

-- P14: its word is within the memory, or past its end, with the error that this is
abbrev pub Inside : Puller → List ℕ → Type 0
Inside p sems = p.semaphore.offset / 4 < length sems

pub record PastEnd (level : Level) (p : Puller) (sems : List ℕ) (e : PullerError) : Type 0 where
  pub past : length sems ≤ p.semaphore.offset / 4
  pub below_4 : level.number < 4 → e ≡ cause.Semaphore2
  pub from_4 : 4 ≤ level.number → e ≡ cause.Semaphore4

abbrev pub word_in : Puller → List ℕ → ℕ
word_in p sems = slice_index sems (p.semaphore.offset / 4)

-- P9: an object that can't be a semaphore's
abbrev pub Unfit : Level → Object → Type 0
Unfit level o = (level.number < 4) × ((o.class ≢ 2) ⊎ (o.writeonly ≡ false) ⊎ (o.paged ≡ false))

-- P25 to P28: a method of long semaphores, at a level that has them
abbrev pub IsLong : Level → Method → Type 0
IsLong level m = (5 ≤ level.number) × ((m.method ≡ 0x10) ⊎ (m.method ≡ 0x14) ⊎ (m.method ≡ 0x18) ⊎ (m.method ≡ 0x1c))

-- P30: the long semaphore's word, and whether it is within the memory
abbrev pub LongInside : Puller → List ℕ → Type 0
LongInside p sems = p.long.address / 4 < length sems

abbrev pub long_word_in : Puller → List ℕ → ℕ
long_word_in p sems = slice_index sems (p.long.address / 4)

-- P30: a word that is not behind a value: less than 2^31 added to the value, modulo 2^32, comes to it
pub record NotBehind (word value : ℕ) : Type 0 where
  pub difference : ℕ
  pub not_negative : difference < 2 ^ 31
  pub comes : (value + difference) % 2 ^ 32 ≡ word % 2 ^ 32

-- P15, P30: a word lets an acquire of a value pass, by the mode
abbrev pub Passes : AcquireMode → ℕ → ℕ → Type 0
Passes mode.Old word value = word ≡ value
Passes mode.Equal word value = word ≡ value
Passes mode.GreaterOrEqual word value = NotBehind word value

-- P28: the trigger's parameter n asks for an acquire, in this mode
abbrev pub AsksFor : ℕ → AcquireMode → Type 0
AsksFor n a = ((n ≡ 1) × (a ≡ mode.Equal)) ⊎ ((n ≡ 4) × (a ≡ mode.GreaterOrEqual))

-- P29: `after` is the memory `before` with these four words from a place on, and all others as they were
pub record FourWritten (before : List ℕ) (place first second third fourth : ℕ) (after : List ℕ) : Type 0 where
  pub as_long : length after ≡ length before
  pub first_is : slice_index_or after place 0 ≡ first
  pub second_is : slice_index_or after (place + 1) 0 ≡ second
  pub third_is : slice_index_or after (place + 2) 0 ≡ third
  pub fourth_is : slice_index_or after (place + 3) 0 ≡ fourth
  pub others : (i : ℕ) → ((i < place) ⊎ (place + 3 < i)) → slice_index after i ≡ slice_index before i

-- P24: a method below 0x100 that no rule names
pub record Unnamed (m : ℕ) : Type 0 where
  pub special : m < 0x100
  pub not_bind : m ≡ 0x00 → ⊥
  pub not_ref : m ≡ 0x50 → ⊥
  pub not_dma : m ≡ 0x60 → ⊥
  pub not_offset : m ≡ 0x64 → ⊥
  pub not_acquire : m ≡ 0x68 → ⊥
  pub not_release : m ≡ 0x6c → ⊥
  pub not_yield : m ≡ 0x80 → ⊥
  pub not_logged : (m < 0x10) ⊎ (0x24 < m)

-- the engine bound to a subchannel
abbrev pub engine_at : Puller → ℕ → ℕ
engine_at p subchannel = slice_index p.engines subchannel

-- The setters by which the sentences name a puller with one thing changed: each is written out here.
pub record Setters : Type 0 where
  pub engine :
      (p : Puller) (s e : ℕ)
      → with_engine p s e ≡ record { engines = slice_set p.engines s e; last = p.last; reference = p.reference; semaphore = p.semaphore; acquire = p.acquire; error = p.error; long = p.long }
  pub last :
      (p : Puller) (e : ℕ)
      → with_last p e ≡ record { engines = p.engines; last = e; reference = p.reference; semaphore = p.semaphore; acquire = p.acquire; error = p.error; long = p.long }
  pub reference :
      (p : Puller) (x : ℕ)
      → with_reference p x ≡ record { engines = p.engines; last = p.last; reference = x; semaphore = p.semaphore; acquire = p.acquire; error = p.error; long = p.long }
  pub dma :
      (p : Puller) (a : ℕ)
      → with_dma p a ≡ record { engines = p.engines; last = p.last; reference = p.reference; semaphore = record { dma = a; offset = p.semaphore.offset; valid = p.semaphore.valid }; acquire = p.acquire; error = p.error; long = p.long }
  pub offset :
      (p : Puller) (x : ℕ) (valid : Bool)
      → with_offset p x valid ≡ record { engines = p.engines; last = p.last; reference = p.reference; semaphore = record { dma = p.semaphore.dma; offset = x; valid = valid }; acquire = p.acquire; error = p.error; long = p.long }
  pub acquire :
      (p : Puller) (active : Bool) (value : ℕ) (a : AcquireMode)
      → with_acquire p active value a ≡ record { engines = p.engines; last = p.last; reference = p.reference; semaphore = p.semaphore; acquire = record { active = active; value = value; mode = a }; error = p.error; long = p.long }
  pub no_acquire :
      (p : Puller)
      → without_acquire p ≡ record { engines = p.engines; last = p.last; reference = p.reference; semaphore = p.semaphore; acquire = record { active = false; value = p.acquire.value; mode = p.acquire.mode }; error = p.error; long = p.long }
  pub address :
      (p : Puller) (a : ℕ)
      → with_address p a ≡ record { engines = p.engines; last = p.last; reference = p.reference; semaphore = p.semaphore; acquire = p.acquire; error = p.error; long = record { address = a; sequence = p.long.sequence } }
  pub sequence :
      (p : Puller) (x : ℕ)
      → with_sequence p x ≡ record { engines = p.engines; last = p.last; reference = p.reference; semaphore = p.semaphore; acquire = p.acquire; error = p.error; long = record { address = p.long.address; sequence = x } }

-- P22: what the event says of a method m that is taken, with x handed on
abbrev pub telling : Kind → Method → ℕ → List ℕ
telling k m x = kind_number k ∷ m.subchannel ∷ m.method ∷ x ∷ []

-- r leaves the puller q, and its event says these numbers
pub record Leaves (q : Puller) (said : List ℕ) (r : Taken) : Type 0 where
  pub puller : r.puller ≡ q
  pub event : values r.event ≡ said

-- P20, P21: q is p stopped by the error e, all else as it was
pub record Failed (p : Puller) (e : PullerError) (q : Puller) : Type 0 where
  pub engines : q.engines ≡ p.engines
  pub last : q.last ≡ p.last
  pub reference : q.reference ≡ p.reference
  pub semaphore : q.semaphore ≡ p.semaphore
  pub acquire : q.acquire ≡ p.acquire
  pub error : q.error ≡ Some e
  pub long : q.long ≡ p.long

-- P20: r leaves p so stopped and says so, without further fields
pub record Fails (p : Puller) (e : PullerError) (r : Taken) : Type 0 where
  pub puller : Failed p e r.puller
  pub event : values r.event ≡ kind_number kind.Error ∷ []

-- P21, P5: q is p that the method m has stopped: all but the error stays, and the binding where engine 0 was bound
abbrev pub StoppedBy : Puller → Method → Puller → Type 0
StoppedBy p m q = ((e : PullerError) × Failed p e q) ⊎ Failed (with_engine p m.subchannel 0) cause.EmptySubchannel q

-- P25 to P30: the rules of long semaphores as sentences, as those below.
pub record LongSentences (R : Level → Puller → Method → PullerLoan → Taken → List ℕ → Type 0) : Type 0 where
  -- P25: the address would have more than 40 bits
  pub high_too_large :
      (level : Level) (p : Puller) (m : Method) (l : PullerLoan) (exit : List ℕ) (r : Taken)
      → R level p m l r exit
      → 5 ≤ level.number
      → m.method ≡ 0x10
      → 255 < m.parameter
      → Fails p cause.Semaphore3 r × (exit ≡ l.semaphores)
  -- P25: its bits 39-32 are set, and bits 31-0 stay
  pub high :
      (level : Level) (p : Puller) (m : Method) (l : PullerLoan) (exit : List ℕ) (address : ℕ) (r : Taken)
      → R level p m l r exit
      → 5 ≤ level.number
      → m.method ≡ 0x10
      → m.parameter ≤ 255
      → address / 2 ^ 32 ≡ m.parameter
      → address % 2 ^ 32 ≡ p.long.address % 2 ^ 32
      → Leaves (with_address p address) (telling kind.Event m m.parameter) r × (exit ≡ l.semaphores)
  -- P26: it would be no multiple of 4
  pub low_unaligned :
      (level : Level) (p : Puller) (m : Method) (l : PullerLoan) (exit : List ℕ) (r : Taken)
      → R level p m l r exit
      → 5 ≤ level.number
      → m.method ≡ 0x14
      → (m.parameter % 4 ≢ 0)
      → Fails p cause.Semaphore1 r × (exit ≡ l.semaphores)
  -- P26: its bits 31-0 are set, and bits 39-32 stay
  pub low :
      (level : Level) (p : Puller) (m : Method) (l : PullerLoan) (exit : List ℕ) (address : ℕ) (r : Taken)
      → R level p m l r exit
      → 5 ≤ level.number
      → m.method ≡ 0x14
      → m.parameter % 4 ≡ 0
      → address % 2 ^ 32 ≡ m.parameter % 2 ^ 32
      → address / 2 ^ 32 ≡ p.long.address / 2 ^ 32 % 2 ^ 8
      → Leaves (with_address p address) (telling kind.Event m m.parameter) r × (exit ≡ l.semaphores)
  -- P27: the sequence is set
  pub sequence :
      (level : Level) (p : Puller) (m : Method) (l : PullerLoan) (exit : List ℕ) (r : Taken)
      → R level p m l r exit
      → 5 ≤ level.number
      → m.method ≡ 0x18
      → Leaves (with_sequence p m.parameter) (telling kind.Event m m.parameter) r × (exit ≡ l.semaphores)
  -- P28: no operation has this number
  pub no_operation :
      (level : Level) (p : Puller) (m : Method) (l : PullerLoan) (exit : List ℕ) (r : Taken)
      → R level p m l r exit
      → 5 ≤ level.number
      → m.method ≡ 0x1c
      → (m.parameter ≢ 1)
      → (m.parameter ≢ 2)
      → (m.parameter ≢ 4)
      → Fails p cause.Semaphore2 r × (exit ≡ l.semaphores)
  -- P29: a release for which the memory has not all four words
  pub release_past_end :
      (level : Level) (p : Puller) (m : Method) (l : PullerLoan) (exit : List ℕ) (r : Taken)
      → R level p m l r exit
      → 5 ≤ level.number
      → m.method ≡ 0x1c
      → m.parameter ≡ 2
      → length l.semaphores ≤ p.long.address / 4 + 3
      → Fails p cause.Semaphore4 r × (exit ≡ l.semaphores)
  -- P29: and one that writes them: the sequence, 0, and the clock's two halves, the lower first
  pub release :
      (level : Level) (p : Puller) (m : Method) (l : PullerLoan) (exit : List ℕ) (r : Taken)
      → R level p m l r exit
      → 5 ≤ level.number
      → m.method ≡ 0x1c
      → m.parameter ≡ 2
      → p.long.address / 4 + 3 < length l.semaphores
      → Leaves p (telling kind.Release m m.parameter) r
      × FourWritten l.semaphores (p.long.address / 4) p.long.sequence 0 (l.clock % 2 ^ 32) (l.clock / 2 ^ 32 % 2 ^ 32) exit
  -- P30: an acquire whose word is past the end of the memory
  pub acquire_past_end :
      (level : Level) (p : Puller) (m : Method) (l : PullerLoan) (exit : List ℕ) (a : AcquireMode) (r : Taken)
      → R level p m l r exit
      → 5 ≤ level.number
      → m.method ≡ 0x1c
      → AsksFor m.parameter a
      → length l.semaphores ≤ p.long.address / 4
      → Fails p cause.Semaphore4 r × (exit ≡ l.semaphores)
  -- P30: one that its word lets pass
  pub acquire :
      (level : Level) (p : Puller) (m : Method) (l : PullerLoan) (exit : List ℕ) (a : AcquireMode) (r : Taken)
      → R level p m l r exit
      → 5 ≤ level.number
      → m.method ≡ 0x1c
      → AsksFor m.parameter a
      → LongInside p l.semaphores
      → Passes a (long_word_in p l.semaphores) p.long.sequence
      → Leaves p (telling kind.Acquire m m.parameter) r × (exit ≡ l.semaphores)
  -- P30: and one that waits
  pub wait :
      (level : Level) (p : Puller) (m : Method) (l : PullerLoan) (exit : List ℕ) (a : AcquireMode) (r : Taken)
      → R level p m l r exit
      → 5 ≤ level.number
      → m.method ≡ 0x1c
      → AsksFor m.parameter a
      → LongInside p l.semaphores
      → (Passes a (long_word_in p l.semaphores) p.long.sequence → ⊥)
      → Leaves (with_acquire p true p.long.sequence a) (telling kind.Wait m m.parameter) r × (exit ≡ l.semaphores)

-- The rules as sentences, of any relation R between what a puller is given with a method and what it leaves: what changes, and
-- nothing else does (P3). Where there is an error, no semaphore word changes (P21).
pub record Sentences (R : Level → Puller → Method → PullerLoan → Taken → List ℕ → Type 0) : Type 0 where
  -- P4: an engine is bound
  pub bind :
      (level : Level) (p : Puller) (m : Method) (l : PullerLoan) (exit : List ℕ) (o : Object) (r : Taken)
      → R level p m l r exit
      → m.method ≡ 0x00
      → Names l.table m.parameter o
      → (o.engine ≢ 0)
      → Leaves (with_last (with_engine p m.subchannel o.engine) o.engine) (telling kind.Bind m o.address) r × (exit ≡ l.semaphores)
  -- P5: engine 0 is bound, and stops the channel
  pub bind_software :
      (level : Level) (p : Puller) (m : Method) (l : PullerLoan) (exit : List ℕ) (o : Object) (r : Taken)
      → R level p m l r exit
      → m.method ≡ 0x00
      → Names l.table m.parameter o
      → o.engine ≡ 0
      → Fails (with_engine p m.subchannel 0) cause.EmptySubchannel r × (exit ≡ l.semaphores)
  -- P2, P19: a handle names no object, at each method that looks one up
  pub no_hash :
      (level : Level) (p : Puller) (m : Method) (l : PullerLoan) (exit : List ℕ) (r : Taken)
      → R level p m l r exit
      → ((m.method ≡ 0x00) ⊎ (m.method ≡ 0x60) ⊎ ((0x180 ≤ m.method) × (m.method ≤ 0x1fc)))
      → NamesNone l.table m.parameter
      → Fails p cause.NoHash r × (exit ≡ l.semaphores)
  -- P6: the reference counter is set
  pub ref :
      (level : Level) (p : Puller) (m : Method) (l : PullerLoan) (exit : List ℕ) (r : Taken)
      → R level p m l r exit
      → m.method ≡ 0x50
      → Leaves (with_reference p m.parameter) (telling kind.Ref m m.parameter) r × (exit ≡ l.semaphores)
  -- P7, P8: told, without effect
  pub event :
      (level : Level) (p : Puller) (m : Method) (l : PullerLoan) (exit : List ℕ) (r : Taken)
      → R level p m l r exit
      → ((m.method ≡ 0x80) ⊎ ((0x10 ≤ m.method) × (m.method ≤ 0x24) × (IsLong level m → ⊥)))
      → Leaves p (telling kind.Event m m.parameter) r × (exit ≡ l.semaphores)
  -- P24: the methods below 0x100 that no level has, and no pusher submits
  pub unnamed :
      (level : Level) (p : Puller) (m : Method) (l : PullerLoan) (exit : List ℕ) (r : Taken)
      → R level p m l r exit
      → Unnamed m.method
      → Leaves p (telling kind.Event m m.parameter) r × (exit ≡ l.semaphores)
  -- P9: an object is not fit for semaphores
  pub dma_unfit :
      (level : Level) (p : Puller) (m : Method) (l : PullerLoan) (exit : List ℕ) (o : Object) (r : Taken)
      → R level p m l r exit
      → m.method ≡ 0x60
      → Names l.table m.parameter o
      → Unfit level o
      → Fails p cause.Semaphore1 r × (exit ≡ l.semaphores)
  -- P10: or it is bound for them
  pub dma :
      (level : Level) (p : Puller) (m : Method) (l : PullerLoan) (exit : List ℕ) (o : Object) (r : Taken)
      → R level p m l r exit
      → m.method ≡ 0x60
      → Names l.table m.parameter o
      → (Unfit level o → ⊥)
      → Leaves (with_dma p o.address) (telling kind.Dma m o.address) r × (exit ≡ l.semaphores)
  -- P11: an offset with other bits, below level 4
  pub offset_outside :
      (level : Level) (p : Puller) (m : Method) (l : PullerLoan) (exit : List ℕ) (r : Taken)
      → R level p m l r exit
      → m.method ≡ 0x64
      → level.number < 4
      → ((m.parameter % 4 ≢ 0) ⊎ (m.parameter / 2 ^ 12 % 2 ^ 20 ≢ 0))
      → Fails p cause.Semaphore1 r × (exit ≡ l.semaphores)
  -- P11: and one without
  pub offset_below_4 :
      (level : Level) (p : Puller) (m : Method) (l : PullerLoan) (exit : List ℕ) (r : Taken)
      → R level p m l r exit
      → m.method ≡ 0x64
      → level.number < 4
      → m.parameter % 4 ≡ 0
      → m.parameter / 2 ^ 12 % 2 ^ 20 ≡ 0
      → Leaves (with_offset p m.parameter p.semaphore.valid) (telling kind.Offset m m.parameter) r × (exit ≡ l.semaphores)
  -- P12: an offset that is no multiple of 4, from level 4 on
  pub offset_unaligned :
      (level : Level) (p : Puller) (m : Method) (l : PullerLoan) (exit : List ℕ) (r : Taken)
      → R level p m l r exit
      → m.method ≡ 0x64
      → 4 ≤ level.number
      → (m.parameter % 4 ≢ 0)
      → Fails p cause.Semaphore1 r × (exit ≡ l.semaphores)
  -- P12: one that is too large
  pub offset_too_large :
      (level : Level) (p : Puller) (m : Method) (l : PullerLoan) (exit : List ℕ) (r : Taken)
      → R level p m l r exit
      → m.method ≡ 0x64
      → 4 ≤ level.number
      → m.parameter % 4 ≡ 0
      → (m.parameter / 2 ^ 16 % 2 ^ 16 ≢ 0)
      → Fails p cause.Semaphore3 r × (exit ≡ l.semaphores)
  -- P12: and one that is neither, which becomes valid
  pub offset_from_4 :
      (level : Level) (p : Puller) (m : Method) (l : PullerLoan) (exit : List ℕ) (r : Taken)
      → R level p m l r exit
      → m.method ≡ 0x64
      → 4 ≤ level.number
      → m.parameter % 4 ≡ 0
      → m.parameter / 2 ^ 16 % 2 ^ 16 ≡ 0
      → Leaves (with_offset p m.parameter true) (telling kind.Offset m m.parameter) r × (exit ≡ l.semaphores)
  -- P13: there is no semaphore to acquire or release
  pub unready :
      (level : Level) (p : Puller) (m : Method) (l : PullerLoan) (exit : List ℕ) (r : Taken)
      → R level p m l r exit
      → ((m.method ≡ 0x68) ⊎ (m.method ≡ 0x6c))
      → Unready level p
      → Fails p cause.Semaphore2 r × (exit ≡ l.semaphores)
  -- P14: its word is past the end of the memory
  pub past_end :
      (level : Level) (p : Puller) (m : Method) (l : PullerLoan) (exit : List ℕ) (e : PullerError) (r : Taken)
      → R level p m l r exit
      → ((m.method ≡ 0x68) ⊎ (m.method ≡ 0x6c))
      → Ready level p
      → PastEnd level p l.semaphores e
      → Fails p e r × (exit ≡ l.semaphores)
  -- P15: it is equal, and the acquire goes on
  pub acquire :
      (level : Level) (p : Puller) (m : Method) (l : PullerLoan) (exit : List ℕ) (r : Taken)
      → R level p m l r exit
      → m.method ≡ 0x68
      → Ready level p
      → Inside p l.semaphores
      → word_in p l.semaphores ≡ m.parameter
      → Leaves p (telling kind.Acquire m m.parameter) r × (exit ≡ l.semaphores)
  -- P15: it is not, and the acquire waits
  pub wait :
      (level : Level) (p : Puller) (m : Method) (l : PullerLoan) (exit : List ℕ) (r : Taken)
      → R level p m l r exit
      → m.method ≡ 0x68
      → Ready level p
      → Inside p l.semaphores
      → (word_in p l.semaphores ≢ m.parameter)
      → Leaves (with_acquire p true m.parameter mode.Old) (telling kind.Wait m m.parameter) r × (exit ≡ l.semaphores)
  -- P17: a release writes it
  pub release :
      (level : Level) (p : Puller) (m : Method) (l : PullerLoan) (exit : List ℕ) (r : Taken)
      → R level p m l r exit
      → m.method ≡ 0x6c
      → Ready level p
      → Inside p l.semaphores
      → Leaves p (telling kind.Release m m.parameter) r × (exit ≡ slice_set l.semaphores (p.semaphore.offset / 4) m.parameter)
  -- P18: no engine is bound
  pub forward_software :
      (level : Level) (p : Puller) (m : Method) (l : PullerLoan) (exit : List ℕ) (r : Taken)
      → R level p m l r exit
      → 0x100 ≤ m.method
      → ((m.method < 0x180) ⊎ (0x1fc < m.method))
      → engine_at p m.subchannel ≡ 0
      → Fails p cause.EmptySubchannel r × (exit ≡ l.semaphores)
  -- P18: handed on
  pub forward :
      (level : Level) (p : Puller) (m : Method) (l : PullerLoan) (exit : List ℕ) (r : Taken)
      → R level p m l r exit
      → 0x100 ≤ m.method
      → ((m.method < 0x180) ⊎ (0x1fc < m.method))
      → (engine_at p m.subchannel ≢ 0)
      → Leaves (with_last p (engine_at p m.subchannel)) (telling kind.Forward m m.parameter) r × (exit ≡ l.semaphores)
  -- P19: the same with an object: no engine is bound
  pub object_software :
      (level : Level) (p : Puller) (m : Method) (l : PullerLoan) (exit : List ℕ) (o : Object) (r : Taken)
      → R level p m l r exit
      → 0x180 ≤ m.method
      → m.method ≤ 0x1fc
      → Names l.table m.parameter o
      → engine_at p m.subchannel ≡ 0
      → Fails p cause.EmptySubchannel r × (exit ≡ l.semaphores)
  -- P19: handed on, with the object's address
  pub object :
      (level : Level) (p : Puller) (m : Method) (l : PullerLoan) (exit : List ℕ) (o : Object) (r : Taken)
      → R level p m l r exit
      → 0x180 ≤ m.method
      → m.method ≤ 0x1fc
      → Names l.table m.parameter o
      → (engine_at p m.subchannel ≢ 0)
      → Leaves (with_last p (engine_at p m.subchannel)) (telling kind.Forward m o.address) r × (exit ≡ l.semaphores)
  -- P25 to P30: and those of long semaphores
  pub long : LongSentences R

-- Promise 2, for the puller: `take` does what the sentences say.
abbrev pub Pulls : Type 0
Pulls = Sentences Takes

-- P16, P31: the rules of a retry as sentences, of any relation R between what a puller is given, with the semaphore memory, and what
-- it leaves. Its event has no fields.
pub record RetrySentences (R : Level → Puller → List ℕ → Taken → Type 0) : Type 0 where
  -- P16: in the mode old
  pub past_end :
      (level : Level) (p : Puller) (sems : List ℕ) (e : PullerError) (r : Taken)
      → R level p sems r
      → p.acquire.mode ≡ mode.Old
      → PastEnd level p sems e
      → Fails p e r
  pub equal :
      (level : Level) (p : Puller) (sems : List ℕ) (r : Taken)
      → R level p sems r
      → p.acquire.mode ≡ mode.Old
      → Inside p sems
      → word_in p sems ≡ p.acquire.value
      → Leaves (without_acquire p) (kind_number kind.Acquire ∷ []) r
  pub unequal :
      (level : Level) (p : Puller) (sems : List ℕ) (r : Taken)
      → R level p sems r
      → p.acquire.mode ≡ mode.Old
      → Inside p sems
      → (word_in p sems ≢ p.acquire.value)
      → Leaves p (kind_number kind.Wait ∷ []) r
  -- P31: in another
  pub long_past_end :
      (level : Level) (p : Puller) (sems : List ℕ) (r : Taken)
      → R level p sems r
      → (p.acquire.mode ≢ mode.Old)
      → length sems ≤ p.long.address / 4
      → Fails p cause.Semaphore4 r
  pub long_passes :
      (level : Level) (p : Puller) (sems : List ℕ) (r : Taken)
      → R level p sems r
      → (p.acquire.mode ≢ mode.Old)
      → LongInside p sems
      → Passes p.acquire.mode (long_word_in p sems) p.acquire.value
      → Leaves (without_acquire p) (kind_number kind.Acquire ∷ []) r
  pub long_waits :
      (level : Level) (p : Puller) (sems : List ℕ) (r : Taken)
      → R level p sems r
      → (p.acquire.mode ≢ mode.Old)
      → LongInside p sems
      → (Passes p.acquire.mode (long_word_in p sems) p.acquire.value → ⊥)
      → Leaves p (kind_number kind.Wait ∷ []) r

-- `retry` does what they say.
abbrev pub Retrying : Type 0
Retrying = RetrySentences Retries

-- The sentences leave no case open: whatever does what they say does what `take` does, and what `retry` does.
pub record NoOther : Type 1 where
  pub take :
      (R : Level → Puller → Method → PullerLoan → Taken → List ℕ → Type 0)
      → Sentences R
      → (level : Level) (p : Puller) (m : Method) (l : PullerLoan) (exit : List ℕ) (r : Taken)
      → R level p m l r exit
      → Takes level p m l r exit
  pub retry :
      (R : Level → Puller → List ℕ → Taken → Type 0)
      → RetrySentences R
      → (level : Level) (p : Puller) (sems : List ℕ) (r : Taken)
      → R level p sems r
      → Retries level p sems r

-- P30: 'greater or equal' in numbers: a semaphore's word, the sequence, and what a trigger of 4 then says.
pub record Compared : Type 0 where
  pub word : ℕ
  pub sequence : ℕ
  pub says : Kind

abbrev against : ℕ → ℕ → Kind → Compared
against word sequence says = record { word = word; sequence = sequence; says = says }

-- P30: the differences 0, 1, 0x7fffffff, 0x80000000 and 0xffffffff, with sequences on both sides of the wrap
abbrev pub comparisons : List Compared
comparisons =
    against 0x00000000 0x00000000 kind.Acquire
    ∷ against 0x00000001 0x00000000 kind.Acquire
    ∷ against 0x7fffffff 0x00000000 kind.Acquire
    ∷ against 0x80000000 0x00000000 kind.Wait
    ∷ against 0xffffffff 0x00000000 kind.Wait
    ∷ against 0x7fffffff 0x7fffffff kind.Acquire
    ∷ against 0x80000000 0x7fffffff kind.Acquire
    ∷ against 0xfffffffe 0x7fffffff kind.Acquire
    ∷ against 0xffffffff 0x7fffffff kind.Wait
    ∷ against 0x7ffffffe 0x7fffffff kind.Wait
    ∷ against 0x80000000 0x80000000 kind.Acquire
    ∷ against 0x80000001 0x80000000 kind.Acquire
    ∷ against 0xffffffff 0x80000000 kind.Acquire
    ∷ against 0x00000000 0x80000000 kind.Wait
    ∷ against 0x7fffffff 0x80000000 kind.Wait
    ∷ against 0xffffffff 0xffffffff kind.Acquire
    ∷ against 0x00000000 0xffffffff kind.Acquire
    ∷ against 0x7ffffffe 0xffffffff kind.Acquire
    ∷ against 0x7fffffff 0xffffffff kind.Wait
    ∷ against 0xfffffffe 0xffffffff kind.Wait
    ∷ []

-- P30: `take` says so of a row, whatever else the puller holds
abbrev pub SaysSo : Compared → Type 0
SaysSo x =
    (level : Level) (p : Puller) (m : Method) (l : PullerLoan) (exit : List ℕ) (r : Taken)
    → Takes level p m l r exit
    → 5 ≤ level.number
    → m.method ≡ 0x1c
    → m.parameter ≡ 4
    → LongInside p l.semaphores
    → long_word_in p l.semaphores ≡ x.word
    → p.long.sequence ≡ x.sequence
    → values r.event ≡ telling x.says m 4

-- something of every row of a list
abbrev pub Each : (Compared → Type 0) → List Compared → Type 0
Each P [] = Unit {0}
Each P (x ∷ xs) = P x × Each P xs

-- P30: and so of every row
abbrev pub Signed : Type 0
Signed = Each SaysSo comparisons

-- P32: two pullers that differ in their long semaphores alone
pub record ButLong (p q : Puller) : Type 0 where
  pub engines : p.engines ≡ q.engines
  pub last : p.last ≡ q.last
  pub reference : p.reference ≡ q.reference
  pub semaphore : p.semaphore ≡ q.semaphore
  pub acquire : p.acquire ≡ q.acquire
  pub error : p.error ≡ q.error

-- P32: two loans that differ in their clocks alone
pub record ButClock (l k : PullerLoan) : Type 0 where
  pub table : l.table ≡ k.table
  pub semaphores : l.semaphores ≡ k.semaphores

-- P32: the answer a to p is the answer b to another, but for the long semaphore, which stays
pub record SameButLong (p : Puller) (a b : Taken) : Type 0 where
  pub event : values a.event ≡ values b.event
  pub rest : ButLong a.puller b.puller
  pub stays : a.puller.long ≡ p.long

-- P32: what neither the clock nor the long semaphore has a part in
pub record Apart : Type 0 where
  -- the clock in nothing but the words of a long release
  pub clock :
      (level : Level) (p : Puller) (m : Method) (l k : PullerLoan) (x y : List ℕ) (a b : Taken)
      → ButClock l k
      → Takes level p m l a x
      → Takes level p m k b y
      → (a ≡ b) × (((m.method ≡ 0x1c) × (m.parameter ≡ 2) → ⊥) → x ≡ y)
  -- below level 5 neither in anything; of a retry, in the mode old
  pub take :
      (level : Level) (p q : Puller) (m : Method) (l k : PullerLoan) (x y : List ℕ) (a b : Taken)
      → level.number < 5
      → ButLong p q
      → ButClock l k
      → Takes level p m l a x
      → Takes level q m k b y
      → SameButLong p a b × (x ≡ y)
  pub retry :
      (level : Level) (p q : Puller) (sems : List ℕ) (a b : Taken)
      → p.acquire.mode ≡ mode.Old
      → ButLong p q
      → Retries level p sems a
      → Retries level q sems b
      → SameButLong p a b

-- P23: the errors in order, after none.
abbrev pub error_list : List (maybe.Option (Option PullerError))
error_list =
    map some
    (None ∷ map Some (cause.NoHash ∷ cause.EmptySubchannel ∷ cause.Semaphore1 ∷ cause.Semaphore2 ∷ cause.Semaphore3 ∷ cause.Semaphore4 ∷ []))

-- P23, S4: every error stands there, by its number; and `stopped` says whether there is one
pub record Errors : Type 0 where
  pub numbers : StandsIn error_list number
  pub stopped : (p : Puller) (a : Bool) → Halts p a → a ≡ true ↔ (number p.error ≢ 0)

-- P20, P21: what an error leaves: its event, and no semaphore word written;
pub record Failing : Type 0 where
  pub take :
      (level : Level) (p : Puller) (m : Method) (l : PullerLoan) (exit : List ℕ) (r : Taken)
      → Takes level p m l r exit
      → number p.error ≡ 0
      → (number r.puller.error ≢ 0)
      → (values r.event ≡ kind_number kind.Error ∷ []) × (exit ≡ l.semaphores)
  -- P21: and the puller has changed in nothing else
  pub stays :
      (level : Level) (p : Puller) (m : Method) (l : PullerLoan) (exit : List ℕ) (r : Taken)
      → Takes level p m l r exit
      → number p.error ≡ 0
      → (number r.puller.error ≢ 0)
      → StoppedBy p m r.puller
  pub retry :
      (level : Level) (p : Puller) (sems : List ℕ) (r : Taken)
      → Retries level p sems r
      → number p.error ≡ 0
      → (number r.puller.error ≢ 0)
      → (e : PullerError) × Fails p e r

-- What `take` is lent, by its own arguments, is what its contract speaks of, whole.
abbrev pub Lends : Type 0
Lends = (t sems : List ℕ) (clock : ℕ) → to_puller t sems clock ≡ record { table = t; semaphores = sems; clock = clock }

-- Each contract leaves one outcome.
pub record One : Type 0 where
  pub lookup : (t : List ℕ) (handle : ℕ) (a b : Option Object) → Finds t handle a → Finds t handle b → a ≡ b
  pub first_repeat : (t : List ℕ) (a b : Option ℕ) → Repeats t a → Repeats t b → a ≡ b
  pub number : (e : Option PullerError) (a b : ℕ) → Numbers e a → Numbers e b → a ≡ b
  pub stopped : (p : Puller) (a b : Bool) → Halts p a → Halts p b → a ≡ b
  pub take :
      (level : Level) (p : Puller) (m : Method) (l : PullerLoan) (a b : Taken) (x y : List ℕ)
      → Takes level p m l a x
      → Takes level p m l b y
      → (a ≡ b) × (x ≡ y)
  pub retry : (level : Level) (p : Puller) (sems : List ℕ) (a b : Taken) → Retries level p sems a → Retries level p sems b → a ≡ b
