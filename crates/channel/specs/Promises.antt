-- The promises about a channel, each a statement that is proved under its own name in proofs/. They speak of the public
-- functions through their contracts (Outcomes.antt): of everything that a contract allows.
use Rattle.std.specs.Prelude.{ℕ, ◌*◌, ◌/◌, ◌%◌, ◌^◌, ◌≤◌, ◌<◌, ◌≡◌, Bool, true, false, List, [], ◌∷◌, ◌⊎◌, ◌↔◌, length, replicate}
use Rattle.std.proofs.Math.Option.{none, some}
use Rattle.word.specs.First.{PlainCase, ◌if◌, FirstIs}
use Rattle.word.specs.Answers.{check_refusal}
use Rattle.word.specs.Lent.{Words}
use Rattle.event.specs.Event as event
use Rattle.event.specs.declared.Kind.TheVariants as kind
use Rattle.event.specs.declared.Method.{Method}
use Rattle.puller.specs.Record as puller_record
use Rattle.puller.specs.Outcomes.{Takes, Retries}
use Rattle.puller.specs.Promises as puller
use Rattle.puller.specs.Widths.{PullerFits}
use Rattle.puller.specs.declared.record.Puller.{Puller}
use Rattle.puller.specs.declared.record.PullerError.{PullerError}
use Rattle.puller.specs.declared.record.PullerError.TheVariants as cause
use Rattle.puller.specs.declared.record.AcquireMode.TheVariants as mode
use Rattle.puller.specs.declared.taking.Taken.{Taken}
use Rattle.pusher.specs.Record as pusher_record
use Rattle.pusher.specs.Loan.{PusherLoan}
use Rattle.pusher.specs.Answers.{method_values, Tells}
use Rattle.pusher.specs.Outcomes.{Moves}
use Rattle.pusher.specs.Promises as pusher
use Rattle.pusher.specs.Widths.{SetUp, PusherFits}
use Rattle.pusher.specs.declared.record.Pusher.{Pusher}
use Rattle.pusher.specs.declared.moving.Pushed.{Pushed}
use Rattle.channel.specs.Answers.{opening_refusal, opening_values, step_refusal, answer_values}
use Rattle.channel.specs.Loan.{Loan, to_step}
use Rattle.channel.specs.Outcomes.{Opens, Puts, StepsTo, Idles}
use Rattle.channel.specs.declared.record.Channel.{Channel}
use Rattle.channel.specs.declared.opening.Opened.{Opened}
use Rattle.channel.specs.declared.putting.Put.{Put}
use Rattle.channel.specs.declared.stepping.Stepped.{Stepped}

-- R13, R32 to R35: what a well-formed channel is, in plain terms: what is asked of the halves stands with them (specs/Widths.antt of
-- each).
pub record WellFormed (c : Channel) : Type 0 where
  pub setup : SetUp c.setup
  pub pusher : PusherFits c.setup c.pusher
  pub puller : PullerFits c.puller

-- The conditions of the refusals, in plain terms, each with its number (docs/CARD.md, R).

-- R5: a table whose last entry isn't whole, or that has too many
abbrev pub BadTable : List ℕ → Type 0
BadTable t = (length t % 4 ≡ 0 → ⊥) ⊎ (4096 < length t)

-- R6: a handle that stands twice
pub record Twice (t : List ℕ) : Type 0 where
  pub later : ℕ
  pub whole : puller.Whole t later
  pub repeated : puller.Repeated t later

-- R25: the order of opening. R1, R2, R3, R4, R10, R5, R6
abbrev pub open_plain : ℕ → ℕ → ℕ → Bool → ℕ → List ℕ → List PlainCase
open_plain level mode order sli mask table =
    1 if (5 < level)
    ∷ 2 if ((1 < mode) ⊎ ((mode ≡ 1) × (level < 4)))
    ∷ 3 if ((mode ≡ 1) × (12 < order))
    ∷ 4 if ((sli ≡ true) × (level < 3))
    ∷ 10 if (4095 < mask)
    ∷ 5 if BadTable table
    ∷ 6 if Twice table
    ∷ []

-- R26: the order of setting put. R13, R7
abbrev pub put_plain : Channel → ℕ → List PlainCase
put_plain c n =
    13 if (WellFormed c → ⊥)
    ∷ 7 if (((c.setup.setting.mode.number ≡ 1 → ⊥) × (n % 4 ≡ 0 → ⊥)) ⊎ ((c.setup.setting.mode.number ≡ 1) × (2 ^ c.setup.order ≤ n)))
    ∷ []

-- R27: the order of a step. R13, R8, R5
abbrev pub step_plain : Channel → Loan → List PlainCase
step_plain c l =
    13 if (WellFormed c → ⊥)
    ∷ 8 if ((1048576 < length l.pusher.words) ⊎ (1048576 < length l.puller.semaphores))
    ∷ 5 if BadTable l.puller.table
    ∷ []

-- S1, R30: what fresh and blank channels have in common, field by field.
pub record AtRest (c : Channel) : Type 0 where
  pub get : c.pusher.get ≡ 0
  pub put : c.pusher.put ≡ 0
  pub run : c.pusher.run ≡ record { count = 0; method = 0; subchannel = 0; increasing = false; awaited = false }
  pub subroutine : c.pusher.subroutine ≡ record { active = false; back = 0 }
  pub ib : c.pusher.ib ≡ record { get = 0; put = 0 }
  pub main : c.pusher.main ≡ record { nonmain = false; mget = 0; valid = false }
  pub pusher_error : pusher_record.number c.pusher.error ≡ 0
  pub engines : c.puller.engines ≡ replicate 8 0
  pub last : c.puller.last ≡ 0
  pub reference : c.puller.reference ≡ 0
  pub semaphore : c.puller.semaphore ≡ record { dma = 0; offset = 0; valid = false }
  pub acquire : c.puller.acquire ≡ record { active = false; value = 0; mode = mode.Old }
  pub long : c.puller.long ≡ record { address = 0; sequence = 0 }
  pub puller_error : puller_record.number c.puller.error ≡ 0

-- S1: a fresh channel
pub record Fresh (level mode order : ℕ) (sli : Bool) (mask limit : ℕ) (c : Channel) : Type 0 where
  pub rest : AtRest c
  pub level_is : c.setup.setting.level.number ≡ level
  pub mode_is : c.setup.setting.mode.number ≡ mode
  pub sli_is : c.setup.setting.sli ≡ sli
  pub limit_is : c.setup.limit ≡ limit
  -- S1: ib_order is held in IB mode alone
  pub held : mode ≡ 0 → c.setup.order ≡ 0
  pub order_is : mode ≡ 1 → c.setup.order ≡ order
  pub mask_is : c.pusher.sli.mask ≡ mask
  pub active : c.pusher.sli.active ≡ true

-- R30: a blank channel
pub record Blank (c : Channel) : Type 0 where
  pub rest : AtRest c
  pub level : c.setup.setting.level.number ≡ 0
  pub mode : c.setup.setting.mode.number ≡ 0
  pub sli : c.setup.setting.sli ≡ false
  pub limit : c.setup.limit ≡ 0
  pub order : c.setup.order ≡ 0
  pub mask : c.pusher.sli.mask ≡ 0
  pub active : c.pusher.sli.active ≡ false

-- Promise 1. R21: a refusal is given exactly when the table says: an answer is refusal n if and only if n's condition holds and none
-- before it in the function's order does.
pub record Refused : Type 0 where
  -- R25: opening
  pub opens :
      (level mode order : ℕ) (sli : Bool) (mask limit : ℕ) (t : List ℕ) (r : Opened)
      → Opens level mode order sli mask limit t r
      → (n : ℕ)
      → opening_refusal r.answer ≡ some n ↔ FirstIs (open_plain level mode order sli mask t) n
  -- R26: setting put
  pub put : (c : Channel) (p : ℕ) (r : Put) → Puts c p r → (n : ℕ) → check_refusal r.answer ≡ some n ↔ FirstIs (put_plain c p) n
  -- R27: a step
  pub step :
      (c : Channel) (l : Loan) (exit : List ℕ) (r : Stepped)
      → StepsTo c l r exit
      → (n : ℕ)
      → step_refusal r.answer ≡ some n ↔ FirstIs (step_plain c l) n
  -- R30: a refused opening has the blank channel beside it
  pub blank :
      (level mode order : ℕ) (sli : Bool) (mask limit : ℕ) (t : List ℕ) (r : Opened)
      → Opens level mode order sli mask limit t r
      → (n : ℕ)
      → opening_refusal r.answer ≡ some n
      → Blank r.channel
  -- R6: and DUPLICATE the entry, the lowest whose handle stood before
  pub repeated :
      (level mode order : ℕ) (sli : Bool) (mask limit : ℕ) (t : List ℕ) (r : Opened)
      → Opens level mode order sli mask limit t r
      → opening_refusal r.answer ≡ some 6
      → (i : ℕ)
      → opening_values r.answer ≡ i ∷ [] ↔ (puller.Whole t i × puller.Repeated t i × ((j : ℕ) → j < i → puller.Repeated t j → ⊥))
  -- R31: the others leave the channel, and the memory
  pub put_unchanged : (c : Channel) (p : ℕ) (r : Put) → Puts c p r → (n : ℕ) → check_refusal r.answer ≡ some n → r.channel ≡ c
  pub step_unchanged :
      (c : Channel) (l : Loan) (exit : List ℕ) (r : Stepped)
      → StepsTo c l r exit
      → (n : ℕ)
      → step_refusal r.answer ≡ some n
      → (r.channel ≡ c) × (exit ≡ l.puller.semaphores)

-- d is the channel c with the pusher p and the puller q
pub record Halves (c : Channel) (p : Pusher) (q : Puller) (d : Channel) : Type 0 where
  pub setup : d.setup ≡ c.setup
  pub pusher : d.pusher ≡ p
  pub puller : d.puller ≡ q

-- What is not refused: S1, the fresh channel; S2, the channel with its put.
pub record Accepted : Type 0 where
  -- what is said of a channel at rest leaves out its set-up and its SLI numbers alone: given these, there is one
  pub rest_is_one : (a b : Channel) → AtRest a → AtRest b → a.setup ≡ b.setup → a.pusher.sli ≡ b.pusher.sli → a ≡ b
  pub opens :
      (level mode order : ℕ) (sli : Bool) (mask limit : ℕ) (t : List ℕ) (r : Opened)
      → Opens level mode order sli mask limit t r
      → opening_refusal r.answer ≡ none
      → (opening_values r.answer ≡ []) × Fresh level mode order sli mask limit r.channel
  -- S2: in NV04-style put, in IB mode ib_put, and nothing else: an error too stays
  pub put :
      (c : Channel) (p : ℕ) (r : Put)
      → Puts c p r
      → check_refusal r.answer ≡ none
      → c.setup.setting.mode.number ≡ 0
      → Halves c (pusher_record.with_put c.pusher p) c.puller r.channel
  pub ib_put :
      (c : Channel) (p : ℕ) (r : Put)
      → Puts c p r
      → check_refusal r.answer ≡ none
      → c.setup.setting.mode.number ≡ 1
      → Halves c (pusher_record.with_ib c.pusher c.pusher.ib.get p) c.puller r.channel

-- What `step` is lent, by its own arguments, is what its contract speaks of, whole: words, IB entries, object table, semaphore words,
-- and the clock.
abbrev pub Lends : Type 0
Lends =
    (ws es t sems : List ℕ) (clock : ℕ)
    → to_step ws es t sems clock ≡ record { pusher = record { words = ws; entries = es }; puller = record { table = t; semaphores = sems; clock = clock } }

-- Each contract leaves one outcome: any two that it allows are equal.
pub record One : Type 0 where
  pub opens :
      (level mode order : ℕ) (sli : Bool) (mask limit : ℕ) (t : List ℕ) (a b : Opened)
      → Opens level mode order sli mask limit t a
      → Opens level mode order sli mask limit t b
      → a ≡ b
  pub put : (c : Channel) (p : ℕ) (a b : Put) → Puts c p a → Puts c p b → a ≡ b
  pub step :
      (c : Channel) (l : Loan) (x y : List ℕ) (a b : Stepped)
      → StepsTo c l a x
      → StepsTo c l b y
      → (a ≡ b) × (x ≡ y)
  pub idle : (c : Channel) (a b : Bool) → Idles c a → Idles c b → a ≡ b

-- Promise 2. What a step says and leaves.

-- what is lent has sizes that no step refuses
pub record SizesFit (l : Loan) : Type 0 where
  pub words : length l.pusher.words ≤ 1048576
  pub semaphores : length l.puller.semaphores ≤ 1048576
  pub table : BadTable l.puller.table → ⊥

-- the step is not refused
pub record Takable (c : Channel) (l : Loan) : Type 0 where
  pub well_formed : WellFormed c
  pub sizes : SizesFit l

-- neither half has been stopped by an error
abbrev pub Running : Channel → Type 0
Running c = (pusher_record.number c.pusher.error ≡ 0) × (puller_record.number c.puller.error ≡ 0)

-- a step, where it is not refused, makes the pusher's move x: nothing has stopped the channel, and no acquire is active
pub record MakesMove (c : Channel) (l : PusherLoan) (x : Pushed) : Type 0 where
  pub running : Running c
  pub no_acquire : c.puller.acquire.active ≡ false
  pub move : Moves c.setup c.pusher l x

-- it makes a move that reads the word at the read address as a command, or as a parameter
pub record ReadsCommand (c : Channel) (l : PusherLoan) : Type 0 where
  pub move : Pushed
  pub makes : MakesMove c l move
  pub reads : pusher.ReadsCommand c.setup c.pusher l

pub record ReadsParameter (c : Channel) (l : PusherLoan) : Type 0 where
  pub move : Pushed
  pub makes : MakesMove c l move
  pub reads : pusher.ReadsParameter c.setup c.pusher l

-- r says these values, and leaves c with the pusher p and the puller q
pub record Leaves (c : Channel) (p : Pusher) (q : Puller) (said : List ℕ) (r : Stepped) : Type 0 where
  pub channel : Halves c p q r.channel
  pub says : answer_values r.answer ≡ said

-- S3: the rules as sentences, of any relation R between what a step is given and what it leaves.
pub record Sentences (R : Channel → Loan → Stepped → List ℕ → Type 0) : Type 0 where
  -- R27, R31: a refusal, by the table
  pub refused :
      (c : Channel) (l : Loan) (exit : List ℕ) (n : ℕ) (r : Stepped)
      → R c l r exit
      → FirstIs (step_plain c l) n
      → (step_refusal r.answer ≡ some n) × (r.channel ≡ c) × (exit ≡ l.puller.semaphores)
  -- S4: stopped, and nothing changes
  pub stopped :
      (c : Channel) (l : Loan) (exit : List ℕ) (r : Stepped)
      → R c l r exit
      → Takable c l
      → (Running c → ⊥)
      → Leaves c c.pusher c.puller (event.number kind.Stopped ∷ []) r × (exit ≡ l.puller.semaphores)
  -- S5: the pusher stays; what the puller does is `Retrying`
  pub retry :
      (c : Channel) (l : Loan) (exit : List ℕ) (taken : Taken) (r : Stepped)
      → R c l r exit
      → Takable c l
      → Running c
      → c.puller.acquire.active ≡ true
      → Retries c.setup.setting.level c.puller l.puller.semaphores taken
      → Leaves c c.pusher taken.puller (event.values taken.event) r × (exit ≡ l.puller.semaphores)
  -- S6, S7, S8: what the move is, `Pushes` says; what the pusher says by itself leaves the puller and the memory
  pub move :
      (c : Channel) (l : Loan) (exit said : List ℕ) (x : Pushed) (r : Stepped)
      → R c l r exit
      → Takable c l
      → MakesMove c l.pusher x
      → Tells x.did 1 said
      → Leaves c x.pusher c.puller said r × (exit ≡ l.puller.semaphores)
  -- S24: the puller takes what is submitted in the same step; how, `Pulls` says
  pub submit :
      (c : Channel) (l : Loan) (exit after : List ℕ) (x : Pushed) (m : Method) (taken : Taken) (r : Stepped)
      → R c l r exit
      → Takable c l
      → MakesMove c l.pusher x
      → Tells x.did 2 (method_values m)
      → Takes c.setup.setting.level c.puller m l.puller taken after
      → Leaves c x.pusher taken.puller (event.values taken.event) r × (exit ≡ after)

-- S27, P20: the step says error alone; the set-up and the semaphore words stay
pub record Raises (c : Channel) (l : Loan) (r : Stepped) (exit : List ℕ) : Type 0 where
  pub says : answer_values r.answer ≡ event.number kind.Error ∷ []
  pub setup : r.channel.setup ≡ c.setup
  pub memory : exit ≡ l.puller.semaphores

-- S27: so it does, and leaves the pusher q stopped by the error n; the puller stays
pub record PusherFails (c : Channel) (l : Loan) (q : Pusher) (n : ℕ) (r : Stepped) (exit : List ℕ) : Type 0 where
  pub raises : Raises c l r exit
  pub pusher : pusher.Failed q n r.channel.pusher
  pub puller : r.channel.puller ≡ c.puller

-- P21: p is the pusher of c after its part of a step: its move's, or, of a retry, the one that it was
pub record KeepsAdvance (c : Channel) (l : Loan) (p : Pusher) : Type 0 where
  pub move : (x : Pushed) → MakesMove c l.pusher x → p ≡ x.pusher
  pub retry : c.puller.acquire.active ≡ true → p ≡ c.pusher

-- P21: q is the puller of c that its part of a step has stopped: a method that the pusher's move submits, or a retry
pub record PullerFails (c : Channel) (l : Loan) (q : Puller) : Type 0 where
  pub take : (x : Pushed) (m : Method) → MakesMove c l.pusher x → Tells x.did 2 (method_values m) → puller.StoppedBy c.puller m q
  pub retry : c.puller.acquire.active ≡ true → (e : PullerError) × puller.Failed c.puller e q

-- the steps do what the sentences say, whole: those of the channel, of the pusher's move and of the puller;
pub record Steps : Type 0 where
  pub channel : Sentences StepsTo
  pub pushes : pusher.Pushes
  pub pulls : puller.Pulls
  pub retrying : puller.Retrying
  pub looks : puller.Looks
  -- S28: errors 1 to 4 leave the advance
  pub word_error :
      (c : Channel) (l : Loan) (exit : List ℕ) (q : Pusher) (r : Stepped)
      → StepsTo c l r exit
      → Takable c l
      → Running c
      → 1 ≤ pusher_record.number r.channel.pusher.error
      → pusher_record.number r.channel.pusher.error ≤ 4
      → pusher.Past c.setup c.pusher q
      → PusherFails c l q (pusher_record.number r.channel.pusher.error) r exit
  -- S28, E4: error 5 leaves the risen ib_get
  pub entry_error :
      (c : Channel) (l : Loan) (exit : List ℕ) (i : ℕ) (r : Stepped)
      → StepsTo c l r exit
      → Takable c l
      → Running c
      → pusher_record.number r.channel.pusher.error ≡ 5
      → pusher.IndexRises c.setup c.pusher i
      → PusherFails c l (pusher_record.with_ib c.pusher i c.pusher.ib.put) 5 r exit
  -- S28: error 6 leaves nothing
  pub protection_error :
      (c : Channel) (l : Loan) (exit : List ℕ) (r : Stepped)
      → StepsTo c l r exit
      → Takable c l
      → Running c
      → pusher_record.number r.channel.pusher.error ≡ 6
      → PusherFails c l c.pusher 6 r exit
  -- P20, P21: an error of the puller, and what it leaves
  pub puller_error :
      (c : Channel) (l : Loan) (exit : List ℕ) (r : Stepped)
      → StepsTo c l r exit
      → Takable c l
      → Running c
      → (puller_record.number r.channel.puller.error ≡ 0 → ⊥)
      → Raises c l r exit × KeepsAdvance c l r.channel.pusher × PullerFails c l r.channel.puller
  -- P14, P16, P21: a retry that finds no word
  pub retry_past_end :
      (c : Channel) (l : Loan) (exit : List ℕ) (e : PullerError) (r : Stepped)
      → StepsTo c l r exit
      → Takable c l
      → Running c
      → c.puller.acquire.active ≡ true
      → c.puller.acquire.mode ≡ mode.Old
      → puller.PastEnd c.setup.setting.level c.puller l.puller.semaphores e
      → Raises c l r exit × (r.channel.pusher ≡ c.pusher) × puller.Failed c.puller e r.channel.puller
  -- P31: nor a long one
  pub long_retry_past_end :
      (c : Channel) (l : Loan) (exit : List ℕ) (r : Stepped)
      → StepsTo c l r exit
      → Takable c l
      → Running c
      → c.puller.acquire.active ≡ true
      → (c.puller.acquire.mode ≡ mode.Old → ⊥)
      → length l.puller.semaphores ≤ c.puller.long.address / 4
      → Raises c l r exit × (r.channel.pusher ≡ c.pusher) × puller.Failed c.puller cause.Semaphore4 r.channel.puller

-- S10: two words are lent, the limit is 0, and a step is about to read the word at this address, in this mode
pub record TwoLent (mode get : ℕ) (c : Channel) (l : Loan) : Type 0 where
  pub takable : Takable c l
  pub running : Running c
  pub no_acquire : c.puller.acquire.active ≡ false
  pub mode_is : c.setup.setting.mode.number ≡ mode
  pub limit_is : c.setup.limit ≡ 0
  pub get_is : c.pusher.get ≡ get
  pub unequal : c.pusher.get ≡ c.pusher.put → ⊥
  pub two : length l.pusher.words ≡ 2

-- S10: the limit counts in NV04-style alone, the end of the lent words in either mode: an address above that limit, where a word is
-- lent, and the first where none is
pub record Limit : Type 0 where
  -- in NV04-style PROTECTION, where the read address stays, as everything else does
  pub nv04_style : (c : Channel) (l : Loan) (exit : List ℕ) (r : Stepped) → StepsTo c l r exit → TwoLent 0 4 c l → PusherFails c l c.pusher 6 r exit
  -- in IB mode the word is read, whatever it is: the read address is behind it, and the error, if there is one, another
  pub ib :
      (c : Channel) (l : Loan) (exit : List ℕ) (r : Stepped)
      → StepsTo c l r exit
      → TwoLent 1 4 c l
      → (r.channel.pusher.get ≡ 8) × (pusher_record.number r.channel.pusher.error ≡ 6 → ⊥)
  -- behind the two words it is PROTECTION in either
  pub behind :
      (mode : ℕ) (c : Channel) (l : Loan) (exit : List ℕ) (r : Stepped)
      → StepsTo c l r exit
      → TwoLent mode 8 c l
      → PusherFails c l c.pusher 6 r exit
  -- and there are such channels, at level 4
  pub shown :
      (mode get : ℕ)
      → mode ≤ 1
      → ((get ≡ 4) ⊎ (get ≡ 8))
      → (c : Channel) × (l : Loan) × TwoLent mode get c l × (c.setup.setting.level.number ≡ 4)

-- P32: two channels, and two loans, that differ in the long semaphore and the clock alone
pub record ButLong (c d : Channel) : Type 0 where
  pub setup : c.setup ≡ d.setup
  pub pusher : c.pusher ≡ d.pusher
  pub puller : puller.ButLong c.puller d.puller

pub record ButClock (l k : Loan) : Type 0 where
  pub pusher : l.pusher ≡ k.pusher
  pub puller : puller.ButClock l.puller k.puller

-- P32: below level 5, with no long acquire active, a step of either is the step of the other, and the long semaphore stays
abbrev pub Apart : Type 0
Apart =
    (c d : Channel) (l k : Loan) (x y : List ℕ) (a b : Stepped)
    → StepsTo c l a x
    → StepsTo d k b y
    → Takable c l
    → Takable d k
    → ButLong c d
    → ButClock l k
    → c.setup.setting.level.number < 5
    → (c.puller.acquire.active ≡ true → c.puller.acquire.mode ≡ mode.Old)
    → (answer_values a.answer ≡ answer_values b.answer) × ButLong a.channel b.channel × (a.channel.puller.long ≡ c.puller.long) × (x ≡ y)

-- and they leave no case open: whatever does what they say does what `step` does.
abbrev pub NoOther : Type 1
NoOther =
    (R : Channel → Loan → Stepped → List ℕ → Type 0)
    → Sentences R
    → (c : Channel) (l : Loan) (exit : List ℕ) (r : Stepped)
    → R c l r exit
    → StepsTo c l r exit

-- S32, S3: a step is at most one move of the pusher: the puller leaves the pusher's record, and nothing changes the set-up.
abbrev pub AtMostOneMove : Type 0
AtMostOneMove =
    (c : Channel) (l : Loan) (exit : List ℕ) (r : Stepped)
    → StepsTo c l r exit
    → (r.channel.setup ≡ c.setup)
    × ((r.channel.pusher ≡ c.pusher) ⊎ ((x : Pushed) × MakesMove c l.pusher x × (r.channel.pusher ≡ x.pusher)))

-- S32: what 'read as' is by event. Of a step that is not refused:
pub record ReadAs : Type 0 where
  -- one that reads a command says command, or raises an error of the pusher;
  pub command :
      (c : Channel) (l : Loan) (exit : List ℕ) (r : Stepped)
      → StepsTo c l r exit
      → step_refusal r.answer ≡ none
      → ReadsCommand c l.pusher
      → (answer_values r.answer ≡ event.number kind.Command ∷ []) ⊎ (pusher_record.number r.channel.pusher.error ≡ 0 → ⊥)
  -- one that reads a parameter tells the method of the run under way, or raises an error;
  pub parameter :
      (c : Channel) (l : Loan) (exit : List ℕ) (r : Stepped)
      → StepsTo c l r exit
      → step_refusal r.answer ≡ none
      → ReadsParameter c l.pusher
      → (answer_values r.answer ≡ event.number kind.Error ∷ [])
      ⊎ ((k n : ℕ) × (answer_values r.answer ≡ k ∷ c.pusher.run.subchannel ∷ 4 * c.pusher.run.method ∷ n ∷ []))
  -- and one that says command, or tells a method, has read a word so
  pub says_command :
      (c : Channel) (l : Loan) (exit : List ℕ) (r : Stepped)
      → StepsTo c l r exit
      → answer_values r.answer ≡ event.number kind.Command ∷ []
      → ReadsCommand c l.pusher
  pub tells_method :
      (c : Channel) (l : Loan) (exit : List ℕ) (k b m n : ℕ) (r : Stepped)
      → StepsTo c l r exit
      → answer_values r.answer ≡ k ∷ b ∷ m ∷ n ∷ []
      → ReadsParameter c l.pusher

-- S8: what is left where nothing before it applies
pub record Resting (c : Channel) : Type 0 where
  pub running : Running c
  pub no_acquire : c.puller.acquire.active ≡ false
  pub equal : c.pusher.get ≡ c.pusher.put
  pub no_entry : (c.setup.setting.mode.number ≡ 1 → ⊥) ⊎ (c.pusher.ib.get ≡ c.pusher.ib.put)

-- S8: told without a step
pub record Idle : Type 0 where
  -- `idle` says so of every channel, one that is refused too;
  pub rests : (c : Channel) (a : Bool) → Idles c a → a ≡ true ↔ Resting c
  -- and a step that is not refused says idle exactly then. No step is tried for it.
  pub step :
      (c : Channel) (a : Bool) (l : Loan) (exit : List ℕ) (r : Stepped)
      → Idles c a
      → StepsTo c l r exit
      → step_refusal r.answer ≡ none
      → a ≡ true ↔ (answer_values r.answer ≡ event.number kind.Idle ∷ [])

-- what is lent are words of 32 bits; of IB entries and semaphore words no width is asked
pub record OfWords (l : Loan) : Type 0 where
  pub words : Words l.pusher.words
  pub table : Words l.puller.table

-- d comes of c by puts and steps in any order, refused ones too, each with its own lent memory
pub data Later (c : Channel) : Channel → Type 0 where
  same : Later c c
  put : {d e : Channel} (n : ℕ) (r : Put) → Later c d → n < 2 ^ 32 → Puts d n r → e ≡ r.channel → Later c e
  step :
      {d e : Channel} (l : Loan) (exit : List ℕ) (r : Stepped)
      → Later c d
      → OfWords l
      → StepsTo d l r exit
      → e ≡ r.channel
      → Later c e

-- S31: what is opened stays well-formed
pub record Kept : Type 0 where
  -- R13: the answer is not 13 exactly if the channel is well-formed
  pub put_state : (c : Channel) (n : ℕ) (r : Put) → Puts c n r → (check_refusal r.answer ≡ some 13 → ⊥) ↔ WellFormed c
  pub step_state :
      (c : Channel) (l : Loan) (exit : List ℕ) (r : Stepped)
      → StepsTo c l r exit
      → (step_refusal r.answer ≡ some 13 → ⊥) ↔ WellFormed c
  -- opened and blank channels are
  pub opened :
      (level mode order : ℕ) (sli : Bool) (mask limit : ℕ) (t : List ℕ) (r : Opened)
      → limit < 2 ^ 32
      → Opens level mode order sli mask limit t r
      → WellFormed r.channel
  -- and puts and steps keep it
  pub later : (c d : Channel) → WellFormed c → Later c d → WellFormed d
  -- so an opened channel is never refused as STATE
  pub never :
      (level mode order : ℕ) (sli : Bool) (mask limit : ℕ) (table : List ℕ) (r : Opened) (d : Channel)
      → limit < 2 ^ 32
      → Opens level mode order sli mask limit table r
      → Later r.channel d
      → ((n : ℕ) (x : Put) → Puts d n x → check_refusal x.answer ≡ some 13 → ⊥)
      × ((l : Loan) (exit : List ℕ) (x : Stepped) → StepsTo d l x exit → step_refusal x.answer ≡ some 13 → ⊥)
