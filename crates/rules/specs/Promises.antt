-- The promises about the gatekeeper, each a statement that is proved under its own name in proofs/. They speak of the public
-- functions through their contracts (Outcomes.antt, and those of channel and pusher): of everything that a contract allows.
use Rattle.std.specs.Prelude.{ℕ, zero, suc, ◌+◌, ◌*◌, ◌/◌, ◌%◌, ◌^◌, ◌≤◌, ◌<◌, ◌≡◌, Bool, true, false, List, [], ◌∷◌, ◌⊎◌, ◌↔◌, length, get_or}
use Rattle.std.proofs.Math.Option.{none, some}
use Rattle.std.specs.declared.option.Option.{Option}
use Rattle.std.specs.declared.result.Result.{Result}
use Rattle.std.specs.declared.result.Result.TheVariants.{Ok, Err}
use Rattle.word.specs.First.{PlainCase, ◌if◌, FirstIs}
use Rattle.word.specs.Answers.{check_refusal}
use Rattle.word.specs.declared.setting.Setting.{Setting}
use Rattle.word.specs.declared.setting.Refusal.{Refusal}
use Rattle.word.specs.declared.reading.Reading.{Reading}
use Rattle.event.specs.declared.Method.{Method}
use Rattle.pusher.specs.Record as pusher_record
use Rattle.pusher.specs.Outcomes.{Moves}
use Rattle.pusher.specs.Loan.{PusherLoan}
use Rattle.pusher.specs.Many.{Moved, Submits}
use Rattle.pusher.specs.Promises as pusher
use Rattle.pusher.specs.declared.record.Setup.{Setup}
use Rattle.pusher.specs.declared.record.Pusher.{Pusher}
use Rattle.pusher.specs.declared.moving.Pushed.{Pushed}
use Rattle.channel.specs.Answers.{opening_refusal, step_refusal, answer_values}
use Rattle.channel.specs.Outcomes.{Opens, Puts, StepsTo}
use Rattle.channel.specs.Loan.{Loan}
use Rattle.channel.specs.Promises as channel
use Rattle.channel.specs.Promises.{BadTable, Twice, MakesMove}
use Rattle.channel.specs.declared.record.Channel.{Channel}
use Rattle.channel.specs.declared.opening.Opened.{Opened}
use Rattle.channel.specs.declared.putting.Put.{Put}
use Rattle.channel.specs.declared.stepping.Stepped.{Stepped}
use Rattle.word.specs.Lent.{Words, words_of}
use Rattle.rules.specs.Reason.{Submission, submission, size, command_at, MapTests, flaw_at}
use Rattle.rules.specs.Judging.{setting_of}
use Rattle.rules.specs.Path.{Next, Reached, Bad, Exact}
use Rattle.rules.specs.Search.{Found, ◌found_from◌, found, exact_map}
use Rattle.rules.specs.Answers.{submit_refusal, number, verdict_refusal, Accepts}
use Rattle.rules.specs.Outcomes.{Counts, ReadsAt, FindsOwn, MarkedAmong, Arrives, NextPairs, FindsAt, FirstRefuses, NoSuchLengths, HandsIn, Judges}
use Rattle.rules.specs.declared.pair.Pair.{Pair}
use Rattle.rules.specs.declared.pair.Nexts.{Nexts}
use Rattle.rules.specs.declared.reason.Reason.{Reason}
use Rattle.rules.specs.declared.judging.FirstRefused.{FirstRefused}
use Rattle.rules.specs.declared.submission.Submission as code_submission
use Rattle.rules.specs.declared.judging.Judgement.{Judgement}

-- What is lent are bytes.
abbrev pub Bytes : List ℕ → Type 0
Bytes l = (i : ℕ) → get_or l i 0 < 2 ^ 8

-- G23: the bit of a method, by subchannel and number; where it is set, the method is permitted.
abbrev pub permit_bit : List ℕ → ℕ → ℕ → ℕ
permit_bit list subchannel m = get_or list (256 * subchannel + m / 8) 0 / 2 ^ (m % 8) % 2

abbrev pub Permitted : List ℕ → ℕ → ℕ → Type 0
Permitted list subchannel m = permit_bit list subchannel m ≡ 1

-- Promise 1.

-- R9: the bytes are no whole words, the map has not a byte for each, or the list has another length
abbrev pub BadLengths : ℕ → ℕ → ℕ → Type 0
BadLengths bytes map list = (bytes % 4 ≡ 0 → ⊥) ⊎ ((map ≡ bytes / 4 → ⊥) ⊎ (list ≡ 2048 → ⊥))

-- R28: the gatekeeper's order, in plain terms. R1, R4, R8, R9
abbrev pub judge_plain : ℕ → ℕ → Bool → List ℕ → List ℕ → List ℕ → List PlainCase
judge_plain most level sli bytes map list =
    1 if (5 < level)
    ∷ 4 if ((sli ≡ true) × (level < 3))
    ∷ 8 if (4 * most < length bytes)
    ∷ 9 if BadLengths (length bytes) (length map) (length list)
    ∷ []

-- R9: `no_such_lengths` answers that
abbrev pub Lengths : Type 0
Lengths = (bytes map list : ℕ) (r : Bool) → NoSuchLengths bytes map list r → r ≡ true ↔ BadLengths bytes map list

-- R21, R28: a refusal is given exactly when the table says: the answer is refusal n if and only if n's condition holds and none before
-- it in the order does; and then there is no reason, and the count is 0 (G24).
pub record Refused : Type 0 where
  pub exactly :
      (level : ℕ) (sli : Bool) (bytes map list : List ℕ) (r : Judgement)
      → Judges level sli bytes map list r
      → (n : ℕ)
      → verdict_refusal r.verdict ≡ some n ↔ FirstIs (judge_plain 1048576 level sli bytes map list) n
  pub nothing_else :
      (level : ℕ) (sli : Bool) (bytes map list : List ℕ) (r : Judgement)
      → Judges level sli bytes map list r
      → (n : ℕ)
      → verdict_refusal r.verdict ≡ some n
      → (number r.verdict ≡ none) × (r.count ≡ 0)
  -- what is submitted is refused by the same table, with any number as the most words
  pub submitting :
      (most level : ℕ) (sli : Bool) (bytes map list : List ℕ) (r : Result code_submission.Submission Refusal)
      → HandsIn most level sli bytes map list r
      → (n : ℕ)
      → submit_refusal r ≡ some n ↔ FirstIs (judge_plain most level sli bytes map list) n

-- Two answers of `submit` hand in the same: the setting, and the bytes of words and list; or they are the same refusal. Where bytes lie
-- in memory no statement says.
abbrev pub SameHandedIn : Result code_submission.Submission Refusal → Result code_submission.Submission Refusal → Type 0
SameHandedIn (Ok x) (Ok y) = (x.setting ≡ y.setting) × (x.words.now ≡ y.words.now) × (x.permit.now ≡ y.permit.now)
SameHandedIn (Ok x) (Err m) = ⊥
SameHandedIn (Err n) (Ok y) = ⊥
SameHandedIn (Err n) (Err m) = n ≡ m

-- Each contract leaves one outcome.
pub record One : Type 0 where
  pub counts : (setting : Setting) (bytes list : List ℕ) (a b : ℕ) → Counts setting bytes list a → Counts setting bytes list b → a ≡ b
  pub reads_at : (setting : Setting) (bytes list : List ℕ) (p : ℕ) (a b : Reading) → ReadsAt setting bytes list p a → ReadsAt setting bytes list p b → a ≡ b
  pub own_reason :
      (setting : Setting) (bytes list : List ℕ) (d : Reading) (p : ℕ) (s : Bool) (a b : Option Reason)
      → FindsOwn setting bytes list d p s a
      → FindsOwn setting bytes list d p s b
      → a ≡ b
  pub marked_among : (map : List ℕ) (p c : ℕ) (a b : Bool) → MarkedAmong map p c a → MarkedAmong map p c b → a ≡ b
  pub arrival : (n : ℕ) (q : Pair) (lacks : Bool) (a b : Option Reason) → Arrives n q lacks a → Arrives n q lacks b → a ≡ b
  pub nexts : (d : Reading) (p : ℕ) (s : Bool) (a b : Nexts) → NextPairs d p s a → NextPairs d p s b → a ≡ b
  pub command_reason :
      (setting : Setting) (bytes list : List ℕ) (m : MapTests) (d : Reading) (p : ℕ) (s : Bool) (ns : Nexts) (a b : Option Reason)
      → FindsAt setting bytes list m d p s ns a
      → FindsAt setting bytes list m d p s ns b
      → a ≡ b
  pub first_refused :
      (setting : Setting) (bytes map list : List ℕ) (a b : Option FirstRefused)
      → FirstRefuses setting bytes map list a
      → FirstRefuses setting bytes map list b
      → a ≡ b
  pub submit :
      (most level : ℕ) (sli : Bool) (bytes map list : List ℕ) (a b : Result code_submission.Submission Refusal)
      → HandsIn most level sli bytes map list a
      → HandsIn most level sli bytes map list b
      → SameHandedIn a b
  pub no_such_lengths : (bytes map list : ℕ) (a b : Bool) → NoSuchLengths bytes map list a → NoSuchLengths bytes map list b → a ≡ b
  pub judge : (level : ℕ) (sli : Bool) (bytes map list : List ℕ) (a b : Judgement) → Judges level sli bytes map list a → Judges level sli bytes map list b → a ≡ b

-- the sum of the values below n
unfoldable pub sum : (ℕ → ℕ) → ℕ → ℕ
sum f zero = 0
sum f (suc n) = sum f n + f n

-- how many methods of the eight subchannels a list permits
abbrev pub permitted_pairs : List ℕ → ℕ
permitted_pairs list = sum (λ subchannel. sum (permit_bit list subchannel) 2048) 8

-- G24: the count of the answer is the number of permitted methods.
abbrev pub Counted : Type 0
Counted =
    (level : ℕ) (sli : Bool) (bytes map list : List ℕ) (r : Judgement)
    → Bytes list
    → Judges level sli bytes map list r
    → verdict_refusal r.verdict ≡ none
    → r.count ≡ permitted_pairs list

-- Promise 3, its first half. Of the pusher's moves alone, with whatever the puller does in between:

-- G37: neither a command nor a subroutine is open
pub record Closed (p : Pusher) : Type 0 where
  pub count : p.run.count ≡ 0
  pub awaited : p.run.awaited ≡ false
  pub subroutine : p.subroutine.active ≡ false

-- what holds of a pusher at any time
pub record SafePusher (s : Setup) (ws list : List ℕ) (p : Pusher) : Type 0 where
  -- G34: no error
  pub no_error : pusher_record.number p.error ≡ 0
  -- G35: what a move submits is permitted
  pub permitted :
      (l : PusherLoan) (x : Pushed) (m : Method)
      → l.words ≡ ws
      → Moves s p l x
      → Submits x m
      → Permitted list m.subchannel (m.method / 4)
  -- so too by the word: one that is read as a parameter goes to a permitted method
  pub parameter : (l : PusherLoan) → l.words ≡ ws → pusher.ReadsParameter s p l → Permitted list p.run.subchannel p.run.method
  -- G37: at put nothing is open
  pub closed : p.get ≡ p.put → Closed p

-- a pusher before its first move, at a set-up in NV04-style, with put at the end of the words
pub record FreshPusher (level : ℕ) (sli : Bool) (ws : List ℕ) (s : Setup) (p : Pusher) : Type 0 where
  pub setting : s.setting ≡ setting_of level sli
  -- G33: every word is within the limit
  pub limit : (i : ℕ) → i < length ws → 4 * i ≤ s.limit
  pub get : p.get ≡ 0
  pub put : p.put ≡ 4 * length ws
  pub closed : Closed p
  pub no_error : pusher_record.number p.error ≡ 0

-- G33: what acceptance means for the pusher by itself
abbrev pub SoundMoves : Type 0
SoundMoves =
    (level : ℕ) (sli : Bool) (bytes map list : List ℕ) (r : Judgement)
    → Judges level sli bytes map list r
    → Accepts r.verdict
    → (s : Setup) (p : Pusher)
    → FreshPusher level sli (words_of bytes) s p
    → ((q : Pusher) → Moved s (words_of bytes) p q → SafePusher s (words_of bytes) list q)
    -- G36: no word is read both ways, whatever moves led to either reading
    × ((q t : Pusher) (k l : PusherLoan)
    → k.words ≡ words_of bytes
    → l.words ≡ words_of bytes
    → Moved s (words_of bytes) p q
    → Moved s (words_of bytes) p t
    → pusher.ReadsCommand s q k
    → pusher.ReadsParameter s t l
    → q.get / 4 ≡ t.get / 4
    → ⊥)

-- And of the channel, by its own opening, put and steps.

-- G33: the channel that acceptance speaks of, before its first step, with any SLI mask and any object table that can be opened; that the
-- words stay the same is said where steps are made
pub record Started (level : ℕ) (sli : Bool) (ws : List ℕ) : Type 0 where
  pub order : ℕ
  pub mask : ℕ
  pub mask_fits : mask ≤ 4095
  pub limit : ℕ
  pub limit_fits : limit < 2 ^ 32
  pub limit_not_below : (i : ℕ) → i < length ws → 4 * i ≤ limit
  pub table : List ℕ
  pub table_fits : BadTable table → ⊥
  pub handles_once : Twice table → ⊥
  pub opened : Opened
  pub opens : Opens level 0 order sli mask limit table opened
  pub put : Put
  pub puts : Puts opened.channel (4 * length ws) put

-- d comes of c by any number of steps on these words, refused ones too, at each with its own loan of all else; a table has words of 32
-- bits
pub data AfterSteps (ws : List ℕ) (c : Channel) : Channel → Type 0 where
  now : AfterSteps ws c c
  step :
      {d e : Channel} (l : Loan) (exit : List ℕ) (r : Stepped)
      → AfterSteps ws c d
      → l.pusher.words ≡ ws
      → Words l.puller.table
      → StepsTo d l r exit
      → e ≡ r.channel
      → AfterSteps ws c e

-- what holds of a channel at any time. G34: no error
pub record Safe (ws list : List ℕ) (c : Channel) : Type 0 where
  pub no_pusher_error : pusher_record.number c.pusher.error ≡ 0
  -- G38: no step is refused but for the size of table or semaphore memory
  pub taken :
      (l : Loan) (exit : List ℕ) (r : Stepped)
      → l.pusher.words ≡ ws
      → (BadTable l.puller.table → ⊥)
      → length l.puller.semaphores ≤ 1048576
      → StepsTo c l r exit
      → step_refusal r.answer ≡ none
  -- G35: each method that a step submits, whether delivered, discarded or failing in the puller, is permitted
  pub permitted :
      (l : PusherLoan) (x : Pushed) (m : Method)
      → l.words ≡ ws
      → MakesMove c l x
      → Submits x m
      → Permitted list m.subchannel (m.method / 4)
  -- and so is each that a step tells, by its kind, subchannel, byte number and parameter
  pub told :
      (l : Loan) (exit : List ℕ) (k b m n : ℕ) (r : Stepped)
      → l.pusher.words ≡ ws
      → StepsTo c l r exit
      → answer_values r.answer ≡ k ∷ b ∷ m ∷ n ∷ []
      → Permitted list b (m / 4)
  -- G37: at put nothing is open
  pub closed : c.pusher.get ≡ c.pusher.put → Closed c.pusher

pub record StaysSafe (level : ℕ) (sli : Bool) (ws list : List ℕ) (start : Started level sli ws) : Type 0 where
  -- G38: opening and put are not refused
  pub opens : opening_refusal start.opened.answer ≡ none
  pub puts : check_refusal start.put.answer ≡ none
  pub safe : (c : Channel) → AfterSteps ws start.put.channel c → Safe ws list c
  -- G36: no word is read both as command and as parameter, by any two steps
  pub apart :
      (c d : Channel) (k l : PusherLoan)
      → k.words ≡ ws
      → l.words ≡ ws
      → AfterSteps ws start.put.channel c
      → AfterSteps ws start.put.channel d
      → channel.ReadsCommand c k
      → channel.ReadsParameter d l
      → c.pusher.get / 4 ≡ d.pusher.get / 4
      → ⊥

-- G33: what acceptance means
abbrev pub Sound : Type 0
Sound =
    (level : ℕ) (sli : Bool) (bytes map list : List ℕ) (r : Judgement)
    → Bytes bytes
    → Judges level sli bytes map list r
    → Accepts r.verdict
    → (start : Started level sli (words_of bytes))
    → StaysSafe level sli (words_of bytes) list start

-- Promise 3, its second half.

-- H6: level, SLI setting and sizes that are not refused; the map's size is said by `Exact`
pub record Sized (level : ℕ) (sli : Bool) (bytes list : List ℕ) : Type 0 where
  pub level_fits : level ≤ 5
  pub sli_fits : sli ≡ true → 3 ≤ level
  pub words : length bytes ≤ 4 * 1048576
  pub whole : length bytes % 4 ≡ 0
  pub permit : length list ≡ 2048

-- H6: the exact map of words without a bad place is accepted, with the true count
abbrev pub Complete : Type 0
Complete =
    (level : ℕ) (sli : Bool) (bytes map list : List ℕ) (r : Judgement)
    → Bytes list
    → Judges level sli bytes map list r
    → Sized level sli bytes list
    → ((p : ℕ) → Bad (submission (setting_of level sli) bytes list) p → ⊥)
    → Exact (submission (setting_of level sli) bytes list) map
    → Accepts r.verdict × (r.count ≡ permitted_pairs list)

-- H5: the exact map is one map.
abbrev pub ExactIsOne : Type 0
ExactIsOne = (x : Submission) (a b : List ℕ) → Exact x a → Exact x b → a ≡ b

-- H8: and there is always one, whatever the words and however many.
abbrev pub ExactMap : Type 0
ExactMap = (x : Submission) → Exact x (exact_map x)

-- H7: the other way round: accepted words have no bad place, whatever the map.
abbrev pub NoneBad : Type 0
NoneBad =
    (level : ℕ) (sli : Bool) (bytes map list : List ℕ) (r : Judgement)
    → Judges level sli bytes map list r
    → Accepts r.verdict
    → (p : ℕ)
    → Bad (submission (setting_of level sli) bytes list) p
    → ⊥

-- The search.

-- H9: k is the number of place p in state s
abbrev pub Numbers : ℕ → ℕ → Bool → Type 0
Numbers k p false = k ≡ 2 * p
Numbers k p true = k ≡ 2 * p + 1

-- H2: the pair j leads to the pair k: it has none of the path rule's reasons, and k is a next pair of it, and not the end
pub record Leads (x : Submission) (j k : ℕ) : Type 0 where
  pub place : ℕ
  pub state : Bool
  pub numbered : Numbers j place state
  pub next_place : ℕ
  pub next_state : Bool
  pub next_numbered : Numbers k next_place next_state
  pub flawless : flaw_at x place state ≡ none
  pub next : Next (command_at x place) place state next_place next_state
  pub not_the_end : next_place ≡ size x → ⊥

-- the i-th that is found, from 0
abbrev pub nth : Submission → ℕ → Found
nth x i = get_or (found x) i (0 found_from 0)

pub record FoundInOrder (x : Submission) : Type 0 where
  -- H10: each is reached, and what is reached is one of them,
  pub reached : (p : ℕ) (s : Bool) → Reached x p s ↔ ((i : ℕ) × (i < length (found x)) × Numbers (nth x i).pair p s)
  -- once
  pub once : (i j : ℕ) → i < j → j < length (found x) → (nth x i).pair ≡ (nth x j).pair → ⊥
  -- H9: the first is place 0 in main, from itself
  pub first : 0 < length (found x) → ((nth x 0).pair ≡ 0) × ((nth x 0).from ≡ 0)
  -- H10: any other is found from one before it, which leads to it
  pub from : (i : ℕ) → 0 < i → i < length (found x) → (h : ℕ) × (h < i) × ((nth x i).from ≡ (nth x h).pair) × Leads x (nth x h).pair (nth x i).pair
  -- H9: those from which it is found are taken in the order in which they were found
  pub in_turn :
      (i j h g : ℕ)
      → 0 < i
      → i < j
      → j < length (found x)
      → h < length (found x)
      → g < length (found x)
      → (nth x i).from ≡ (nth x h).pair
      → (nth x j).from ≡ (nth x g).pair
      → h ≤ g

-- H9, H10: what is found is what is reached, in order, each from a pair before it
abbrev pub Finds : Type 0
Finds = (x : Submission) → FoundInOrder x
