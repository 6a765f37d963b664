-- Why words are not passed on, in plain terms: which reason is given, and where.
use Rattle.std.specs.Prelude.{ℕ, ◌+◌, ◌/◌, ◌%◌, ◌≤◌, ◌<◌, ◌≡◌, Bool, true, false, List, [], ◌∷◌, ◌++◌, ◌⊎◌, ◌↔◌, length, get_or, map}
use Rattle.std.proofs.Math.Option.{none, some}
use Rattle.std.specs.declared.option.Option.{Option}
use Rattle.std.specs.declared.option.Option.TheVariants.{None, Some}
use Rattle.std.specs.declared.result.Result.TheVariants.{Ok}
use Rattle.word.specs.First.{PlainCase, ◌if◌, FirstIs}
use Rattle.word.specs.Reading as reading
use Rattle.word.specs.Reading.{parameter_count}
use Rattle.word.specs.Outcomes.{Reads, Presents, LentAt}
use Rattle.word.specs.Lent.{words_of}
use Rattle.word.specs.declared.setting.Setting.{Setting}
use Rattle.word.specs.declared.reading.Reading.{Reading}
use Rattle.rules.specs.Map.{main, inside}
use Rattle.rules.specs.Next.{◌in_state◌, nexts}
use Rattle.rules.specs.Reason.{Submission, submission, size, command_at, by_map, no_map, flaw_at}
use Rattle.rules.specs.Judging.{setting_of}
use Rattle.rules.specs.Path.{Next}
use Rattle.rules.specs.Answers.{finding_number, refused_number, refused_pair_in, number, verdict_refusal, values, verdict_why, Accepts}
use Rattle.rules.specs.Outcomes.{Counts, ReadsAt, FindsOwn, MarkedAmong, Arrives, NextPairs, FindsAt, FirstRefuses, HandsIn, Judges}
use Rattle.rules.specs.Promises.{Permitted}
use Rattle.rules.specs.declared.pair.Pair.{Pair}
use Rattle.rules.specs.declared.pair.Nexts.{Nexts}
use Rattle.rules.specs.declared.reason.Reason.{Reason}
use Rattle.rules.specs.declared.judging.FirstRefused.{FirstRefused}
use Rattle.rules.specs.declared.submission.Submission as code_submission
use Rattle.rules.specs.declared.judging.Judgement.{Judgement}

-- G21: what is submitted, as these statements and those of Promises.antt name it.
pub record Submitted : Type 0 where
  -- the setting, in NV04-style
  pub setting : (level : ℕ) (sli : Bool) → let s = setting_of level sli in (s.level.number ≡ level) × (s.mode.number ≡ 0) × (s.sli ≡ sli)
  -- setting, words and list are those that are lent; of the words there is one for every four bytes
  pub lent : (s : Setting) (bytes list : List ℕ) → let x = submission s bytes list in (x.setting ≡ s) × (x.words ≡ words_of bytes) × (x.permit ≡ list)
  pub how_many : (s : Setting) (bytes list : List ℕ) → size (submission s bytes list) ≡ length bytes / 4
  -- the command at a place is what `read` reads of the word that `word_at` gives; no command of NV04-style has a second word
  pub command :
      (s : Setting) (bytes list : List ℕ) (p w : ℕ) (r : Reading)
      → LentAt bytes p w
      → Reads s w 0 r
      → command_at (submission s bytes list) p ≡ r
  -- `size` and `command_at` answer that
  pub counts : (s : Setting) (bytes list : List ℕ) (n : ℕ) → Counts s bytes list n → n ≡ length bytes / 4
  pub reads_at :
      (s : Setting) (bytes list : List ℕ) (p w : ℕ) (d r : Reading)
      → LentAt bytes p w
      → Reads s w 0 r
      → ReadsAt s bytes list p d
      → d ≡ r
  -- and what `submit` hands on is the lent words and list, in NV04-style
  pub submits :
      (most level : ℕ) (sli : Bool) (bytes map list : List ℕ) (x : code_submission.Submission)
      → HandsIn most level sli bytes map list (Ok x)
      → (x.setting ≡ setting_of level sli) × (x.words.now ≡ bytes) × (x.permit.now ≡ list)

-- G22: a byte's lowest bit is main's mark, the one above it a subroutine's; so too of a byte over 3, by these two bits.
abbrev pub Marks : List ℕ → ℕ → Bool → Type 0
Marks map p false = get_or map p 0 % 2 ≡ 1
Marks map p true = get_or map p 0 / 2 % 2 ≡ 1

-- G29: parameter k of a command, from 0, goes to method n of subchannel b, n being the byte number divided by 4: by the command's number,
-- and by its values, of which c is the count and m the byte number of its method.
pub data GoesTo (d : Reading) (k b n : ℕ) : Type 0 where
  -- an increasing method rises from parameter to parameter;
  increasing : (c m : ℕ) → reading.number d ≡ 1 → reading.values d ≡ c ∷ b ∷ m ∷ [] → k < c → n ≡ (m / 4 + k) % 2048 → GoesTo d k b n
  -- a non-increasing one stays, and so does the long form's
  non_increasing : (c m : ℕ) → reading.number d ≡ 2 → reading.values d ≡ c ∷ b ∷ m ∷ [] → k < c → n ≡ m / 4 → GoesTo d k b n
  long : (m c : ℕ) → reading.number d ≡ 5 → reading.values d ≡ b ∷ m ∷ c ∷ [] → k < c → n ≡ m / 4 → GoesTo d k b n

-- G13: an increasing command, with a parameter, that goes past 0x1ffc: c is its count, and m the byte number of its method.
abbrev pub WrapsPlain : Reading → Type 0
WrapsPlain d = (c : ℕ) × (b : ℕ) × (m : ℕ) × (reading.number d ≡ 1) × (reading.values d ≡ c ∷ b ∷ m ∷ []) × (0 < c) × (2048 < m / 4 + c)

-- G3 to G8, G13: the reasons of a command d at place p in state s that are its own: by its number a return is 4, the long form, none of
-- NV04-style's, 5, a call 8, and a reserved word 9 or more.
abbrev pub own_plain : Submission → Reading → ℕ → Bool → List PlainCase
own_plain x d p s =
    -- reserved, a call inside, a return in main;
    3 if ((reading.number d ≡ 5) ⊎ (9 ≤ reading.number d))
    ∷ 4 if ((reading.number d ≡ 8) × (s ≡ inside))
    ∷ 5 if ((reading.number d ≡ 4) × (s ≡ main))
    -- parameters past the end; a run past 0x1ffc; a parameter to a method that the level lacks, one to a method that is not permitted
    ∷ 6 if (size x < p + 1 + parameter_count d)
    ∷ 13 if WrapsPlain d
    ∷ 7 if ((k : ℕ) × (b : ℕ) × (n : ℕ) × GoesTo d k b n × Presents x.setting.level n false)
    ∷ 8 if ((k : ℕ) × (b : ℕ) × (n : ℕ) × GoesTo d k b n × (Permitted x.permit b n → ⊥))
    ∷ []

-- G9: of its c parameters one stands at a marked place
abbrev pub AmongPlain : List ℕ → ℕ → ℕ → Type 0
AmongPlain map p c = (k : ℕ) × (k < c) × (get_or map (p + 1 + k) 0 ≡ 0 → ⊥)

-- G10, G12, G11, G28: of a next pair: past the end; the end, inside; not the end, and without its mark.
abbrev pub arrival_plain : ℕ → Pair → Type 0 → List PlainCase
arrival_plain n q Lacks =
    10 if (n < q.place)
    ∷ 12 if ((q.place ≡ n) × (q.inside ≡ inside))
    ∷ 11 if ((q.place ≡ n → ⊥) × Lacks)
    ∷ []

abbrev pub next_plain : Submission → List ℕ → List Pair → List PlainCase
next_plain x map [] = []
next_plain x map (q ∷ qs) = arrival_plain (size x) q (Marks map q.place q.inside → ⊥) ++ next_plain x map qs

-- G26: the order at one pair
abbrev pub command_plain : Submission → List ℕ → Reading → ℕ → Bool → List PlainCase
command_plain x map d p s =
    own_plain x d p s
    ++ (9 if AmongPlain map p (parameter_count d) ∷ next_plain x map (nexts d p s))

abbrev pub pair_plain : Submission → List ℕ → ℕ → Bool → List PlainCase
pair_plain x map p s = command_plain x map (command_at x p) p s

-- G1: the lowest place whose byte is over 3
pub record WideByte (x : Submission) (map : List ℕ) (p : ℕ) : Type 0 where
  pub within : p < size x
  pub wide : 3 < get_or map p 0
  pub lowest : (q : ℕ) → q < p → get_or map q 0 ≤ 3

-- no byte is; past the end stands 0
abbrev pub NoneWide : List ℕ → Type 0
NoneWide map = (q : ℕ) → get_or map q 0 ≤ 3

-- G2, G30: there is a word, and place 0 lacks main's mark
abbrev pub NoStart : Submission → List ℕ → Type 0
NoStart x map = (0 < size x) × (Marks map 0 main → ⊥)

-- G25: places rising, main before inside
abbrev pub Earlier : ℕ → Bool → ℕ → Bool → Type 0
Earlier q t p s = (q < p) ⊎ ((q ≡ p) × (t ≡ main) × (s ≡ inside))

-- G25: the first marked pair that has a reason
pub record FirstPair (x : Submission) (map : List ℕ) (n p : ℕ) (s : Bool) : Type 0 where
  pub within : p < size x
  pub marked : Marks map p s
  -- G26: the first of its reasons
  pub reason : FirstIs (pair_plain x map p s) n
  pub before : (q : ℕ) (t : Bool) → Earlier q t p s → Marks map q t → (m : ℕ) → FirstIs (pair_plain x map q t) m → ⊥

-- G25: reason n at place p
abbrev pub Against : Submission → List ℕ → ℕ → ℕ → Type 0
Against x map n p =
    ((n ≡ 1) × WideByte x map p)
    ⊎ (NoneWide map × (((n ≡ 2) × (p ≡ 0) × NoStart x map) ⊎ ((NoStart x map → ⊥) × ((s : Bool) × FirstPair x map n p s))))

-- G31: a judgement that is made gives a reason and a place exactly where the rules do; so it accepts where there is none.
abbrev pub Reasons : Type 0
Reasons =
    (level : ℕ) (sli : Bool) (bytes map list : List ℕ) (r : Judgement)
    → Judges level sli bytes map list r
    → verdict_refusal r.verdict ≡ none
    → (n p : ℕ)
    → ((number r.verdict ≡ some n) × (values r.verdict ≡ p ∷ []))
    ↔ Against (submission (setting_of level sli) bytes list) map n p

-- G40: where it is reason 3, it has the why of the word at its place, and there is one; any other answer has none.
pub record Whys : Type 0 where
  pub reserved :
      (level : ℕ) (sli : Bool) (bytes map list : List ℕ) (r : Judgement) (p : ℕ)
      → Judges level sli bytes map list r
      → number r.verdict ≡ some 3
      → values r.verdict ≡ p ∷ []
      → verdict_why r.verdict ≡ reading.why (command_at (submission (setting_of level sli) bytes list) p)
  pub one :
      (level : ℕ) (sli : Bool) (bytes map list : List ℕ) (r : Judgement)
      → Judges level sli bytes map list r
      → verdict_why r.verdict ≡ none ↔ (number r.verdict ≡ some 3 → ⊥)

-- G39: an increasing command at a marked pair of accepted words, c its count and m the byte number of its method, goes to methods that rise
-- by one, all below 2,048: parameter k to number m / 4 + k, and to no other.
abbrev pub NoneWraps : Type 0
NoneWraps =
    (level : ℕ) (sli : Bool) (bytes map list : List ℕ) (r : Judgement)
    → Judges level sli bytes map list r
    → Accepts r.verdict
    → (p : ℕ) (s : Bool)
    → Marks map p s
    → let d = command_at (submission (setting_of level sli) bytes list) p in
    (c b m : ℕ)
    → reading.number d ≡ 1
    → reading.values d ≡ c ∷ b ∷ m ∷ []
    → (k : ℕ)
    → k < c
    → (m / 4 + k < 2048) × ((a n : ℕ) → GoesTo d k a n ↔ ((a ≡ b) × (n ≡ m / 4 + k)))

-- And of the functions that a judgement is made of.

-- `first_refused` gives the first marked pair that has a reason, with that reason.
abbrev pub FirstPairs : Type 0
FirstPairs =
    (setting : Setting) (bytes map list : List ℕ) (r : Option FirstRefused)
    → FirstRefuses setting bytes map list r
    → (n p : ℕ) (s : Bool)
    → ((refused_number r ≡ some n) × (refused_pair_in r ≡ some (p in_state s)))
    ↔ FirstPair (submission setting bytes list) map n p s

-- G27: where the words go on after a command, by its number and its values.
pub record NextsPlain (d : Reading) (p : ℕ) (s : Bool) (qs : List Pair) : Type 0 where
  -- behind its parameters
  pub other : reading.number d ≤ 3 → qs ≡ (p + 1 + parameter_count d) in_state s ∷ []
  -- nowhere after a return; nor after the long form, or a reserved word
  pub return : 4 ≤ reading.number d → reading.number d ≤ 5 → qs ≡ []
  pub reserved : 9 ≤ reading.number d → qs ≡ []
  -- at a jump's target, which is a byte number
  pub jump : (t : ℕ) → 6 ≤ reading.number d → reading.number d ≤ 7 → reading.values d ≡ t ∷ [] → qs ≡ (t / 4) in_state s ∷ []
  -- after a call inside, at its target, and in main, behind it
  pub call : (t : ℕ) → reading.number d ≡ 8 → reading.values d ≡ t ∷ [] → qs ≡ (t / 4) in_state inside ∷ (p + 1) in_state main ∷ []

-- An answer gives such pairs: they are at most two, and it has the first of them first, and the second second.
pub record Gives (qs : List Pair) (r : Nexts) : Type 0 where
  pub most : length qs ≤ 2
  pub first : r.first ≡ get_or (map Some qs) 0 None
  pub second : r.second ≡ get_or (map Some qs) 1 None

-- G26, G27: what each of the others answers of one pair.
pub record AtOnePair : Type 0 where
  pub own_reason :
      (setting : Setting) (bytes list : List ℕ) (d : Reading) (p : ℕ) (s : Bool) (r : Option Reason)
      → FindsOwn setting bytes list d p s r
      → (n : ℕ)
      → finding_number r ≡ some n ↔ FirstIs (own_plain (submission setting bytes list) d p s) n
  pub marked_among : (map : List ℕ) (p c : ℕ) (r : Bool) → MarkedAmong map p c r → r ≡ true ↔ AmongPlain map p c
  pub arrival :
      (n : ℕ) (q : Pair) (lacks : Bool) (r : Option Reason)
      → Arrives n q lacks r
      → (k : ℕ)
      → finding_number r ≡ some k ↔ FirstIs (arrival_plain n q (lacks ≡ true)) k
  -- the list by which the reasons and the path rule go, and the answer that gives it
  pub next_pairs : (d : Reading) (p : ℕ) (s : Bool) → NextsPlain d p s (nexts d p s)
  pub answers_nexts : (d : Reading) (p : ℕ) (s : Bool) (r : Nexts) → NextPairs d p s r → Gives (nexts d p s) r
  -- the reasons of a command together, by a map
  pub command_reason :
      (setting : Setting) (bytes map list : List ℕ) (d : Reading) (p : ℕ) (s : Bool) (ns : Nexts) (r : Option Reason)
      → NextPairs d p s ns
      → FindsAt setting bytes list (by_map map) d p s ns r
      → (n : ℕ)
      → finding_number r ≡ some n ↔ FirstIs (command_plain (submission setting bytes list) map d p s) n
  -- H2: and by none, which are the path rule's
  pub flaw :
      (setting : Setting) (bytes list : List ℕ) (p : ℕ) (s : Bool) (ns : Nexts) (r : Option Reason)
      → let x = submission setting bytes list in
      NextPairs (command_at x p) p s ns
      → FindsAt setting bytes list no_map (command_at x p) p s ns r
      → finding_number r ≡ flaw_at x p s
  -- H2: the path rule asks these and no map: none of its reasons is found at a pair exactly if nothing is found of its command's own, nor
  -- at a next pair, none taken to lack its mark.
  pub path_rule :
      (setting : Setting) (bytes list : List ℕ) (p : ℕ) (s : Bool)
      → let x = submission setting bytes list in
      flaw_at x p s ≡ none
      ↔ (((r : Option Reason) → FindsOwn setting bytes list (command_at x p) p s r → finding_number r ≡ none)
      × ((q : ℕ) (t : Bool) → Next (command_at x p) p s q t → (r : Option Reason) → Arrives (size x) (q in_state t) false r → finding_number r ≡ none))
