-- The promises about the repair, each a statement that is proved under its own name in proofs/. They speak of it through its contract
-- (Outcomes.antt): of every answer, map, list and work room that the contract allows.
use Rattle.std.specs.Prelude.{ℕ, ◌*◌, ◌/◌, ◌%◌, ◌^◌, ◌≤◌, ◌<◌, ◌≡◌, Bool, List, [], ◌∷◌, ◌++◌, ◌⊎◌, ◌↔◌, length, get_or}
use Rattle.std.proofs.Math.Option.{none, some}
use Rattle.std.specs.declared.result.Result.{Result}
use Rattle.word.specs.First.{PlainCase, ◌if◌, FirstIs}
use Rattle.word.specs.declared.setting.Refusal.{Refusal}
use Rattle.rules.specs.Reason.{size}
use Rattle.rules.specs.Path.{Bad, Exact}
use Rattle.rules.specs.Answers.{Accepts}
use Rattle.rules.specs.Outcomes.{Judges}
use Rattle.rules.specs.Promises.{Bytes, judge_plain}
use Rattle.rules.specs.Reasons.{Marks}
use Rattle.rules.specs.declared.judging.Judgement.{Judgement}
use Rattle.repair.specs.Answers.{repaired_refusal, repaired_values}
use Rattle.repair.specs.Outcomes.{RepairLoan, to_repair, submitted, Repairs}

-- Promise 1. R37: the order, in plain terms: the gatekeeper's for at most 8,192 words (R8), and then the rooms (R11).
abbrev pub repair_plain : ℕ → Bool → RepairLoan → List PlainCase
repair_plain level sli l =
    judge_plain 8192 level sli l.bytes l.map l.permit
    ++ (11 if ((length l.list < length l.bytes / 4) ⊎ (length l.work < 2 * (length l.bytes / 4))) ∷ [])

-- R21, R37: the answer is refusal n if and only if n's condition holds and none before it in the order does; R31: and then map, list and
-- work room are as they were.
pub record Refused : Type 0 where
  pub exactly :
      (level : ℕ) (sli : Bool) (l : RepairLoan) (a : Result ℕ Refusal) (map list work : List ℕ)
      → Repairs level sli l a map list work
      → (n : ℕ)
      → repaired_refusal a ≡ some n ↔ FirstIs (repair_plain level sli l) n
  pub unwritten :
      (level : ℕ) (sli : Bool) (l : RepairLoan) (a : Result ℕ Refusal) (map list work : List ℕ)
      → Repairs level sli l a map list work
      → (n : ℕ)
      → repaired_refusal a ≡ some n
      → (map ≡ l.map) × (list ≡ l.list) × (work ≡ l.work)

-- The contract leaves one outcome.
abbrev pub One : Type 0
One =
    (level : ℕ) (sli : Bool) (l : RepairLoan) (a b : Result ℕ Refusal) (map map' list list' work work' : List ℕ)
    → Repairs level sli l a map list work
    → Repairs level sli l b map' list' work'
    → (a ≡ b) × (map ≡ map') × (list ≡ list') × (work ≡ work')

-- What is lent is named, and goes by these names into what is submitted.
abbrev pub Lends : Type 0
Lends =
    (bytes map permit list work : List ℕ)
    → let l = to_repair bytes map permit list work in
    (l.bytes ≡ bytes) × (l.map ≡ map) × (l.permit ≡ permit) × (l.list ≡ list) × (l.work ≡ work)

-- Of a repair that is not refused.

-- H12: the map that comes out is the exact one.
abbrev pub Mended : Type 0
Mended =
    (level : ℕ) (sli : Bool) (l : RepairLoan) (a : Result ℕ Refusal) (map list work : List ℕ)
    → Repairs level sli l a map list work
    → repaired_refusal a ≡ none
    → Exact (submitted level sli l) map

-- H15: so the gatekeeper accepts it, with the same words, list of methods, level and SLI setting, exactly if no place is bad.
abbrev pub Accepted : Type 0
Accepted =
    (level : ℕ) (sli : Bool) (l : RepairLoan) (a : Result ℕ Refusal) (map list work : List ℕ) (r : Judgement)
    → Bytes l.permit
    → Repairs level sli l a map list work
    → repaired_refusal a ≡ none
    → Judges level sli l.bytes map l.permit r
    → Accepts r.verdict
    ↔ ((p : ℕ) → Bad (submitted level sli l) p → ⊥)

-- H16: repaired again, with whatever rooms, it stays, and nothing is listed.
abbrev pub Again : Type 0
Again =
    (level : ℕ) (sli : Bool) (l : RepairLoan) (a b : Result ℕ Refusal) (map list work map' list' work' list_room work_room : List ℕ)
    → Repairs level sli l a map list work
    → repaired_refusal a ≡ none
    → Repairs level sli (to_repair l.bytes map l.permit list_room work_room) b map' list' work'
    → repaired_refusal b ≡ none
    → (map' ≡ map) × (repaired_values b ≡ 0 ∷ []) × (list' ≡ list_room)

-- H17: where the gatekeeper accepts the author's map, that has every mark of the repaired one.
abbrev pub NoneLost : Type 0
NoneLost =
    (level : ℕ) (sli : Bool) (l : RepairLoan) (a : Result ℕ Refusal) (map list work : List ℕ) (r : Judgement)
    → Repairs level sli l a map list work
    → repaired_refusal a ≡ none
    → Judges level sli l.bytes l.map l.permit r
    → Accepts r.verdict
    → (p : ℕ) (s : Bool)
    → Marks map p s
    → Marks l.map p s

-- H13: the i-th entry of a list, by its bits: a place, its byte before and its byte now
abbrev pub place_in : List ℕ → ℕ → ℕ
place_in list i = get_or list i 0 % 2 ^ 32

abbrev pub old_in : List ℕ → ℕ → ℕ
old_in list i = get_or list i 0 / 2 ^ 32 % 2 ^ 8

abbrev pub new_in : List ℕ → ℕ → ℕ
new_in list i = get_or list i 0 / 2 ^ 40

-- H13: a list of so many entries says what changed from one map to another, and the rest of its room is as it was
pub record Says (old new room list : List ℕ) (count : ℕ) : Type 0 where
  -- each entry is a place with its two bytes, which differ
  pub place : (i : ℕ) → i < count → place_in list i < length old
  pub before : (i : ℕ) → i < count → old_in list i ≡ get_or old (place_in list i) 0
  pub now : (i : ℕ) → i < count → new_in list i ≡ get_or new (place_in list i) 0
  pub differ : (i : ℕ) → i < count → get_or old (place_in list i) 0 ≡ get_or new (place_in list i) 0 → ⊥
  -- places rise, so that each has one entry at most
  pub rising : (i j : ℕ) → i < j → j < count → place_in list i < place_in list j
  -- and a place whose bytes differ has one
  pub all : (p : ℕ) → p < length old → (get_or old p 0 ≡ get_or new p 0 → ⊥) → (i : ℕ) × (i < count) × (place_in list i ≡ p)
  -- entries behind the last stay
  pub long : length list ≡ length room
  pub rest : (k : ℕ) → count ≤ k → get_or list k 0 ≡ get_or room k 0

-- H13: so the list does
abbrev pub Listed : Type 0
Listed =
    (level : ℕ) (sli : Bool) (l : RepairLoan) (a : Result ℕ Refusal) (map list work : List ℕ) (count : ℕ)
    → Bytes l.map
    → Repairs level sli l a map list work
    → repaired_values a ≡ count ∷ []
    → Says l.map map l.list list count

-- H14: two entries a word of the work room are 0, further ones as they were
pub record Wiped (n : ℕ) (room work : List ℕ) : Type 0 where
  pub long : length work ≡ length room
  pub zero : (k : ℕ) → k < 2 * n → get_or work k 0 ≡ 0
  pub rest : (k : ℕ) → 2 * n ≤ k → get_or work k 0 ≡ get_or room k 0

-- H14: so it is
abbrev pub Cleared : Type 0
Cleared =
    (level : ℕ) (sli : Bool) (l : RepairLoan) (a : Result ℕ Refusal) (map list work : List ℕ)
    → Repairs level sli l a map list work
    → repaired_refusal a ≡ none
    → Wiped (size (submitted level sli l)) l.work work
