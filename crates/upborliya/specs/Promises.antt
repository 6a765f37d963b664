-- The promises about the functions for C, each a statement that is proved under its own name in proofs/.
use Rattle.std.specs.Prelude.{ℕ, ◌/◌, ◌%◌, ◌^◌, ◌≤◌, ◌<◌, ◌≡◌, Bool, true, false, List, [], ◌∷◌, ◌⊎◌, ◌↔◌}
use Rattle.std.proofs.Math.Option.{none, some}
use Rattle.std.specs.declared.result.Result.{Result}
use Rattle.word.specs.Answers.{reading_refusal}
use Rattle.word.specs.Outcomes.{Reads}
use Rattle.word.specs.Reading as reading
use Rattle.word.specs.declared.setting.Refusal.{Refusal}
use Rattle.word.specs.declared.setting.Setting.{Setting}
use Rattle.word.specs.declared.reading.Reading.{Reading}
use Rattle.rules.specs.Answers.{number, verdict_refusal, values, verdict_why, Accepts}
use Rattle.rules.specs.Outcomes.{Judges}
use Rattle.rules.specs.Promises.{Bytes}
use Rattle.rules.specs.declared.judging.Judgement.{Judgement}
use Rattle.repair.specs.Answers.{repaired_refusal, repaired_values}
use Rattle.repair.specs.Outcomes.{RepairLoan, Repairs}
use Rattle.upborliya.specs.Outcomes.{JudgesPacked, ReadsPacked, RepairsPacked}

-- Each contract leaves one outcome.
pub record One : Type 0 where
  pub judge : (level sli : ℕ) (bytes map list : List ℕ) (a b : ℕ) → JudgesPacked level sli bytes map list a → JudgesPacked level sli bytes map list b → a ≡ b
  pub read : (level mode sli w next a b : ℕ) → ReadsPacked level mode sli w next a → ReadsPacked level mode sli w next b → a ≡ b
  pub repair :
      (level sli : ℕ) (l : RepairLoan) (a b : ℕ) (map map' list list' work work' : List ℕ)
      → RepairsPacked level sli l a map list work
      → RepairsPacked level sli l b map' list' work'
      → (a ≡ b) × (map ≡ map') × (list ≡ list') × (work ≡ work')

-- G32: what the number for C says: each part of it is what the answer has, and both bytes 0 is accepted.
pub record Unpacked (n : ℕ) (r : Judgement) : Type 0 where
  pub reason : (k : ℕ) → number r.verdict ≡ some k → n % 2 ^ 8 ≡ k
  pub no_reason : number r.verdict ≡ none → n % 2 ^ 8 ≡ 0
  pub refusal : (k : ℕ) → verdict_refusal r.verdict ≡ some k → n / 2 ^ 8 % 2 ^ 8 ≡ k
  pub no_refusal : verdict_refusal r.verdict ≡ none → n / 2 ^ 8 % 2 ^ 8 ≡ 0
  pub why : (k : ℕ) → verdict_why r.verdict ≡ some k → n / 2 ^ 16 % 2 ^ 8 ≡ k
  pub no_why : verdict_why r.verdict ≡ none → n / 2 ^ 16 % 2 ^ 8 ≡ 0
  pub count : n / 2 ^ 24 % 2 ^ 16 ≡ r.count
  pub place : (p : ℕ) → values r.verdict ≡ p ∷ [] → n / 2 ^ 40 ≡ p
  pub no_place : values r.verdict ≡ [] → n / 2 ^ 40 ≡ 0
  pub accepted : ((n % 2 ^ 8 ≡ 0) × (n / 2 ^ 8 % 2 ^ 8 ≡ 0)) ↔ Accepts r.verdict

-- G32: the SLI setting as a number: 0 is off, and any other number on
pub record Switches (n : ℕ) (on : Bool) : Type 0 where
  pub zero : n ≡ 0 → on ≡ false
  pub other : (n ≡ 0 → ⊥) → on ≡ true

-- G32: nothing of the answer is lost
abbrev pub GivesBack : Type 0
GivesBack =
    (level sli : ℕ) (on : Bool) (bytes map list : List ℕ) (r : Judgement) (n : ℕ)
    → Bytes list
    → Switches sli on
    → Judges level on bytes map list r
    → JudgesPacked level sli bytes map list n
    → (n < 2 ^ 64) × Unpacked n r

-- W19: what the number for C says of a reading: its number, and its values where that number has some. A run's are told by its form's
-- number, 1 or 2, a long form's by 5; 3 has a mask, 6 to 8 a target.
pub record UnpackedReading (n : ℕ) (r : Reading) : Type 0 where
  pub form : n % 2 ^ 8 ≡ reading.number r
  pub refusal : (k : ℕ) → reading_refusal r ≡ some k → n / 2 ^ 8 % 2 ^ 8 ≡ k
  pub no_refusal : reading_refusal r ≡ none → n / 2 ^ 8 % 2 ^ 8 ≡ 0
  pub why : (k : ℕ) → reading.why r ≡ some k → n / 2 ^ 16 % 2 ^ 8 ≡ k
  pub no_why : reading.why r ≡ none → n / 2 ^ 16 % 2 ^ 8 ≡ 0
  pub run :
      (c b m : ℕ)
      → (reading.number r ≡ 1) ⊎ (reading.number r ≡ 2)
      → reading.values r ≡ c ∷ b ∷ m ∷ []
      → (n / 2 ^ 40 ≡ c) × (n / 2 ^ 37 % 2 ^ 3 ≡ b) × (n / 2 ^ 24 % 2 ^ 13 ≡ m)
  pub long : (b m c : ℕ) → reading.number r ≡ 5 → reading.values r ≡ b ∷ m ∷ c ∷ [] → (n / 2 ^ 40 ≡ c) × (n / 2 ^ 37 % 2 ^ 3 ≡ b) × (n / 2 ^ 24 % 2 ^ 13 ≡ m)
  pub value :
      (v : ℕ)
      → (reading.number r ≡ 3) ⊎ ((6 ≤ reading.number r) × (reading.number r ≤ 8))
      → reading.values r ≡ v ∷ []
      → (n / 2 ^ 32 ≡ v) × (n / 2 ^ 24 % 2 ^ 8 ≡ 0)
  pub nothing : (reading.number r ≡ 4) ⊎ (9 ≤ reading.number r) → n / 2 ^ 24 ≡ 0

-- W19: nothing of a reading is lost
abbrev pub ReadingBack : Type 0
ReadingBack =
    (level mode sli : ℕ) (s : Setting) (w next n : ℕ) (r : Reading)
    → s.level.number ≡ level
    → s.mode.number ≡ mode
    → Switches sli s.sli
    → Reads s w next r
    → ReadsPacked level mode sli w next n
    → (n < 2 ^ 64) × UnpackedReading n r

-- H18: what the number for C says of a repair
pub record UnpackedRepair (n : ℕ) (a : Result ℕ Refusal) : Type 0 where
  pub refusal : (k : ℕ) → repaired_refusal a ≡ some k → n / 2 ^ 8 % 2 ^ 8 ≡ k
  pub no_refusal : repaired_refusal a ≡ none → n / 2 ^ 8 % 2 ^ 8 ≡ 0
  pub count : (c : ℕ) → repaired_values a ≡ c ∷ [] → n / 2 ^ 24 % 2 ^ 16 ≡ c
  pub no_count : repaired_values a ≡ [] → n / 2 ^ 24 % 2 ^ 16 ≡ 0
  pub zeros : (n % 2 ^ 8 ≡ 0) × (n / 2 ^ 16 % 2 ^ 8 ≡ 0) × (n / 2 ^ 40 ≡ 0)

-- H18: nothing of the answer is lost, and what is written is what `repair` writes
abbrev pub RepairBack : Type 0
RepairBack =
    (level sli : ℕ) (on : Bool) (l : RepairLoan) (n : ℕ) (a : Result ℕ Refusal) (map map' list list' work work' : List ℕ)
    → Switches sli on
    → Repairs level on l a map list work
    → RepairsPacked level sli l n map' list' work'
    → (n < 2 ^ 64) × UnpackedRepair n a × (map' ≡ map) × (list' ≡ list) × (work' ≡ work)
