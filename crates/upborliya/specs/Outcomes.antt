-- The contracts of the functions for C, each as a predicate over inputs, answer and, of the repair, lent memory at exit. The others write
-- none: it is lent to be read alone.
use Rattle.std.specs.Prelude.{ℕ, ◌≡◌, List}
use Rattle.std.specs.declared.result.Result.{Result}
use Rattle.word.specs.Reading.{read_of}
use Rattle.word.specs.declared.setting.Refusal.{Refusal}
use Rattle.word.specs.declared.setting.Setting.{Setting}
use Rattle.rules.specs.Judging.{judge_of}
use Rattle.repair.specs.Outcomes.{RepairLoan, Repairs}
use Rattle.upborliya.specs.Packed.{packed, packed_reading, packed_repair, on}

-- `upborliya_judge`: what `judge` answers, with SLI as a number, in one number
abbrev pub JudgesPacked : ℕ → ℕ → List ℕ → List ℕ → List ℕ → ℕ → Type 0
JudgesPacked level sli bytes map list r = r ≡ packed (judge_of level (on sli) bytes map list)

-- W19: a setting by its numbers
abbrev pub setting_by : ℕ → ℕ → ℕ → Setting
setting_by level mode sli = record { level = record { number = level }; mode = record { number = mode }; sli = on sli }

-- `upborliya_read`: what `read` reads, in one number
abbrev pub ReadsPacked : ℕ → ℕ → ℕ → ℕ → ℕ → ℕ → Type 0
ReadsPacked level mode sli word next r = r ≡ packed_reading (read_of (setting_by level mode sli) word next)

-- `upborliya_repair`: what `repair` does and answers, with SLI as a number, in one number
pub record RepairsPacked (level sli : ℕ) (l : RepairLoan) (r : ℕ) (map list work : List ℕ) : Type 0 where
  pub answer : Result ℕ Refusal
  pub repairs : Repairs level (on sli) l answer map list work
  pub number : r ≡ packed_repair answer
