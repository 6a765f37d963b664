-- The contract of the repair, as a predicate over inputs, answer and lent memory.
use Rattle.std.specs.Prelude.{ℕ, ◌≡◌, Bool, List, length}
use Rattle.std.specs.declared.result.Result.{Result}
use Rattle.word.specs.declared.setting.Refusal.{Refusal}
use Rattle.rules.specs.Reason.{Submission, submission}
use Rattle.rules.specs.Judging.{setting_of}
use Rattle.repair.specs.Repairing.{repair_of, map_after, list_after, work_after}

-- what the repair is lent: the words' bytes, the map, the list of permitted methods, the room of the list of changes, and the work room
pub record RepairLoan : Type 0 where
  pub bytes : List ℕ
  pub map : List ℕ
  pub permit : List ℕ
  pub list : List ℕ
  pub work : List ℕ

abbrev pub to_repair : List ℕ → List ℕ → List ℕ → List ℕ → List ℕ → RepairLoan
to_repair bytes map permit list work = record { bytes = bytes; map = map; permit = permit; list = list; work = work }

-- what is submitted beside the map, as the gatekeeper takes it
abbrev pub submitted : ℕ → Bool → RepairLoan → Submission
submitted level sli l = submission (setting_of level sli) l.bytes l.permit

-- `repair`, of level, SLI setting and what is lent at entry: the answer, and map, list and work room at exit
pub record Repairs (level : ℕ) (sli : Bool) (l : RepairLoan) (a : Result ℕ Refusal) (map list work : List ℕ) : Type 0 where
  pub answer : a ≡ repair_of level sli l.bytes l.map l.permit (length l.list) (length l.work)
  pub map_after : map ≡ map_after a (submitted level sli l) l.map
  pub list_after : list ≡ list_after a (submitted level sli l) l.map l.list
  pub work_after : work ≡ work_after a (submitted level sli l) l.work
