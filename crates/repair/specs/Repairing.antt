-- The repair.
use Rattle.std.specs.Prelude.{ℕ, ◌*◌, ◌/◌, ◌≡◌, Bool, ◌||◌, List, [], ◌∷◌, ◌++◌, ltb, length}
use Rattle.std.specs.declared.result.Result.{Result}
use Rattle.std.specs.declared.result.Result.TheVariants.{Ok, Err}
use Rattle.word.specs.First.{Case, first, ◌when◌}
use Rattle.word.specs.Setting.{ROOM, refused_or}
use Rattle.word.specs.declared.setting.Refusal.{Refusal}
use Rattle.rules.specs.Reason.{Submission, submission, size}
use Rattle.rules.specs.Judging.{judge_cases, setting_of}
use Rattle.rules.specs.Search.{list_of, exact_map}
use Rattle.repair.specs.Changes.{changes, at_front}

-- H12 to H14: what is done where nothing is refused: the map becomes the exact one, what changed stands at the front of the list, and the
-- work room is 0 at its front, two entries a word
pub record Mends (x : Submission) (map list work map_exit list_exit work_exit : List ℕ) (r : ℕ) : Type 0 where
  pub marks : map_exit ≡ exact_map x
  pub listed : list_exit ≡ at_front (changes map (exact_map x)) list
  pub counted : r ≡ length (changes map (exact_map x))
  pub cleared : work_exit ≡ at_front (list_of (λ k. 0) (2 * size x)) work

-- R11: fewer entries than one a word for the list, or than two a word for the work
abbrev pub room_refused : ℕ → ℕ → ℕ → Bool
room_refused bytes list work = ltb list (bytes / 4) || ltb work (2 * (bytes / 4))

-- R37, R8: the gatekeeper's order for at most 8,192 words, and then the rooms
abbrev pub repair_cases : ℕ → Bool → List ℕ → List ℕ → List ℕ → ℕ → ℕ → List Case
repair_cases level sli bytes map permit list work =
    judge_cases 8192 level sli bytes map permit ++ (ROOM when room_refused (length bytes) list work ∷ [])

-- H13: what the repair answers: a refusal, or how many bytes changed
unfoldable pub repair_of : ℕ → Bool → List ℕ → List ℕ → List ℕ → ℕ → ℕ → Result ℕ Refusal
repair_of level sli bytes map permit list work =
    refused_or Err (first (repair_cases level sli bytes map permit list work))
    (Ok (length (changes map (exact_map (submission (setting_of level sli) bytes permit)))))

-- H12, R31: the map after it: the exact one, or as it was
unfoldable pub map_after : Result ℕ Refusal → Submission → List ℕ → List ℕ
map_after (Err n) x map = map
map_after (Ok c) x map = exact_map x

-- H13, R31: the list: what changed at its front, or as it was
unfoldable pub list_after : Result ℕ Refusal → Submission → List ℕ → List ℕ → List ℕ
list_after (Err n) x map list = list
list_after (Ok c) x map list = at_front (changes map (exact_map x)) list

-- H14, R31: the work room: 0 at its front, two entries a word, or as it was
unfoldable pub work_after : Result ℕ Refusal → Submission → List ℕ → List ℕ
work_after (Err n) x work = work
work_after (Ok c) x work = at_front (list_of (λ k. 0) (2 * size x)) work
