-- What the search leaves in its room.
use Rattle.std.specs.Prelude.{ℕ, ◌+◌, ◌*◌, ◌/◌, ◌^◌, ◌<◌, ◌≡◌, List, [], ◌∷◌, ◌++◌, eqb, ltb, length, get_or, drop}
use Rattle.std.specs.declared.result.Result.{Result}
use Rattle.std.specs.declared.result.Result.TheVariants.{Ok, Err}
use Rattle.word.specs.First.{choose, Case, first, ◌when◌}
use Rattle.word.specs.Setting.{SIZE, ROOM, refused_or}
use Rattle.word.specs.declared.setting.Refusal.{Refusal}
use Rattle.rules.specs.Reason.{Submission, size}
use Rattle.rules.specs.Search.{Found, ◌found_from◌, found_below, found, list_of}

-- H11: in the lower half of entry k, from where the pair k was found: one more than that pair's number, or 0 where k was not found
unfoldable pub from_of : List Found → ℕ → ℕ
from_of [] k = 0
from_of (f ∷ fs) k = choose (eqb f.pair k) (f.from + 1) (from_of fs k)

-- H11: in the upper half of entry i, the pair that was found as the i-th, or 0 behind the last
unfoldable pub pair_of : List Found → ℕ → ℕ
pair_of fs i = (get_or fs i (0 found_from 0)).pair

-- H11: both halves
unfoldable pub entry_of : List Found → ℕ → ℕ
entry_of fs k = pair_of fs k * 2 ^ 32 + from_of fs k

-- H11: two entries a word
unfoldable pub room_of : Submission → List ℕ
room_of x = list_of (entry_of (found x)) (2 * size x)

-- R36, R8, R11: what refuses words of so many bytes and a room of so many entries, in this order
abbrev pub search_cases : ℕ → ℕ → List Case
search_cases bytes space =
    SIZE when ltb (4 * 1048576) bytes
    ∷ ROOM when ltb space (2 * (bytes / 4))
    ∷ []

-- H11: what the search answers: a refusal, or how many pairs were found
unfoldable pub search_of : Submission → ℕ → ℕ → Result ℕ Refusal
search_of x bytes space = refused_or Err (first (search_cases bytes space)) (Ok (length (found x)))

-- H11, R31: the room after it: what was found at its front and the rest as it was, or all of it as it was
unfoldable pub room_after : Result ℕ Refusal → Submission → List ℕ → List ℕ
room_after (Err n) x room = room
room_after (Ok c) x room = room_of x ++ drop (2 * size x) room

-- While it searches: the room holds a list of pairs, of which there are `count`; each has its entry, as has the one that it was found
-- from, and there are as many as entries are found.
pub record Holds (fs : List Found) (room : List ℕ) (count : ℕ) : Type 0 where
  pub entries : room ≡ list_of (entry_of fs) (length room)
  pub counted : count ≡ length fs
  pub pair_within : (i : ℕ) → i < length fs → (get_or fs i (0 found_from 0)).pair < length room
  pub from_within : (i : ℕ) → i < length fs → (get_or fs i (0 found_from 0)).from < length room
  pub each_once : length fs ≡ found_below fs (length room)

-- It holds such a list.
abbrev pub Filled : List ℕ → ℕ → Type 0
Filled room count = ∥ ((fs : List Found) × Holds fs room count) ∥₁
