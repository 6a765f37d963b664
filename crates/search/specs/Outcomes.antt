-- The contract of the search, as a predicate over inputs, answer and lent memory.
use Rattle.std.specs.Prelude.{ℕ, ◌≡◌, List, length}
use Rattle.std.specs.declared.result.Result.{Result}
use Rattle.word.specs.declared.setting.Setting.{Setting}
use Rattle.word.specs.declared.setting.Refusal.{Refusal}
use Rattle.rules.specs.Reason.{submission}
use Rattle.search.specs.Room.{search_of, room_after}

-- `search`, of setting, the words' bytes, the list of permitted methods, and the room at entry: the answer, and the room at exit
pub record Searches (setting : Setting) (bytes list room : List ℕ) (a : Result ℕ Refusal) (exit : List ℕ) : Type 0 where
  pub answer : a ≡ search_of (submission setting bytes list) (length bytes) (length room)
  pub memory : exit ≡ room_after a (submission setting bytes list) room
