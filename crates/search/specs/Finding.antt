-- What a room becomes while it is searched.
use Rattle.std.specs.Prelude.{◌≡◌, List}
use Rattle.rules.specs.Search.{Found}
use Rattle.search.specs.Room.{Holds}
use Rattle.search.specs.declared.room.Room.{Room}

-- The same entries, of as many words; and each list that the room held became what `f` makes of it.
abbrev pub Becomes : (List Found → List Found) → Room → Room → Type 0
Becomes f old new =
    (new.entries.ghost_name ≡ old.entries.ghost_name)
    × (new.end ≡ old.end)
    × ((fs : List Found) → Holds fs old.entries.now old.count → Holds (f fs) new.entries.now new.count)
