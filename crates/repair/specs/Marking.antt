-- What becomes of map, list and work room while the map is rewritten.
use Rattle.std.specs.Prelude.{ℕ, ◌+◌, ◌*◌, ◌≡◌, set}
use Rattle.repair.specs.Changes.{byte_by, Puts}
use Rattle.repair.specs.declared.marks.Marks.{Marks}

-- They are the same three.
abbrev pub AreSame : Marks → Marks → Type 0
AreSame old new =
    (new.map.ghost_name ≡ old.map.ghost_name)
    × (new.list.ghost_name ≡ old.list.ghost_name)
    × (new.work.ghost_name ≡ old.work.ghost_name)

-- And place p is put.
abbrev pub Writes : ℕ → Marks → Marks → Type 0
Writes p old new =
    AreSame old new
    × Puts old.map.now old.list.now old.work.now p old.count new.map.now new.list.now new.work.now new.count

-- The byte of place p is taken out of the same work room, and nothing else changes.
abbrev pub Takes : ℕ → Marks → Marks → ℕ → Type 0
Takes p old new byte =
    (new.map ≡ old.map)
    × (new.list ≡ old.list)
    × (new.count ≡ old.count)
    × (new.work.ghost_name ≡ old.work.ghost_name)
    × (new.work.now ≡ set (set old.work.now (2 * p) 0) (2 * p + 1) 0)
    × (byte ≡ byte_by old.work.now p)
