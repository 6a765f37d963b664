use mathlib.Core.Path.{◌≡◌}
use Rattle.rules.specs.Reason.{submitted, size}
use Rattle.rules.specs.Search.{found_after}
use Rattle.search.specs.Room.{Holds}
use Rattle.search.proofs.searching.search_in.Given as goal

-- the room holds what is found once so many were taken
abbrev pub invariant-loop-turn : goal.invariant-loop-turn
invariant-loop-turn l =
    (l.room.entries.ghost_name ≡ l.initial.room.entries.ghost_name) × (l.room.end ≡ size (submitted l.submission)) × Holds (found_after (submitted l.submission) l.turn) l.room.entries.now l.room.count
