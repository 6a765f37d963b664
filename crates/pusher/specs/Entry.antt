-- An IB entry.
use Rattle.std.specs.Prelude.{ℕ, List, [], ◌∷◌, eqb, get_or}
use Rattle.word.specs.Parts.{Part, carries, address, spare, numbers_in}
use Rattle.pusher.specs.declared.entry.Entry.{Entry}

-- E1: the parts of an entry, from bit 63 down
unfoldable pub parts : List Part
parts = carries 63 42 ∷ carries 41 41 ∷ spare 40 40 ∷ address 39 2 ∷ spare 1 0 ∷ []

-- the entry that has these numbers, in the order in which the word carries them
abbrev entry_with : List ℕ → Entry
entry_with ns = record { address = get_or ns 2 0; size = get_or ns 0 0; nonmain = eqb (get_or ns 1 0) 1 }

-- E1: an entry taken apart
unfoldable pub entry_of : ℕ → Entry
entry_of e = entry_with (numbers_in parts e)
