-- The contracts of the public functions, each as a predicate over inputs and answer. The words are lent to be read alone.
use Rattle.std.specs.Prelude.{ℕ, ◌≡◌, List, Result}
use Rattle.std.specs.Borrow.{Bor}
use Rattle.word.specs.declared.setting.Setting.{Setting}
use Rattle.listing.specs.Listing.{list_of}
use Rattle.word.specs.declared.reading.Reading.{Reading}
use Rattle.listing.specs.declared.command.End.{End}
use Rattle.listing.specs.declared.command.Listed.{Listed}
use Rattle.listing.specs.declared.listing.Listing.{Listing}

-- `list_at`, of lent words and a place
abbrev pub ListsAt : Setting → List ℕ → ℕ → Listed → Type 0
ListsAt s ws p r = r ≡ list_of s ws p

-- K1: `Listing::new`, of the lent words: the reader holds them, at place 0
abbrev pub Begins : Bor (List ℕ) → Listing → Type 0
Begins words r = r ≡ record { words = words; place = 0 }

-- a reader that holds the same words, at another place
abbrev pub moved_to : Listing → ℕ → Listing
moved_to l p = record { words = l.words; place = p }

-- `Listing::next`, of a setting and the reader at entry: the item, and the reader at exit
pub record Gives (s : Setting) (entry : Listing) (r : Result Reading End) (exit : Listing) : Type 0 where
  pub item : r ≡ (list_of s entry.words.now entry.place).item
  pub reader : exit ≡ moved_to entry (list_of s entry.words.now entry.place).place
