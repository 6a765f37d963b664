-- The object table.
use Rattle.std.specs.Prelude.{ℕ, ◌+◌, ◌*◌, ◌/◌, Bool, List, length, ◌==◌, slice_index, Option, Some, None}
use Rattle.std.proofs.Math.Option as maybe
use Rattle.std.proofs.Math.Option.{none, some}
use Rattle.word.specs.Lowest.{lowest, found?}
use Rattle.word.specs.Parts.{bits}
use Rattle.puller.specs.declared.object.Object.{Object}

-- P1: how many whole entries there are, of four words each, and word k of entry i
abbrev pub entries : List ℕ → ℕ
entries t = length t / 4

abbrev pub word_of : List ℕ → ℕ → ℕ → ℕ
word_of t i k = slice_index t (4 * i + k)

abbrev pub handle : List ℕ → ℕ → ℕ
handle t i = slice_index t (4 * i)

-- P1: what an entry describes, by the bits of its words
unfoldable pub object_at : List ℕ → ℕ → Object
object_at t i =
    record {
      engine = bits 4 0 (word_of t i 1);
      address = word_of t i 2;
      class = bits 15 0 (word_of t i 3);
      writeonly = (bits 16 16 (word_of t i 3) == 1);
      paged = (bits 17 17 (word_of t i 3) == 1);
    }

-- P2: whether an entry has a handle
unfoldable pub has : List ℕ → ℕ → ℕ → Bool
has t h i = handle t i == h

unfoldable pub found_at : List ℕ → maybe.Option ℕ → Option Object
found_at t none = None
found_at t (some i) = Some (object_at t i)

-- P2: the object of the lowest entry that has it
unfoldable pub lookup_of : List ℕ → ℕ → Option Object
lookup_of t h = found_at t (lowest (has t h) (entries t))

-- R6: whether an entry has the handle of an earlier one
unfoldable pub repeats : List ℕ → ℕ → Bool
repeats t j = found? (lowest (has t (handle t j)) j)

unfoldable pub repeat_at : maybe.Option ℕ → Option ℕ
repeat_at none = None
repeat_at (some i) = Some i

-- R6: the lowest entry that has
unfoldable pub repeat_of : List ℕ → Option ℕ
repeat_of t = repeat_at (lowest (repeats t) (entries t))
