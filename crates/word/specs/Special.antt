-- Which special methods a level has.
use Rattle.std.specs.Prelude.{ℕ, ◌*◌, Bool, false, ◌&&◌, ◌||◌, List, [], ◌∷◌, leb}

-- Methods `from` to `to`, from a level up.
pub record Special : Type 0 where
  pub from : ℕ
  pub to : ℕ
  pub level : ℕ

abbrev special : ℕ → ℕ → ℕ → Special
special from to level = record { from = from; to = to; level = level }

-- W18: the methods below 0x100, by their byte numbers
unfoldable pub specials : List Special
specials = special 0x00 0x00 0 ∷ special 0x10 0x24 5 ∷ special 0x50 0x50 1 ∷ special 0x60 0x6c 2 ∷ special 0x80 0x80 3 ∷ []

unfoldable pub listed : List Special → ℕ → ℕ → Bool
listed [] level m = false
listed (x ∷ xs) level m = (leb x.from m && leb m x.to && leb x.level level) || listed xs level m

-- W18: whether a level has a method, which is given by its number n, as a run holds it: its byte number divided by 4. From 0x100 up
-- none is special, and every level has it.
unfoldable pub present_of : ℕ → ℕ → Bool
present_of level n = leb 0x100 (4 * n) || listed specials level (4 * n)
