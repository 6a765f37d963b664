-- The map of command starts.
use Rattle.std.specs.Prelude.{ℕ, zero, suc, ◌+◌, ◌/◌, ◌%◌, Bool, true, false, not, List, eqb, ltb, length, get_or}
use Rattle.std.specs.Int.Bits.{bit_or}
use Rattle.word.specs.Lowest.{lowest, found?}
use Rattle.rules.specs.declared.pair.Pair.{Pair}

-- The two states of a place: in main, or inside a subroutine.
abbrev pub main : Bool
main = false

abbrev pub inside : Bool
inside = true

-- G22: the lowest bit is main's, the one above it a subroutine's
unfoldable pub marked : List ℕ → ℕ → Bool → Bool
marked map p false = eqb (get_or map p 0 % 2) 1
marked map p true = eqb (get_or map p 0 / 2 % 2) 1

unfoldable pub unmarked : List ℕ → Pair → Bool
unmarked map q = not (marked map q.place q.inside)

-- G1: a byte that has other bits
unfoldable pub over_three : List ℕ → ℕ → Bool
over_three map p = ltb 3 (get_or map p 0)

-- whether place p is marked for either state
unfoldable pub starts : List ℕ → ℕ → Bool
starts map p = not (eqb (get_or map p 0) 0)

-- whether any place of a part of the map is; and whether any of the c places from a on
unfoldable pub any_start : List ℕ → Bool
any_start part = found? (lowest (starts part) (length part))

-- G9: the places among a command's parameters
unfoldable pub among : List ℕ → ℕ → ℕ → Bool
among map a c = found? (lowest (λ k. starts map (a + k)) c)

-- the bits that any of the first n bytes has
unfoldable pub all_bits : List ℕ → ℕ → ℕ
all_bits part zero = 0
all_bits part (suc n) = bit_or (all_bits part n) (get_or part n 0)
