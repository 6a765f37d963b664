-- The list of permitted methods.
use Rattle.std.specs.Prelude.{ℕ, zero, suc, ◌+◌, ◌*◌, ◌/◌, ◌%◌, ◌^◌, Bool, List, eqb, get_or}
use Rattle.std.specs.Int.Count.{ones}

-- G23: whether the bit of a method is set, given by its subchannel and its number m
unfoldable pub permits : List ℕ → ℕ → ℕ → Bool
permits list subchannel m = eqb (get_or list (256 * subchannel + m / 8) 0 / 2 ^ (m % 8) % 2) 1

-- G24: the set bits of each byte, summed over the first n bytes,
unfoldable pub set_bits : List ℕ → ℕ → ℕ
set_bits list zero = 0
set_bits list (suc n) = set_bits list n + ones (get_or list n 0)

-- G24: and over all of them
unfoldable pub count_of : List ℕ → ℕ
count_of list = set_bits list 2048
