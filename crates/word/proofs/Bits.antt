-- A number shifted and put beside a lower one. Assumes nothing.
use Prim.Native.Nat.{ℕ, ◌+◌, ◌*◌, ◌%◌, ◌^◌, ◌≤◌, ◌<◌}
use mathlib.Core.Path.{◌≡◌}
use lib.Bits.{bit_or, or_shifted, or_shifted_r}
use lib.Pow.{shl_exact}

-- a number of j bits, shifted by k within w bits, beside a lower one: as the first of the two, and as the second
module _ (high j k w low : ℕ) (narrow : high < 2 ^ j) (room : j + k ≤ w) (below : low < 2 ^ k) where
  pub over : bit_or (high * 2 ^ k % 2 ^ w) low ≡ high * 2 ^ k + low
  over = rw (shl_exact {a = high} j k w narrow room) (or_shifted high k low below)

  pub under : bit_or low (high * 2 ^ k % 2 ^ w) ≡ high * 2 ^ k + low
  under = rw (shl_exact {a = high} j k w narrow room) (or_shifted_r high k low below)
