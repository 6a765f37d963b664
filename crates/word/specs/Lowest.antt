-- The lowest number that passes a test.
use Rattle.std.specs.Prelude.{ℕ, zero, suc, Bool, true, false}
use Rattle.std.proofs.Math.Option.{Option, none, some}
use Rattle.word.specs.First.{choose}

-- the first of two where there is one, else the second
unfoldable pub keep : Option ℕ → Option ℕ → Option ℕ
keep none b = b
keep (some k) b = some k

-- the lowest number below n that passes a test, if any does
unfoldable pub lowest : (ℕ → Bool) → ℕ → Option ℕ
lowest f zero = none
lowest f (suc n) = keep (lowest f n) (choose (f n) (some n) none)

unfoldable pub found? : Option ℕ → Bool
found? none = false
found? (some k) = true
