-- Text as bytes.
use Rattle.std.specs.Prelude.{ℕ, suc, ◌^◌, List, [] as none, ◌∷◌ as ◌then◌, ltb}
use Prim.Native.Char.{code}
use Prim.Native.String.{String, [], ◌∷◌}
use Rattle.std.proofs.Math.Option.{Option, none as nowhere, some}
use Rattle.word.specs.Lowest.{lowest}
use Rattle.io.specs.Digits.{last_digits}

-- a text's bytes: its characters are all ASCII
unfoldable pub text : String → List ℕ
text [] = none
text (c ∷ s) = code c then text s

unfoldable pub or_else : Option ℕ → ℕ → ℕ
or_else nowhere n = n
or_else (some k) n = k

-- how many digits a number has: the fewest, at least one, that hold it. A number of 64 bits has at most 20.
unfoldable pub width : ℕ → ℕ
width n = suc (or_else (lowest (λ k. ltb n (10 ^ suc k)) 20) 20)

-- T10: a number in decimal
unfoldable pub decimal : ℕ → List ℕ
decimal n = last_digits 10 (width n) n
