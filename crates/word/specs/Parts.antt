-- The parts of a word: how it is taken apart into numbers, and put together from them. A field is named by its highest and its
-- lowest bit.
use Rattle.std.specs.Prelude.{ℕ, suc, ◌+◌, ◌-◌, ◌*◌, ◌/◌, ◌%◌, ◌^◌, Bool, true, false, ◌&&◌, List, [], ◌∷◌, eqb, ltb}

-- bits `hi` to `lo` of a word, as a number
abbrev pub bits : ℕ → ℕ → ℕ → ℕ
bits hi lo w = w / 2 ^ lo % 2 ^ (hi + 1 - lo)

-- A part of a word, bits `hi` to `lo`.
pub data Part : Type 0 where
  -- they are this number
  is : (hi lo value : ℕ) → Part
  -- they hold a number, such as a count
  carries : (hi lo : ℕ) → Part
  -- W9: they hold a method or an address, in place: its other bits are 0
  address : (hi lo : ℕ) → Part
  -- W14: nobody looks at them, and they are written as 0
  spare : (hi lo : ℕ) → Part

-- whether the bits of a word are what the parts say
unfoldable pub has_bits : List Part → ℕ → Bool
has_bits [] w = true
has_bits (is hi lo v ∷ ps) w = eqb (bits hi lo w) v && has_bits ps w
has_bits (carries hi lo ∷ ps) w = has_bits ps w
has_bits (address hi lo ∷ ps) w = has_bits ps w
has_bits (spare hi lo ∷ ps) w = has_bits ps w

-- W9: the numbers that a word carries, those of an address in place
unfoldable pub numbers_in : List Part → ℕ → List ℕ
numbers_in [] w = []
numbers_in (is hi lo v ∷ ps) w = numbers_in ps w
numbers_in (carries hi lo ∷ ps) w = bits hi lo w ∷ numbers_in ps w
numbers_in (address hi lo ∷ ps) w = bits hi lo w * 2 ^ lo ∷ numbers_in ps w
numbers_in (spare hi lo ∷ ps) w = numbers_in ps w

-- X4: whether the numbers fit the parts, and an address has no bit below its part
unfoldable pub numbers_fit : List Part → List ℕ → Bool
numbers_fit [] ns = true
numbers_fit (is hi lo v ∷ ps) ns = numbers_fit ps ns
numbers_fit (carries hi lo ∷ ps) [] = false
numbers_fit (carries hi lo ∷ ps) (n ∷ ns) = ltb n (2 ^ (hi + 1 - lo)) && numbers_fit ps ns
numbers_fit (address hi lo ∷ ps) [] = false
numbers_fit (address hi lo ∷ ps) (n ∷ ns) = ltb n (2 ^ (hi + 1)) && eqb (n % 2 ^ lo) 0 && numbers_fit ps ns
numbers_fit (spare hi lo ∷ ps) ns = numbers_fit ps ns

-- X1: the word whose parts hold these numbers
unfoldable pub word_with : List Part → List ℕ → ℕ
word_with [] ns = 0
word_with (is hi lo v ∷ ps) ns = v * 2 ^ lo + word_with ps ns
word_with (carries hi lo ∷ ps) [] = word_with ps []
word_with (carries hi lo ∷ ps) (n ∷ ns) = n * 2 ^ lo + word_with ps ns
word_with (address hi lo ∷ ps) [] = word_with ps []
word_with (address hi lo ∷ ps) (n ∷ ns) = n + word_with ps ns
word_with (spare hi lo ∷ ps) ns = word_with ps ns

-- how many numbers the parts hold
unfoldable pub room : List Part → ℕ
room [] = 0
room (is hi lo v ∷ ps) = room ps
room (carries hi lo ∷ ps) = suc (room ps)
room (address hi lo ∷ ps) = suc (room ps)
room (spare hi lo ∷ ps) = room ps
