-- The contracts of the public functions, each as a predicate over the bytes that are left at entry, the answer, and the bytes
-- that are left at exit.
use Rattle.std.specs.Prelude.{ℕ, ◌+◌, ◌*◌, ◌%◌, ◌^◌, ◌≡◌, ◌<◌, ◌≤◌, List, Option, Result, IfOk, length, min, take, drop, get_or}
use Rattle.std.specs.Io.KnownBytes.{Consumes, IsAtEnd}
use Rattle.word.specs.Lent.{words_of}
use Rattle.records.specs.declared.Words.{Words}

-- the word at a place of bytes, 0 where there is none
abbrev pub word_at : ℕ → List ℕ → ℕ
word_at place bytes = get_or (words_of bytes) place 0

-- `Words::next_word`: 0 where no whole word is left, and then no byte is
pub record TakesWord (bytes : List ℕ) (r : ℕ) (exit : List ℕ) : Type 0 where
  pub answer : r ≡ word_at 0 bytes
  pub left : exit ≡ drop 4 bytes

-- `Words::next_byte`: a word's lowest byte
pub record TakesByte (bytes : List ℕ) (r : ℕ) (exit : List ℕ) : Type 0 where
  pub answer : r ≡ word_at 0 bytes % 2 ^ 8
  pub left : exit ≡ drop 4 bytes

-- `Words::next_pair`: two words as one number, the lower half first
pub record TakesPair (bytes : List ℕ) (r : ℕ) (exit : List ℕ) : Type 0 where
  pub answer : r ≡ word_at 0 bytes + 2 ^ 32 * word_at 1 bytes
  pub left : exit ≡ drop 8 bytes

-- `Words::next_up_to`, of a bound: a word, or the bound where that is less
pub record TakesUpTo (most : ℕ) (bytes : List ℕ) (r : ℕ) (exit : List ℕ) : Type 0 where
  pub answer : r ≡ min (word_at 0 bytes) most
  pub left : exit ≡ drop 4 bytes

-- `Words::next_bytes`, of a number: so many bytes, or all that are left
pub record TakesBytes (count : ℕ) (bytes : List ℕ) (r : List ℕ) (exit : List ℕ) : Type 0 where
  pub answer : r ≡ take count bytes
  pub left : exit ≡ drop count bytes

-- `read_words`, into so much room: the next bytes of the input, as many as there is room for, or all that were left; nothing is
-- said where reading fails
pub record ReadsWords {E : Type 0} (room : ℕ) (entry exit : Option (List ℕ)) (r : Result Words E) : Type 0 where
  pub fits : IfOk r (λ words. length words.rest.now ≤ room)
  pub given : IfOk r (λ words. Consumes entry exit words.rest.now)
  pub ends : IfOk r (λ words. length words.rest.now < room → IsAtEnd exit)
