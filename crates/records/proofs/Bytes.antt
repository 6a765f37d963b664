-- Where bytes begin with a whole word, and where they have none.
use Rattle.std.proofs.Common.{◌≡◌, ◌<◌, ◌≤◌, List, [], ◌∷◌, ℕ, refl, ap, take, drop, length, arith}
use Rattle.std.specs.Int.{from_le_bytes, w32}
use Rattle.word.specs.Lent.{words_of}
use Rattle.records.specs.Outcomes.{word_at}

pub none_left : (bytes : List ℕ) → length bytes < 4 → words_of bytes ≡ []
unfolding words_of
none_left [] few = refl
none_left (a ∷ []) few = refl
none_left (a ∷ b ∷ []) few = refl
none_left (a ∷ b ∷ c ∷ []) few = refl
none_left (a ∷ b ∷ c ∷ d ∷ rest) few = absurd (omega arith)

pub first_word : (bytes : List ℕ) → 4 ≤ length bytes → words_of bytes ≡ from_le_bytes w32 (take 4 bytes) ∷ words_of (drop 4 bytes)
unfolding words_of
first_word [] enough = absurd (omega arith)
first_word (a ∷ []) enough = absurd (omega arith)
first_word (a ∷ b ∷ []) enough = absurd (omega arith)
first_word (a ∷ b ∷ c ∷ []) enough = absurd (omega arith)
first_word (a ∷ b ∷ c ∷ d ∷ rest) enough = ap {B = List ℕ} (λ w. w ∷ words_of rest) (omega arith)

pub second_word : (bytes : List ℕ) → word_at 0 (drop 4 bytes) ≡ word_at 1 bytes
unfolding words_of
second_word [] = refl
second_word (a ∷ []) = refl
second_word (a ∷ b ∷ []) = refl
second_word (a ∷ b ∷ c ∷ []) = refl
second_word (a ∷ b ∷ c ∷ d ∷ rest) = refl
