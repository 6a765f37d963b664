-- Words lent as bytes: how many there are, and the word at a place, out of its four bytes. Assumes nothing.
use Prim.Native.Nat.{ℕ, zero, suc, ◌+◌, ◌*◌, ◌/◌, ◌^◌, ◌<◌}
use mathlib.Core.Path.{◌≡◌, refl, ap, ◌∙◌}
use mathlib.Core.List.{List, [], ◌∷◌}
use native.Mathlib.Omega.{arith}
use lib.ListN.{length, get_or, get_or-eq_default}
use Rattle.word.specs.Lent.{words_of}

-- there is a word for every four bytes:
pub words_length : (bytes : List ℕ) → length (words_of bytes) ≡ length bytes / 4
unfolding words_of
words_length [] = refl
words_length (a ∷ []) = refl
words_length (a ∷ b ∷ []) = refl
words_length (a ∷ b ∷ c ∷ []) = refl
words_length (a ∷ b ∷ c ∷ d ∷ more) = ap suc (words_length more) ∙ omega arith

-- the word at a place is made of the four bytes there, the lowest first
pub word_is :
    (bytes : List ℕ) (p : ℕ)
    → 4 * p + 3 < length bytes
    → get_or (words_of bytes) p 0
    ≡ get_or bytes (4 * p) 0 + get_or bytes (4 * p + 1) 0 * 2 ^ 8 + get_or bytes (4 * p + 2) 0 * 2 ^ 16 + get_or bytes (4 * p + 3) 0 * 2 ^ 24
unfolding words_of
word_is [] p h = absurd (omega arith)
word_is (a ∷ []) p h = absurd (omega arith)
word_is (a ∷ b ∷ []) p h = absurd (omega arith)
word_is (a ∷ b ∷ c ∷ []) p h = absurd (omega arith)
word_is (a ∷ b ∷ c ∷ d ∷ more) zero h = refl
word_is (a ∷ b ∷ c ∷ d ∷ more) (suc p) h =
    let past : 4 * suc p ≡ suc (suc (suc (suc (4 * p)))) = omega arith in
    let at : (i : ℕ) → 4 * suc p + i ≡ suc (suc (suc (suc (4 * p + i)))) = λ i. omega arith in
    rw (at 1, at 2, at 3, past) (word_is more p (omega arith))

-- and past the last whole word stands 0
pub word_past : (bytes : List ℕ) (p : ℕ) → length bytes < 4 * p + 4 → get_or (words_of bytes) p 0 ≡ 0
word_past bytes p h = get_or-eq_default (words_of bytes) 0 (omega (arith, words_length bytes))

-- words of bytes have 32 bits
pub words_narrow : (bs : List ℕ) → ((i : ℕ) → get_or bs i 0 < 2 ^ 8) → (i : ℕ) → get_or (words_of bs) i 0 < 2 ^ 32
unfolding words_of
words_narrow [] h i = omega arith
words_narrow (a ∷ []) h i = omega arith
words_narrow (a ∷ b ∷ []) h i = omega arith
words_narrow (a ∷ b ∷ c ∷ []) h i = omega arith
words_narrow (a ∷ b ∷ c ∷ d ∷ more) h zero = omega (arith, h 0, h 1, h 2, h 3)
words_narrow (a ∷ b ∷ c ∷ d ∷ more) h (suc i) = words_narrow more (λ k. h (suc (suc (suc (suc k))))) i
