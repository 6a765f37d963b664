-- A text put behind a line's text. Assumes nothing.
use Prim.Native.Nat.{ℕ, zero, suc, ◌+◌, ◌≤◌, ◌<◌, min}
use mathlib.Core.Path.{◌≡◌, refl, sym, ap, ◌∙◌}
use mathlib.Core.List.{List, [], ◌∷◌, ◌++◌, append_assoc, append-nil, foldl-append}
use native.Mathlib.Omega.{arith}
use lib.ListN.{length, get_or, take, set, replicate, length-append}
use lib.Seq.{take-append-le}
use Rattle.std.proofs.lemmas.List.{take-replicate, take_more}
use borrow.Author.Tests.{leb-true, leb-false}
use Rattle.word.proofs.First.{by_test}
use Rattle.trace.specs.Line.{line_of, pushed, added}
use Rattle.trace.specs.declared.line.Line.{Line}

-- the first zero behind a text becomes a byte
first_zero : (n m b : ℕ) (t : List ℕ) → length t < n → n ≤ m → set (take n (t ++ replicate m 0)) (length t) b ≡ take n (t ++ (b ∷ []) ++ replicate m 0)
first_zero zero m b t h k = absurd (omega arith)
first_zero (suc n) zero b [] h k = absurd (omega arith)
first_zero (suc n) (suc m) b [] h k = ap {B = List ℕ} (λ r. b ∷ r) (take-replicate n m 0 (omega arith) ∙ sym (take-replicate n (suc m) 0 (omega arith)))
first_zero (suc n) m b (x ∷ t) h k = ap {B = List ℕ} (λ r. x ∷ r) (first_zero n m b t (omega arith) (omega arith))

push_line : (t : List ℕ) (b : ℕ) → pushed (line_of t) b ≡ line_of (t ++ (b ∷ []))
unfolding pushed line_of
push_line t b =
    let one : length (t ++ (b ∷ [])) ≡ length t + 1 = length-append t (b ∷ []) in
    by_test (λ (l : Line). l ≡ line_of (t ++ (b ∷ [])))
    (λ e.
    let full : 160 ≤ length t = omega (arith, leb-true 160 (min (length t) 160) e) in
    let bytes : take 160 (t ++ replicate 160 0) ≡ take 160 (t ++ (b ∷ []) ++ replicate 160 0) = take-append-le 160 t _ full ∙ sym (take-append-le 160 t _ full) ∙ ap (take 160) (sym (append_assoc t (b ∷ []) (replicate 160 0))) in
    let long : min (length t) 160 ≡ min (length (t ++ (b ∷ []))) 160 = omega (arith, one) in
    λ i. record { bytes = bytes i; length = long i })
    (λ e.
    let short : length t < 160 = omega (arith, leb-false 160 (min (length t) 160) e) in
    let here : min (length t) 160 ≡ length t = omega arith in
    let bytes : set (take 160 (t ++ replicate 160 0)) (min (length t) 160) b ≡ take 160 (t ++ (b ∷ []) ++ replicate 160 0) =
    ap (λ (k : ℕ). set (take 160 (t ++ replicate 160 0)) k b) here ∙ first_zero 160 160 b t short (omega arith) in
    let long : min (length t) 160 + 1 ≡ min (length (t ++ (b ∷ []))) 160 = omega (arith, one) in
    λ i. record { bytes = bytes i; length = long i })

pub add_line : (a b : List ℕ) → added (line_of a) b ≡ line_of (a ++ b)
unfolding added
add_line a [] = ap line_of (sym (append-nil a))
add_line a (x ∷ b) = ap (λ (l : Line). added l b) (push_line a x) ∙ add_line (a ++ (x ∷ [])) b ∙ ap line_of (append_assoc a (x ∷ []) b)

-- a text behind a text
pub add_both : (l : Line) (a b : List ℕ) → added (added l a) b ≡ added l (a ++ b)
unfolding added
add_both l a b = sym (foldl-append pushed l a b)

-- one more byte of a text
pub add_next : (l before : Line) (t : List ℕ) (i : ℕ) → i < length t → before ≡ added l (take i t) → pushed before (get_or t i 0) ≡ added l (take (i + 1) t)
unfolding added
add_next l before t i h e = rw (e, take_more t i 0 h, foldl-append pushed l (take i t)) refl

-- so a line grows text by text
pub add_then : {m r : Line} (l : Line) (a b : List ℕ) → m ≡ added l a → r ≡ added m b → r ≡ added l (a ++ b)
add_then l a b e h = rw (h, e) (add_both l a b)
