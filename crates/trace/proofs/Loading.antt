-- Words read from bytes, stored one after the other. Assumes nothing.
use Prim.Native.Nat.{ℕ, ◌+◌, ◌/◌, ◌≤◌, min}
use mathlib.Core.Path.{◌≡◌, refl, sym, ap, ◌∙◌}
use mathlib.Core.List.{List, [], ◌++◌, append-nil}
use native.Mathlib.Omega.{arith}
use lib.ListN.{length, take, drop, length-take}
use lib.Seq.{sets-eq, take_all, take-append-le, drop-length, drop-append_seam}
use Rattle.std.proofs.lemmas.List.{take_min}
use Rattle.word.specs.Lent.{words_of}
use Rattle.word.proofs.Bytes.{words_length}
use Rattle.trace.specs.LineByLine.{fitting}
use Rattle.trace.specs.Outcomes.{Loads}

-- what was read, and behind it what was there, are as many words as there are and as there is room for, stored
pub in_place :
    (bytes room : List ℕ) (n : ℕ) (read : List ℕ)
    → n ≡ min (length room) (length bytes / 4)
    → read ≡ take n (words_of bytes)
    → Loads bytes room n (read ++ drop n room)
in_place bytes room n read h e =
    let ws = words_of bytes in
    let all : take n ws ≡ fitting bytes room = rw (h, ← words_length bytes) (take_min (length room) ws) in
    let many : n ≡ length (fitting bytes room) = omega (arith, length-take (length room) ws, words_length bytes) in
    let behind : 0 + length (fitting bytes room) ≡ n = omega arith in
    record {
      answer = many;
      memory = rw (e, all, sets-eq (fitting bytes room) room 0 (omega (arith, length-take (length room) ws)), behind) refl;
    }

-- what is read stands in front of what was there
module _ (bytes room : List ℕ) (n : ℕ) (exit : List ℕ) (h : Loads bytes room n exit) where
  in_front : exit ≡ fitting bytes room ++ drop n room
  in_front =
      let behind : 0 + length (fitting bytes room) ≡ n = omega (arith, h.answer) in
      h.memory ∙ sets-eq (fitting bytes room) room 0 (omega (arith, length-take (length room) (words_of bytes))) ∙ ap (λ (k : ℕ). fitting bytes room ++ drop k room) behind

  -- and is all of the words where there is room,
  pub all_fit : length bytes / 4 ≤ length room → (n ≡ length bytes / 4) × (take n exit ≡ words_of bytes) × (drop n exit ≡ drop n room)
  all_fit enough =
      let ws = words_of bytes in
      let all : fitting bytes room ≡ ws = take_all (length room) ws (omega (arith, words_length bytes)) in
      let count : n ≡ length ws = h.answer ∙ ap length all in
      let front : exit ≡ ws ++ drop n room = in_front ∙ ap (λ (x : List ℕ). x ++ drop n room) all in
      let own : take n (ws ++ drop n room) ≡ ws = take-append-le n ws (drop n room) (omega arith) ∙ take_all n ws (omega arith) in
      let rest : drop n (ws ++ drop n room) ≡ drop n room = ap (λ (k : ℕ). drop k (ws ++ drop n room)) count ∙ drop-append_seam ws (drop n room) in
      (count ∙ words_length bytes, ap (take n) front ∙ own, ap (drop n) front ∙ rest)

  -- or else fills it
  pub some_fit : length room ≤ length bytes / 4 → (n ≡ length room) × (exit ≡ take n (words_of bytes))
  some_fit short =
      let full : n ≡ length room = h.answer ∙ omega (arith, length-take (length room) (words_of bytes), words_length bytes) in
      let none_left : drop n room ≡ [] = ap (λ (k : ℕ). drop k room) full ∙ drop-length room in
      (full, in_front ∙ ap (λ (x : List ℕ). fitting bytes room ++ x) none_left ∙ append-nil (fitting bytes room) ∙ ap (λ (k : ℕ). take k (words_of bytes)) (sym full))
