-- The bits that any byte of a part has, and what they tell of each. Assumes nothing.
use Prim.Native.Nat.{ℕ, zero, suc, ◌+◌, ◌^◌, ◌<◌}
use mathlib.Core.Path.{◌≡◌, refl, sym, ap, ◌∙◌}
use mathlib.Core.Bool.{Bool, true, false, not}
use mathlib.Core.List.{List}
use mathlib.Core.Logic.{⊎_elim, ◌↔◌}
use native.Mathlib.Nat.{eq-or-lt_of_le}
use native.Mathlib.Numerals.{add-one}
use native.Mathlib.Omega.{arith}
use lib.Bits.{bit_or, or_lt, or_add_and, and_le_l, and_le_r}
use lib.Dec.{eqb}
use lib.ListN.{length, get_or}
use lib.Pow.{pow_pos}
use borrow.Author.Tests.{eqb-true, eqb-false, eq-eqb, le-ltb, not-false}
use Rattle.word.specs.Lowest.{lowest, found?}
use Rattle.word.proofs.Lowest.{lowest_none, found_none, none_found}
use Rattle.rules.specs.Map.{over_three, starts, any_start, all_bits}
use Rattle.rules.specs.Judging.{place_verdict}
use Rattle.rules.specs.Judging.{accepted}

-- one byte more
pub bits_more : (part : List ℕ) (n bits : ℕ) → bits ≡ all_bits part n → bit_or bits (get_or part n 0) ≡ all_bits part (n + 1)
unfolding all_bits
bits_more part n bits e = rw (add-one, e)

-- they are below a power of two exactly if each byte is
pub bits_below : (j : ℕ) (part : List ℕ) (n : ℕ) → all_bits part n < 2 ^ j ↔ ((k : ℕ) → k < n → get_or part k 0 < 2 ^ j)
unfolding all_bits
bits_below j part zero = (λ h k l. absurd (omega arith), λ h. pow_pos j)
bits_below j part (suc n) =
    let before = bits_below j part n in
    let a = all_bits part n in
    let b = get_or part n 0 in
    let whole = or_add_and a b in
    let left = and_le_l a b in
    let right = and_le_r a b in (
      λ h k l. ⊎_elim (λ e. rw e (omega arith)) (λ m. before.0 (omega arith) k m) (eq-or-lt_of_le {n = k} {m = n} (omega arith)),
      λ h. or_lt j a b (before.1 (λ k l. h k (omega arith))) (h n (omega arith)),
    )

-- none has a bit: no place is a start;
pub bits_start : (part : List ℕ) (bits : ℕ) → bits ≡ all_bits part (length part) → not (eqb bits 0) ≡ any_start part
unfolding any_start starts
bits_start part bits e = go (eqb bits 0) refl (found? (lowest (starts part) (length part))) refl
  where
    go : (a : Bool) → eqb bits 0 ≡ a → (b : Bool) → found? (lowest (starts part) (length part)) ≡ b → not a ≡ b
    go true h false f = refl
    go false h true f = refl
    go true h true f =
        let z = eqb-true bits 0 h in
        let all = (bits_below 0 part (length part)).0 (omega arith) in
        sym (none_found (starts part) (length part) (λ k l. ap not (eq-eqb (get_or part k 0) 0 (let y = all k l in omega arith)))) ∙ f
    go false h false f =
        let n = eqb-false bits 0 h in
        let all = found_none (starts part) (length part) f in
        let y = (bits_below 0 part (length part)).1 (λ k l. let q = eqb-true (get_or part k 0) 0 (not-false _ (all k l)) in omega arith) in
        absurd (omega arith)

-- none has a bit above 3: no byte is over 3
pub bits_narrow : (map : List ℕ) (bits : ℕ) → bits ≡ all_bits map (length map) → bits < 4 → accepted ≡ place_verdict (lowest (over_three map) (length map))
unfolding over_three place_verdict
bits_narrow map bits e l =
    let all = (bits_below 2 map (length map)).0 (omega arith) in
    rw ((lowest_none (over_three map) (length map)).1 (λ k h. le-ltb 3 (get_or map k 0) (let y = all k h in omega arith)))
