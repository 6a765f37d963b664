-- What the table of special methods says of a method, by the range that its number is in. Assumes nothing.
use Prim.Native.Nat.{ℕ, ◌*◌, ◌≤◌, ◌<◌}
use mathlib.Core.Path.{◌≡◌, refl, sym, ◌∙◌}
use mathlib.Core.Bool.{Bool, true, false, ◌&&◌, ◌||◌}
use mathlib.Core.Logic.{◌⊎◌, inl, inr, ◌↔◌}
use native.Mathlib.Omega.{arith}
use lib.Dec.{leb, ltb}
use borrow.Author.Tests.{le-leb, ltb-true, ltb-false}
use Rattle.word.specs.Special.{present_of, listed, specials}
use Rattle.word.specs.Outcomes.{Masks}
use Rattle.word.specs.declared.setting.Level.{Level}
use Rattle.word.proofs.Masks.{mask_of, mask_wide, mask_bit}
use Rattle.word.proofs.Tests.{or_plain, and_plain, most_plain}

-- the table in plain terms, by the method's number n: from 0x100 up, a row, a row of one method, and the last row
above : (a n : ℕ) → leb (4 * a) (4 * n) ≡ true ↔ a ≤ n
above a n =
    let p = most_plain (4 * a) (4 * n) in
    (λ e. let x = p.0 e in omega arith, λ x. p.1 (omega arith))

row : (from to level n l : ℕ) → (leb (4 * from) (4 * n) && leb (4 * n) (4 * to) && leb level l) ≡ true ↔ ((from ≤ n) × (n ≤ to) × (level ≤ l))
row from to level n l =
    let p = and_plain (leb (4 * from) (4 * n) && leb (4 * n) (4 * to)) (leb level l) (and_plain (leb (4 * from) (4 * n)) (leb (4 * n) (4 * to)) (above from n) (above n to)) (most_plain level l) in
    (λ e. let x = p.0 e in (x.0.0, x.0.1, x.1), λ x. p.1 ((x.0, x.1), x.2))

single : (k level n l : ℕ) → (leb (4 * k) (4 * n) && leb (4 * n) (4 * k) && leb level l) ≡ true ↔ ((n ≡ k) × (level ≤ l))
single k level n l =
    let p = row k k level n l in
    (λ e. let x = p.0 e in (omega arith, x.2), λ x. p.1 (omega arith, omega arith, x.1))

always : (n l : ℕ) → (leb 0 (4 * n) && leb (4 * n) 0 && leb 0 l) ≡ true ↔ (n ≡ 0)
always n l =
    let p = single 0 0 n l in
    (λ e. (p.0 e).0, λ x. p.1 (x, omega arith))

last : (a : Bool) {P : Type 0} → a ≡ true ↔ P → (a || false) ≡ true ↔ P
last true p = p
last false p = p

pub specials_plain :
    (n l : ℕ)
    → present_of l n ≡ true
    ↔ ((0x40 ≤ n)
    ⊎ (n ≡ 0x00)
    ⊎ ((0x04 ≤ n) × (n ≤ 0x09) × (5 ≤ l))
    ⊎ ((n ≡ 0x14) × (1 ≤ l))
    ⊎ ((0x18 ≤ n) × (n ≤ 0x1b) × (2 ≤ l))
    ⊎ ((n ≡ 0x20) × (3 ≤ l)))
unfolding present_of listed specials
specials_plain n l =
    or_plain _ _ (above 0x40 n)
    (or_plain _ _ (always n l)
    (or_plain _ _ (row 0x04 0x09 5 n l)
    (or_plain _ _ (single 0x14 1 n l)
    (or_plain _ _ (row 0x18 0x1b 2 n l)
    (last _ (single 0x20 3 n l))))))

pub beside : (m k : ℕ) → (m ≡ k → ⊥) → (m < k) ⊎ (k < m)
beside m k ne = go (ltb m k) refl
  where
    go : (t : Bool) → ltb m k ≡ t → (m < k) ⊎ (k < m)
    go true e = inl (ltb-true m k e)
    go false e = inr (omega (arith, ltb-false m k e))

-- every level has a method from 0x100 up
pub ordinary : (level n : ℕ) → 0x40 ≤ n → true ≡ present_of level n
unfolding present_of
ordinary level n h = rw (le-leb 0x100 (4 * n) (omega arith))

-- above the last level of the table a level has what that has
pub as_last : (l n : ℕ) → 5 ≤ l → present_of l n ≡ present_of 5 n
unfolding present_of listed specials
as_last l n h = rw (le-leb 0 l (omega arith), le-leb 1 l (omega arith), le-leb 2 l (omega arith), le-leb 3 l (omega arith), le-leb 5 l h)

-- what the table says of a level as a mask, for every level of which it says the same
pub masked : (level : Level) (k : ℕ) {m : ℕ} → ((n : ℕ) → present_of level.number n ≡ present_of k n) → mask_of (present_of k) 64 ≡ m → Masks level m
masked level k same e = rw (sym e) (record { wide = mask_wide (present_of k) 64; bit = λ n l. mask_bit (present_of k) 64 n l ∙ sym (same n) })
