-- `Counted`: the set bits of the list are the methods that it permits. Assumes nothing.
use Prim.Native.Nat.{ℕ, zero, suc, ◌+◌, ◌*◌, ◌/◌, ◌%◌, ◌^◌, ◌<◌}
use mathlib.Core.Path.{◌≡◌, refl, sym, ap, ◌∙◌}
use mathlib.Core.List.{List}
use native.Mathlib.Nat.{add-zero, add-suc, div-one}
use native.Mathlib.Numerals.{add-one}
use native.Mathlib.Omega.{arith}
use lib.Count.{ones, ones_step}
use lib.ListN.{get_or}
use lib.Pow.{shr-shr}
use Rattle.rules.specs.Permit.{set_bits, count_of}
use Rattle.rules.specs.Promises.{Bytes, permit_bit, sum, permitted_pairs}

-- a sum of no values, and of one more
sum_none : (f : ℕ → ℕ) → sum f 0 ≡ 0
unfolding sum
sum_none f = refl

sum_more : (f : ℕ → ℕ) (n : ℕ) → sum f (suc n) ≡ sum f n + f n
unfolding sum
sum_more f n = refl

-- the eight digits of a byte
abbrev bit : ℕ → ℕ → ℕ
bit v j = v / 2 ^ j % 2

-- the digits below k, and the rest
digits_ones : (v k : ℕ) → sum (bit v) k + ones (v / 2 ^ k) ≡ ones v
unfolding sum
digits_ones v zero = let same : ones (v / 2 ^ 0) ≡ ones v = ap ones (div-one v) in omega arith
digits_ones v (suc k) =
    let before = digits_ones v k in
    let step = ones_step (v / 2 ^ k) in
    let rest : ones (v / 2 ^ k / 2) ≡ ones (v / 2 ^ suc k) = ap ones (shr-shr v k 1 ∙ ap (λ (n : ℕ). v / 2 ^ n) (add-one k)) in
    omega arith

byte_ones : (v : ℕ) → v < 2 ^ 8 → sum (bit v) 8 ≡ ones v
unfolding ones
byte_ones v l =
    let all = digits_ones v 8 in
    let high : v / 2 ^ 8 ≡ 0 = omega arith in
    let z : ones (v / 2 ^ 8) ≡ 0 = rw high in
    omega arith

-- a sum goes on where it stopped
more : (f : ℕ → ℕ) (n m : ℕ) → sum f (n + m) ≡ sum f n + sum (λ k. f (n + k)) m
unfolding sum
more f n zero = rw (add-zero n) (sym (add-zero (sum f n)))
more f n (suc m) = let h = more f n m in rw (add-suc n m) (rw h (omega arith))

-- values that agree have one sum
alike : (f g : ℕ → ℕ) (n : ℕ) → ((k : ℕ) → k < n → f k ≡ g k) → sum f n ≡ sum g n
unfolding sum
alike f g zero h = refl
alike f g (suc n) h = rw (alike f g n (λ k l. h k (omega arith)), h n (omega arith))

module _ (list : List ℕ) (narrow : Bytes list) where
  -- the methods of one byte are its digits
  byte_methods : (b i : ℕ) → sum (λ k. permit_bit list b (8 * i + k)) 8 ≡ ones (get_or list (256 * b + i) 0)
  byte_methods b i =
      alike _ (bit (get_or list (256 * b + i) 0)) 8
      (λ k l.
      let q : (8 * i + k) / 8 ≡ i = omega arith in
      let r : (8 * i + k) % 8 ≡ k = omega arith in
      rw (q, r))
      ∙ byte_ones _ (narrow (256 * b + i))

  -- those of a subchannel's first n bytes
  subchannel_methods : (b n : ℕ) → set_bits list (256 * b + n) ≡ set_bits list (256 * b) + sum (permit_bit list b) (8 * n)
  unfolding set_bits sum
  subchannel_methods b zero = rw (add-zero (256 * b)) (sym (add-zero (set_bits list (256 * b))))
  subchannel_methods b (suc n) =
      let before = subchannel_methods b n in
      let here = byte_methods b n in
      let on = more (permit_bit list b) (8 * n) 8 in
      let e : 8 * suc n ≡ 8 * n + 8 = omega arith in
      rw (add-suc (256 * b) n, e) (omega arith)

  -- and those of the first n subchannels
  all_methods : (n : ℕ) → set_bits list (256 * n) ≡ sum (λ b. sum (permit_bit list b) 2048) n
  unfolding set_bits
  all_methods zero = sym (sum_none _)
  all_methods (suc n) =
      let before = all_methods n in
      let here = subchannel_methods n 256 in
      let e : 256 * suc n ≡ 256 * n + 256 = omega arith in
      rw (e, sum_more) (omega arith)

  pub count_pairs : count_of list ≡ permitted_pairs list
  unfolding count_of
  count_pairs = all_methods 8
