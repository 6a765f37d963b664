-- Laws of a word's parts, for any list of parts that lie side by side: what is put together is taken apart again, and
-- what is taken apart is put together again. Assumes nothing.
use Prim.Native.Nat.{ℕ, suc, ◌+◌, ◌-◌, ◌*◌, ◌/◌, ◌%◌, ◌^◌, ◌≤◌, ◌<◌}
use mathlib.Core.Path.{◌≡◌, refl, sym, ap, subst, ◌∙◌}
use mathlib.Core.Bool.{Bool, true, false, ◌&&◌, false≢true}
use mathlib.Core.List.{List, [], ◌∷◌, ◌++◌}
use native.Mathlib.Nat.{suc-mul, lt_of_lt_of_le, mul-le-mul_right, mod-lt, mod-one, mod-eq_of_lt, mul-mod_left, mul-add-mod_self_right}
use native.Mathlib.Omega.{arith}
use lib.Dec.{eqb, leb, ltb}
use lib.ListN.{length, take, drop}
use lib.Pow.{pow_pos, pow-add, shl_lt, shr_lt, high, split, mod-pow-add, mod-mod-pow, field}
use borrow.Author.Tests.{lt-ltb, eq-eqb, ltb-true, leb-true, eqb-true}
use Rattle.word.specs.Parts.{bits, Part, is, carries, address, spare, has_bits, numbers_in, numbers_fit, word_with, room}
use Rattle.word.proofs.Tests.{both}

abbrev pub hi : Part → ℕ
hi (is h l v) = h
hi (carries h l) = h
hi (address h l) = h
hi (spare h l) = h

abbrev pub lo : Part → ℕ
lo (is h l v) = l
lo (carries h l) = l
lo (address h l) = l
lo (spare h l) = l

-- whether the parts lie side by side below bit `top`, down to bit 0
unfoldable pub tiled : ℕ → List Part → Bool
tiled top [] = eqb top 0
tiled top (p ∷ ps) = eqb (hi p + 1) top && (leb (lo p) (hi p) && tiled (lo p) ps)

-- whether each fixed number fits its bits
unfoldable pub fixed : List Part → Bool
fixed [] = true
fixed (is h l v ∷ ps) = ltb v (2 ^ (h + 1 - l)) && fixed ps
fixed (carries h l ∷ ps) = fixed ps
fixed (address h l ∷ ps) = fixed ps
fixed (spare h l ∷ ps) = fixed ps

-- whether no part is spare
unfoldable pub whole : List Part → Bool
whole [] = true
whole (is h l v ∷ ps) = whole ps
whole (carries h l ∷ ps) = whole ps
whole (address h l ∷ ps) = whole ps
whole (spare h l ∷ ps) = false

-- What lying side by side says of the first part: where it ends, and that what stands below bit `top` decides the bits in it
-- and what stands below it.
pub record Tile (top : ℕ) (p : Part) (ps : List Part) : Type 0 where
  pub ends : hi p + 1 ≡ top
  pub split_at : top ≡ (hi p + 1 - lo p) + lo p
  pub rest : tiled (lo p) ps ≡ true
  pub same_bits : (w v : ℕ) → w % 2 ^ top ≡ v % 2 ^ top → bits (hi p) (lo p) w ≡ bits (hi p) (lo p) v
  pub same_below : (w v : ℕ) → w % 2 ^ top ≡ v % 2 ^ top → w % 2 ^ lo p ≡ v % 2 ^ lo p

tile : (top : ℕ) (p : Part) (ps : List Part) → tiled top (p ∷ ps) ≡ true → Tile top p ps
unfolding tiled
tile top p ps t =
    let t₁ = both (eqb (hi p + 1) top) (leb (lo p) (hi p) && tiled (lo p) ps) t in
    let t₂ = both (leb (lo p) (hi p)) (tiled (lo p) ps) t₁.1 in
    let a : hi p + 1 ≡ top = eqb-true _ _ t₁.0 in
    let b : lo p ≤ hi p = leb-true _ _ t₂.0 in
    let j = hi p + 1 - lo p in
    let split : top ≡ j + lo p = omega arith in
    record {
      ends = a;
      split_at = split;
      rest = t₂.1;
      same_bits = λ w v e. sym (field w j (lo p)) ∙ ap (λ (n : ℕ). n / 2 ^ lo p) (rw split at e) ∙ field v j (lo p);
      same_below = λ w v e. sym (mod-mod-pow w j (lo p)) ∙ ap (λ (n : ℕ). n % 2 ^ lo p) (rw split at e) ∙ mod-mod-pow v j (lo p);
    }

-- words that agree below bit `top` have the same numbers, and fit alike
same_parts :
    (top : ℕ) (ps : List Part)
    → tiled top ps ≡ true
    → (w v : ℕ)
    → w % 2 ^ top ≡ v % 2 ^ top
    → (numbers_in ps w ≡ numbers_in ps v) × (has_bits ps w ≡ has_bits ps v)
unfolding numbers_in has_bits
same_parts top [] t w v e = (refl, refl)
same_parts top (is h l n ∷ ps) t w v e =
    let p = tile top (is h l n) ps t in
    let rest = same_parts l ps p.rest w v (p.same_below w v e) in
    (rest.0, rw (p.same_bits w v e, rest.1))
same_parts top (carries h l ∷ ps) t w v e =
    let p = tile top (carries h l) ps t in
    let rest = same_parts l ps p.rest w v (p.same_below w v e) in
    (rw (p.same_bits w v e, rest.0), rest.1)
same_parts top (address h l ∷ ps) t w v e =
    let p = tile top (address h l) ps t in
    let rest = same_parts l ps p.rest w v (p.same_below w v e) in
    (rw (p.same_bits w v e, rest.0), rest.1)
same_parts top (spare h l ∷ ps) t w v e =
    let p = tile top (spare h l) ps t in
    same_parts l ps p.rest w v (p.same_below w v e)

-- A word that carries the numbers: it is no wider than the parts, its bits are what the parts say, and it gives the numbers back.
pub record Held (top : ℕ) (ps : List Part) (ns : List ℕ) (w : ℕ) : Type 0 where
  pub narrow : w < 2 ^ top
  pub right : has_bits ps w ≡ true
  pub back : numbers_in ps w ≡ take (room ps) ns

-- A number f put into the bits of a part, over a word r that carries the other numbers: it stands there, and they still do.
record Put (top : ℕ) (p : Part) (ps : List Part) (ns : List ℕ) (f r : ℕ) : Type 0 where
  here : bits (hi p) (lo p) (f * 2 ^ lo p + r) ≡ f
  below : Held top ps ns (f * 2 ^ lo p + r)

put : {top : ℕ} {p : Part} {ps : List Part} {ns : List ℕ} (f r : ℕ) → Tile top p ps → f < 2 ^ (hi p + 1 - lo p) → Held (lo p) ps ns r → Put top p ps ns f r
put {top} {p} {ps} {ns} f r t h rest =
    let j = hi p + 1 - lo p in
    let l = lo p in
    let one : f * 2 ^ l + r < suc f * 2 ^ l = rw suc-mul (omega (arith, rest.narrow)) in
    let all : suc f * 2 ^ l ≤ 2 ^ j * 2 ^ l = mul-le-mul_right (2 ^ l) h in
    let same = same_parts l ps t.rest (f * 2 ^ l + r) r (mul-add-mod_self_right f (2 ^ l) r) in
    record {
      here = rw (high f l rest.narrow) (mod-eq_of_lt h);
      below =
          record {
            narrow = rw (t.split_at, pow-add 2 j l) (lt_of_lt_of_le one all);
            right = same.1 ∙ rest.right;
            back = same.0 ∙ rest.back;
          };
    }

pub held : (top : ℕ) (ps : List Part) (ns : List ℕ) → tiled top ps ≡ true → fixed ps ≡ true → numbers_fit ps ns ≡ true → Held top ps ns (word_with ps ns)
unfolding has_bits numbers_in word_with numbers_fit room fixed
held top [] ns t x f = record { narrow = pow_pos top; right = refl; back = refl }
held top (is h l v ∷ ps) ns t x f =
    let p = tile top (is h l v) ps t in
    let y = both (ltb v (2 ^ (h + 1 - l))) (fixed ps) x in
    let q = put v (word_with ps ns) p (ltb-true _ _ y.0) (held l ps ns p.rest y.1 f) in
    record { narrow = q.below.narrow; right = rw (q.here, eq-eqb v v refl) q.below.right; back = q.below.back }
held top (carries h l ∷ ps) [] t x f = absurd (false≢true f)
held top (carries h l ∷ ps) (m ∷ ns) t x f =
    let p = tile top (carries h l) ps t in
    let y = both (ltb m (2 ^ (h + 1 - l))) (numbers_fit ps ns) f in
    let q = put m (word_with ps ns) p (ltb-true _ _ y.0) (held l ps ns p.rest x y.1) in
    record { narrow = q.below.narrow; right = q.below.right; back = rw (q.here, q.below.back) }
held top (address h l ∷ ps) [] t x f = absurd (false≢true f)
held top (address h l ∷ ps) (m ∷ ns) t x f =
    let p = tile top (address h l) ps t in
    let y = both (ltb m (2 ^ (h + 1)) && eqb (m % 2 ^ l) 0) (numbers_fit ps ns) f in
    let z = both (ltb m (2 ^ (h + 1))) (eqb (m % 2 ^ l) 0) y.0 in
    let whole : m / 2 ^ l * 2 ^ l ≡ m = omega (arith, split m l, eqb-true (m % 2 ^ l) 0 z.1) in
    let low = shr_lt (h + 1 - l) l (subst (λ (k : ℕ). m < 2 ^ k) (p.ends ∙ p.split_at) (ltb-true _ _ z.0)) in
    let q = put (m / 2 ^ l) (word_with ps ns) p low (held l ps ns p.rest x y.1) in
    subst (λ (k : ℕ). Held top (address h l ∷ ps) (m ∷ ns) (k + word_with ps ns)) whole
    (record { narrow = q.below.narrow; right = q.below.right; back = rw (q.here, q.below.back, whole) })
held top (spare h l ∷ ps) ns t x f =
    let p = tile top (spare h l) ps t in
    let q = put 0 (word_with ps ns) p (pow_pos (h + 1 - l)) (held l ps ns p.rest x f) in
    let none : 0 * 2 ^ l + word_with ps ns ≡ word_with ps ns = omega arith in
    subst (Held top (spare h l ∷ ps) ns) none (record { narrow = q.below.narrow; right = q.below.right; back = q.below.back })

-- A word whose bits are what the parts say, put together again from its numbers, whatever follows them.
pub again : (top : ℕ) (ps : List Part) → tiled top ps ≡ true → whole ps ≡ true → (w : ℕ) (ns : List ℕ) → has_bits ps w ≡ true → word_with ps (numbers_in ps w ++ ns) ≡ w % 2 ^ top
unfolding has_bits numbers_in word_with whole tiled
again top [] t x w ns f = sym (ap (λ (k : ℕ). w % 2 ^ k) (eqb-true top 0 t) ∙ mod-one w)
again top (is h l v ∷ ps) t x w ns f =
    let p = tile top (is h l v) ps t in
    let y = both (eqb (bits h l w) v) (has_bits ps w) f in
    rw (p.split_at, mod-pow-add w (h + 1 - l) l, again l ps p.rest x w ns y.1, eqb-true (bits h l w) v y.0)
again top (carries h l ∷ ps) t x w ns f =
    let p = tile top (carries h l) ps t in
    rw (p.split_at, mod-pow-add w (h + 1 - l) l, again l ps p.rest x w ns f)
again top (address h l ∷ ps) t x w ns f =
    let p = tile top (address h l) ps t in
    rw (p.split_at, mod-pow-add w (h + 1 - l) l, again l ps p.rest x w ns f)
again top (spare h l ∷ ps) t x w ns f = absurd (false≢true x)

-- a word carries as many numbers as its parts have room for
pub as_many : (ps : List Part) (w : ℕ) → length (numbers_in ps w) ≡ room ps
unfolding numbers_in room
as_many [] w = refl
as_many (is h l v ∷ ps) w = as_many ps w
as_many (carries h l ∷ ps) w = ap suc (as_many ps w)
as_many (address h l ∷ ps) w = ap suc (as_many ps w)
as_many (spare h l ∷ ps) w = as_many ps w

-- the numbers in a word fit its parts, whatever follows them
pub within : (top : ℕ) (ps qs : List Part) (ns : List ℕ) → tiled top ps ≡ true → (w : ℕ) → numbers_fit (ps ++ qs) (numbers_in ps w ++ ns) ≡ numbers_fit qs ns
unfolding numbers_in numbers_fit
within top [] qs ns t w = refl
within top (is h l v ∷ ps) qs ns t w = within l ps qs ns (tile top (is h l v) ps t).rest w
within top (carries h l ∷ ps) qs ns t w =
    rw (lt-ltb (bits h l w) (2 ^ (h + 1 - l)) (mod-lt (w / 2 ^ l) (pow_pos (h + 1 - l)))) (within l ps qs ns (tile top (carries h l) ps t).rest w)
within top (address h l ∷ ps) qs ns t w =
    let p = tile top (address h l) ps t in
    let low : bits h l w * 2 ^ l < 2 ^ (h + 1) = subst (λ (k : ℕ). bits h l w * 2 ^ l < 2 ^ k) (sym (p.ends ∙ p.split_at)) (shl_lt (h + 1 - l) l (mod-lt (w / 2 ^ l) (pow_pos (h + 1 - l)))) in
    rw (lt-ltb (bits h l w * 2 ^ l) (2 ^ (h + 1)) low, eq-eqb (bits h l w * 2 ^ l % 2 ^ l) 0 (mul-mod_left (bits h l w) (2 ^ l))) (within l ps qs ns p.rest w)
within top (spare h l ∷ ps) qs ns t w = within l ps qs ns (tile top (spare h l) ps t).rest w

-- numbers that fit parts in a row fit the first of them, and the numbers left fit the others
pub fit_apart : (ps qs : List Part) (ns : List ℕ) → numbers_fit (ps ++ qs) ns ≡ true → (numbers_fit ps ns ≡ true) × (numbers_fit qs (drop (room ps) ns) ≡ true)
unfolding numbers_fit room
fit_apart [] qs ns f = (refl, f)
fit_apart (is h l v ∷ ps) qs ns f = fit_apart ps qs ns f
fit_apart (carries h l ∷ ps) qs [] f = absurd (false≢true f)
fit_apart (carries h l ∷ ps) qs (m ∷ ns) f =
    let y = both (ltb m (2 ^ (h + 1 - l))) (numbers_fit (ps ++ qs) ns) f in
    let z = fit_apart ps qs ns y.1 in
    (rw y.0 z.0, z.1)
fit_apart (address h l ∷ ps) qs [] f = absurd (false≢true f)
fit_apart (address h l ∷ ps) qs (m ∷ ns) f =
    let y = both (ltb m (2 ^ (h + 1)) && eqb (m % 2 ^ l) 0) (numbers_fit (ps ++ qs) ns) f in
    let z = fit_apart ps qs ns y.1 in
    (rw y.0 z.0, z.1)
fit_apart (spare h l ∷ ps) qs ns f = fit_apart ps qs ns f
