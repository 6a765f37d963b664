-- The bits of the map's bytes and of the list's, what stands past the end of both, and a part of the map with the places of the whole that it
-- spans. Assumes nothing.
use Prim.Native.Nat.{ℕ, zero, suc, ◌+◌, ◌*◌, ◌/◌, ◌%◌, ◌≤◌, ◌<◌}
use mathlib.Core.Path.{◌≡◌, refl, sym, ap, ◌∙◌}
use mathlib.Core.Bool.{Bool, true, false, not, false≢true}
use mathlib.Core.List.{List}
use mathlib.Core.Logic.{⊎_elim, ◌↔◌}
use mathlib.Core.Option.{Option, none, some}
use native.Mathlib.Nat.{eq-or-lt_of_le, zero-mul, one-mul, div-one}
use native.Mathlib.Omega.{arith}
use lib.Bits.{bit_and, and_high}
use lib.Dec.{eqb}
use lib.ListN.{length, get_or, take, drop, length-take, length-drop, get_or-eq_default}
use lib.Seq.{get_or-take, get_or-drop}
use borrow.Author.Tests.{eq-eqb, ne_eqb}
use Rattle.word.specs.First.{choose}
use Rattle.word.specs.Lowest.{keep, lowest, found?}
use Rattle.word.proofs.Lowest.{none_found}
use Rattle.word.proofs.Tests.{equal_plain}
use Rattle.rules.specs.Permit.{permits}
use Rattle.rules.specs.Map.{marked, starts, any_start, among}
use Rattle.rules.specs.Promises.{Permitted}

-- a place is marked if its byte has the state's bit
one_digit : (d : ℕ) → d < 2 → (k : ℕ) → not (eqb (d * suc k) 0) ≡ eqb d 1
one_digit zero l k = rw (zero-mul (suc k))
one_digit (suc zero) l k = rw (one-mul (suc k), ne_eqb (suc k) 0 (λ e. omega arith))
one_digit (suc (suc d)) l k = absurd (omega arith)

pub mark_bit : (map : List ℕ) (p : ℕ) (s : Bool) {bit : ℕ} → bit ≡ choose s 2 1 → not (eqb (bit_and (get_or map p 0) bit) 0) ≡ marked map p s
unfolding marked choose
mark_bit map p false e = rw (e, and_high (get_or map p 0) 1 0, div-one (get_or map p 0)) (one_digit (get_or map p 0 % 2) (omega arith) 0)
mark_bit map p true e = rw (e, and_high (get_or map p 0) 1 1) (one_digit (get_or map p 0 / 2 % 2) (omega arith) 1)

-- a method is permitted exactly if its bit is set
pub permits_plain : (list : List ℕ) (b m : ℕ) → permits list b m ≡ true ↔ Permitted list b m
unfolding permits
permits_plain list b m = equal_plain _ 1

-- past the end of the map no place is marked, nor a start
pub past_unmarked : (map : List ℕ) (p : ℕ) (s : Bool) → length map ≤ p → false ≡ marked map p s
unfolding marked
past_unmarked map p false l = rw (get_or-eq_default map 0 {n = p} l)
past_unmarked map p true l = rw (get_or-eq_default map 0 {n = p} l)

past_none : (map : List ℕ) (k : ℕ) → length map ≤ k → starts map k ≡ false
unfolding starts
past_none map k l = ap not (eq-eqb _ _ (get_or-eq_default map 0 {n = k} l))

-- so that what is marked is a place of the map
pub mark_within : (map : List ℕ) (p : ℕ) (s : Bool) → marked map p s ≡ true → p < length map
mark_within map p s m =
    let past : length map ≤ p → ⊥ = λ l. false≢true (past_unmarked map p s l ∙ m) in
    omega arith

pub none_among : (map : List ℕ) (a c : ℕ) → length map ≤ a → false ≡ among map a c
unfolding among
none_among map a c l = sym (none_found _ c (λ k h. past_none map (a + k) (omega arith)))

-- tests that agree below n have the same lowest number there
lowest_same : (f g : ℕ → Bool) (n : ℕ) → ((k : ℕ) → k < n → f k ≡ g k) → lowest f n ≡ lowest g n
unfolding lowest
lowest_same f g zero h = refl
lowest_same f g (suc n) h = rw (lowest_same f g n (λ k l. h k (omega arith)), h n (omega arith))

-- and a test that none from e on passes has it below e
keep_first : (o : Option ℕ) → keep o none ≡ o
unfolding keep
keep_first none = refl
keep_first (some k) = refl

lowest_before : (f : ℕ → Bool) (e n : ℕ) → e ≤ n → ((k : ℕ) → e ≤ k → k < n → f k ≡ false) → lowest f n ≡ lowest f e
unfolding lowest choose
lowest_before f e zero l h = let z : e ≡ zero = omega arith in rw z
lowest_before f e (suc n) l h =
    ⊎_elim (λ q. rw q) (λ m. rw (h n (omega arith) (omega arith)) (keep_first (lowest f n) ∙ lowest_before f e n (omega arith) (λ k a b. h k a (omega arith)))) (eq-or-lt_of_le l)

-- any start of a part of e places from a on is one of the whole among the c from there, of which the others are past the end
pub part_starts :
    (map : List ℕ) (a c e : ℕ)
    → e ≤ c
    → a + e ≤ length map
    → ((k : ℕ) → e ≤ k → k < c → length map ≤ a + k)
    → any_start (take e (drop a map)) ≡ among map a c
unfolding any_start among starts
part_starts map a c e l h past =
    let long : length (take e (drop a map)) ≡ e = simp (length-take, length-drop) (omega arith) in
    rw long
    (ap found?
    (lowest_same _ _ e (λ k m. ap (λ (byte : ℕ). not (eqb byte 0)) (get_or-take e (drop a map) k 0 m ∙ get_or-drop a map k 0))
    ∙ sym (lowest_before (λ k. starts map (a + k)) e c l (λ k m n. past_none map (a + k) (past k m n)))))
