-- A test, and the condition that it tests. Assumes nothing.
use Prim.Native.Nat.{ℕ, ◌≤◌, ◌<◌}
use mathlib.Core.Path.{◌≡◌, refl, sym}
use mathlib.Core.Bool.{Bool, true, false, not, ◌&&◌, ◌||◌, and-true, and-eq-true_iff, false≢true}
use mathlib.Core.Logic.{◌⊎◌, inl, inr, ⊎_elim, ◌↔◌}
use lib.Dec.{eqb, leb, ltb}
use Rattle.std.specs.Ordering.{is_lt, nat_cmp}
use Rattle.std.proofs.lemmas.Map.Keys.{ge_from_not_lt}
use borrow.Author.Rules.{rules}
use borrow.Author.Tests.{lt-ltb, le-leb, eq-eqb, ltb-true, leb-true, eqb-true}

-- both tests of a conjunction
pub both : (a b : Bool) → a && b ≡ true → (a ≡ true) × (b ≡ true)
both a b h = (and-eq-true_iff a b).0 h

-- a third test beside two that have been made together
pub beside : (a b d t : Bool) → t ≡ a && b → a && (b && (d && true)) ≡ t && d
beside true true d t e = rw (e, and-true)
beside true false d t e = rw e
beside false b d t e = rw e

-- a negated test, either of two, and both of two
pub not_plain : (b : Bool) {P : Type 0} → b ≡ true ↔ P → not b ≡ true ↔ (P → ⊥)
not_plain true e = (λ h p. false≢true h, λ n. absurd (n (e.0 refl)))
not_plain false e = (λ h p. false≢true (e.1 p), λ n. refl)

pub or_plain : (a b : Bool) {P Q : Type 0} → a ≡ true ↔ P → b ≡ true ↔ Q → (a || b) ≡ true ↔ (P ⊎ Q)
or_plain true b p q = (λ e. inl (p.0 refl), λ x. refl)
or_plain false b p q = (λ e. inr (q.0 e), λ x. ⊎_elim (λ h. absurd (false≢true (p.1 h))) (λ h. q.1 h) x)

pub and_plain : (a b : Bool) {P Q : Type 0} → a ≡ true ↔ P → b ≡ true ↔ Q → (a && b) ≡ true ↔ (P × Q)
and_plain a b p q = (λ e. let y = both a b e in (p.0 y.0, q.0 y.1), λ x. rw (p.1 x.0) (q.1 x.1))

pub less_plain : (a b : ℕ) → ltb a b ≡ true ↔ (a < b)
less_plain a b = (ltb-true a b, lt-ltb a b)

pub equal_plain : (a b : ℕ) → eqb a b ≡ true ↔ (a ≡ b)
equal_plain a b = (eqb-true a b, eq-eqb a b)

pub most_plain : (a b : ℕ) → leb a b ≡ true ↔ (a ≤ b)
most_plain a b = (leb-true a b, le-leb a b)

-- what a comparison of two levels has told
pub below : {a b : ℕ} → true ≡ is_lt (nat_cmp a b) → a < b
below {a} {b} e = search rules

pub not_below : {a b : ℕ} → false ≡ is_lt (nat_cmp a b) → b ≤ a
not_below {a} {b} e = ge_from_not_lt a b (sym e)
