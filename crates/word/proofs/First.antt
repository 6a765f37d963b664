-- Laws of a choice, and of the first case that holds. Assumes nothing.
use Prim.Native.Nat.{ℕ}
use mathlib.Core.Path.{◌≡◌, refl, sym, ap, ◌∙◌}
use mathlib.Core.Bool.{Bool, true, false, false≢true}
use mathlib.Core.List.{List, [], ◌∷◌, ◌++◌}
use mathlib.Core.Logic.{inl, inr, ⊎_elim, ◌↔◌}
use mathlib.Core.Option.{Option, none, some}
use native.Mathlib.Omega.{arith}
use Rattle.word.specs.First.{choose, Case, PlainCase, first, FirstIs, SomeHolds}

-- to show something of a choice, show it of both ways, each with the test's value
pub by_test : {A : Type 0} (P : A → Type 0) {t : Bool} {x y : A} → (t ≡ true → P x) → (t ≡ false → P y) → P (choose t x y)
unfolding choose
by_test P {t = true} f g = f refl
by_test P {t = false} f g = g refl

-- which way it goes: for `rw` and `simp`, with the test's value alone written
pub choose_true : {t : Bool} → t ≡ true → {A : Type 0} (x y : A) → choose t x y ≡ x
unfolding choose
choose_true e x y = rw e

pub choose_false : {t : Bool} → t ≡ false → {A : Type 0} (x y : A) → choose t x y ≡ y
unfolding choose
choose_false e x y = rw e

-- two that are both the same are equal: what a contract by equation allows is one outcome
pub one_outcome : {A : Type 0} {x y v : A} → x ≡ v → y ≡ v → x ≡ y
one_outcome p q = p ∙ sym q

-- the first of two lists together is the first of the one, else that of the other
unfoldable pub or_else : Option ℕ → Option ℕ → Option ℕ
or_else none b = b
or_else (some n) b = some n

pub first_append : (cs ds : List Case) → first (cs ++ ds) ≡ or_else (first cs) (first ds)
unfolding first or_else choose
first_append [] ds = refl
first_append (c ∷ cs) ds = go c.holds (first_append cs ds)
  where
    go :
        (b : Bool)
        → first (cs ++ ds) ≡ or_else (first cs) (first ds)
        → choose b (some c.number) (first (cs ++ ds)) ≡ or_else (choose b (some c.number) (first cs)) (first ds)
    go true e = refl
    go false e = e

-- where none holds, neither the first of them does nor any later
pub first_none : (c : Case) (cs : List Case) → first (c ∷ cs) ≡ none → (c.holds ≡ false) × (first cs ≡ none)
unfolding first choose
first_none c cs e = go c.holds refl e
  where
    go : (b : Bool) → c.holds ≡ b → choose b (some c.number) (first cs) ≡ none → (c.holds ≡ false) × (first cs ≡ none)
    go true d e = let z : ◌≡◌ {A = ℕ} 0 1 = cc in absurd (omega arith)
    go false d e = (d, e)

pub append_none : (cs ds : List Case) → first (cs ++ ds) ≡ none → (first cs ≡ none) × (first ds ≡ none)
unfolding or_else
append_none cs ds e = go (first cs) refl (sym (first_append cs ds) ∙ e)
  where
    go : (o : Option ℕ) → first cs ≡ o → or_else o (first ds) ≡ none → (first cs ≡ none) × (first ds ≡ none)
    go none d e = (d, e)
    go (some n) d e = let z : ◌≡◌ {A = ℕ} 0 1 = cc in absurd (omega arith)

-- no case of a list holds, which is so exactly if none is the first
abbrev pub Fails : List Case → Type 0
Fails [] = Unit {0}
Fails (c ∷ cs) = (c.holds ≡ false) × Fails cs

pub none_fails : (cs : List Case) → first cs ≡ none → Fails cs
none_fails [] e = tt
none_fails (c ∷ cs) e = let x = first_none c cs e in (x.0, none_fails cs x.1)

pub fails_none : (cs : List Case) → Fails cs → first cs ≡ none
unfolding first choose
fails_none [] f = refl
fails_none (c ∷ cs) f = rw f.0 (fails_none cs f.1)

-- tests and plain conditions that say the same, one by one
abbrev pub Agree : List Case → List PlainCase → Type 0
Agree [] [] = Unit {0}
Agree [] (p ∷ ps) = ⊥
Agree (c ∷ cs) [] = ⊥
Agree (c ∷ cs) (p ∷ ps) = (c.number ≡ p.number) × (c.holds ≡ true ↔ p.holds) × Agree cs ps

-- then the first case that holds is the first plain condition that does
pub first_is : (cs : List Case) (ps : List PlainCase) → Agree cs ps → (n : ℕ) → first cs ≡ some n ↔ FirstIs ps n
unfolding first choose
first_is [] [] a n = (λ e. let z : ◌≡◌ {A = ℕ} 0 1 = cc in omega arith, λ f. absurd f)
first_is [] (p ∷ ps) a n = absurd a
first_is (c ∷ cs) [] a n = absurd a
first_is (c ∷ cs) (p ∷ ps) a n = go c.holds refl (first_is cs ps a.2 n)
  where
    go : (b : Bool) → c.holds ≡ b → first cs ≡ some n ↔ FirstIs ps n → choose b (some c.number) (first cs) ≡ some n ↔ FirstIs (p ∷ ps) n
    go true e ih = (
      λ h. inl (a.1.0 e, (let z : c.number ≡ n = cc in sym z ∙ a.0)),
      λ f. ⊎_elim (λ h. ap some (a.0 ∙ sym h.1)) (λ h. absurd (h.0 (a.1.0 e))) f,
    )
    go false e ih = (
      λ h. inr (λ q. false≢true (sym e ∙ a.1.1 q), ih.0 h),
      λ f. ⊎_elim (λ h. absurd (false≢true (sym e ∙ a.1.1 h.0))) (λ h. ih.1 h.1) f,
    )

-- the first condition that holds is one that does; and where no case holds, no plain condition does
pub first_holds : (ps : List PlainCase) (n : ℕ) → FirstIs ps n → SomeHolds ps
first_holds [] n f = f
first_holds (p ∷ ps) n f = ⊎_elim (λ h. inl h.0) (λ h. inr (first_holds ps n h.1)) f

pub none_holds : (cs : List Case) (ps : List PlainCase) → Agree cs ps → first cs ≡ none → SomeHolds ps → ⊥
none_holds [] [] a e h = h
none_holds [] (p ∷ ps) a e h = a
none_holds (c ∷ cs) [] a e h = h
none_holds (c ∷ cs) (p ∷ ps) a e h =
    let fails = first_none c cs e in
    ⊎_elim (λ q. false≢true (sym fails.0 ∙ a.1.1 q)) (none_holds cs ps a.2 fails.1) h
