-- `ReadingBack`: the parts of a reading's number. Assumes nothing.
use Prim.Native.Nat.{ℕ, ◌+◌, ◌*◌, ◌/◌, ◌%◌, ◌^◌, ◌≤◌, ◌<◌}
use mathlib.Core.Path.{◌≡◌, refl, sym, ap, ◌∙◌}
use mathlib.Core.List.{[], ◌∷◌}
use mathlib.Core.Logic.{◌⊎◌, inl, inr, ⊎_elim}
use mathlib.Core.Option.{none, some}
use native.Mathlib.Omega.{arith}
use Rattle.word.specs.Answers.{reading_refusal}
use Rattle.word.specs.Outcomes.{Reads}
use Rattle.word.specs.Promises.{Within}
use Rattle.word.specs.Why.{why_number}
use Rattle.word.specs.Reading.{number, values, why, read_of}
use Rattle.word.specs.declared.setting.Setting.{Setting}
use Rattle.word.specs.declared.reading.Reading.{Reading}
use Rattle.word.specs.declared.reading.Reading.TheVariants.{Increasing, NonIncreasing, Sli, Return, Long, OldJump, Jump, Call, Reserved, Refused}
use Rattle.word.proofs.Told.{why_few}
use Rattle.word.proofs.Promises as word
use Rattle.upborliya.specs.Packed.{packed_run, packed_reading, on}
use Rattle.upborliya.specs.Outcomes.{setting_by}
use Rattle.upborliya.specs.Promises.{UnpackedReading, ReadingBack}
use Rattle.upborliya.proofs.GivesBack.{switched}

-- the parts of a run, and of one value
run_parts :
    (f c b m n : ℕ)
    → f ≤ 10
    → c < 2 ^ 24
    → b < 2 ^ 3
    → m < 2 ^ 13
    → n ≡ packed_run f c b m
    → (n < 2 ^ 64) × (n % 2 ^ 8 ≡ f) × (n / 2 ^ 8 % 2 ^ 8 ≡ 0) × (n / 2 ^ 16 % 2 ^ 8 ≡ 0) × (n / 2 ^ 40 ≡ c) × (n / 2 ^ 37 % 2 ^ 3 ≡ b) × (n / 2 ^ 24 % 2 ^ 13 ≡ m)
unfolding packed_run
run_parts f c b m n lf lc lb lm e = (omega arith, omega arith, omega arith, omega arith, omega arith, omega arith, omega arith)

value_parts : (f v n : ℕ) → f ≤ 10 → v < 2 ^ 32 → n ≡ v * 2 ^ 32 + f → (n < 2 ^ 64) × (n % 2 ^ 8 ≡ f) × (n / 2 ^ 8 % 2 ^ 8 ≡ 0) × (n / 2 ^ 16 % 2 ^ 8 ≡ 0) × (n / 2 ^ 32 ≡ v) × (n / 2 ^ 24 % 2 ^ 8 ≡ 0)
value_parts f v n lf lv e = (omega arith, omega arith, omega arith, omega arith, omega arith, omega arith)

-- a refusal's number is small
Told : Reading → Type 0
Told r = (k : ℕ) → reading_refusal r ≡ some k → k ≤ 4

module _ (r : Reading) (refusal_none : reading_refusal r ≡ none) (why_none : why r ≡ none) where
  -- what a run's number says, r being of that form and having these values
  of_run :
      (f c b m n : ℕ)
      → number r ≡ f
      → (f ≡ 1) ⊎ ((f ≡ 2) ⊎ (f ≡ 5))
      → ((u v w : ℕ) → f ≤ 2 → values r ≡ u ∷ v ∷ w ∷ [] → (u ≡ c) × (v ≡ b) × (w ≡ m))
      → ((u v w : ℕ) → f ≡ 5 → values r ≡ u ∷ v ∷ w ∷ [] → (u ≡ b) × (v ≡ m) × (w ≡ c))
      → c < 2 ^ 24
      → b < 2 ^ 3
      → m < 2 ^ 13
      → n ≡ packed_run f c b m
      → (n < 2 ^ 64) × UnpackedReading n r
  of_run f c b m n is which runs longs lc lb lm e =
      let few : f ≤ 5 = ⊎_elim (λ h. omega arith) (λ o. ⊎_elim (λ h. omega arith) (λ h. omega arith) o) which in
      let p = run_parts f c b m n (omega arith) lc lb lm e in (
        p.0,
        record {
          form = p.1 ∙ sym is;
          refusal = λ k h. let z : ◌≡◌ {A = ℕ} 0 1 = cc in absurd (omega arith);
          no_refusal = λ h. p.2;
          why = λ k h. let z : ◌≡◌ {A = ℕ} 0 1 = cc in absurd (omega arith);
          no_why = λ h. p.3;
          run = λ u v w o h. let s = runs u v w (⊎_elim (λ g. omega arith) (λ g. omega arith) o) h in (p.4 ∙ sym s.0, p.5 ∙ sym s.1, p.6 ∙ sym s.2);
          long = λ u v w o h. let s = longs u v w (omega arith) h in (p.4 ∙ sym s.2, p.5 ∙ sym s.0, p.6 ∙ sym s.1);
          value = λ v o h. absurd (⊎_elim (λ g. ⊎_elim (λ w. omega arith) (λ x. ⊎_elim (λ w. omega arith) (λ w. omega arith) x) which) (λ g. omega arith) o);
          nothing = λ o. absurd (⊎_elim (λ g. ⊎_elim (λ w. omega arith) (λ x. ⊎_elim (λ w. omega arith) (λ w. omega arith) x) which) (λ g. omega arith) o);
        },
      )

  -- what the number of one value says
  of_value :
      (f v n : ℕ)
      → number r ≡ f
      → (f ≡ 3) ⊎ ((6 ≤ f) × (f ≤ 8))
      → ((u : ℕ) → values r ≡ u ∷ [] → u ≡ v)
      → v < 2 ^ 32
      → n ≡ v * 2 ^ 32 + f
      → (n < 2 ^ 64) × UnpackedReading n r
  of_value f v n is which one lv e =
      let few : f ≤ 8 = ⊎_elim (λ h. omega arith) (λ h. h.1) which in
      let other : (f ≡ 1 → ⊥) × (f ≡ 2 → ⊥) × (f ≡ 4 → ⊥) × (f ≡ 5 → ⊥) = ⊎_elim (λ h. (λ a. omega arith, λ a. omega arith, λ a. omega arith, λ a. omega arith)) (λ h. (λ a. omega (arith, h.0), λ a. omega (arith, h.0), λ a. omega (arith, h.0), λ a. omega (arith, h.0))) which in
      let p = value_parts f v n (omega arith) lv e in (
        p.0,
        record {
          form = p.1 ∙ sym is;
          refusal = λ k h. let z : ◌≡◌ {A = ℕ} 0 1 = cc in absurd (omega arith);
          no_refusal = λ h. p.2;
          why = λ k h. let z : ◌≡◌ {A = ℕ} 0 1 = cc in absurd (omega arith);
          no_why = λ h. p.3;
          run = λ c b m o h. absurd (⊎_elim (λ g. other.0 (sym is ∙ g)) (λ g. other.1 (sym is ∙ g)) o);
          long = λ b m c o h. absurd (other.3 (sym is ∙ o));
          value = λ u o h. let s = one u h in (p.4 ∙ sym s, p.5);
          nothing = λ o. absurd (⊎_elim (λ g. other.2 (sym is ∙ g)) (λ g. omega arith) o);
        },
      )

-- what says neither a run nor one value: a return, a reserved word with its why, or a refusal
module _ (r : Reading) (which : (number r ≡ 4) ⊎ (9 ≤ number r)) where
  no_run : {A : Type 0} → (number r ≡ 1) ⊎ (number r ≡ 2) → A
  no_run o = absurd (⊎_elim (λ f. ⊎_elim (λ g. omega arith) (λ g. omega arith) o) (λ f. ⊎_elim (λ g. omega arith) (λ g. omega arith) o) which)

  no_long : {A : Type 0} → number r ≡ 5 → A
  no_long o = absurd (⊎_elim (λ f. omega arith) (λ f. omega arith) which)

  no_value : {A : Type 0} → (number r ≡ 3) ⊎ ((6 ≤ number r) × (number r ≤ 8)) → A
  no_value o = absurd (⊎_elim (λ f. ⊎_elim (λ g. omega arith) (λ g. omega (arith, g.0)) o) (λ f. ⊎_elim (λ g. omega arith) (λ g. omega (arith, g.1)) o) which)

unpacks : (r : Reading) (n : ℕ) → Within r → Told r → n ≡ packed_reading r → (n < 2 ^ 64) × UnpackedReading n r
unfolding packed_reading number values reading_refusal why Told
unpacks (Increasing c b m) n w t e = of_run (Increasing c b m) refl refl 1 c b m n refl (inl refl) (λ u v x l h. (cc, cc, cc)) (λ u v x f h. absurd (omega arith)) (omega (arith, w.0)) (omega (arith, w.1)) (omega (arith, w.2)) e
unpacks (NonIncreasing c b m) n w t e = of_run (NonIncreasing c b m) refl refl 2 c b m n refl (inr (inl refl)) (λ u v x l h. (cc, cc, cc)) (λ u v x f h. absurd (omega arith)) (omega (arith, w.0)) (omega (arith, w.1)) (omega (arith, w.2)) e
unpacks (Sli k) n w t e = of_value (Sli k) refl refl 3 k n refl (inl refl) (λ u h. cc) (omega arith) e
unpacks Return n w t e = (
  omega arith,
  record {
    form = omega arith;
    refusal = λ k h. let z : ◌≡◌ {A = ℕ} 0 1 = cc in absurd (omega arith);
    no_refusal = λ h. omega arith;
    why = λ k h. let z : ◌≡◌ {A = ℕ} 0 1 = cc in absurd (omega arith);
    no_why = λ h. omega arith;
    run = λ c b m o h. no_run Return (inl refl) o;
    long = λ b m c o h. no_long Return (inl refl) o;
    value = λ u o h. no_value Return (inl refl) o;
    nothing = λ o. omega arith;
  },
)
unpacks (Long b m c) n w t e = of_run (Long b m c) refl refl 5 c b m n refl (inr (inr refl)) (λ u v x l h. absurd (omega arith)) (λ u v x f h. (cc, cc, cc)) (omega (arith, w.3)) (omega (arith, w.0)) (omega (arith, w.1)) e
unpacks (OldJump k) n w t e = of_value (OldJump k) refl refl 6 k n refl (inr (omega arith, omega arith)) (λ u h. cc) (omega (arith, w.0)) e
unpacks (Jump k) n w t e = of_value (Jump k) refl refl 7 k n refl (inr (omega arith, omega arith)) (λ u h. cc) (omega (arith, w.0)) e
unpacks (Call k) n w t e = of_value (Call k) refl refl 8 k n refl (inr (omega arith, omega arith)) (λ u h. cc) (omega (arith, w.0)) e
unpacks (Reserved y) n w t e =
    let l = why_few y in
    let nine : 9 ≤ number (Reserved y) = omega arith in (
      omega arith,
      record {
        form = omega arith;
        refusal = λ k h. let z : ◌≡◌ {A = ℕ} 0 1 = cc in absurd (omega arith);
        no_refusal = λ h. omega arith;
        why = λ k h. let same : why_number y ≡ k = cc in omega arith;
        no_why = λ h. let z : ◌≡◌ {A = ℕ} 0 1 = cc in absurd (omega arith);
        run = λ c b m o h. no_run (Reserved y) (inr nine) o;
        long = λ b m c o h. no_long (Reserved y) (inr nine) o;
        value = λ u o h. no_value (Reserved y) (inr nine) o;
        nothing = λ o. omega arith;
      },
    )
unpacks (Refused x) n w t e =
    let l = t x.number refl in
    let ten : 9 ≤ number (Refused x) = omega arith in (
      omega arith,
      record {
        form = omega arith;
        refusal = λ k h. let same : x.number ≡ k = cc in omega arith;
        no_refusal = λ h. let z : ◌≡◌ {A = ℕ} 0 1 = cc in absurd (omega arith);
        why = λ k h. let z : ◌≡◌ {A = ℕ} 0 1 = cc in absurd (omega arith);
        no_why = λ h. omega arith;
        run = λ c b m o h. no_run (Refused x) (inr ten) o;
        long = λ b m c o h. no_long (Refused x) (inr ten) o;
        value = λ u o h. no_value (Refused x) (inr ten) o;
        nothing = λ o. omega arith;
      },
    )

-- the setting that numbers stand for
same_setting : (level mode sli : ℕ) (s : Setting) → s.level.number ≡ level → s.mode.number ≡ mode → s.sli ≡ on sli → setting_by level mode sli ≡ s
same_setting level mode sli s a b c = rw (sym a, sym b, sym c)

small_refusal : (s : Setting) (w next : ℕ) (r : Reading) → Reads s w next r → Told r
unfolding Told
small_refusal s w next r reads k e =
    ⊎_elim (λ h. omega (arith, h.1)) (λ o. ⊎_elim (λ h. omega (arith, h.1)) (λ p. ⊎_elim (λ h. omega (arith, h.1)) (λ h. absurd h.1) p.1) o.1) (((word.refused).read s w next r reads k).0 e)

pub reading_back : ReadingBack
reading_back level mode sli s w next n r is-level is-mode switches reads e =
    let same = same_setting level mode sli s is-level is-mode (switched sli s.sli switches) in
    let is : n ≡ packed_reading r = e ∙ ap (λ (t : Setting). packed_reading (read_of t w next)) same ∙ ap packed_reading (sym reads) in
    unpacks r n (word.widths s w next r reads) (small_refusal s w next r reads) is
