-- The definitions' tests say what the promises' plain conditions say. Assumes nothing.
use Prim.Native.Nat.{ℕ, ◌+◌, ◌-◌, ◌%◌, ◌^◌, ◌≤◌, ◌<◌}
use mathlib.Core.Path.{◌≡◌, refl, sym}
use mathlib.Core.Bool.{Bool, true, false, not, ◌&&◌, ◌||◌, false≢true}
use mathlib.Core.List.{List, [], ◌∷◌, ◌++◌}
use mathlib.Core.Logic.{◌↔◌}
use mathlib.Core.Option.{Option, none, some}
use native.Mathlib.Omega.{arith}
use lib.Dec.{eqb, leb, ltb}
use lib.ListN.{length}
use borrow.Author.Tests.{lt-ltb, le-leb, eq-eqb, ltb-true, leb-true, eqb-true}
use Rattle.word.specs.First.{choose, Case, ◌when◌, first, PlainCase, ◌if◌, FirstIs, SomeHolds}
use Rattle.word.specs.Setting.{setting_cases, size_cases}
use Rattle.word.specs.Parts.{Part, is, carries, address, spare, numbers_fit}
use Rattle.word.specs.Form.{Where, either, only, nowhere, nowhere?, in_mode, Form, why_not, usable, increasing, non_increasing, sli_conditional, returning, long, old_jump, jump, call, everything_else, forms}
use Rattle.word.specs.Reading.{number, form, values}
use Rattle.word.specs.Writing.{next_word, own_words, write_cases}
use Rattle.word.specs.Promises.{Within, Available, why_plain, size, setting_plain, size_plain, write_plain}
use Rattle.word.specs.declared.setting.Setting.{Setting}
use Rattle.word.specs.declared.reading.Reading.{Reading}
use Rattle.word.specs.declared.reading.Reading.TheVariants.{Increasing, NonIncreasing, Sli, Return, Long, OldJump, Jump, Call, Reserved, Refused}
use Rattle.word.proofs.Usable.{usable_is, not_below_0}
use Rattle.word.proofs.First.{Agree, first_is, first_holds, none_holds}
use Rattle.word.proofs.Tests.{both, not_plain, or_plain, and_plain, less_plain, equal_plain}

-- numbers that fit parts, in plain terms
abbrev Fit : List Part → List ℕ → Type 0
Fit [] ns = Unit {0}
Fit (is hi lo v ∷ ps) ns = Fit ps ns
Fit (carries hi lo ∷ ps) [] = ⊥
Fit (carries hi lo ∷ ps) (n ∷ ns) = (n < 2 ^ (hi + 1 - lo)) × Fit ps ns
Fit (address hi lo ∷ ps) [] = ⊥
Fit (address hi lo ∷ ps) (n ∷ ns) = (n < 2 ^ (hi + 1)) × (n % 2 ^ lo ≡ 0) × Fit ps ns
Fit (spare hi lo ∷ ps) ns = Fit ps ns

fit_plain : (ps : List Part) (ns : List ℕ) → numbers_fit ps ns ≡ true ↔ Fit ps ns
unfolding numbers_fit
fit_plain [] ns = (λ e. tt, λ f. refl)
fit_plain (is hi lo v ∷ ps) ns = fit_plain ps ns
fit_plain (carries hi lo ∷ ps) [] = (λ e. false≢true e, λ f. absurd f)
fit_plain (carries hi lo ∷ ps) (n ∷ ns) =
    let ih = fit_plain ps ns in (
      λ e. let y = both (ltb n (2 ^ (hi + 1 - lo))) (numbers_fit ps ns) e in (ltb-true _ _ y.0, ih.0 y.1),
      λ f. rw (lt-ltb n (2 ^ (hi + 1 - lo)) f.0) (ih.1 f.1),
    )
fit_plain (address hi lo ∷ ps) [] = (λ e. false≢true e, λ f. absurd f)
fit_plain (address hi lo ∷ ps) (n ∷ ns) =
    let ih = fit_plain ps ns in (
      λ e.
          let y = both (ltb n (2 ^ (hi + 1)) && eqb (n % 2 ^ lo) 0) (numbers_fit ps ns) e in
          let z = both (ltb n (2 ^ (hi + 1))) (eqb (n % 2 ^ lo) 0) y.0 in
          (ltb-true _ _ z.0, eqb-true _ _ z.1, ih.0 y.1),
      λ f. rw (lt-ltb n (2 ^ (hi + 1)) f.0, eq-eqb (n % 2 ^ lo) 0 f.1) (ih.1 f.2),
    )
fit_plain (spare hi lo ∷ ps) ns = fit_plain ps ns

-- FIELD's test
within_plain : (r : Reading) → Fit ((form r).word ++ (form r).next) (values r) ↔ Within r
unfolding form number forms values increasing non_increasing sli_conditional returning long old_jump jump call everything_else
within_plain (Increasing c s m) = (λ f. (f.0, f.1.0, f.1.1.0, f.1.1.1), λ w. (w.0, (w.1, (w.2, w.3, tt))))
within_plain (NonIncreasing c s m) = (λ f. (f.0, f.1.0, f.1.1.0, f.1.1.1), λ w. (w.0, (w.1, (w.2, w.3, tt))))
within_plain (Sli k) = (λ f. f.0, λ w. (w, tt))
within_plain Return = (λ f. tt, λ w. tt)
within_plain (Long s m c) = (λ f. (f.0, f.1.0, f.1.1, f.1.2.0), λ w. (w.0, (w.1, w.2, (w.3, tt))))
within_plain (OldJump t) = (λ f. (f.0, f.1), λ w. (w.0, w.1, tt))
within_plain (Jump t) = (λ f. (f.0, f.1), λ w. (w.0, w.1, tt))
within_plain (Call t) = (λ f. (f.0, f.1), λ w. (w.0, w.1, tt))
within_plain (Reserved y) = (λ f. tt, λ w. tt)
within_plain (Refused r) = (λ f. tt, λ w. tt)

pub field_plain : (r : Reading) → numbers_fit ((form r).word ++ (form r).next) (values r) ≡ true ↔ Within r
field_plain r =
    let p = fit_plain ((form r).word ++ (form r).next) (values r) in
    let q = within_plain r in
    (λ e. q.0 (p.0 e), λ w. p.1 (q.1 w))

-- a form that may be used at a setting, in plain terms
abbrev InMode : Where → ℕ → Type 0
InMode either mode = Unit {0}
InMode (only m) mode = mode ≡ m
InMode nowhere mode = ⊥

abbrev Enabled : Bool → Bool → Type 0
Enabled true on = on ≡ true
Enabled false on = Unit {0}

mode_plain : (x : Where) (mode : ℕ) → in_mode x mode ≡ true ↔ InMode x mode
unfolding in_mode
mode_plain either mode = (λ e. tt, λ p. refl)
mode_plain (only m) mode = (λ e. eqb-true _ _ e, λ p. eq-eqb _ _ p)
mode_plain nowhere mode = (λ e. false≢true e, λ p. absurd p)

enabled_plain : (b on : Bool) → (not b || on) ≡ true ↔ Enabled b on
enabled_plain true on = (λ e. e, λ p. p)
enabled_plain false on = (λ e. tt, λ p. refl)

usable_plain : (s : Setting) (f : Form) → usable s f ≡ true ↔ (f.level ≤ s.level.number) × InMode f.mode s.mode.number × Enabled f.sli s.sli
usable_plain s f = rw (usable_is s f) (
  λ e.
      let y = both (leb f.level s.level.number && in_mode f.mode s.mode.number) (not f.sli || s.sli) e in
      let z = both (leb f.level s.level.number) (in_mode f.mode s.mode.number) y.0 in
      (leb-true _ _ z.0, (mode_plain f.mode s.mode.number).0 z.1, (enabled_plain f.sli s.sli).0 y.1),
  λ p. rw (le-leb f.level s.level.number p.0, (mode_plain f.mode s.mode.number).1 p.1, (enabled_plain f.sli s.sli).1 p.2),
)

-- FORM's test
available_plain : (s : Setting) (r : Reading) → ((form r).level ≤ s.level.number) × InMode (form r).mode s.mode.number × Enabled (form r).sli s.sli ↔ Available s r
unfolding form number forms increasing non_increasing sli_conditional returning long old_jump jump call everything_else
available_plain s (Increasing c b m) = (λ p. tt, λ a. (omega arith, tt, tt))
available_plain s (NonIncreasing c b m) = (λ p. p.0, λ a. (a, tt, tt))
available_plain s (Sli k) = (λ p. (p.0, p.2), λ a. (a.0, tt, a.1))
available_plain s Return = (λ p. (p.0, p.1), λ a. (a.0, a.1, tt))
available_plain s (Long b m c) = (λ p. p.1, λ a. (omega arith, a, tt))
available_plain s (OldJump t) = (λ p. p.1, λ a. (omega arith, a, tt))
available_plain s (Jump t) = (λ p. (p.0, p.1), λ a. (a.0, a.1, tt))
available_plain s (Call t) = (λ p. (p.0, p.1), λ a. (a.0, a.1, tt))
available_plain s (Reserved y) = (λ p. p.1, λ a. absurd a)
available_plain s (Refused r) = (λ p. p.1, λ a. absurd a)

pub form_plain : (s : Setting) (r : Reading) → usable s (form r) ≡ true ↔ Available s r
form_plain s r =
    let p = usable_plain s (form r) in
    let q = available_plain s r in
    (λ e. q.0 (p.0 e), λ a. p.1 (q.1 a))

-- the first why, of what keeps a form from being used
off_plain : (b : Bool) → not b ≡ true ↔ b ≡ false
off_plain true = (λ e. sym e, λ e. sym e)
off_plain false = (λ e. refl, λ e. refl)

module _ (s : Setting) (n : ℕ) where
  abbrev l : ℕ
  l = s.level.number

  abbrev m : ℕ
  m = s.mode.number

  from_level : (k : ℕ) → first (2 when ltb l k ∷ 3 when not (eqb m 0) ∷ []) ≡ some n ↔ FirstIs (2 if (l < k) ∷ 3 if (m ≡ 0 → ⊥) ∷ []) n
  from_level k = first_is (2 when ltb l k ∷ 3 when not (eqb m 0) ∷ []) (2 if (l < k) ∷ 3 if (m ≡ 0 → ⊥) ∷ []) (refl, less_plain l k, (refl, not_plain (eqb m 0) (equal_plain m 0), tt)) n

  in_mode_lem : (k : ℕ) → first (3 when not (eqb m k) ∷ []) ≡ some n ↔ FirstIs (3 if (m ≡ k → ⊥) ∷ []) n
  in_mode_lem k = first_is (3 when not (eqb m k) ∷ []) (3 if (m ≡ k → ⊥) ∷ []) (refl, not_plain (eqb m k) (equal_plain m k), tt) n

  pub why_plain_lem : (r : Reading) → why_not s (form r) ≡ some n ↔ FirstIs (why_plain s (number r)) n
  unfolding why_not first choose nowhere? in_mode form number forms increasing non_increasing sli_conditional returning long old_jump jump call everything_else
  why_plain_lem (Increasing c b m) = rw (not_below_0 l) (first_is [] [] tt n)
  why_plain_lem (NonIncreasing c b m) = first_is (2 when ltb l 1 ∷ []) (2 if (l < 1) ∷ []) (refl, less_plain l 1, tt) n
  why_plain_lem (Sli k) = first_is (2 when ltb l 3 ∷ 4 when not s.sli ∷ []) (2 if (l < 3) ∷ 4 if (s.sli ≡ false) ∷ []) (refl, less_plain l 3, (refl, off_plain s.sli, tt)) n
  why_plain_lem Return = from_level 2
  why_plain_lem (Long b m c) = rw (not_below_0 l) (in_mode_lem 1)
  why_plain_lem (OldJump t) = rw (not_below_0 l) (in_mode_lem 0)
  why_plain_lem (Jump t) = from_level 2
  why_plain_lem (Call t) = from_level 2
  why_plain_lem (Reserved y) = first_is (1 when true ∷ []) (1 if Unit {0} ∷ []) (refl, (λ e. tt, λ e. refl), tt) n
  why_plain_lem (Refused r) = first_is (1 when true ∷ []) (1 if Unit {0} ∷ []) (refl, (λ e. tt, λ e. refl), tt) n

-- ROOM's test
pub size_is : (r : Reading) → length (own_words r) ≡ size r
unfolding choose own_words next_word form number forms increasing non_increasing sli_conditional returning long old_jump jump call everything_else
size_is (Increasing c s m) = refl
size_is (NonIncreasing c s m) = refl
size_is (Sli k) = refl
size_is Return = refl
size_is (Long s m c) = refl
size_is (OldJump t) = refl
size_is (Jump t) = refl
size_is (Call t) = refl
size_is (Reserved y) = refl
size_is (Refused r) = refl

-- LEVEL, MODE and SLI, with what comes after them
pub setting_agree : (s : Setting) (more : List Case) (plain : List PlainCase) → Agree more plain → Agree (setting_cases s ++ more) (setting_plain s ++ plain)
setting_agree s more plain rest =
    let l = s.level.number in
    let m = s.mode.number in (
      refl,
      less_plain 5 l,
      (
        refl,
        or_plain (ltb 1 m) (eqb m 1 && ltb l 4) (less_plain 1 m) (and_plain (eqb m 1) (ltb l 4) (equal_plain m 1) (less_plain l 4)),
        (refl, and_plain s.sli (ltb l 3) (λ e. e, λ e. e) (less_plain l 3), rest),
      ),
    )

-- the first of a setting's cases that holds, in plain terms
module _ (s : Setting) where
  pub first_plain : (m : ℕ) → first (setting_cases s) ≡ some m ↔ FirstIs (setting_plain s) m
  first_plain m = first_is (setting_cases s) (setting_plain s) (setting_agree s [] [] tt) m

  pub some_plain : (m : ℕ) → first (setting_cases s) ≡ some m → SomeHolds (setting_plain s)
  some_plain m e = first_holds (setting_plain s) m ((first_plain m).0 e)

  pub none_plain : first (setting_cases s) ≡ none ↔ (SomeHolds (setting_plain s) → ⊥)
  none_plain = (none_holds (setting_cases s) (setting_plain s) (setting_agree s [] [] tt), λ k. go (first (setting_cases s)) refl k)
    where
      go : (o : Option ℕ) → first (setting_cases s) ≡ o → (SomeHolds (setting_plain s) → ⊥) → o ≡ none
      go none e k = refl
      go (some m) e k = absurd (k (some_plain m e))

pub size_agree : (ws : List ℕ) → Agree (size_cases (length ws)) (size_plain ws)
size_agree ws = (refl, less_plain 1048576 (length ws), tt)

pub write_agree : (s : Setting) (r : Reading) (out : List ℕ) → Agree (write_cases s r (length out)) (write_plain s r out)
write_agree s r out = (
  refl,
  not_plain (numbers_fit ((form r).word ++ (form r).next) (values r)) (field_plain r),
  (refl, not_plain (usable s (form r)) (form_plain s r), (refl, rw size_is (less_plain (length out) (size r)), tt)),
)
