-- A reading by its number, values and why: which it is, and how many parameters it has; and a why by its number. Assumes nothing.
use Prim.Native.Nat.{ℕ, ◌-◌, ◌≤◌}
use mathlib.Core.Path.{◌≡◌, refl, sym, ap, ap₂, ◌∙◌}
use mathlib.Core.List.{List, [], ◌∷◌}
use mathlib.Core.Logic.{◌⊎◌, ⊎_elim}
use native.Mathlib.Omega.{arith}
use mathlib.Core.Option.{Option, none, some}
use lib.ListN.{get_or}
use Rattle.word.specs.Why.{why_number, why_of}
use Rattle.word.specs.Reading.{number, values, why, parameter_count}
use Rattle.word.specs.Promises.{Told, Whys, Parameters}
use Rattle.word.specs.declared.why.Why.{Why}
use Rattle.word.specs.declared.why.Why.TheVariants as why
use Rattle.word.specs.declared.reading.Reading.{Reading}
use Rattle.word.specs.declared.reading.Reading.TheVariants.{Increasing, NonIncreasing, Sli, Return, Long, OldJump, Jump, Call, Reserved, Refused}

-- the reading with a number, values and a why, so that two readings with the same are one
unfoldable reading_with : ℕ → List ℕ → Option ℕ → Reading
reading_with k ns y =
    let a = get_or ns 0 0 in
    let b = get_or ns 1 0 in
    let c = get_or ns 2 0 in
    get_or (Increasing a b c ∷ NonIncreasing a b c ∷ Sli a ∷ Return ∷ Long a b c ∷ OldJump a ∷ Jump a ∷ Call a ∷ Reserved (why_of y) ∷ []) (k - 1) (Refused (record { number = a }))

-- a why by its number
pub why_with : (y : Why) → why_of (some (why_number y)) ≡ y
unfolding why_number why_of
why_with why.Form = refl
why_with why.Level = refl
why_with why.Mode = refl
why_with why.Sli = refl

pub why_few : (y : Why) → why_number y ≤ 4
unfolding why_number
why_few why.Form = omega arith
why_few why.Level = omega arith
why_few why.Mode = omega arith
why_few why.Sli = omega arith

pub whys : Whys
unfolding why_number
whys why.Form = refl
whys why.Level = refl
whys why.Mode = refl
whys why.Sli = refl

reading_with_lem : (r : Reading) → reading_with (number r) (values r) (why r) ≡ r
unfolding number values why reading_with
reading_with_lem (Increasing c s m) = refl
reading_with_lem (NonIncreasing c s m) = refl
reading_with_lem (Sli k) = refl
reading_with_lem Return = refl
reading_with_lem (Long s m c) = refl
reading_with_lem (OldJump t) = refl
reading_with_lem (Jump t) = refl
reading_with_lem (Call t) = refl
reading_with_lem (Reserved y) = ap Reserved (why_with y)
reading_with_lem (Refused r) = refl

pub told : Told
told x y n v w = sym (reading_with_lem x) ∙ ap₂ (λ (k : ℕ) (ns : List ℕ). reading_with k ns (why x)) n v ∙ ap (reading_with (number y) (values y)) w ∙ reading_with_lem y

-- what is not reserved has no why,
pub no_why_of : (r : Reading) → (number r ≡ 9 → ⊥) → why r ≡ none
unfolding number why
no_why_of (Increasing c s m) h = refl
no_why_of (NonIncreasing c s m) h = refl
no_why_of (Sli k) h = refl
no_why_of Return h = refl
no_why_of (Long s m c) h = refl
no_why_of (OldJump t) h = refl
no_why_of (Jump t) h = refl
no_why_of (Call t) h = refl
no_why_of (Reserved y) h = absurd (h refl)
no_why_of (Refused r) h = refl

-- and 'reserved' has the one of its number,
pub why_back : (r : Reading) → number r ≡ 9 → some (why_number (why_of (why r))) ≡ why r
unfolding number why
why_back (Increasing c s m) h = absurd (omega arith)
why_back (NonIncreasing c s m) h = absurd (omega arith)
why_back (Sli k) h = absurd (omega arith)
why_back Return h = absurd (omega arith)
why_back (Long s m c) h = absurd (omega arith)
why_back (OldJump t) h = absurd (omega arith)
why_back (Jump t) h = absurd (omega arith)
why_back (Call t) h = absurd (omega arith)
why_back (Reserved y) h = ap (λ (x : Why). some (why_number x)) (why_with y)
why_back (Refused r) h = absurd (omega arith)

-- so that number and values tell what is not
pub told_unreserved : (x y : Reading) → number x ≡ number y → values x ≡ values y → (number y ≡ 9 → ⊥) → x ≡ y
told_unreserved x y n v h = told x y n v (no_why_of x (λ e. h (sym n ∙ e)) ∙ sym (no_why_of y h))

-- what a reading with this number and these values has for its parameters
count_of : (k : ℕ) (ns : List ℕ) (r : Reading) → number r ≡ k → values r ≡ ns → parameter_count r ≡ parameter_count (reading_with k ns (why r))
count_of k ns r n v = ap parameter_count (sym (reading_with_lem r) ∙ ap₂ (λ (j : ℕ) (ms : List ℕ). reading_with j ms (why r)) n v)

-- a number that is neither a run's nor the long form's
no_count : {n : ℕ} → (n ≡ 3) ⊎ (n ≡ 4) ⊎ (6 ≤ n) → (3 ≤ n) × (n ≡ 5 → ⊥)
no_count h = ⊎_elim (λ a. (omega arith, λ e. omega arith)) (λ t. ⊎_elim (λ a. (omega arith, λ e. omega arith)) (λ a. (omega arith, λ e. omega arith)) t) h

-- no other reading has a parameter
none_others : (r : Reading) → (number r ≡ 3) ⊎ (number r ≡ 4) ⊎ (6 ≤ number r) → parameter_count r ≡ 0
unfolding number parameter_count
none_others (Increasing c s m) h = absurd (omega (arith, (no_count h).0))
none_others (NonIncreasing c s m) h = absurd (omega (arith, (no_count h).0))
none_others (Sli k) h = refl
none_others Return h = refl
none_others (Long s m c) h = absurd ((no_count h).1 refl)
none_others (OldJump t) h = refl
none_others (Jump t) h = refl
none_others (Call t) h = refl
none_others (Reserved y) h = refl
none_others (Refused r) h = refl

pub parameters : Parameters
unfolding reading_with parameter_count
parameters =
    record {
      run = λ r c b m h v. ⊎_elim (λ e. count_of 1 (c ∷ b ∷ m ∷ []) r e v) (λ e. count_of 2 (c ∷ b ∷ m ∷ []) r e v) h;
      long = λ r b m c e v. count_of 5 (b ∷ m ∷ c ∷ []) r e v;
      other = none_others;
    }
