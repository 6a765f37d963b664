-- What a refusal's tests tell, one after the other, and what the check of a setting tells whoever called it. Assumes nothing.
use Prim.Native.Nat.{ℕ}
use mathlib.Core.Path.{◌≡◌, refl, sym, ap, ◌∙◌}
use mathlib.Core.Bool.{Bool, true, false}
use mathlib.Core.List.{List, [], ◌∷◌, ◌++◌}
use mathlib.Core.Logic.{◌↔◌}
use mathlib.Core.Option.{Option, none, some}
use Rattle.word.specs.First.{Case, ◌when◌, first, choose, PlainCase, FirstIs}
use Rattle.word.specs.Setting.{setting_cases, refused_or, check_of}
use Rattle.word.specs.Answers.{check_refusal}
use Rattle.word.specs.declared.setting.Refusal.{Refusal}
use Rattle.word.specs.declared.setting.Setting.{Setting}
use Rattle.std.specs.declared.result.Result.TheVariants.{Ok, Err}
use Rattle.word.proofs.First.{or_else, first_append, Agree, first_is}

-- a case that holds decides a list of cases, and one that does not is passed over
module _ (n : ℕ) {b : Bool} (more : List Case) {A : Type 0} (refuse : Refusal → A) (a : A) where
  pub hit : b ≡ true → refused_or refuse (first (n when b ∷ more)) a ≡ refuse (record { number = n })
  unfolding first choose refused_or
  hit e = rw e

  pub miss : b ≡ false → refused_or refuse (first (n when b ∷ more)) a ≡ refused_or refuse (first more) a
  unfolding first choose
  miss e = rw e

-- where none holds, the answer is what is done
pub accepted : {A : Type 0} (refuse : Refusal → A) (a : A) {o : Option ℕ} → o ≡ none → refused_or refuse o a ≡ a
unfolding refused_or
accepted refuse a e = rw e

pub no_more : {A : Type 0} (refuse : Refusal → A) (a : A) → refused_or refuse (first []) a ≡ a
unfolding first
no_more refuse a = accepted refuse a refl

-- what an answer tells of itself, where it tells each refusal's number and nothing else, is the first case that holds
module _ {A : Type 0} (refuse : Refusal → A) (tells : A → Option ℕ) (number : (x : Refusal) → tells (refuse x) ≡ some x.number) where
  told : (a : A) → tells a ≡ none → (o : Option ℕ) → tells (refused_or refuse o a) ≡ o
  unfolding refused_or
  told a h none = h
  told a h (some n) = number (record { number = n })

  pub told_first : (cs : List Case) (a x : A) → tells a ≡ none → x ≡ refused_or refuse (first cs) a → tells x ≡ first cs
  told_first cs a x h e = ap tells e ∙ told a h (first cs)

  pub told_plain :
      (cs : List Case) (ps : List PlainCase) (a x : A)
      → Agree cs ps
      → tells a ≡ none
      → x ≡ refused_or refuse (first cs) a
      → (n : ℕ)
      → tells x ≡ some n ↔ FirstIs ps n
  told_plain cs ps a x g h e n =
      let t = told_first cs a x h e in
      let f = first_is cs ps g n in
      (λ k. f.0 (sym t ∙ k), λ k. t ∙ f.1 k)

module _ (s : Setting) where
  pub none_fine : first (setting_cases s) ≡ none → check_of s ≡ Ok tt
  unfolding check_of refused_or
  none_fine e = rw e

  -- the check tells the first of the setting's cases that holds
  check_first : check_refusal (check_of s) ≡ first (setting_cases s)
  unfolding check_of check_refusal
  check_first = told_first Err check_refusal (λ x. refl) (setting_cases s) (Ok tt) (check_of s) refl refl

  pub refused_first : (x : Refusal) → check_of s ≡ Err x → first (setting_cases s) ≡ some x.number
  unfolding check_refusal
  refused_first x e = sym check_first ∙ ap check_refusal e

  fine_first : check_of s ≡ Ok tt → first (setting_cases s) ≡ none
  unfolding check_refusal
  fine_first e = sym check_first ∙ ap check_refusal e

  -- a list of cases that begins with the setting's: they decide it where they refuse, and are passed over where they do not
  module _ (more : List Case) {A : Type 0} (refuse : Refusal → A) (a : A) where
    pub refused_by : (x : Refusal) → check_of s ≡ Err x → refused_or refuse (first (setting_cases s ++ more)) a ≡ refuse x
    unfolding refused_or or_else
    refused_by x e = rw (first_append (setting_cases s) more, refused_first x e)

    pub passed_by : check_of s ≡ Ok tt → refused_or refuse (first (setting_cases s ++ more)) a ≡ refused_or refuse (first more) a
    unfolding or_else
    passed_by e = rw (first_append (setting_cases s) more, fine_first e)
