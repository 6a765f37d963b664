-- What an answer that is an enum tells by its number and values. Assumes nothing.
use Prim.Native.Nat.{ℕ}
use mathlib.Core.Path.{◌≡◌, refl, sym, ap, ◌∙◌}
use mathlib.Core.Bool.{Bool}
use mathlib.Core.List.{[], ◌∷◌}
use mathlib.Core.Logic.{◌↔◌}
use mathlib.Core.Option.{Option, none, some, none-ne-some}
use native.Mathlib.Omega.{arith}
use borrow.Author.Tests.{eqb-true}
use Rattle.std.specs.declared.option.Option as code
use Rattle.std.specs.declared.option.Option.TheVariants.{None, Some}
use Rattle.std.specs.declared.result.Result.TheVariants.{Ok, Err}
use Rattle.word.specs.Why.{why_number}
use Rattle.word.proofs.First.{by_test}
use Rattle.rules.specs.Next.{◌in_state◌}
use Rattle.rules.specs.Reason.{Submission, finding_of}
use Rattle.rules.specs.Judging.{◌refuses◌, with_why}
use Rattle.rules.specs.Answers.{finding_number, refused_number, refused_pair_in, number, verdict_refusal, values, verdict_why, Accepts}
use Rattle.rules.specs.declared.reason.Reason.{Reason}
use Rattle.rules.specs.declared.judging.FirstRefused.{FirstRefused}
use Rattle.rules.specs.Judging.{Verdict}
use Rattle.rules.specs.declared.judging.Unfit.TheVariants.{Rejected, Refused, Reserved}
use Rattle.rules.specs.Judging.{accepted}

-- a verdict tells that it is acceptance,
pub accepts : (v : Verdict) → Accepts v ↔ (v ≡ accepted)
unfolding number verdict_refusal
accepts (Ok u) = (λ h. refl, λ h. (refl, refl))
accepts (Err (Rejected r p)) = (λ h. let e = h.1 in let z : ◌≡◌ {A = ℕ} 0 1 = cc in absurd (omega arith), λ h. let z : ◌≡◌ {A = ℕ} 0 1 = cc in absurd (omega arith))
accepts (Err (Reserved y p)) = (λ h. let e = h.1 in let z : ◌≡◌ {A = ℕ} 0 1 = cc in absurd (omega arith), λ h. let z : ◌≡◌ {A = ℕ} 0 1 = cc in absurd (omega arith))
accepts (Err (Refused n)) = (λ h. let e = h.0 in let z : ◌≡◌ {A = ℕ} 0 1 = cc in absurd (omega arith), λ h. let z : ◌≡◌ {A = ℕ} 0 1 = cc in absurd (omega arith))

-- or its reason and place, which are all that it tells where it has no why
pub told_rejected : (v : Verdict) (n p : ℕ) → verdict_why v ≡ none → ((number v ≡ some n) × (values v ≡ p ∷ [])) ↔ (v ≡ Err (Rejected (record { number = n }) p))
unfolding number values verdict_why
told_rejected (Err (Reserved y q)) n p w = absurd (none-ne-some (why_number y) (sym w))
told_rejected (Ok u) n p w = (λ h. let e = h.0 in let z : ◌≡◌ {A = ℕ} 0 1 = cc in absurd (omega arith), λ h. let z : ◌≡◌ {A = ℕ} 0 1 = cc in absurd (omega arith))
told_rejected (Err (Rejected r q)) n p w = (
  λ h.
      let a : r.number ≡ n = let e = h.0 in cc in
      let b : q ≡ p = let e = h.1 in cc in
      rw (← a, ← b),
  λ h. (ap number h, ap values h),
)
told_rejected (Err (Refused m)) n p w = (λ h. let e = h.0 in let z : ◌≡◌ {A = ℕ} 0 1 = cc in absurd (omega arith), λ h. let z : ◌≡◌ {A = ℕ} 0 1 = cc in absurd (omega arith))

-- with the why of reason 3 a verdict tells the same
module _ (x : Submission) where
  pub number_kept : (v : Verdict) → number (with_why x v) ≡ number v
  unfolding with_why number
  number_kept (Ok u) = refl
  number_kept (Err (Rejected r p)) = by_test (λ v. number v ≡ some r.number) (λ t. ap some (sym (eqb-true _ _ t))) (λ t. refl)
  number_kept (Err (Refused n)) = refl
  number_kept (Err (Reserved y p)) = refl

  pub values_kept : (v : Verdict) → values (with_why x v) ≡ values v
  unfolding with_why values
  values_kept (Ok u) = refl
  values_kept (Err (Rejected r p)) = by_test (λ v. values v ≡ p ∷ []) (λ t. refl) (λ t. refl)
  values_kept (Err (Refused n)) = refl
  values_kept (Err (Reserved y p)) = refl

  pub refusal_kept : (v : Verdict) → verdict_refusal (with_why x v) ≡ verdict_refusal v
  unfolding with_why verdict_refusal
  refusal_kept (Ok u) = refl
  refusal_kept (Err (Rejected r p)) = by_test (λ v. verdict_refusal v ≡ none) (λ t. refl) (λ t. refl)
  refusal_kept (Err (Refused n)) = refl
  refusal_kept (Err (Reserved y p)) = refl

  -- so it is acceptance exactly where it was
  pub accepted_kept : (v : Verdict) → with_why x v ≡ accepted ↔ (v ≡ accepted)
  accepted_kept v = (
    λ e. let a = (accepts (with_why x v)).1 e in (accepts v).0 (sym (refusal_kept v) ∙ a.0, sym (number_kept v) ∙ a.1),
    λ e. let a = (accepts v).1 e in (accepts (with_why x v)).0 (refusal_kept v ∙ a.0, number_kept v ∙ a.1),
  )

-- the first refused pair tells which it is, and its reason
pub told_refused : (f : code.Option FirstRefused) (n p : ℕ) (s : Bool) → ((refused_number f ≡ some n) × (refused_pair_in f ≡ some (p in_state s))) ↔ (f ≡ Some (n refuses (p in_state s)))
unfolding refused_number refused_pair_in
told_refused None n p s = (λ h. let e = h.0 in let z : ◌≡◌ {A = ℕ} 0 1 = cc in absurd (omega arith), λ h. let z : ◌≡◌ {A = ℕ} 0 1 = cc in absurd (omega arith))
told_refused (Some f) n p s = (
  λ h.
      let a : f.reason.number ≡ n = let e = h.0 in cc in
      let b : f.pair ≡ p in_state s = let e = h.1 in cc in
      rw (← a, ← b),
  λ h. (ap refused_number h, ap refused_pair_in h),
)

-- what is found tells its reason
pub finding_tells : (o : Option ℕ) → finding_number (finding_of o) ≡ o
unfolding finding_number finding_of
finding_tells none = refl
finding_tells (some n) = refl

-- nothing is found exactly if no case holds
pub none_tells : (o : Option ℕ) → ((r : code.Option Reason) → r ≡ finding_of o → finding_number r ≡ none) ↔ (o ≡ none)
none_tells o = (λ h. sym (finding_tells o) ∙ h (finding_of o) refl, λ e r is. rw (is, finding_tells o) e)
