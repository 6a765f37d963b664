-- `Endings`: what causes, ends and stages are, by their numbers, values and whys. Assumes nothing.
use Prim.Native.Nat.{ℕ}
use mathlib.Core.Path.{◌≡◌, refl, sym, ap}
use mathlib.Core.List.{◌∷◌}
use mathlib.Core.Option.{some}
use native.Mathlib.Omega.{arith}
use Rattle.event.proofs.Promises.{at}
use Rattle.pusher.proofs.Told as pusher
use Rattle.puller.proofs.Causes as puller
use Rattle.trace.specs.Answers.{stage_number, stage_refusal, cause_number, cause_values, cause_why, end_number, end_values, end_why, ending_number, ending_values, ending_why}
use Rattle.trace.specs.Promises.{Endings}
use Rattle.trace.specs.declared.end.Cause.{Cause}
use Rattle.trace.specs.declared.end.Cause.TheVariants as cause
use Rattle.trace.specs.declared.end.End.{End}
use Rattle.trace.specs.declared.end.End.TheVariants.{Error, Idle, Budget}
use Rattle.trace.specs.End.{Ending}
use Rattle.std.specs.declared.option.Option.TheVariants.{None, Some}
use Rattle.trace.specs.declared.run.Stage.{Stage}
use Rattle.trace.specs.declared.run.Stage.TheVariants.{Refused, Running, Over}

cause_told : (a b : Cause) → cause_number a ∷ cause_values a ≡ cause_number b ∷ cause_values b → cause_why a ≡ cause_why b → a ≡ b
unfolding cause_number cause_values cause_why
cause_told (cause.Pusher d) (cause.Pusher e) h w = ap cause.Pusher (pusher.error_told d e (at 1 h) w)
cause_told (cause.Pusher d) (cause.Puller e) h w = absurd (omega (arith, at 0 h))
cause_told (cause.Puller d) (cause.Pusher e) h w = absurd (omega (arith, at 0 h))
cause_told (cause.Puller d) (cause.Puller e) h w = ap cause.Puller (puller.error_told d e (at 1 h))

end_told : (a b : End) → end_number a ≡ end_number b → end_values a ≡ end_values b → end_why a ≡ end_why b → a ≡ b
unfolding end_number end_values end_why
end_told (Error c) (Error d) n v w = ap Error (cause_told c d v w)
end_told (Error c) Idle n v w = absurd (omega arith)
end_told (Error c) Budget n v w = absurd (omega arith)
end_told Idle (Error d) n v w = absurd (omega arith)
end_told Idle Idle n v w = refl
end_told Idle Budget n v w = absurd (omega arith)
end_told Budget (Error d) n v w = absurd (omega arith)
end_told Budget Idle n v w = absurd (omega arith)
end_told Budget Budget n v w = refl

-- which end it is by its number, and by an error's values and why
pub is_idle : (e : End) → end_number e ≡ 2 → e ≡ Idle
unfolding end_number
is_idle (Error c) n = absurd (omega arith)
is_idle Idle n = refl
is_idle Budget n = absurd (omega arith)

pub is_budget : (e : End) → end_number e ≡ 3 → e ≡ Budget
unfolding end_number
is_budget (Error c) n = absurd (omega arith)
is_budget Idle n = absurd (omega arith)
is_budget Budget n = refl

pub is_error : (e : End) (c : Cause) → end_number e ≡ 1 → end_values e ≡ cause_number c ∷ cause_values c → end_why e ≡ cause_why c → e ≡ Error c
unfolding end_number end_values end_why
is_error e c n v w = end_told e (Error c) n v w

-- no end has the number of a run that goes on
some_end : (e : End) → end_number e ≡ 0 → ⊥
unfolding end_number
some_end (Error c) h = omega arith
some_end Idle h = omega arith
some_end Budget h = omega arith

pub endings : Endings
unfolding ending_number ending_values ending_why
endings None None n v w = refl
endings None (Some e) n v w = absurd (some_end e (sym n))
endings (Some d) None n v w = absurd (some_end d n)
endings (Some d) (Some e) n v w = ap Some (end_told d e n v w)

pub goes_on : (a : Ending) → ending_number a ≡ 0 → a ≡ None
unfolding ending_number
goes_on None h = refl
goes_on (Some e) h = absurd (some_end e h)

-- what a stage is by its number, or by its refusal
pub is_refused : (s : Stage) (n : ℕ) → stage_refusal s ≡ some n → s ≡ Refused (record { number = n })
unfolding stage_refusal
is_refused (Refused r) n h = let z : r.number ≡ n = cc in ap (λ (k : ℕ). Refused (record { number = k })) z
is_refused Running n h = cc
is_refused Over n h = cc

pub is_running : (s : Stage) → stage_number s ≡ 2 → s ≡ Running
unfolding stage_number
is_running (Refused r) h = absurd (omega arith)
is_running Running h = refl
is_running Over h = absurd (omega arith)

pub is_over : (s : Stage) → stage_number s ≡ 3 → s ≡ Over
unfolding stage_number
is_over (Refused r) h = absurd (omega arith)
is_over Running h = absurd (omega arith)
is_over Over h = refl
