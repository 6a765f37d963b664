-- What a move did is told by its number and values, and an error by its number and why. Assumes nothing.
use Prim.Native.Nat.{ℕ}
use mathlib.Core.Path.{◌≡◌, refl, sym, ap, ◌∙◌}
use mathlib.Core.List.{List}
use mathlib.Core.Logic.{◌⊎◌, inl, inr, ⊎_elim, ◌↔◌}
use mathlib.Core.Option.{none, some, none-ne-some}
use native.Mathlib.Omega.{arith}
use lib.ListN.{get_or}
use Rattle.std.specs.Prelude.{Option, None, Some}
use Rattle.word.specs.Why.{why_number, why_of}
use Rattle.word.specs.declared.why.Why.{Why}
use Rattle.word.proofs.Told.{why_with}
use Rattle.event.specs.Event.{values}
use Rattle.event.specs.declared.Method.{Method}
use Rattle.event.specs.declared.Event.{Event}
use Rattle.event.proofs.Promises as event
use Rattle.pusher.specs.Record.{number, why}
use Rattle.pusher.specs.Answers.{did_number, did_values, method_values, Tells}
use Rattle.pusher.specs.Promises.{error_list, Told}
use Rattle.pusher.specs.declared.record.PusherError.{PusherError}
use Rattle.pusher.specs.declared.record.PusherError.TheVariants as cause
use Rattle.pusher.specs.declared.moving.Did.{Did}
use Rattle.pusher.specs.declared.moving.Did.TheVariants as did

-- the method with these values
method_with : List ℕ → Method
method_with ns = record { subchannel = get_or ns 0 0; method = get_or ns 1 0; parameter = get_or ns 2 0 }

pub told : Told
unfolding did_number did_values method_with
told (did.Event x) (did.Event y) n v = ap did.Event (event.told x y v)
told (did.Event x) (did.Submit m) n v = absurd (omega arith)
told (did.Submit m) (did.Event x) n v = absurd (omega arith)
told (did.Submit m) (did.Submit o) n v = ap (λ (ns : List ℕ). did.Submit (method_with ns)) v

-- by its number it is an event, or a method
pub did_event : (d : Did) (said : List ℕ) → Tells d 1 said → (e : Event) × (d ≡ did.Event e) × (values e ≡ said)
unfolding did_number did_values
did_event (did.Event e) said t = (e, refl, t.values)
did_event (did.Submit m) said t = absurd (omega (arith, t.number))

pub did_submit : (d : Did) (m : Method) → Tells d 2 (method_values m) → d ≡ did.Submit m
unfolding did_number did_values
did_submit d m t = told d (did.Submit m) t.number t.values

-- which tell what they are
pub event_did : {d : Did} {e : Event} → d ≡ did.Event e → Tells d 1 (values e)
unfolding did_number did_values
event_did h = rw h (record { number = refl; values = refl })

pub submit_did : {d : Did} {m : Method} → d ≡ did.Submit m → Tells d 2 (method_values m)
unfolding did_number did_values
submit_did h = rw h (record { number = refl; values = refl })

-- an error by its number and why: it stands in the list with its own why, or, where it has none, with any
pub error_stands : (e : Option PusherError) (y : Why) → (why e ≡ none) ⊎ (why e ≡ some (why_number y)) → get_or (error_list y) (number e) none ≡ some e
unfolding number why
error_stands None y h = refl
error_stands (Some cause.Call) y h = refl
error_stands (Some cause.NonCache) y h = refl
error_stands (Some cause.Return) y h = refl
error_stands (Some (cause.ReservedCmd z)) y h =
    ⊎_elim (λ e. absurd (none-ne-some (why_number z) (sym e))) (λ e. ap (λ (x : Why). some (Some (cause.ReservedCmd x))) (sym (why_with y) ∙ ap why_of (sym e) ∙ why_with z)) h
error_stands (Some cause.Ib) y h = refl
error_stands (Some cause.Protection) y h = refl

own_why : (e : Option PusherError) → (why e ≡ none) ⊎ (why e ≡ some (why_number (why_of (why e))))
unfolding why
own_why None = inl refl
own_why (Some cause.Call) = inl refl
own_why (Some cause.NonCache) = inl refl
own_why (Some cause.Return) = inl refl
own_why (Some (cause.ReservedCmd y)) = inr (ap (λ (x : Why). some (why_number x)) (sym (why_with y)))
own_why (Some cause.Ib) = inl refl
own_why (Some cause.Protection) = inl refl

pub error_numbered : (e : Option PusherError) → get_or (error_list (why_of (why e))) (number e) none ≡ some e
error_numbered e = error_stands e (why_of (why e)) (own_why e)

pub error_told : (d e : Option PusherError) → number d ≡ number e → why d ≡ why e → d ≡ e
error_told d e n y =
    let same : some d ≡ some e = sym (error_numbered d) ∙ rw (n, y) (error_numbered e) in
    cc

-- 4 has a why, and no other has
pub error_why : (e : Option PusherError) → why e ≡ none ↔ (number e ≡ 4 → ⊥)
unfolding number why
error_why None = (λ h n. omega arith, λ h. refl)
error_why (Some cause.Call) = (λ h n. omega arith, λ h. refl)
error_why (Some cause.NonCache) = (λ h n. omega arith, λ h. refl)
error_why (Some cause.Return) = (λ h n. omega arith, λ h. refl)
error_why (Some (cause.ReservedCmd y)) = (λ h n. none-ne-some (why_number y) (sym h), λ h. absurd (h refl))
error_why (Some cause.Ib) = (λ h n. omega arith, λ h. refl)
error_why (Some cause.Protection) = (λ h n. omega arith, λ h. refl)

-- so that any other is told by its number
pub other_told : (d e : Option PusherError) → number d ≡ number e → (number e ≡ 4 → ⊥) → d ≡ e
other_told d e n h = error_told d e n ((error_why d).1 (λ k. h (sym n ∙ k)) ∙ sym ((error_why e).1 h))
