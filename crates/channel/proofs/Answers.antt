-- A step's answer is told by its refusal or its values. Assumes nothing.
use Prim.Native.Nat.{ℕ}
use mathlib.Core.Path.{◌≡◌, refl, ap}
use mathlib.Core.List.{List, [], ◌∷◌}
use mathlib.Core.Option.{none, some}
use native.Mathlib.Omega.{arith}
use lib.ListN.{length}
use Rattle.event.specs.Event.{number, values}
use Rattle.event.specs.declared.Kind.{Kind}
use Rattle.event.specs.declared.Method.{Method}
use Rattle.word.specs.declared.setting.Refusal.{Refusal}
use Rattle.event.specs.declared.Event.{Event}
use Rattle.event.specs.declared.Event.TheVariants.{Plain, Of}
use Rattle.event.proofs.Promises.{told}
use Rattle.channel.specs.Answers.{step_refusal, answer_values}
use Rattle.std.specs.declared.result.Result.{Result}
use Rattle.std.specs.declared.result.Result.TheVariants.{Ok, Err}

-- an event has a first value, its kind's number, and a refusal has none
some_value : (e : Event) → [] ≡ values e → ⊥
unfolding values
some_value (Plain k) h = let z : ◌≡◌ {A = ℕ} 0 1 = ap length h in omega arith
some_value (Of k m) h = let z : ◌≡◌ {A = ℕ} 0 4 = ap length h in omega arith

-- so an answer with an event's values is that event
pub says_event : (a : Result Event Refusal) (e : Event) → answer_values a ≡ values e → a ≡ Ok e
unfolding answer_values
says_event (Ok x) e h = ap Ok (told x e h)
says_event (Err r) e h = absurd (some_value e h)

-- and one with a value is not refused
pub says_taken : (a : Result Event Refusal) (v : ℕ) (vs : List ℕ) → answer_values a ≡ v ∷ vs → step_refusal a ≡ none
unfolding answer_values step_refusal
says_taken (Ok e) v vs h = refl
says_taken (Err r) v vs h = let z : ◌≡◌ {A = ℕ} 0 1 = cc in absurd (omega arith)

pub says_refusal : (a : Result Event Refusal) (n : ℕ) → step_refusal a ≡ some n → a ≡ Err (record { number = n })
unfolding step_refusal
says_refusal (Ok e) n h = let z : ◌≡◌ {A = ℕ} 0 1 = cc in absurd (omega arith)
says_refusal (Err r) n h = let z : r.number ≡ n = cc in ap (λ (j : ℕ). Err (record { number = j })) z

-- a kind alone, and a kind with a method's three fields
pub says_kind : (a : Result Event Refusal) (k : Kind) → answer_values a ≡ number k ∷ [] → a ≡ Ok (Plain k)
unfolding values
says_kind a k h = says_event a (Plain k) h

pub says_method : (a : Result Event Refusal) (k b m n : ℕ) → answer_values a ≡ k ∷ b ∷ m ∷ n ∷ [] → (j : Kind) × (x : Method) × (a ≡ Ok (Of j x))
unfolding answer_values values
says_method (Ok (Plain j)) k b m n h = let z : ◌≡◌ {A = ℕ} 1 4 = ap length h in absurd (omega arith)
says_method (Ok (Of j x)) k b m n h = (j, x, refl)
says_method (Err r) k b m n h = let z : ◌≡◌ {A = ℕ} 0 4 = ap length h in absurd (omega arith)

-- the values of an answer that is an event
pub kind_says : {a : Result Event Refusal} {k : Kind} → a ≡ Ok (Plain k) → answer_values a ≡ number k ∷ []
unfolding answer_values values
kind_says h = ap answer_values h

pub method_says : {a : Result Event Refusal} {k : Kind} {m : Method} → a ≡ Ok (Of k m) → answer_values a ≡ number k ∷ m.subchannel ∷ m.method ∷ m.parameter ∷ []
unfolding answer_values values
method_says h = ap answer_values h
