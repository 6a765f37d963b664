-- The promises about kinds and events, each under its name in specs/Promises.antt. Assumes nothing.
use Prim.Native.Nat.{ℕ, ◌<◌}
use mathlib.Core.Path.{◌≡◌, refl, sym, ap, ap₂, ◌∙◌}
use mathlib.Core.List.{List}
use mathlib.Core.Option.{Option, none, some}
use native.Mathlib.Omega.{arith}
use lib.ListN.{length, get_or}
use Rattle.std.proofs.lemmas.List.{get_or_past}
use Rattle.event.specs.Event.{number, values}
use Rattle.event.specs.Promises.{One, StandsIn, kind_list, Kinds, Told}
use Rattle.event.specs.declared.Kind.TheVariants as kind
use Rattle.event.specs.declared.Method.{Method}
use Rattle.event.specs.declared.Event.TheVariants.{Plain, Of}

pub one : One
one k a b x y = x ∙ sym y

pub kinds : Kinds
unfolding number
kinds kind.Command = refl
kinds kind.Count = refl
kinds kind.Bind = refl
kinds kind.Ref = refl
kinds kind.Event = refl
kinds kind.Dma = refl
kinds kind.Offset = refl
kinds kind.Acquire = refl
kinds kind.Release = refl
kinds kind.Wait = refl
kinds kind.Forward = refl
kinds kind.Error = refl
kinds kind.Entry = refl
kinds kind.Discard = refl
kinds kind.Idle = refl
kinds kind.Stopped = refl

-- the number at a place of two lists that are equal
pub at : (i : ℕ) {l m : List ℕ} → l ≡ m → get_or l i 0 ≡ get_or m i 0
at i e = ap (λ (l : List ℕ). get_or l i 0) e

-- what stands in a list by its number is told by it,
pub numbered_told : {A : Type 0} (list : List (Option A)) (number_of : A → ℕ) → StandsIn list number_of → (x y : A) → number_of x ≡ number_of y → x ≡ y
numbered_told list number_of stands x y e = cc (stands x, stands y)

-- and the number counts a place within the list
pub within : {A : Type 0} (list : List (Option A)) (n : ℕ) (x : A) → get_or list n none ≡ some x → n < length list
within list n x e = grind (arith, get_or_past list n none)

same_method : (m n : Method) → m.subchannel ≡ n.subchannel → m.method ≡ n.method → m.parameter ≡ n.parameter → m ≡ n
same_method m n a b c = rw (sym a, sym b, sym c)

pub told : Told
unfolding values
told (Plain j) (Plain k) e = ap Plain (numbered_told kind_list number kinds j k (at 0 e))
told (Plain j) (Of k n) e = cc
told (Of j m) (Plain k) e = cc
told (Of j m) (Of k n) e = ap₂ Of (numbered_told kind_list number kinds j k (at 0 e)) (same_method m n (at 1 e) (at 2 e) (at 3 e))
