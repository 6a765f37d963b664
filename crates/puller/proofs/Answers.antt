-- An answer that is an enum is told by its number and its values. Assumes nothing.
use Rattle.std.proofs.Common.{◌≡◌, ℕ, Bool, true, false, [], ◌∷◌, refl, ap, arith}
use Rattle.std.specs.Prelude.{Option, Some, None}
use Rattle.puller.specs.Answers.{flag, object_values, found_number, found_values, repeat_number, repeat_values}
use Rattle.puller.specs.declared.object.Object.{Object}

-- a flag by its number
flag_told : (a b : Bool) → flag a ≡ flag b → a ≡ b
unfolding flag
flag_told true true e = refl
flag_told true false e = absurd (omega arith)
flag_told false true e = absurd (omega arith)
flag_told false false e = refl

-- an object by its values
same_object : (a b : Object) → object_values a ≡ object_values b → a ≡ b
unfolding object_values
same_object a b e =
    let engine : a.engine ≡ b.engine = cc in
    let address : a.address ≡ b.address = cc in
    let class : a.class ≡ b.class = cc in
    let writeonly = flag_told a.writeonly b.writeonly cc in
    let paged = flag_told a.paged b.paged cc in
    rw (engine, address, class, writeonly, paged)

-- what is found
pub object_values_lem : (o : Object) {r : Option Object} → r ≡ Some o → (found_number r ≡ 1) × (found_values r ≡ object_values o)
unfolding found_number found_values
object_values_lem o e = rw e (refl, refl)

pub nothing_values : {r : Option Object} → r ≡ None → found_number r ≡ 2
unfolding found_number
nothing_values e = rw e refl

pub object_told : (r : Option Object) (o : Object) → found_number r ≡ 1 → found_values r ≡ object_values o → r ≡ Some o
unfolding found_number found_values
object_told (Some a) o e v = ap Some (same_object a o v)
object_told None o e v = absurd (omega arith)

pub nothing_told : (r : Option Object) → found_number r ≡ 2 → r ≡ None
unfolding found_number
nothing_told (Some o) e = absurd (omega arith)
nothing_told None e = refl

-- the entry that repeats an earlier one
pub entry_values : (i : ℕ) {r : Option ℕ} → r ≡ Some i → (repeat_number r ≡ 1) × (repeat_values r ≡ i ∷ [])
unfolding repeat_number repeat_values
entry_values i e = rw e (refl, refl)

pub none_values : {r : Option ℕ} → r ≡ None → repeat_number r ≡ 2
unfolding repeat_number
none_values e = rw e refl

pub entry_told : (r : Option ℕ) (i : ℕ) → repeat_number r ≡ 1 → repeat_values r ≡ i ∷ [] → r ≡ Some i
unfolding repeat_number repeat_values
entry_told (Some j) i e v = let same : j ≡ i = cc in ap Some same
entry_told None i e v = absurd (omega arith)

pub none_told : (r : Option ℕ) → repeat_number r ≡ 2 → r ≡ None
unfolding repeat_number
none_told (Some i) e = absurd (omega arith)
none_told None e = refl
