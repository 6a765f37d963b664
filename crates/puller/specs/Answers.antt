-- The numbers of the answers that are enums, and the values of each.
use Rattle.std.specs.Prelude.{ℕ, Bool, true, false, List, [], ◌∷◌, Option, Some, None}
use Rattle.puller.specs.declared.object.Object.{Object}

-- a flag as a number
unfoldable pub flag : Bool → ℕ
flag true = 1
flag false = 0

-- what an entry describes, in the order of its words and bits
unfoldable pub object_values : Object → List ℕ
object_values o = o.engine ∷ o.address ∷ o.class ∷ flag o.writeonly ∷ flag o.paged ∷ []

-- what is looked up: an object, or nothing
unfoldable pub found_number : Option Object → ℕ
found_number (Some o) = 1
found_number None = 2

unfoldable pub found_values : Option Object → List ℕ
found_values (Some o) = object_values o
found_values None = []

-- an entry, counted from 0, that repeats an earlier one; or nothing
unfoldable pub repeat_number : Option ℕ → ℕ
repeat_number (Some i) = 1
repeat_number None = 2

unfoldable pub repeat_values : Option ℕ → List ℕ
repeat_values (Some i) = i ∷ []
repeat_values None = []
