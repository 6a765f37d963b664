-- The numbers of the items, each a command or an end, and what each says; the refusal's number, and none where nothing is refused.
use Rattle.std.specs.Prelude.{ℕ, List, [], ◌∷◌, Result, Ok, Err}
use Rattle.std.proofs.Math.Option.{Option, none, some}
use Rattle.word.specs.Why.{why_number}
use Rattle.word.specs.Reading as reading
use Rattle.word.specs.declared.reading.Reading.{Reading}
use Rattle.listing.specs.declared.command.End.{End}
use Rattle.listing.specs.declared.command.End.TheVariants.{Past, Reserved, Short, Refused}

-- a command, the three ends, and a refusal
unfoldable pub number : Result Reading End → ℕ
number (Ok r) = 1
number (Err Past) = 2
number (Err (Reserved y)) = 3
number (Err Short) = 4
number (Err (Refused r)) = 5

-- a command's number and values, and a refusal's number
unfoldable pub values : Result Reading End → List ℕ
values (Ok r) = reading.number r ∷ reading.values r
values (Err Past) = []
values (Err (Reserved y)) = []
values (Err Short) = []
values (Err (Refused r)) = r.number ∷ []

-- K6: the number of the why, which the end at a reserved word alone has
unfoldable pub item_why : Result Reading End → Option ℕ
item_why (Ok r) = none
item_why (Err Past) = none
item_why (Err (Reserved y)) = some (why_number y)
item_why (Err Short) = none
item_why (Err (Refused r)) = none

unfoldable pub item_refusal : Result Reading End → Option ℕ
item_refusal (Ok r) = none
item_refusal (Err Past) = none
item_refusal (Err (Reserved y)) = none
item_refusal (Err Short) = none
item_refusal (Err (Refused r)) = some r.number
