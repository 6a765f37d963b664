-- The numbers of the answers that are enums: the refusal's, and none where nothing is refused; and what else an
-- answer says. (A reading's own number and values are in Reading.antt.)
use Rattle.std.specs.Prelude.{ℕ, List, [], ◌∷◌, Some, None, Result, Ok, Err, ⊤}
use Rattle.std.specs.Prelude as std
use Rattle.std.proofs.Math.Option.{Option, none, some}
use Rattle.word.specs.Why.{why_number}
use Rattle.word.specs.Reading.{number, values, why}
use Rattle.word.specs.declared.setting.Refusal.{Refusal}
use Rattle.word.specs.declared.reading.Reading.{Reading}
use Rattle.word.specs.declared.reading.Reading.TheVariants.{Increasing, NonIncreasing, Sli, Return, Long, OldJump, Jump, Call, Reserved, Refused}
use Rattle.word.specs.declared.writing.Unwritten.{Unwritten}
use Rattle.word.specs.declared.writing.Unwritten.TheVariants as unwritten

unfoldable pub check_refusal : Result ⊤ Refusal → Option ℕ
check_refusal (Ok u) = none
check_refusal (Err r) = some r.number

unfoldable pub reading_refusal : Reading → Option ℕ
reading_refusal (Increasing c s m) = none
reading_refusal (NonIncreasing c s m) = none
reading_refusal (Sli k) = none
reading_refusal Return = none
reading_refusal (Long s m c) = none
reading_refusal (OldJump t) = none
reading_refusal (Jump t) = none
reading_refusal (Call t) = none
reading_refusal (Reserved y) = none
reading_refusal (Refused r) = some r.number

unfoldable pub place_refusal : Result (std.Option Reading) Refusal → Option ℕ
place_refusal (Ok o) = none
place_refusal (Err r) = some r.number

unfoldable pub written_refusal : Result ℕ Unwritten → Option ℕ
written_refusal (Ok k) = none
written_refusal (Err (unwritten.Refused r)) = some r.number
written_refusal (Err (unwritten.Form y)) = some 12

-- X6: why a command may not be used, which FORM alone says
unfoldable pub written_why : Result ℕ Unwritten → Option ℕ
written_why (Ok k) = none
written_why (Err (unwritten.Refused r)) = none
written_why (Err (unwritten.Form y)) = some (why_number y)

-- what stands at a place: a reading's number and values; nothing past the last word
unfoldable pub place_values : Result (std.Option Reading) Refusal → List ℕ
place_values (Ok (Some r)) = number r ∷ values r
place_values (Ok None) = []
place_values (Err r) = []

-- W24: and its why
unfoldable pub place_why : Result (std.Option Reading) Refusal → Option ℕ
place_why (Ok (Some r)) = why r
place_why (Ok None) = none
place_why (Err r) = none

-- how many words were written
unfoldable pub written_values : Result ℕ Unwritten → List ℕ
written_values (Ok k) = k ∷ []
written_values (Err y) = []
