-- What a word reads as.
use Rattle.std.specs.Prelude.{ℕ, ◌+◌, ◌-◌, List, [], ◌∷◌, ◌++◌, ltb, length, get_or, Some, None, Result, Ok, Err}
use Rattle.std.specs.Prelude as std
use Rattle.std.proofs.Math.Option.{Option, none, some}
use Rattle.word.specs.First.{choose, first}
use Rattle.word.specs.Setting.{setting_cases, size_cases, refused_or}
use Rattle.word.specs.Parts.{numbers_in}
use Rattle.word.specs.Why.{why_number, why_of}
use Rattle.word.specs.Form.{Form, everything_else, forms, form_of, why_not, usable}
use Rattle.word.specs.declared.setting.Refusal.{Refusal}
use Rattle.word.specs.declared.setting.Setting.{Setting}
use Rattle.word.specs.declared.reading.Reading.{Reading}
use Rattle.word.specs.declared.reading.Reading.TheVariants.{Increasing, NonIncreasing, Sli, Return, Long, OldJump, Jump, Call, Reserved, Refused}

-- W12, W13: a reading's number: its form's, 1 to 8 in the order of the table; then 'reserved' and the refusal of a setting
unfoldable pub number : Reading → ℕ
number (Increasing c s m) = 1
number (NonIncreasing c s m) = 2
number (Sli k) = 3
number Return = 4
number (Long s m c) = 5
number (OldJump t) = 6
number (Jump t) = 7
number (Call t) = 8
number (Reserved y) = 9
number (Refused r) = 10

-- a command's form: the row of the table that has its number, from 1; neither 'reserved' nor a refusal has one
unfoldable pub form : Reading → Form
form r = get_or forms (number r - 1) everything_else

-- the numbers of a reading, in the order in which the words hold them
unfoldable pub values : Reading → List ℕ
values (Increasing c s m) = c ∷ s ∷ m ∷ []
values (NonIncreasing c s m) = c ∷ s ∷ m ∷ []
values (Sli k) = k ∷ []
values Return = []
values (Long s m c) = s ∷ m ∷ c ∷ []
values (OldJump t) = t ∷ []
values (Jump t) = t ∷ []
values (Call t) = t ∷ []
values (Reserved y) = []
values (Refused r) = r.number ∷ []

-- W24: the number of its why, which 'reserved' alone has
unfoldable pub why : Reading → Option ℕ
why (Increasing c s m) = none
why (NonIncreasing c s m) = none
why (Sli k) = none
why Return = none
why (Long s m c) = none
why (OldJump t) = none
why (Jump t) = none
why (Call t) = none
why (Reserved y) = some (why_number y)
why (Refused r) = none

-- W15: how many parameters follow a command's own words: its count
unfoldable pub parameter_count : Reading → ℕ
parameter_count (Increasing c s m) = c
parameter_count (NonIncreasing c s m) = c
parameter_count (Sli k) = 0
parameter_count Return = 0
parameter_count (Long s m c) = c
parameter_count (OldJump t) = 0
parameter_count (Jump t) = 0
parameter_count (Call t) = 0
parameter_count (Reserved y) = 0
parameter_count (Refused r) = 0

-- W5: the command of a form that a word holds; `next` is the word after it, which the long form alone looks at
unfoldable pub command_in : Form → ℕ → ℕ → Reading
command_in f w next = f.command (numbers_in f.word w ++ numbers_in f.next next)

-- W12, W24: the command of the form whose bits the word has, where that form may be used; else it is reserved, and says why
unfoldable pub reading_of : Setting → ℕ → ℕ → Reading
reading_of s w next = choose (usable s (form_of w)) (command_in (form_of w) w next) (Reserved (why_of (why_not s (form_of w))))

-- W13, R22: a word by itself, at any setting
unfoldable pub read_of : Setting → ℕ → ℕ → Reading
read_of s w next = refused_or Refused (first (setting_cases s)) (reading_of s w next)

-- W16, R23: the word at a place of lent words
unfoldable pub read_at_of : Setting → List ℕ → ℕ → Result (std.Option Reading) Refusal
read_at_of s ws p =
    refused_or Err (first (setting_cases s ++ size_cases (length ws)))
    (Ok (choose (ltb p (length ws)) (Some (reading_of s (get_or ws p 0) (get_or ws (p + 1) 0))) None))
