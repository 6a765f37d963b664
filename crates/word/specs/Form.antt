-- The forms of a command's first word as a table (docs/CARD.md, W): a row a form, with what its bits are, from which level up, in
-- which mode, and whether SLI must be on.
use Rattle.std.specs.Prelude.{ℕ, Bool, true, false, not, ◌&&◌, List, [], ◌∷◌, eqb, ltb, get_or}
use Rattle.std.proofs.Math.Option.{Option}
use Rattle.word.specs.First.{choose, Case, first, ◌when◌}
use Rattle.word.specs.Lowest.{found?}
use Rattle.word.specs.Parts.{Part, is, carries, address, spare, has_bits}
use Rattle.word.specs.Why.{NO_SUCH_FORM, NOT_AT_LEVEL, NOT_IN_MODE, SLI_OFF}
use Rattle.word.specs.declared.setting.Setting.{Setting}
use Rattle.word.specs.declared.why.Why.TheVariants as why
use Rattle.word.specs.declared.reading.Reading.{Reading}
use Rattle.word.specs.declared.reading.Reading.TheVariants.{Increasing, NonIncreasing, Sli, Return, Long, OldJump, Jump, Call, Reserved}

-- W11: in which mode a form may be used: in either, in one only, or, of what is no form, in none.
pub data Where : Type 0 where
  either : Where
  only : ℕ → Where
  nowhere : Where

unfoldable pub in_mode : Where → ℕ → Bool
in_mode either mode = true
in_mode (only m) mode = eqb mode m
in_mode nowhere mode = false

unfoldable pub nowhere? : Where → Bool
nowhere? either = false
nowhere? (only m) = false
nowhere? nowhere = true

-- A form of command.
pub record Form : Type 0 where
  -- its first word, from bit 31 down
  pub word : List Part
  -- the word after it, where the form has two
  pub next : List Part
  -- from which level up
  pub level : ℕ
  pub mode : Where
  -- whether SLI must be enabled
  pub sli : Bool
  -- the command that has these numbers, in the order in which the words hold them
  pub command : List ℕ → Reading

-- The rows: the first word, the next word, from which level up, in which mode, whether SLI must be enabled, the command.
abbrev row : List Part → List Part → ℕ → Where → Bool → (List ℕ → Reading) → Form
row word next level mode sli command = record { word = word; next = next; level = level; mode = mode; sli = sli; command = command }

-- a command of one number, and of three
abbrev one : (ℕ → Reading) → List ℕ → Reading
one command ns = command (get_or ns 0 0)

abbrev three : (ℕ → ℕ → ℕ → Reading) → List ℕ → Reading
three command ns = command (get_or ns 0 0) (get_or ns 1 0) (get_or ns 2 0)

-- W1: a run of parameters whose method rises
unfoldable pub increasing : Form
increasing = row (is 31 29 0 ∷ carries 28 18 ∷ is 17 16 0 ∷ carries 15 13 ∷ address 12 2 ∷ is 1 0 0 ∷ []) [] 0 either false (three Increasing)

-- W2: one whose method stays
unfoldable pub non_increasing : Form
non_increasing = row (is 31 29 2 ∷ carries 28 18 ∷ is 17 16 0 ∷ carries 15 13 ∷ address 12 2 ∷ is 1 0 0 ∷ []) [] 1 either false (three NonIncreasing)

-- W3: the SLI conditional
unfoldable pub sli_conditional : Form
sli_conditional = row (is 31 16 1 ∷ carries 15 4 ∷ is 3 0 0 ∷ []) [] 3 either true (one Sli)

-- W4: the return, one word alone
unfoldable pub returning : Form
returning = row (is 31 0 0x00020000 ∷ []) [] 2 (only 0) false (λ ns. Return)

-- W5, W14: the long form, whose count is in a word of its own, of which eight bits are spare
unfoldable pub long : Form
long = row (is 31 16 3 ∷ carries 15 13 ∷ address 12 2 ∷ is 1 0 0 ∷ []) (spare 31 24 ∷ carries 23 0 ∷ []) 0 (only 1) false (three Long)

-- W6: the old jump, with 29 bits for its target
unfoldable pub old_jump : Form
old_jump = row (is 31 29 1 ∷ address 28 2 ∷ is 1 0 0 ∷ []) [] 0 (only 0) false (one OldJump)

-- W7: the jump: the two lowest bits tell it
unfoldable pub jump : Form
jump = row (address 31 2 ∷ is 1 0 1 ∷ []) [] 2 (only 0) false (one Jump)

-- W8: the call, told in the same way
unfoldable pub call : Form
call = row (address 31 2 ∷ is 1 0 2 ∷ []) [] 2 (only 0) false (one Call)

-- W12: what has none of these forms
unfoldable pub everything_else : Form
everything_else = row [] [] 0 nowhere false (λ ns. Reserved why.Form)

unfoldable pub forms : List Form
forms = increasing ∷ non_increasing ∷ sli_conditional ∷ returning ∷ long ∷ old_jump ∷ jump ∷ call ∷ []

-- W10: the form whose bits a word has: the first row that fits, and no other does (`OneForm`)
unfoldable pub form_in : List Form → ℕ → Form
form_in [] w = everything_else
form_in (f ∷ fs) w = choose (has_bits f.word w) f (form_in fs w)

abbrev pub form_of : ℕ → Form
form_of w = form_in forms w

-- W11, W20 to W23: why a form may not be used at a setting
abbrev pub unusable_cases : Setting → Form → List Case
unusable_cases s f =
    NO_SUCH_FORM when nowhere? f.mode
    ∷ NOT_AT_LEVEL when ltb s.level.number f.level
    ∷ NOT_IN_MODE when not (in_mode f.mode s.mode.number)
    ∷ SLI_OFF when (f.sli && not s.sli)
    ∷ []

-- W24: the first that applies
unfoldable pub why_not : Setting → Form → Option ℕ
why_not s f = first (unusable_cases s f)

-- W11, R12: whether none applies; where one does, the writer says FORM
unfoldable pub usable : Setting → Form → Bool
usable s f = not (found? (why_not s f))
