-- Why a word is reserved, or a command may not be used: the whys and their numbers (docs/CARD.md, W).
use Rattle.std.specs.Prelude.{ℕ, ◌-◌, [], ◌∷◌, get_or}
use Rattle.std.proofs.Math.Option.{Option, none, some}
use Rattle.word.specs.declared.why.Why.{Why}
use Rattle.word.specs.declared.why.Why.TheVariants.{Form, Level, Mode, Sli}

-- W20: no such form
abbrev pub NO_SUCH_FORM : ℕ
NO_SUCH_FORM = 1

-- W21: not at this level
abbrev pub NOT_AT_LEVEL : ℕ
NOT_AT_LEVEL = 2

-- W22: not in this mode
abbrev pub NOT_IN_MODE : ℕ
NOT_IN_MODE = 3

-- W23: not with SLI off
abbrev pub SLI_OFF : ℕ
SLI_OFF = 4

unfoldable pub why_number : Why → ℕ
why_number Form = NO_SUCH_FORM
why_number Level = NOT_AT_LEVEL
why_number Mode = NOT_IN_MODE
why_number Sli = SLI_OFF

-- the why of a number; what has none counts as no form (S33)
unfoldable pub why_of : Option ℕ → Why
why_of none = Form
why_of (some n) = get_or (Form ∷ Level ∷ Mode ∷ Sli ∷ []) (n - 1) Form
