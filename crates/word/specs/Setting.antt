-- The refusals by number (docs/CARD.md, R), the conditions that settings and sizes meet, and the check of a setting.
use Rattle.std.specs.Prelude.{ℕ, Bool, ◌&&◌, ◌||◌, List, [], ◌∷◌, eqb, ltb, Result, Ok, Err, ⊤}
use Rattle.std.proofs.Math.Option.{Option, none, some}
use Rattle.word.specs.First.{Case, ◌when◌, first}
use Rattle.word.specs.declared.setting.Refusal.{Refusal}
use Rattle.word.specs.declared.setting.Setting.{Setting}

-- the refusals' numbers; each condition stands where what it asks about is defined
abbrev pub LEVEL : ℕ
LEVEL = 1

abbrev pub MODE : ℕ
MODE = 2

abbrev pub ORDER : ℕ
ORDER = 3

abbrev pub SLI : ℕ
SLI = 4

abbrev pub TABLE : ℕ
TABLE = 5

abbrev pub DUPLICATE : ℕ
DUPLICATE = 6

abbrev pub PUT : ℕ
PUT = 7

abbrev pub SIZE : ℕ
SIZE = 8

abbrev pub LENGTH : ℕ
LENGTH = 9

abbrev pub FIELD : ℕ
FIELD = 10

abbrev pub ROOM : ℕ
ROOM = 11

abbrev pub FORM : ℕ
FORM = 12

abbrev pub STATE : ℕ
STATE = 13

-- R1: there are the levels 0 to 5
abbrev pub level_refused : ℕ → Bool
level_refused level = ltb 5 level

-- R2: there are two modes, and IB only from level 4 on
abbrev pub mode_refused : ℕ → ℕ → Bool
mode_refused level mode = ltb 1 mode || (eqb mode 1 && ltb level 4)

-- R4: SLI can be on from level 3 on
abbrev pub sli_refused : ℕ → Bool → Bool
sli_refused level sli = sli && ltb level 3

-- R8: how many words are too many
abbrev pub size_refused : ℕ → Bool
size_refused words = ltb 1048576 words

-- R22: what refuses a setting, in the order that every other order keeps
abbrev pub setting_cases : Setting → List Case
setting_cases s =
    LEVEL when level_refused s.level.number
    ∷ MODE when mode_refused s.level.number s.mode.number
    ∷ SLI when sli_refused s.level.number s.sli
    ∷ []

-- R23: what comes after these for lent words
abbrev pub size_cases : ℕ → List Case
size_cases words = SIZE when size_refused words ∷ []

-- R21: an answer: the refusal where a case held, else what is done
unfoldable pub refused_or : {A : Type 0} → (Refusal → A) → Option ℕ → A → A
refused_or refuse none a = a
refused_or refuse (some n) a = refuse (record { number = n })

-- R22: a setting by itself
unfoldable pub check_of : Setting → Result ⊤ Refusal
check_of s = refused_or Err (first (setting_cases s)) (Ok tt)
