-- The contracts of the public functions, each as a predicate over inputs, answer and lent memory.
use Rattle.std.specs.Prelude.{ℕ, ◌/◌, ◌%◌, ◌^◌, ◌<◌, ◌≡◌, Bool, List, eqb, length, get_or, Option, Result, MatchResult, ⊤}
use Rattle.word.specs.Setting.{check_of}
use Rattle.word.specs.Why.{why_number}
use Rattle.word.specs.Reading.{read_of, read_at_of}
use Rattle.word.specs.Writing.{write_of, out_after}
use Rattle.word.specs.Special.{present_of}
use Rattle.word.specs.Lent.{words_of}
use Rattle.word.specs.declared.setting.Level.{Level}
use Rattle.word.specs.declared.setting.Setting.{Setting}
use Rattle.word.specs.declared.setting.Refusal.{Refusal}
use Rattle.word.specs.declared.why.Why.{Why}
use Rattle.word.specs.declared.why.UnknownWhy.{UnknownWhy}
use Rattle.word.specs.declared.reading.Reading.{Reading}
use Rattle.word.specs.declared.writing.Unwritten.{Unwritten}

-- `Setting::check`
abbrev pub Checks : Setting → Result ⊤ Refusal → Type 0
Checks s r = r ≡ check_of s

-- `Why::number`
abbrev pub Counts : Why → ℕ → Type 0
Counts y r = r ≡ why_number y

-- `Why::try_from`, of a number: the why that has it, or the number itself, which none has
abbrev pub Named : ℕ → Result Why UnknownWhy → Type 0
Named n r = MatchResult r (λ y. why_number y ≡ n) (λ e. (e.0 ≡ n) × ((y : Why) → why_number y ≡ n → ⊥))

-- `read`, of a word and the word after it
abbrev pub Reads : Setting → ℕ → ℕ → Reading → Type 0
Reads s w next r = r ≡ read_of s w next

-- `read_at`, of lent words and a place
abbrev pub ReadsAt : Setting → List ℕ → ℕ → Result (Option Reading) Refusal → Type 0
ReadsAt s ws p r = r ≡ read_at_of s ws p

-- `write`, of a command and the lent output at entry: the answer, and the output at exit
pub record Writes (s : Setting) (r : Reading) (out : List ℕ) (a : Result ℕ Unwritten) (exit : List ℕ) : Type 0 where
  pub answer : a ≡ write_of s r (length out)
  pub memory : exit ≡ out_after a r out

-- `present`, of a level and a method's number, which is its byte number divided by 4
abbrev pub Presents : Level → ℕ → Bool → Type 0
Presents level n r = r ≡ present_of level.number n

-- `special_mask`, of a level: 64 bits, of which bit n is what `present` says of method n
pub record Masks (level : Level) (r : ℕ) : Type 0 where
  pub wide : r < 2 ^ 64
  pub bit : (n : ℕ) → n < 64 → Presents level n (eqb (r / 2 ^ n % 2) 1)

-- `word_at`, of words lent as bytes and a place (W17); past the last whole word stands 0
abbrev pub LentAt : List ℕ → ℕ → ℕ → Type 0
LentAt bytes p r = r ≡ get_or (words_of bytes) p 0
