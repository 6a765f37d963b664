-- The promises about words, each a statement that is proved under its own name in proofs/. They speak of the public
-- functions through their contracts (Outcomes.antt): of every answer and every output that a contract allows.
use Rattle.std.specs.Prelude.{ℕ, ◌+◌, ◌-◌, ◌*◌, ◌/◌, ◌%◌, ◌≤◌, ◌<◌, ◌≡◌, Bool, true, false, List, [], ◌∷◌, ◌++◌, map, ◌⊎◌, ◌↔◌, eqb, length, get_or, drop, Result, ⊤}
use Rattle.std.specs.Prelude as std
use Rattle.std.proofs.Math.Option.{none, some}
use Rattle.word.specs.First.{choose, PlainCase, ◌if◌, FirstIs}
use Rattle.word.specs.Why.{why_number}
use Rattle.word.specs.Reading.{number, values, why, parameter_count}
use Rattle.word.specs.Lent.{words_of}
use Rattle.word.specs.Answers.{check_refusal, reading_refusal, place_refusal, written_refusal, place_values, place_why, written_values, written_why}
use Rattle.word.specs.Outcomes.{Checks, Counts, Reads, ReadsAt, Writes, Presents, Masks, LentAt}
use Rattle.word.specs.declared.setting.Level.{Level}
use Rattle.word.specs.declared.setting.Setting.{Setting}
use Rattle.word.specs.declared.setting.Refusal.{Refusal}
use Rattle.word.specs.declared.why.Why.{Why}
use Rattle.word.specs.declared.why.Why.TheVariants as why
use Rattle.word.specs.declared.reading.Reading.{Reading}
use Rattle.word.specs.declared.reading.Reading.TheVariants.{Increasing, NonIncreasing, Sli, Return, Long, OldJump, Jump, Call, Reserved, Refused as Refusing}
use Rattle.word.specs.declared.writing.Unwritten.{Unwritten}

-- The conditions of the refusals, in plain terms, each with its number (docs/CARD.md, R).

-- R1, R2, R4: what refuses a setting
abbrev pub setting_plain : Setting → List PlainCase
setting_plain s =
    1 if (5 < s.level.number)
    ∷ 2 if ((1 < s.mode.number) ⊎ ((s.mode.number ≡ 1) × (s.level.number < 4)))
    ∷ 4 if ((s.sli ≡ true) × (s.level.number < 3))
    ∷ []

-- X4: every number of a reading is within its width, and a method or a target is a multiple of 4
abbrev pub Within : Reading → Type 0
Within (Increasing c s m) = (c < 0x800) × (s < 8) × (m < 0x2000) × (m % 4 ≡ 0)
Within (NonIncreasing c s m) = (c < 0x800) × (s < 8) × (m < 0x2000) × (m % 4 ≡ 0)
Within (Sli k) = k < 0x1000
Within Return = Unit {0}
Within (Long s m c) = (s < 8) × (m < 0x2000) × (m % 4 ≡ 0) × (c < 0x1000000)
Within (OldJump t) = (t < 0x20000000) × (t % 4 ≡ 0)
Within (Jump t) = (t < 0x100000000) × (t % 4 ≡ 0)
Within (Call t) = (t < 0x100000000) × (t % 4 ≡ 0)
Within (Reserved y) = Unit {0}
Within (Refusing r) = Unit {0}

-- W11, X5: a command may be used at a setting; what is no command, nowhere
abbrev pub Available : Setting → Reading → Type 0
Available s (Increasing c b m) = Unit {0}
Available s (NonIncreasing c b m) = 1 ≤ s.level.number
Available s (Sli k) = (3 ≤ s.level.number) × (s.sli ≡ true)
Available s Return = (2 ≤ s.level.number) × (s.mode.number ≡ 0)
Available s (Long b m c) = s.mode.number ≡ 1
Available s (OldJump t) = s.mode.number ≡ 0
Available s (Jump t) = (2 ≤ s.level.number) × (s.mode.number ≡ 0)
Available s (Call t) = (2 ≤ s.level.number) × (s.mode.number ≡ 0)
Available s (Reserved y) = ⊥
Available s (Refusing r) = ⊥

-- W20 to W23: what keeps each form from being used at a setting, in order. The forms stand by their numbers, from 1: increasing,
-- non-increasing, SLI conditional, return, long, old jump, jump, call
abbrev pub why_table : Setting → List (List PlainCase)
why_table s =
    []
    ∷ (2 if (s.level.number < 1) ∷ [])
    ∷ (2 if (s.level.number < 3) ∷ 4 if (s.sli ≡ false) ∷ [])
    ∷ (2 if (s.level.number < 2) ∷ 3 if (s.mode.number ≡ 0 → ⊥) ∷ [])
    ∷ (3 if (s.mode.number ≡ 1 → ⊥) ∷ [])
    ∷ (3 if (s.mode.number ≡ 0 → ⊥) ∷ [])
    ∷ (2 if (s.level.number < 2) ∷ 3 if (s.mode.number ≡ 0 → ⊥) ∷ [])
    ∷ (2 if (s.level.number < 2) ∷ 3 if (s.mode.number ≡ 0 → ⊥) ∷ [])
    ∷ []

-- W20: what is none of them has no form
abbrev pub why_plain : Setting → ℕ → List PlainCase
why_plain s k = get_or (why_table s) (k - 1) (1 if Unit {0} ∷ [])

-- X1, W15: how many words a command is written as: the long form, number 5, has two
abbrev pub size : Reading → ℕ
size r = choose (eqb (number r) 5) 2 1

-- R8: lent words that are too many
abbrev pub size_plain : List ℕ → List PlainCase
size_plain ws = 8 if (1048576 < length ws) ∷ []

-- R10, R12, R11: what refuses a command and an output
abbrev pub write_plain : Setting → Reading → List ℕ → List PlainCase
write_plain s r out = 10 if (Within r → ⊥) ∷ 12 if (Available s r → ⊥) ∷ 11 if (length out < size r) ∷ []

-- Promise 1. R21: a refusal is given exactly when the table says: an answer is refusal n if and only if n's condition holds and
-- none before it in the function's order does.
pub record Refused : Type 0 where
  -- R22: a setting by itself, and a word
  pub check : (s : Setting) (a : Result ⊤ Refusal) → Checks s a → (n : ℕ) → check_refusal a ≡ some n ↔ FirstIs (setting_plain s) n
  pub read : (s : Setting) (w next : ℕ) (a : Reading) → Reads s w next a → (n : ℕ) → reading_refusal a ≡ some n ↔ FirstIs (setting_plain s) n
  -- R23: a word at a place
  pub read_at :
      (s : Setting) (ws : List ℕ) (p : ℕ) (a : Result (std.Option Reading) Refusal)
      → ReadsAt s ws p a
      → (n : ℕ)
      → place_refusal a ≡ some n ↔ FirstIs (setting_plain s ++ size_plain ws) n
  -- R24: the writer
  pub write :
      (s : Setting) (r : Reading) (out : List ℕ) (a : Result ℕ Unwritten) (exit : List ℕ)
      → Writes s r out a exit
      → (n : ℕ)
      → written_refusal a ≡ some n ↔ FirstIs (setting_plain s ++ write_plain s r out) n
  -- R31: and then the output is as it was
  pub unwritten :
      (s : Setting) (r : Reading) (out : List ℕ) (a : Result ℕ Unwritten) (exit : List ℕ)
      → Writes s r out a exit
      → (n : ℕ)
      → written_refusal a ≡ some n
      → exit ≡ out

-- Each contract leaves one outcome: any two that it allows are equal.
pub record One : Type 0 where
  pub check : (s : Setting) (a b : Result ⊤ Refusal) → Checks s a → Checks s b → a ≡ b
  pub number : (y : Why) (a b : ℕ) → Counts y a → Counts y b → a ≡ b
  pub read : (s : Setting) (w next : ℕ) (a b : Reading) → Reads s w next a → Reads s w next b → a ≡ b
  pub read_at : (s : Setting) (ws : List ℕ) (p : ℕ) (a b : Result (std.Option Reading) Refusal) → ReadsAt s ws p a → ReadsAt s ws p b → a ≡ b
  pub write :
      (s : Setting) (r : Reading) (out : List ℕ) (a b : Result ℕ Unwritten) (x y : List ℕ)
      → Writes s r out a x
      → Writes s r out b y
      → (a ≡ b) × (x ≡ y)
  pub present : (level : Level) (n : ℕ) (a b : Bool) → Presents level n a → Presents level n b → a ≡ b
  pub special_mask : (level : Level) (a b : ℕ) → Masks level a → Masks level b → a ≡ b
  pub word_at : (bytes : List ℕ) (p a b : ℕ) → LentAt bytes p a → LentAt bytes p b → a ≡ b

-- Promise 2, first half. X1, X2, X3: what the writer writes reads back as the same command, and it writes nothing else.
pub record Echo (s : Setting) (r : Reading) (out : List ℕ) (a : Result ℕ Unwritten) (exit : List ℕ) : Type 0 where
  pub count : written_values a ≡ size r ∷ []
  -- the first word, read at the same setting with the second after it, or with any word where the command has one
  pub same : (next : ℕ) → (size r ≡ 2 → next ≡ get_or exit 1 0) → (x : Reading) → Reads s (get_or exit 0 0) next x → x ≡ r
  pub length_stays : length exit ≡ length out
  pub tail_stays : drop (size r) exit ≡ drop (size r) out

-- X3: so it does, where it refuses nothing
abbrev pub ReadBack : Type 0
ReadBack =
    (s : Setting) (r : Reading) (out : List ℕ) (a : Result ℕ Unwritten) (exit : List ℕ)
    → Writes s r out a exit
    → written_refusal a ≡ none
    → Echo s r out a exit

-- Promise 2, second half: words that read as a command (numbers 1 to 8) are written back, at that setting and into every
-- output long enough, as the same words followed by the old tail, but for the upper eight bits of a long count: its second
-- word is the low 24 bits of the next (W14).
abbrev pub same_words : Reading → ℕ → ℕ → List ℕ
same_words r w next = w ∷ choose (eqb (number r) 5) (next % 0x1000000 ∷ []) []

-- X3: so they are
abbrev pub WriteBack : Type 0
WriteBack =
    (s : Setting) (w next : ℕ) (r : Reading)
    → w < 0x100000000
    → Reads s w next r
    → number r ≤ 8
    → (out : List ℕ) (a : Result ℕ Unwritten) (exit : List ℕ)
    → size r ≤ length out
    → Writes s r out a exit
    → (written_refusal a ≡ none) × (exit ≡ same_words r w next ++ drop (size r) out)

-- X6: FORM, number 12, says why, the first that applies to the command; and no other answer says it.
abbrev pub SaysWhy : Type 0
SaysWhy =
    (s : Setting) (r : Reading) (out : List ℕ) (a : Result ℕ Unwritten) (exit : List ℕ)
    → Writes s r out a exit
    → (n : ℕ)
    → written_why a ≡ some n ↔ ((written_refusal a ≡ some 12) × FirstIs (why_plain s (number r)) n)

-- A reading is told by its number, values and why: what a promise says of a reading, it says of them.
abbrev pub Told : Type 0
Told = (x y : Reading) → number x ≡ number y → values x ≡ values y → why x ≡ why y → x ≡ y

-- W20 to W23: the whys in order, from 1: each has its place for its number.
abbrev pub Whys : Type 0
Whys = (y : Why) → get_or (none ∷ map some (why.Form ∷ why.Level ∷ why.Mode ∷ why.Sli ∷ [])) (why_number y) none ≡ some y

-- W15: how many parameters follow a command's own words: its count, which a run (numbers 1 and 2) has first and a long form (5) last
-- of its values. No other reading has any.
pub record Parameters : Type 0 where
  pub run : (r : Reading) (c b m : ℕ) → (number r ≡ 1) ⊎ (number r ≡ 2) → values r ≡ c ∷ b ∷ m ∷ [] → parameter_count r ≡ c
  pub long : (r : Reading) (b m c : ℕ) → number r ≡ 5 → values r ≡ b ∷ m ∷ c ∷ [] → parameter_count r ≡ c
  pub other : (r : Reading) → (number r ≡ 3) ⊎ (number r ≡ 4) ⊎ (6 ≤ number r) → parameter_count r ≡ 0

-- W16: what stands at a place of lent words is what `read` reads there, with the word after it, or 0 after the last; past the
-- last word nothing stands.
pub record AtPlace : Type 0 where
  pub inside :
      (s : Setting) (ws : List ℕ) (p : ℕ) (a : Result (std.Option Reading) Refusal) (r : Reading)
      → ReadsAt s ws p a
      → place_refusal a ≡ none
      → p < length ws
      → Reads s (get_or ws p 0) (get_or ws (p + 1) 0) r
      → (place_values a ≡ number r ∷ values r) × (place_why a ≡ why r)
  pub past : (s : Setting) (ws : List ℕ) (p : ℕ) (a : Result (std.Option Reading) Refusal) → ReadsAt s ws p a → length ws ≤ p → place_values a ≡ []

-- X4: every number of a reading is within its width.
abbrev pub Widths : Type 0
Widths = (s : Setting) (w next : ℕ) (r : Reading) → Reads s w next r → Within r

-- W18: which methods a level has, by their numbers, a fourth of their byte numbers. From 0x100 up every level has all.
abbrev pub Specials : Type 0
Specials =
    (level : Level) (n : ℕ) (a : Bool)
    → Presents level n a
    → a ≡ true
    ↔ ((0x40 ≤ n)
    ⊎ (n ≡ 0x00)
    ⊎ ((0x04 ≤ n) × (n ≤ 0x09) × (5 ≤ level.number))
    ⊎ ((n ≡ 0x14) × (1 ≤ level.number))
    ⊎ ((0x18 ≤ n) × (n ≤ 0x1b) × (2 ≤ level.number))
    ⊎ ((n ≡ 0x20) × (3 ≤ level.number)))

-- W17: the word at a place of lent bytes has the lowest byte first, and past the last whole word stands 0; there are as many words as
-- whole ones among the bytes.
pub record LittleEndian : Type 0 where
  pub inside :
      (bytes : List ℕ) (p a : ℕ)
      → LentAt bytes p a
      → 4 * p + 3 < length bytes
      → a ≡ get_or bytes (4 * p) 0 + get_or bytes (4 * p + 1) 0 * 0x100 + get_or bytes (4 * p + 2) 0 * 0x10000 + get_or bytes (4 * p + 3) 0 * 0x1000000
  pub past : (bytes : List ℕ) (p a : ℕ) → LentAt bytes p a → length bytes < 4 * p + 4 → a ≡ 0
  pub whole : (bytes : List ℕ) → length (words_of bytes) ≡ length bytes / 4
