-- The forms of a command's first word in plain terms (docs/CARD.md, W): which word reads as what, at which setting.
use Rattle.std.specs.Prelude.{ℕ, ◌*◌, ◌/◌, ◌%◌, ◌^◌, ◌≤◌, ◌≡◌, true, List, [], ◌∷◌, ◌↔◌}
use Rattle.std.proofs.Math.Option.{none, some}
use Rattle.word.specs.First.{FirstIs, SomeHolds}
use Rattle.word.specs.Reading.{number, values, why}
use Rattle.word.specs.Outcomes.{Reads}
use Rattle.word.specs.Promises.{setting_plain, why_plain}
use Rattle.word.specs.declared.setting.Setting.{Setting}
use Rattle.word.specs.declared.reading.Reading.{Reading}

-- A form of command: its number, what the bits of the word are, where it may be used, and the numbers that its words hold.
pub record Row : Type 1 where
  pub number : ℕ
  pub bits : Type 0
  pub available : Type 0
  pub numbers : List ℕ

abbrev row : ℕ → Type 0 → Type 0 → List ℕ → Row
row number bits available numbers = record { number = number; bits = bits; available = available; numbers = numbers }

-- The rows, of a setting, a word and the word after it. A field is the word divided by 2 to its lowest bit, modulo 2 to its width;
-- methods and targets are byte numbers, four times their field (W9).
module _ (s : Setting) (w next : ℕ) where
  -- W1: a run of parameters whose method rises: count, subchannel, method
  abbrev pub increasing : Row
  increasing =
      row 1
      ((w / 2 ^ 29 % 2 ^ 3 ≡ 0) × (w / 2 ^ 16 % 2 ^ 2 ≡ 0) × (w % 2 ^ 2 ≡ 0))
      (Unit {0})
      (w / 2 ^ 18 % 2 ^ 11 ∷ w / 2 ^ 13 % 2 ^ 3 ∷ w / 2 ^ 2 % 2 ^ 11 * 4 ∷ [])

  -- W2: the same with a method that stays, from level 1
  abbrev pub non_increasing : Row
  non_increasing =
      row 2
      ((w / 2 ^ 29 % 2 ^ 3 ≡ 2) × (w / 2 ^ 16 % 2 ^ 2 ≡ 0) × (w % 2 ^ 2 ≡ 0))
      (1 ≤ s.level.number)
      (w / 2 ^ 18 % 2 ^ 11 ∷ w / 2 ^ 13 % 2 ^ 3 ∷ w / 2 ^ 2 % 2 ^ 11 * 4 ∷ [])

  -- W3: the SLI conditional, from level 3 with SLI on: its mask
  abbrev pub sli_conditional : Row
  sli_conditional =
      row 3
      ((w / 2 ^ 16 % 2 ^ 16 ≡ 0x0001) × (w % 2 ^ 4 ≡ 0))
      ((3 ≤ s.level.number) × (s.sli ≡ true))
      (w / 2 ^ 4 % 2 ^ 12 ∷ [])

  -- W4: the return, from level 2 in NV04-style
  abbrev pub returning : Row
  returning = row 4 (w % 2 ^ 32 ≡ 0x00020000) ((2 ≤ s.level.number) × (s.mode.number ≡ 0)) []

  -- W5, W14: the long form, in IB mode: of the word after it the low 24 bits are the count, and nothing is asked of the others
  abbrev pub long : Row
  long =
      row 5
      ((w / 2 ^ 16 % 2 ^ 16 ≡ 0x0003) × (w % 2 ^ 2 ≡ 0))
      (s.mode.number ≡ 1)
      (w / 2 ^ 13 % 2 ^ 3 ∷ w / 2 ^ 2 % 2 ^ 11 * 4 ∷ next % 2 ^ 24 ∷ [])

  -- W6: the old jump, in NV04-style: its target
  abbrev pub old_jump : Row
  old_jump = row 6 ((w / 2 ^ 29 % 2 ^ 3 ≡ 1) × (w % 2 ^ 2 ≡ 0)) (s.mode.number ≡ 0) (w / 2 ^ 2 % 2 ^ 27 * 4 ∷ [])

  -- W7: the jump, from level 2 in NV04-style: its target
  abbrev pub jump : Row
  jump = row 7 (w % 2 ^ 2 ≡ 1) ((2 ≤ s.level.number) × (s.mode.number ≡ 0)) (w / 2 ^ 2 % 2 ^ 30 * 4 ∷ [])

  -- W8: the call, as the jump
  abbrev pub call : Row
  call = row 8 (w % 2 ^ 2 ≡ 2) ((2 ≤ s.level.number) × (s.mode.number ≡ 0)) (w / 2 ^ 2 % 2 ^ 30 * 4 ∷ [])

  abbrev pub rows : List Row
  rows = increasing ∷ non_increasing ∷ sli_conditional ∷ returning ∷ long ∷ old_jump ∷ jump ∷ call ∷ []

-- of each row by itself
abbrev pub Each : (Row → Type 0) → List Row → Type 0
Each P [] = Unit {0}
Each P (x ∷ xs) = P x × Each P xs

-- W11: a row stands: the word has its bits, and it may be used
abbrev pub Stands : Row → Type 0
Stands x = x.bits × x.available

-- a reading has a row's number exactly if the row stands, and then its values are the row's numbers
pub record ReadsAs (r : Reading) (x : Row) : Type 0 where
  pub exactly : number r ≡ x.number ↔ Stands x
  pub holds : number r ≡ x.number → values r ≡ x.numbers

-- What a word reads as, at every setting.
pub record Forms : Type 0 where
  -- W9, W11: each row, at a setting that is not refused
  pub each :
      (s : Setting) (w next : ℕ) (r : Reading)
      → Reads s w next r
      → (SomeHolds (setting_plain s) → ⊥)
      → Each (ReadsAs r) (rows s w next)
  -- W12: number 9, which has no values, where no row stands
  pub reserved :
      (s : Setting) (w next : ℕ) (r : Reading)
      → Reads s w next r
      → (SomeHolds (setting_plain s) → ⊥)
      → (number r ≡ 9 ↔ Each (λ x. Stands x → ⊥) (rows s w next)) × (number r ≡ 9 → values r ≡ [])
  -- W20 to W24: and why it is so: a word with a row's bits has the first that applies to that form, and one with no row's has 1
  pub whys :
      (s : Setting) (w next : ℕ) (r : Reading)
      → Reads s w next r
      → (SomeHolds (setting_plain s) → ⊥)
      → Each (λ x. x.bits → (n : ℕ) → why r ≡ some n ↔ FirstIs (why_plain s x.number) n) (rows s w next)
  pub formless :
      (s : Setting) (w next : ℕ) (r : Reading)
      → Reads s w next r
      → (SomeHolds (setting_plain s) → ⊥)
      → Each (λ x. x.bits → ⊥) (rows s w next)
      → why r ≡ some 1
  -- W24: it always has one, and no other reading has
  pub unreserved : (s : Setting) (w next : ℕ) (r : Reading) → Reads s w next r → why r ≡ none ↔ (number r ≡ 9 → ⊥)
  -- W13: number 10 exactly at a setting that is refused, with the refusal's number
  pub refused :
      (s : Setting) (w next : ℕ) (r : Reading)
      → Reads s w next r
      → (number r ≡ 10 ↔ SomeHolds (setting_plain s)) × ((n : ℕ) → FirstIs (setting_plain s) n → values r ≡ n ∷ [])

-- W10: no word has the bits of two rows, whatever the setting: so their order says nothing.
abbrev pub OneForm : Type 0
OneForm = (s : Setting) (w next : ℕ) → Each (λ x. x.bits → Each (λ y. y.bits → x.number ≡ y.number) (rows s w next)) (rows s w next)
