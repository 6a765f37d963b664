-- The words to try of docs/CARD.md (W), in one table: at level 3 in NV04-style with SLI on where a row says nothing else; and a jump
-- whose upper half looks like another form's. Rows below level 3 are read with SLI off: with SLI on they would be refused.
use Rattle.std.specs.Prelude.{ℕ, ◌%◌, Bool, true, false, List, [], ◌∷◌, map, ◌≡◌}
use Rattle.word.specs.Reading.{read_of}
use Rattle.word.specs.declared.setting.Setting.{Setting}
use Rattle.word.specs.declared.why.Why.TheVariants as why
use Rattle.word.specs.declared.reading.Reading.{Reading}
use Rattle.word.specs.declared.reading.Reading.TheVariants.{Increasing, NonIncreasing, Sli, Return, Long, OldJump, Jump, Call, Reserved}

pub record Row : Type 0 where
  pub setting : Setting
  pub word : ℕ
  pub reading : Reading

-- level, mode, SLI, the word, and what it reads as
abbrev row : ℕ → ℕ → Bool → ℕ → Reading → Row
row l m on w r = record { setting = record { level = record { number = l }; mode = record { number = m }; sli = on }; word = w; reading = r }

-- `next` is the word after: the long form's count is its low 24 bits
abbrev pub table : ℕ → List Row
table next =
    row 3 0 true 0x00000000 (Increasing 0 0 0)
    ∷ row 3 0 true 0x00082180 (Increasing 2 1 0x0180)
    ∷ row 3 0 true 0x400cfffc (NonIncreasing 3 7 0x1ffc)
    ∷ row 3 0 true 0x00010050 (Sli 5)
    ∷ row 3 0 true 0x00020000 Return
    ∷ row 4 1 true 0x00034100 (Long 2 0x0100 (next % 0x1000000))
    ∷ row 3 0 true 0x3ffffffc (OldJump 0x1ffffffc)
    ∷ row 3 0 true 0x00002002 (Call 0x2000)
    ∷ row 0 0 false 0x400cfffc (Reserved why.Level)
    ∷ row 3 0 false 0x00010050 (Reserved why.Sli)
    ∷ row 3 0 true 0x00020004 (Reserved why.Form)
    ∷ row 3 0 true 0x00000003 (Reserved why.Form)
    ∷ row 2 0 false 0x00010050 (Reserved why.Level)
    ∷ row 1 0 false 0x00002002 (Reserved why.Level)
    ∷ row 0 0 false 0x00034100 (Reserved why.Mode)
    ∷ row 5 0 false 0x00034100 (Reserved why.Mode)
    ∷ row 4 1 false 0x00020000 (Reserved why.Mode)
    ∷ row 4 1 false 0x3ffffffc (Reserved why.Mode)
    ∷ row 2 0 false 0x00010001 (Jump 0x00010000)
    ∷ []

-- W1 to W8, W9, W10, W12, W14, W20 to W24: every row reads as it says, for every next word
abbrev pub Numbers : Type 0
Numbers = (next : ℕ) → map (λ (x : Row). read_of x.setting x.word next) (table next) ≡ map (λ (x : Row). x.reading) (table next)
