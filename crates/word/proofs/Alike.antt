-- Each row of the plain table says what a form of the definition's table says. Assumes nothing.
use Prim.Native.Nat.{ℕ, ◌+◌, ◌-◌, ◌%◌, ◌^◌}
use mathlib.Core.Path.{◌≡◌, refl}
use mathlib.Core.List.{List, [], ◌∷◌}
use mathlib.Core.Logic.{◌↔◌}
use native.Mathlib.Nat.{div-one}
use Rattle.word.specs.Parts.{bits, Part, is, carries, address, spare, numbers_in}
use Rattle.word.specs.Form.{Form, increasing, non_increasing, sli_conditional, returning, long, old_jump, jump, call, forms}
use Rattle.word.specs.Reading.{number, values, command_in}
use Rattle.word.specs.Promises.{Available}
use Rattle.word.specs.Forms.{Row, rows}
use Rattle.word.specs.Forms as plain
use Rattle.word.specs.declared.setting.Setting.{Setting}

-- that a word's bits are what the parts say, in plain terms
abbrev pub Has : List Part → ℕ → Type 0
Has [] w = Unit {0}
Has (is hi lo v ∷ ps) w = (bits hi lo w ≡ v) × Has ps w
Has (carries hi lo ∷ ps) w = Has ps w
Has (address hi lo ∷ ps) w = Has ps w
Has (spare hi lo ∷ ps) w = Has ps w

-- the same condition on both sides, and one field, two or three, of which the last is written another way
alike : {A : Type 0} → A ↔ A
alike = (λ a. a, λ a. a)

one : {A B : Type 0} → A ↔ B → (A × Unit {0}) ↔ B
one e = (λ h. e.0 h.0, λ b. (e.1 b, tt))

two : {C A B : Type 0} → A ↔ B → (C × (A × Unit {0})) ↔ (C × B)
two e = (λ h. (h.0, e.0 h.1.0), λ h. (h.0, (e.1 h.1, tt)))

three : {C D A B : Type 0} → A ↔ B → (C × (D × (A × Unit {0}))) ↔ (C × D × B)
three e = (λ h. (h.0, h.1.0, e.0 h.1.1.0), λ h. (h.0, (h.1, (e.1 h.2, tt))))

module _ (s : Setting) (w n : ℕ) where
  -- bits that end at bit 0 need no shift
  low : (hi v : ℕ) → bits hi 0 w ≡ v ↔ (w % 2 ^ (hi + 1 - 0) ≡ v)
  low hi v = rw (div-one w) alike

  -- A row says what a form says.
  pub record Same (f : Form) (x : Row) : Type 0 where
    pub bits_same : Has f.word w ↔ x.bits
    pub available_same : Available s (command_in f w n) ↔ x.available
    pub number_same : number (command_in f w n) ≡ x.number
    pub numbers_same : values (command_in f w n) ≡ x.numbers

  abbrev pub AllSame : List Form → List Row → Type 0
  AllSame [] [] = Unit {0}
  AllSame [] (x ∷ xs) = ⊥
  AllSame (f ∷ fs) [] = ⊥
  AllSame (f ∷ fs) (x ∷ xs) = Same f x × AllSame fs xs

  -- row by row: the last of the bits that a form fixes end at bit 0, and the rest is the same by computing
  increasing_same : Same increasing (plain.increasing s w n)
  unfolding increasing number values command_in numbers_in
  increasing_same = record { bits_same = three (low 1 0); available_same = alike; number_same = refl; numbers_same = refl }

  non_increasing_same : Same non_increasing (plain.non_increasing s w n)
  unfolding non_increasing number values command_in numbers_in
  non_increasing_same = record { bits_same = three (low 1 0); available_same = alike; number_same = refl; numbers_same = refl }

  sli_conditional_same : Same sli_conditional (plain.sli_conditional s w n)
  unfolding sli_conditional number values command_in numbers_in
  sli_conditional_same = record { bits_same = two (low 3 0); available_same = alike; number_same = refl; numbers_same = refl }

  returning_same : Same returning (plain.returning s w n)
  unfolding returning number values command_in numbers_in
  returning_same = record { bits_same = one (low 31 0x00020000); available_same = alike; number_same = refl; numbers_same = refl }

  long_same : Same long (plain.long s w n)
  unfolding long number values command_in numbers_in
  long_same = record { bits_same = two (low 1 0); available_same = alike; number_same = refl; numbers_same = rw (div-one n) }

  old_jump_same : Same old_jump (plain.old_jump s w n)
  unfolding old_jump number values command_in numbers_in
  old_jump_same = record { bits_same = two (low 1 0); available_same = alike; number_same = refl; numbers_same = refl }

  jump_same : Same jump (plain.jump s w n)
  unfolding jump number values command_in numbers_in
  jump_same = record { bits_same = one (low 1 1); available_same = alike; number_same = refl; numbers_same = refl }

  call_same : Same call (plain.call s w n)
  unfolding call number values command_in numbers_in
  call_same = record { bits_same = one (low 1 2); available_same = alike; number_same = refl; numbers_same = refl }

  pub all_same : AllSame forms (rows s w n)
  unfolding forms
  all_same = (increasing_same, (non_increasing_same, (sli_conditional_same, (returning_same, (long_same, (old_jump_same, (jump_same, (call_same, tt))))))))
