-- What the writer answers, and what it leaves in the lent output.
use Rattle.std.specs.Prelude.{ℕ, not, List, [], ◌∷◌, ◌++◌, eqb, ltb, length, drop, Result, Ok, Err}
use Rattle.std.proofs.lemmas.List.Edits.{sets}
use Rattle.word.specs.First.{choose, Case, first, ◌when◌}
use Rattle.word.specs.Setting.{setting_cases, refused_or, FIELD, FORM, ROOM}
use Rattle.word.specs.Parts.{Part, numbers_fit, word_with, room}
use Rattle.word.specs.Why.{why_of}
use Rattle.word.specs.Form.{why_not, usable}
use Rattle.word.specs.Reading.{form, values}
use Rattle.word.specs.declared.setting.Refusal.{Refusal}
use Rattle.word.specs.declared.setting.Setting.{Setting}
use Rattle.word.specs.declared.reading.Reading.{Reading}
use Rattle.word.specs.declared.writing.Unwritten.{Unwritten}
use Rattle.word.specs.declared.writing.Unwritten.TheVariants as unwritten

-- X1: the second word, where the form has one
unfoldable pub next_word : List Part → List ℕ → List ℕ
next_word [] ns = []
next_word (p ∷ ps) ns = word_with (p ∷ ps) ns ∷ []

-- X1, W15: the words that are a command's own
unfoldable pub own_words : Reading → List ℕ
own_words r = word_with (form r).word (values r) ∷ next_word (form r).next (drop (room (form r).word) (values r))

-- R10, R12, R11, X5: what refuses a command and an output of so many words, in this order
abbrev pub write_cases : Setting → Reading → ℕ → List Case
write_cases s r space =
    FIELD when not (numbers_fit ((form r).word ++ (form r).next) (values r))
    ∷ FORM when not (usable s (form r))
    ∷ ROOM when ltb space (length (own_words r))
    ∷ []

-- X6: of the refusals FORM, and no other, says why the command may not be used
unfoldable pub refusing : Setting → Reading → Refusal → Result ℕ Unwritten
refusing s r n = choose (eqb n.number FORM) (Err (unwritten.Form (why_of (why_not s (form r))))) (Err (unwritten.Refused n))

-- R24: what the writer answers: a refusal, or how many words it wrote
unfoldable pub write_of : Setting → Reading → ℕ → Result ℕ Unwritten
write_of s r space = refused_or (refusing s r) (first (setting_cases s ++ write_cases s r space)) (Ok (length (own_words r)))

-- X2, R31: the output after it: the words at its front and the rest as it was, or all of it as it was
unfoldable pub out_after : Result ℕ Unwritten → Reading → List ℕ → List ℕ
out_after (Err y) r out = out
out_after (Ok k) r out = sets out 0 (own_words r)
