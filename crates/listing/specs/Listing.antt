-- The listing of lent words (docs/CARD.md, K): the commands in turn, up to an end.
use Rattle.std.specs.Prelude.{ℕ, ◌+◌, List, ◌++◌, eqb, leb, ltb, length, get_or, Ok, Err}
use Rattle.word.specs.First.{choose, first}
use Rattle.word.specs.Setting.{setting_cases, size_cases, refused_or}
use Rattle.word.specs.Why.{why_of}
use Rattle.word.specs.Reading.{number, why, parameter_count, reading_of}
use Rattle.word.specs.Writing.{own_words}
use Rattle.word.specs.declared.setting.Setting.{Setting}
use Rattle.word.specs.declared.reading.Reading.{Reading}
use Rattle.listing.specs.declared.command.End.{End}
use Rattle.listing.specs.declared.command.End.TheVariants as end
use Rattle.listing.specs.declared.command.Listed.{Listed}

-- K2, W15: a command's words: those that the writer writes, and its parameters
unfoldable pub span : Reading → ℕ
span r = length (own_words r) + parameter_count r

-- K4: an end: the place stays
abbrev pub ends_at : ℕ → End → Listed
ends_at p e = record { item = Err e; place = p }

-- K2, K3, K6: a reserved word (number 9) is an end, with its why, and so is a command that the words are too few for; else the command,
-- and the place behind its words
unfoldable pub item_of : Reading → ℕ → ℕ → Listed
item_of r n p =
    choose (eqb (number r) 9) (ends_at p (end.Reserved (why_of (why r))))
    (choose (ltb n (p + span r)) (ends_at p end.Short)
    (record { item = Ok r; place = p + span r }))

-- R23, K3, K4: a refusal stays too; past the last word is an end; else what the word there reads as decides
unfoldable pub list_of : Setting → List ℕ → ℕ → Listed
list_of s ws p =
    refused_or (λ n. ends_at p (end.Refused n)) (first (setting_cases s ++ size_cases (length ws)))
    (choose (leb (length ws) p) (ends_at p end.Past) (item_of (reading_of s (get_or ws p 0) (get_or ws (p + 1) 0)) (length ws) p))
