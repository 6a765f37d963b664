-- A line: 160 bytes, of which the text comes first. Every line of the trace has room (`Whole`).
use Rattle.std.specs.Prelude.{ℕ, ◌+◌, min, List, ◌++◌, leb, length, take, set, replicate}
use mathlib.Core.List.{foldl}
use Rattle.word.specs.First.{choose}
use Rattle.trace.specs.declared.line.Line.{Line}

-- the line that holds a text: the bytes behind it are 0
unfoldable pub line_of : List ℕ → Line
line_of t = record { bytes = take 160 (t ++ replicate 160 0); length = min (length t) 160 }

-- a line with a byte put behind its text, and with a text
unfoldable pub pushed : Line → ℕ → Line
pushed l b = choose (leb 160 l.length) l (record { bytes = set l.bytes l.length b; length = l.length + 1 })

unfoldable pub added : Line → List ℕ → Line
added l bs = foldl pushed l bs
