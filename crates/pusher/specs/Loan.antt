-- What a move is lent, as one thing: what speaks of moves names it whole, and does not change with what is in it.
use Rattle.std.specs.Prelude.{ℕ, List}

-- What the pusher is lent for a move: the words of the pushbuffer, and the IB entries.
pub record PusherLoan : Type 0 where
  pub words : List ℕ
  pub entries : List ℕ

-- the loan of these words and entries
abbrev pub to_pusher : List ℕ → List ℕ → PusherLoan
to_pusher ws es = record { words = ws; entries = es }

-- the loan with other words, or other entries
abbrev pub with_words : PusherLoan → List ℕ → PusherLoan
with_words l ws = record { words = ws; entries = l.entries }

abbrev pub with_entries : PusherLoan → List ℕ → PusherLoan
with_entries l es = record { words = l.words; entries = es }
