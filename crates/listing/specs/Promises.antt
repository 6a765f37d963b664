-- The promises about the listing, each a statement that is proved under its own name in proofs/.
use Rattle.std.specs.Prelude.{ℕ, ◌+◌, ◌≤◌, ◌<◌, ◌≡◌, List, [], ◌∷◌, ◌++◌, ◌↔◌, length, get_or, Result}
use Rattle.std.proofs.Math.Option.{none, some}
use Rattle.std.specs.Borrow.{Bor}
use Rattle.word.specs.First.{FirstIs, SomeHolds}
use Rattle.word.specs.Answers.{written_refusal}
use Rattle.word.specs.Outcomes.{Reads, Writes}
use Rattle.word.specs.Promises.{setting_plain, size_plain, size}
use Rattle.word.specs.Reading.{parameter_count}
use Rattle.word.specs.Reading as reading
use Rattle.word.specs.declared.setting.Setting.{Setting}
use Rattle.word.specs.declared.reading.Reading.{Reading}
use Rattle.word.specs.declared.writing.Unwritten.{Unwritten}
use Rattle.listing.specs.Answers.{number, values, item_why, item_refusal}
use Rattle.listing.specs.Outcomes.{ListsAt, Begins, Gives}
use Rattle.listing.specs.declared.command.End.{End}
use Rattle.listing.specs.declared.command.Listed.{Listed}
use Rattle.listing.specs.declared.listing.Listing.{Listing}

-- Promise 1. R21, R23: an item is refusal n if and only if n's condition holds and none before it in the order does.
pub record Refused : Type 0 where
  pub list_at :
      (s : Setting) (ws : List ℕ) (p : ℕ) (a : Listed)
      → ListsAt s ws p a
      → (n : ℕ)
      → item_refusal a.item ≡ some n ↔ FirstIs (setting_plain s ++ size_plain ws) n
  pub next :
      (s : Setting) (l : Listing) (a : Result Reading End) (exit : Listing)
      → Gives s l a exit
      → (n : ℕ)
      → item_refusal a ≡ some n ↔ FirstIs (setting_plain s ++ size_plain l.words.now) n

-- Each contract leaves one outcome: any two that it allows are equal.
pub record One : Type 0 where
  pub list_at : (s : Setting) (ws : List ℕ) (p : ℕ) (a b : Listed) → ListsAt s ws p a → ListsAt s ws p b → a ≡ b
  pub new : (words : Bor (List ℕ)) (a b : Listing) → Begins words a → Begins words b → a ≡ b
  pub next :
      (s : Setting) (l : Listing) (a b : Result Reading End) (x y : Listing)
      → Gives s l a x
      → Gives s l b y
      → (a ≡ b) × (x ≡ y)

-- K1: a new reader holds the words that it is lent, at place 0.
abbrev pub New : Type 0
New = (words : Bor (List ℕ)) (l : Listing) → Begins words l → (l.words ≡ words) × (l.place ≡ 0)

-- K4, R31: what is no command (number 1) leaves the reader as it was, a refusal too, so that `next` gives the same again.
abbrev pub Stays : Type 0
Stays = (s : Setting) (l : Listing) (a : Result Reading End) (exit : Listing) → Gives s l a exit → 2 ≤ number a → exit ≡ l

-- an item is a command: number 1, with the command's number and values
abbrev pub IsCommand : Reading → Result Reading End → Type 0
IsCommand r a = (number a ≡ 1) × (values a ≡ reading.number r ∷ reading.values r)

-- K2, K3, W15: which item, where nothing is refused, by the reading of the word at the place with the word after it, or 0 after the
-- last: 2 past the last word, 3 at a reserved word (a reading's number 9), 4 at a command that the words are too few for, else the command. A
-- command has its own words (`size`) and its parameters.
pub record Items : Type 0 where
  pub past : (s : Setting) (ws : List ℕ) (p : ℕ) (a : Listed) → ListsAt s ws p a → item_refusal a.item ≡ none → number a.item ≡ 2 ↔ length ws ≤ p
  pub reserved :
      (s : Setting) (ws : List ℕ) (p : ℕ) (a : Listed) (r : Reading)
      → ListsAt s ws p a
      → item_refusal a.item ≡ none
      → p < length ws
      → Reads s (get_or ws p 0) (get_or ws (p + 1) 0) r
      → number a.item ≡ 3 ↔ reading.number r ≡ 9
  -- K6: with the word's why, which a command has not
  pub why :
      (s : Setting) (ws : List ℕ) (p : ℕ) (a : Listed) (r : Reading)
      → ListsAt s ws p a
      → item_refusal a.item ≡ none
      → p < length ws
      → Reads s (get_or ws p 0) (get_or ws (p + 1) 0) r
      → item_why a.item ≡ reading.why r
  pub short :
      (s : Setting) (ws : List ℕ) (p : ℕ) (a : Listed) (r : Reading)
      → ListsAt s ws p a
      → item_refusal a.item ≡ none
      → p < length ws
      → Reads s (get_or ws p 0) (get_or ws (p + 1) 0) r
      → reading.number r ≤ 8
      → length ws < p + size r + parameter_count r
      → number a.item ≡ 4
  pub command :
      (s : Setting) (ws : List ℕ) (p : ℕ) (a : Listed) (r : Reading)
      → ListsAt s ws p a
      → item_refusal a.item ≡ none
      → p < length ws
      → Reads s (get_or ws p 0) (get_or ws (p + 1) 0) r
      → reading.number r ≤ 8
      → p + size r + parameter_count r ≤ length ws
      → IsCommand r a.item × (a.place ≡ p + size r + parameter_count r)

-- K2: `next` gives what `list_at` gives of the words that the reader holds, at its place, and the reader goes on after it.
abbrev pub Next : Type 0
Next =
    (s : Setting) (l : Listing) (a : Result Reading End) (exit : Listing) (x : Listed)
    → Gives s l a exit
    → ListsAt s l.words.now l.place x
    → (number a ≡ number x.item) × (values a ≡ values x.item) × (item_why a ≡ item_why x.item) × (exit.words ≡ l.words) × (exit.place ≡ x.place)

-- Listing what the writer wrote gives the commands back, at a setting that is not refused.

-- words made of commands: of each what the writer writes of it into an output just long enough, then as many parameters as its
-- count says, whatever they are
pub data Made (s : Setting) : List Reading → List ℕ → Type 0 where
  nothing : Made s [] []
  more :
      (r : Reading) (out own ps : List ℕ) (a : Result ℕ Unwritten) (rs : List Reading) (ws : List ℕ)
      → Writes s r out a own
      → written_refusal a ≡ none
      → length out ≡ size r
      → length ps ≡ parameter_count r
      → Made s rs ws
      → Made s (r ∷ rs) (own ++ ps ++ ws)

-- from a place on, a listing gives these commands in turn, and then ends past the last word
pub data InTurn (s : Setting) (ws : List ℕ) : ℕ → List Reading → Type 0 where
  over : (p : ℕ) (a : Listed) → ListsAt s ws p a → number a.item ≡ 2 → InTurn s ws p []
  on :
      (p : ℕ) (r : Reading) (rs : List Reading) (a : Listed)
      → ListsAt s ws p a
      → IsCommand r a.item
      → InTurn s ws a.place rs
      → InTurn s ws p (r ∷ rs)

-- K5: words so made are listed as these commands, in turn
abbrev pub GivesBack : Type 0
GivesBack = (s : Setting) (rs : List Reading) (ws : List ℕ) → (SomeHolds (setting_plain s) → ⊥) → length ws ≤ 1048576 → Made s rs ws → InTurn s ws 0 rs
