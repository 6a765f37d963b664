-- The promises about the search, each a statement that is proved under its own name in proofs/. They speak of it through its contract
-- (Outcomes.antt): of every answer and every room that the contract allows. What is found, and in which order, is promised in rules
-- (Finds); here it is said what the room tells of it.
use Rattle.std.specs.Prelude.{ℕ, ◌+◌, ◌*◌, ◌/◌, ◌%◌, ◌^◌, ◌≤◌, ◌<◌, ◌≡◌, Bool, List, [], ◌∷◌, ◌↔◌, length, get_or}
use Rattle.std.proofs.Math.Option.{some}
use Rattle.word.specs.First.{PlainCase, ◌if◌, FirstIs}
use Rattle.std.specs.declared.result.Result.{Result}
use Rattle.word.specs.declared.setting.Setting.{Setting}
use Rattle.word.specs.declared.setting.Refusal.{Refusal}
use Rattle.rules.specs.Reason.{Submission, submission, size}
use Rattle.rules.specs.Path.{Reached}
use Rattle.rules.specs.Search.{found}
use Rattle.rules.specs.Promises.{Numbers, nth}
use Rattle.search.specs.Answers.{searched_refusal, searched_values}
use Rattle.search.specs.Outcomes.{Searches}

-- Promise 1. R36: the order, in plain terms, of words of so many bytes and a room of so many entries. R8, R11
abbrev pub search_plain : ℕ → ℕ → List PlainCase
search_plain bytes space =
    8 if (4 * 1048576 < bytes)
    ∷ 11 if (space < 2 * (bytes / 4))
    ∷ []

-- R21, R36: the answer is refusal n if and only if n's condition holds and none before it in the order does; R31: and then the room is as
-- it was.
pub record Refused : Type 0 where
  pub exactly :
      (setting : Setting) (bytes list room : List ℕ) (a : Result ℕ Refusal) (exit : List ℕ)
      → Searches setting bytes list room a exit
      → (n : ℕ)
      → searched_refusal a ≡ some n ↔ FirstIs (search_plain (length bytes) (length room)) n
  pub unwritten :
      (setting : Setting) (bytes list room : List ℕ) (a : Result ℕ Refusal) (exit : List ℕ)
      → Searches setting bytes list room a exit
      → (n : ℕ)
      → searched_refusal a ≡ some n
      → exit ≡ room

-- The contract leaves one outcome.
abbrev pub One : Type 0
One =
    (setting : Setting) (bytes list room : List ℕ) (a b : Result ℕ Refusal) (x y : List ℕ)
    → Searches setting bytes list room a x
    → Searches setting bytes list room b y
    → (a ≡ b) × (x ≡ y)

-- H11: what a room tells: the lower halves from where, the upper halves in which order
pub record Told (x : Submission) (room exit : List ℕ) (count : ℕ) : Type 0 where
  pub counted : count ≡ length (found x)
  pub order : (i : ℕ) → i < length (found x) → get_or exit i 0 / 2 ^ 32 ≡ (nth x i).pair
  pub behind : (i : ℕ) → length (found x) ≤ i → i < 2 * size x → get_or exit i 0 / 2 ^ 32 ≡ 0
  pub from : (i : ℕ) → i < length (found x) → get_or exit (nth x i).pair 0 % 2 ^ 32 ≡ (nth x i).from + 1
  -- H10: a lower half is 0 where the pair is not reached, and nowhere else
  pub reached : (k p : ℕ) (s : Bool) → Numbers k p s → p < size x → (get_or exit k 0 % 2 ^ 32 ≡ 0 → ⊥) ↔ Reached x p s
  -- further entries stay
  pub long : length exit ≡ length room
  pub rest : (k : ℕ) → 2 * size x ≤ k → get_or exit k 0 ≡ get_or room k 0

-- H11: so it does, where nothing is refused
abbrev pub Tells : Type 0
Tells =
    (setting : Setting) (bytes list room : List ℕ) (a : Result ℕ Refusal) (exit : List ℕ) (count : ℕ)
    → Searches setting bytes list room a exit
    → searched_values a ≡ count ∷ []
    → Told (submission setting bytes list) room exit count
