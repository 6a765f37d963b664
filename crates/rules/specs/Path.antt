-- The path rule: which pairs are reached, which places are bad, and the map that marks exactly what is reached.
use Rattle.std.specs.Prelude.{ℕ, ◌+◌, ◌/◌, ◌%◌, ◌≤◌, ◌<◌, ◌≡◌, Bool, List, [], ◌∷◌, ◌⊎◌, ◌↔◌, length, get_or}
use Rattle.std.proofs.Math.Option.{none}
use Rattle.word.specs.Reading.{parameter_count}
use Rattle.word.specs.declared.reading.Reading.{Reading}
use Rattle.rules.specs.Map.{main, inside}
use Rattle.rules.specs.Next.{nexts}
use Rattle.rules.specs.Reason.{Submission, size, command_at, flaw_at}
use Rattle.rules.specs.declared.pair.Pair.{Pair}

-- a place in a state is one of these pairs
abbrev pub OneOf : List Pair → ℕ → Bool → Type 0
OneOf [] q t = ⊥
OneOf (x ∷ xs) q t = ((q ≡ x.place) × (t ≡ x.inside)) ⊎ OneOf xs q t

-- G27: (q, t) is a next pair of the command d at (p, s)
abbrev pub Next : Reading → ℕ → Bool → ℕ → Bool → Type 0
Next d p s q t = OneOf (nexts d p s) q t

-- H1, H2: which pairs are reached
pub data Reached (x : Submission) : ℕ → Bool → Type 0 where
  -- H1: where the words begin
  origin : 0 < size x → Reached x 0 main
  -- H2: where they go on
  onward :
      {p : ℕ} {s : Bool} {q : ℕ} {t : Bool}
      → Reached x p s
      → flaw_at x p s ≡ none
      → Next (command_at x p) p s q t
      → (q ≡ size x → ⊥)
      → Reached x q t

-- H3, H4: which places are bad
pub data Bad (x : Submission) : ℕ → Type 0 where
  -- H3: a reason of the path rule's
  flawed : {p : ℕ} {s : Bool} → Reached x p s → (flaw_at x p s ≡ none → ⊥) → Bad x p
  -- H4: a reached place among the parameters
  amid :
      {p : ℕ} {s : Bool} {q : ℕ} {t : Bool}
      → Reached x p s
      → Reached x q t
      → p < q
      → q ≤ p + parameter_count (command_at x p)
      → Bad x p

-- H5: the map that marks exactly what is reached
pub record Exact (x : Submission) (map : List ℕ) : Type 0 where
  pub bytes : length map ≡ size x
  pub narrow : (p : ℕ) → p < size x → get_or map p 0 ≤ 3
  pub in_main : (p : ℕ) → p < size x → get_or map p 0 % 2 ≡ 1 ↔ Reached x p main
  pub in_subroutine : (p : ℕ) → p < size x → get_or map p 0 / 2 ≡ 1 ↔ Reached x p inside
