-- The lists of names. Assumes nothing.
use Prim.Native.Nat.{ℕ, zero, suc, ◌≤◌}
use Prim.Native.String.{String}
use mathlib.Core.Path.{◌≡◌, ap, ◌∙◌}
use mathlib.Core.Bool.{Bool, true, ◌&&◌}
use mathlib.Core.List.{List, [], ◌∷◌, map}
use native.Mathlib.Omega.{arith}
use lib.Dec.{leb}
use lib.ListN.{length, get_or, get_or-map}
use borrow.Author.Tests.{leb-true, le-leb}
use Rattle.word.proofs.Tests.{both}
use Rattle.trace.specs.Text.{text}
use Rattle.trace.specs.Line.{added}
use Rattle.trace.specs.Names.{name}
use Rattle.trace.specs.declared.line.Line.{Line}

-- a test that every name of a list passes
abbrev pub every : (String → Bool) → List String → Bool
every f [] = true
every f (s ∷ ss) = f s && every f ss

every_at : (f : String → Bool) (ss : List String) → every f ss ≡ true → f "" ≡ true → (n : ℕ) → f (get_or ss n "") ≡ true
every_at f [] t e n = e
every_at f (s ∷ ss) t e zero = (both (f s) (every f ss) t).0
every_at f (s ∷ ss) t e (suc n) = every_at f ss (both (f s) (every f ss) t).1 e n

-- so where every name of a list is short, that of any number is
abbrev pub within : ℕ → String → Bool
within k s = leb (length (text s)) k

pub short : (k : ℕ) (ss : List String) → every (within k) ss ≡ true → (n : ℕ) → length (text (name ss n)) ≤ k
unfolding text
short k ss t zero = omega arith
short k ss t (suc n) = leb-true _ _ (every_at (within k) ss t (le-leb 0 k (omega arith)) n)

-- what the code says of a list that has the same names, with the empty one at 0
pub said_name : (ss : List String) (l : Line) {r : Line} (m n : ℕ) → m ≡ n → r ≡ added l (get_or (map text ("" ∷ ss)) m []) → r ≡ added l (text (name ss n))
unfolding text
said_name ss l m n e h = h ∙ ap (added l) (ap (λ (k : ℕ). get_or (map text ("" ∷ ss)) k []) e ∙ get_or-map text ("" ∷ ss) n "")
