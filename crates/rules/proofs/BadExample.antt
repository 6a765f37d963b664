-- `BadExample`: words of which the first has one of the path rule's reasons, so that no other is reached. Assumes nothing.
use Prim.Native.Nat.{ℕ, zero, suc, ◌+◌, ◌<◌}
use mathlib.Core.Path.{◌≡◌, refl, sym}
use mathlib.Core.Bool.{Bool, false≢true}
use mathlib.Core.List.{List, ◌∷◌}
use mathlib.Core.Logic.{◌⊎◌, inl, inr, ⊎_elim}
use mathlib.Core.Option.{none, some}
use native.Mathlib.Omega.{arith}
use lib.ListN.{get_or, replicate, length-replicate, get_or-replicate}
use Rattle.word.specs.First.{first}
use Rattle.rules.specs.Map.{main}
use Rattle.rules.specs.Reason.{Submission, submission, size, flaw_at}
use Rattle.rules.specs.Judging.{judge_cases, setting_of}
use Rattle.rules.specs.Path.{Reached, origin, onward, Bad, flawed, Exact}
use Rattle.rules.specs.Examples.{BadExample}
use Rattle.rules.proofs.Table.{sized}

-- Words with one of the path rule's reasons at place 0 in main:
module _ (x : Submission) (more : ℕ) (words : size x ≡ more + 1) (n : ℕ) (flaw : flaw_at x 0 main ≡ some n) where
  not_fine : flaw_at x 0 main ≡ none → ⊥
  not_fine e = let z : ◌≡◌ {A = ℕ} 0 1 = cc in omega arith

  -- that place is bad,
  bad : Bad x 0
  bad = flawed (origin (omega arith)) not_fine

  -- and since nothing goes on from there, no other pair is reached:
  no_other : {p : ℕ} {s : Bool} → Reached x p s → (p ≡ 0) × (s ≡ main)
  no_other (origin l) = (refl, refl)
  no_other (onward r e next inner) = let h = no_other r in absurd (not_fine (rw (h.0, h.1) at e))

  -- the map marks it alone
  abbrev alone : List ℕ
  alone = 1 ∷ replicate more 0

  byte_of : (p : ℕ) → p < size x → ((p ≡ 0) × (get_or alone p 0 ≡ 1)) ⊎ (get_or alone p 0 ≡ 0)
  byte_of zero l = inl (refl, refl)
  byte_of (suc p) l = inr (get_or-replicate more p 0 0 (omega arith))

  exact : Exact x alone
  exact =
      record {
        bytes = let rest = length-replicate {A = ℕ} more 0 in omega arith;
        narrow = λ p l. ⊎_elim (λ h. omega (arith, h.1)) (λ z. omega arith) (byte_of p l);
        in_main = λ p l. (λ e. ⊎_elim (λ h. rw h.0 (origin (omega arith))) (λ z. absurd (omega arith)) (byte_of p l), λ r. rw (no_other r).0 refl);
        in_subroutine = λ p l. (λ e. ⊎_elim (λ h. absurd (omega (arith, h.1))) (λ z. absurd (omega arith)) (byte_of p l), λ r. absurd (false≢true (sym (no_other r).1)));
      }

pub bad_example :
    (level : ℕ) (sli : Bool) (bytes list : List ℕ) (more n : ℕ)
    → first (judge_cases 1048576 level sli bytes (1 ∷ replicate more 0) list) ≡ none
    → size (submission (setting_of level sli) bytes list) ≡ more + 1
    → flaw_at (submission (setting_of level sli) bytes list) 0 main ≡ some n
    → BadExample level sli bytes (1 ∷ replicate more 0) list 0
bad_example level sli bytes list more n table words flaw =
    let x = submission (setting_of level sli) bytes list in
    record { sized = sized level sli bytes (1 ∷ replicate more 0) list table; bad = bad x more words n flaw; exact = exact x more words n flaw }
