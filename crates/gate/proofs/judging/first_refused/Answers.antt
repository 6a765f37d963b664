use Prim.Native.Nat.{ℕ, suc, zero, ◌+◌, ◌*◌, ◌%◌, ◌<◌}
use mathlib.Core.Path.{◌≡◌}
use mathlib.Core.Bool.{true, false}
use mathlib.Core.List.{[], ◌∷◌}
use native.Mathlib.Omega.{arith}
use lib.ListN.{get_or}
use borrow.Author.Tests.{eq-eqb, ne_eqb}
use Rattle.rules.specs.Next.{◌in_state◌}
use Rattle.rules.specs.Judging.{place_of, state_of}
use Rattle.rules.proofs.Scans.{outset}
use Rattle.rules.proofs.Verdicts.{pair_onward, pair_met, pairs_over, pairs_fine}
use Rattle.gate.proofs.judging.first_refused.Goals as goal

-- the pairs of a place have the numbers from its double on
pair_of : (p i : ℕ) → i < 2 → place_of (2 * p + i) in_state state_of (2 * p + i) ≡ p in_state get_or (false ∷ true ∷ []) i false
pair_of p zero l =
    let place : place_of (2 * p + zero) ≡ p = omega arith in
    rw (place, ne_eqb ((2 * p + zero) % 2) 1 (λ e. omega arith))
pair_of p (suc zero) l =
    let place : place_of (2 * p + suc zero) ≡ p = omega arith in
    rw (place, eq-eqb ((2 * p + suc zero) % 2) 1 (omega arith))
pair_of p (suc (suc i)) l = absurd (omega arith)

pub loop-place-init : goal.loop-place-init
loop-place-init c =
    let to = c.next_start-place.ensures in (
      omega arith,
      pairs_over _ _ _ (outset _ _) _ (omega arith) (λ p l m. to.2 p (omega arith) m),
    )

pub loop-place-preserved : goal.loop-place-preserved
loop-place-preserved c =
    let to = c.next_start-place-in-loop-place.ensures in
    let both = c.loop-inside-test.false in (
      omega arith,
      pairs_over _ _ _ c.loop-inside.invariant _ (omega arith) (λ p l m. to.2 p (omega arith) m),
    )

pub returns-in-Some : goal.returns-in-Some
returns-in-Some c =
    pair_met _ _ _ c.loop-inside.invariant (omega arith) (pair_of _ _ c.loop-inside-test.true) c.at_mark.ensures c.in-Some.is

pub loop-inside-preserved : goal.loop-inside-preserved
loop-inside-preserved c =
    let k = 2 * c.loop-place.place in
    let i = c.loop-inside.inside-index in
    let more : k + (i + 1) ≡ k + i + 1 = omega arith in
    rw more
    (pair_onward _ _ _ c.loop-inside.invariant (omega arith) (pair_of _ _ c.loop-inside-test.true) c.at_mark.ensures c.in_default.is)

pub returns : goal.returns
returns c =
    pairs_fine _ _ _ c.loop-place.invariant.1 (λ p l m. c.end_of_marks-end.ensures.2 p (omega arith) m)
