use Prim.Native.Nat.{ℕ, ◌≤◌}
use mathlib.Core.Path.{refl}
use native.Mathlib.Omega.{arith}
use Rattle.word.proofs.First.{by_test}
use Rattle.repair.specs.Changes.{byte_by}
use Rattle.repair.proofs.marks.Marks.take_byte.Goals as goal

-- each mark is at most its own number
pub overflow_add-new : goal.overflow_add-new
overflow_add-new c =
    let low : c.mark.result ≤ 1 = rw c.mark.ensures (by_test (λ (n : ℕ). n ≤ 1) (λ e. omega arith) (λ e. omega arith)) in
    let high : c.mark-2.result ≤ 2 = rw c.mark-2.ensures (by_test (λ (n : ℕ). n ≤ 2) (λ e. omega arith) (λ e. omega arith)) in
    omega (arith, low, high)

pub returns : goal.returns
unfolding byte_by
returns c = (refl, refl, refl, refl, refl, rw (c.mark.ensures, c.mark-2.ensures) refl)
