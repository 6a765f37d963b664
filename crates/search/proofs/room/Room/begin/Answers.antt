use mathlib.Core.List.{[]}
use native.Mathlib.Omega.{arith}
use borrow.Author.Tests.{eq-eqb, ne_eqb}
use Rattle.word.proofs.First.{choose_true, choose_false}
use Rattle.search.proofs.Rooms.{holds_none, holds_first}
use Rattle.search.proofs.room.Room.begin.Goals as goal

pub invariant_of-result-clause-filled : goal.invariant_of-result-clause-filled
invariant_of-result-clause-filled c = ∣ ([], holds_none _ c.requires.2) ∣₁

pub returns-then-end-eq0-clause-held : goal.returns-then-end-eq0-clause-held
returns-then-end-eq0-clause-held c = rw (choose_true (eq-eqb _ _ c.if-end-eq0.true)) (holds_none _ c.requires.2)

pub invariant_of-result-2-clause-filled : goal.invariant_of-result-2-clause-filled
invariant_of-result-2-clause-filled c =
    let many = c.requires in ∣ (_, holds_first _ many.2 (omega (arith, many.0, many.1)) (omega (arith, many.1))) ∣₁

pub returns-clause-held : goal.returns-clause-held
returns-clause-held c =
    let many = c.requires in
    rw (choose_false (ne_eqb _ _ c.if-end-eq0.false))
    (holds_first _ many.2 (omega (arith, many.0, many.1)) (omega (arith, many.1)))
