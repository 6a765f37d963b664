use Prim.Native.Nat.{◌+◌, ◌-◌}
use mathlib.Core.Path.{◌∙◌}
use native.Mathlib.Omega.{arith}
use lib.ListN.{length}
use Rattle.rules.proofs.Parts.{none_among, part_starts}
use Rattle.gate.proofs.map.marked_among.Goals as goal

pub returns-then-map-place : goal.returns-then-map-place
returns-then-map-place c = let a = c.args in none_among a.map.now (a.place + 1) a.count (omega arith)

pub returns-then-map-from : goal.returns-then-map-from
returns-then-map-from c =
    let a = c.args in
    c.any_start.ensures ∙ part_starts a.map.now (a.place + 1) a.count (length a.map.now - (a.place + 1)) (omega arith) (omega arith) (λ k l m. omega arith)

pub returns : goal.returns
returns c =
    let a = c.args in
    c.any_start-2.ensures
    ∙ part_starts a.map.now (a.place + 1) a.count (a.place + 1 + a.count - (a.place + 1)) (omega arith) (omega arith) (λ k l m. absurd (omega arith))
