use mathlib.Core.Path.{sym}
use native.Mathlib.Omega.{arith}
use lib.Bits.{and_high}
use Rattle.word.proofs.Decode.{field, increasing_is, non_increasing_is, odd_top_is}
use Rattle.word.proofs.reading.run.Goals as goal

pub returns-then-top-eq0 : goal.returns-then-top-eq0
returns-then-top-eq0 c =
    let w = c.args.word in
    let p = c.requires in
    λ next. simp (field w 28 18, field w 15 13, and_high w 11 2) (sym (increasing_is w next p.0 (omega arith) p.1))

pub returns-then-top-eq2 : goal.returns-then-top-eq2
returns-then-top-eq2 c =
    let w = c.args.word in
    let p = c.requires in
    λ next. simp (field w 28 18, field w 15 13, and_high w 11 2) (sym (non_increasing_is w next p.0 (omega arith) p.1))

pub returns : goal.returns
returns c = let p = c.requires in λ next. odd_top_is _ next p.0 (omega arith) p.2 (omega arith)
