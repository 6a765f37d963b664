use Prim.Native.Nat.{ℕ, ◌+◌, ◌*◌, ◌/◌, ◌^◌, ◌<◌}
use mathlib.Core.Path.{◌≡◌, sym, ap, ◌∙◌}
use mathlib.Core.Bool.{true}
use mathlib.Core.List.{◌++◌}
use native.Mathlib.Omega.{arith}
use lib.Bits.{bit_or, or_shifted, or_shifted_r}
use lib.Pow.{shl_exact}
use Rattle.word.specs.Reading.{form, values}
use Rattle.word.specs.Parts.{numbers_fit}
use Rattle.word.specs.Promises.{Within}
use Rattle.word.specs.declared.reading.Reading.{Reading}
use Rattle.word.proofs.Plainly.{field_plain}
use Rattle.word.proofs.Writer.{first_of, first_is}
use Rattle.word.proofs.writing.first_word.Goals as goal

-- what is required, of the command that the match has found
fields : {r s : Reading} → r ≡ s → numbers_fit ((form r).word ++ (form r).next) (values r) ≡ true → Within s
fields {r} {s} e f = (field_plain s).0 (rw e at f)

-- low bits put beside a number that has none
or_low : (t b : ℕ) → t ≡ t / 4 * 4 → b < 4 → bit_or t b ≡ t + b
or_low t b e h = ap (λ (x : ℕ). bit_or x b) e ∙ or_shifted (t / 4) 2 b h ∙ ap (λ (x : ℕ). x + b) (sym e)

pub returns-in-NonIncreasing : goal.returns-in-NonIncreasing
unfolding first_of
returns-in-NonIncreasing c =
    let p = fields c.in-NonIncreasing.is c.requires in
    rw (first_is _, c.in-NonIncreasing.is) (or_shifted_r 1 30 c.packed-in-NonIncreasing.result (omega arith) ∙ omega (arith, c.packed-in-NonIncreasing.ensures))

pub returns-in-Sli : goal.returns-in-Sli
unfolding first_of
returns-in-Sli c =
    let k = c.in-Sli.mask in
    let h : k < 2 ^ 12 = fields c.in-Sli.is c.requires in
    rw (first_is _, c.in-Sli.is, shl_exact {a = k} 12 4 32 h (omega arith)) (or_shifted_r 1 16 (k * 2 ^ 4) (omega arith) ∙ omega arith)

pub returns-in-Long : goal.returns-in-Long
unfolding first_of
returns-in-Long c =
    let p = fields c.in-Long.is c.requires in
    rw (first_is _, c.in-Long.is) (or_shifted_r 3 16 c.packed-in-Long.result (omega arith) ∙ omega (arith, c.packed-in-Long.ensures))

pub returns-in-OldJump : goal.returns-in-OldJump
unfolding first_of
returns-in-OldJump c =
    let t = c.in-OldJump.target in
    let p = fields c.in-OldJump.is c.requires in
    rw (first_is _, c.in-OldJump.is) (or_shifted_r 1 29 t p.0 ∙ omega arith)

pub returns-in-Jump : goal.returns-in-Jump
unfolding first_of
returns-in-Jump c =
    let t = c.in-Jump.target in
    let p = fields c.in-Jump.is c.requires in
    rw (first_is _, c.in-Jump.is) (or_low t 1 (omega arith) (omega arith))

pub returns-in-Call : goal.returns-in-Call
unfolding first_of
returns-in-Call c =
    let t = c.in-Call.target in
    let p = fields c.in-Call.is c.requires in
    rw (first_is _, c.in-Call.is) (or_low t 2 (omega arith) (omega arith))
