use Prim.Native.Nat.{ℕ, ◌*◌, ◌/◌}
use mathlib.Core.Path.{◌≡◌, ap, ◌∙◌}
use native.Mathlib.Omega.{arith}
use lib.ListN.{length}
use lib.Seq.{length-take-le}
use Rattle.word.proofs.Bytes.{words_length}
use Rattle.search.proofs.Outcomes.{too_many, too_short, searched}
use Rattle.search.proofs.searching.search.Goals as goal

pub returns-then-submission : goal.returns-then-submission
returns-then-submission c = too_many _ _ _ _ c.if-submission.true

pub overflow_mul-pairs : goal.overflow_mul-pairs
overflow_mul-pairs c = omega (arith, words_length c.args.submission.now.words.now)

pub returns-then-room-pairs : goal.returns-then-room-pairs
returns-then-room-pairs c =
    too_short _ _ _ _ (omega (arith, c.if-submission.false)) (omega (arith, words_length c.args.submission.now.words.now))

pub search_in-requires : goal.search_in-requires
search_in-requires c =
    let many = words_length c.args.submission.now.words.now in
    (length-take-le _ _ (omega (arith, c.if-room-pairs.false)) ∙ ap (λ (n : ℕ). 2 * n) c.size-pairs.ensures, omega arith)

pub returns : goal.returns
returns c =
    let many : c.size-pairs.result ≡ length c.args.submission.now.words.now / 4 = c.size-pairs.ensures ∙ words_length c.args.submission.now.words.now in
    let front = length-take-le (2 * c.size-pairs.result) c.args.room.now c.if-room-pairs.false in
    rw many
    (searched _ _ _ _ c.if-submission.false (omega arith) c.search_in.new.entries (c.search_in.auto.entries ∙ front ∙ ap (λ (n : ℕ). 2 * n) many) c.search_in.ensures)
