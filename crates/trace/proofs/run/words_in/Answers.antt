use Prim.Native.Nat.{◌<◌}
use mathlib.Core.Path.{◌≡◌, refl}
use native.Mathlib.Omega.{arith}
use lib.ListN.{length, take, length-take}
use lib.Seq.{take_all}
use Rattle.std.proofs.lemmas.List.{take_more, take_more_set}
use Rattle.word.specs.Lent.{words_of}
use Rattle.word.proofs.Bytes.{words_length}
use Rattle.trace.proofs.Loading.{in_place}
use Rattle.trace.proofs.run.words_in.Goals as goal

pub loop-place-preserved : goal.loop-place-preserved
loop-place-preserved c =
    let loop = c.loop-place in
    let ws = words_of c.args.bytes.now in
    -- there are four bytes for each word that is counted
    let read : loop.place < length ws = omega (arith, length-take c.min-count.result c.args.words.now, words_length c.args.bytes.now) in
    let room : loop.place < length loop.word-items = omega arith in
    rw (take_more_set loop.word-items loop.place c.word_at.result room, take_more ws loop.place 0 read, c.word_at.ensures, loop.invariant) refl

pub returns : goal.returns
returns c =
    let loop = c.loop-place in
    let items : take loop.place loop.word-items ≡ loop.word-items = take_all loop.place loop.word-items (omega arith) in
    let all : loop.place ≡ c.min-count.result = omega (arith, length-take c.min-count.result c.args.words.now) in
    in_place c.args.bytes.now c.args.words.now _ loop.word-items c.min-count.ensures (rw (← all, ← loop.invariant, items) refl)
