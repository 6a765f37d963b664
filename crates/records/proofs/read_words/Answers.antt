use Rattle.std.proofs.Common.{◌≡◌, ℕ, ◌+◌, ◌-◌, ◌≤◌, List, ◌++◌, length, take, sym, ap, ◌∙◌, subst, length-take-le, rules}
use Rattle.std.specs.Io.KnownBytes.{Consumes}
use Rattle.std.proofs.KnownBytes.{Consumes-trans}
use Rattle.std.proofs.Math.Seq.{take-append-add, take-append-le}
use borrow.Rule.Slice.PartMut.{put_mid, post_of}
use Rattle.records.proofs.read_words.Goals as goal

-- what a read gave stands behind what was read before
take_read : (a k n : ℕ) (xs ys : List ℕ) → a ≤ length xs → n ≤ length ys → take a xs ++ take n ys ≡ take (a + n) (put_mid a k xs ys)
take_read a k n xs ys within fits =
    let front = take a xs in
    sym (ap (λ m. take (m + n) (put_mid a k xs ys)) (sym (length-take-le a xs within)) ∙ take-append-add front (ys ++ post_of a k xs) n ∙ ap (λ l. front ++ l) (take-append-le n ys (post_of a k xs) fits))

pub loop-done-preserved : goal.loop-done-preserved
loop-done-preserved g c =
    let from = c.loop-done.done in
    let before = c.loop-done.invariant in
    let read = c.in_ok-count.ensures in
    let whole = take_read from (length c.loop-done.buffer - from) c.in_ok-count.count c.loop-done.buffer c.read.new.buf before.within read.bound.0 in
    record {
      same_room = search rules;
      within = search rules;
      given = subst (Consumes _ _) whole (Consumes-trans _ _ _ _ _ before.given read.bytes.0);
    }
