-- The puller keeps the widths of its numbers, and the length of the semaphore memory. Assumes nothing.
use Rattle.std.proofs.Common.{◌≡◌, ℕ, zero, suc, ◌+◌, ◌*◌, ◌^◌, ◌<◌, true, List, [], ◌∷◌, length, get_or, set, refl, ap, ◌∙◌, arith, length-set}
use lib.Seq.{length-sets}
use Rattle.word.specs.Lent.{Words}
use Rattle.event.specs.declared.Method.{Method}
use Rattle.puller.specs.Loan.{PullerLoan}
use Rattle.puller.specs.Record.{with_engine, with_last, with_acquire}
use Rattle.puller.specs.Taking.{place_of, long_place, long_words, Result}
use Rattle.puller.specs.Promises.{Names}
use Rattle.puller.specs.Widths.{PullerFits, KeepsWidths}
use Rattle.puller.specs.declared.object.Object.{Object}
use Rattle.puller.specs.declared.record.AcquireMode.{AcquireMode}
use Rattle.puller.specs.declared.record.AcquireMode.TheVariants as mode
use Rattle.puller.specs.declared.record.Puller.{Puller}
use Rattle.puller.specs.declared.taking.Taken.{Taken}
use Rattle.puller.proofs.Ways.{by_retry, After, unchanged, bound_last, referred, semaphore_bound, offset, waiting, waiting_long, addressed, sequenced, forwarded, Way, failed, failed_bound, done, released, released_long, goes}

-- a word stored in a list leaves the others
below_set : (l : List ℕ) (i v k j : ℕ) → v < k → get_or l j 0 < k → get_or (set l i v) j 0 < k
below_set [] i v k j h e = e
below_set (x ∷ l) zero v k zero h e = h
below_set (x ∷ l) zero v k (suc j) h e = e
below_set (x ∷ l) (suc i) v k zero h e = e
below_set (x ∷ l) (suc i) v k (suc j) h e = below_set l i v k j h e

-- an engine of five bits bound, and made the last
with_engine_lem : (p : Puller) (s e : ℕ) → PullerFits p → e < 2 ^ 5 → PullerFits (with_engine p s e)
with_engine_lem p s e f h =
    record {
      engines = λ i l. below_set p.engines s e (2 ^ 5) i h (f.engines i l);
      last = f.last;
      reference = f.reference;
      dma = f.dma;
      offset = f.offset;
      value = f.value;
      address = f.address;
      sequence = f.sequence;
    }

with_last_lem : (p : Puller) (e : ℕ) → PullerFits p → e < 2 ^ 5 → PullerFits (with_last p e)
with_last_lem p e f h = record { engines = f.engines; last = h; reference = f.reference; dma = f.dma; offset = f.offset; value = f.value; address = f.address; sequence = f.sequence }

-- an object that a table of words describes
module _ {t : List ℕ} {h : ℕ} {o : Object} (n : Names t h o) where
  engine_fits : o.engine < 2 ^ 5
  engine_fits = omega (arith, n.describes.engine)

  address_fits : Words t → o.address < 2 ^ 32
  address_fits w = rw n.describes.address (w (4 * n.entry + 2))

-- the puller after a method
module _ (p : Puller) (m : Method) (l : PullerLoan) (f : PullerFits p) (low : m.subchannel < 8) (word : m.parameter < 2 ^ 32) (table : Words l.table) where
  -- an acquire that waits for a word
  with_value : (v : ℕ) (a : AcquireMode) → v < 2 ^ 32 → PullerFits (with_acquire p true v a)
  with_value v a h = record { engines = f.engines; last = f.last; reference = f.reference; dma = f.dma; offset = f.offset; value = h; address = f.address; sequence = f.sequence }

  after_fits : (q : Puller) → After p m l.table q → PullerFits q
  after_fits q unchanged = f
  after_fits q (bound_last o n) = with_last_lem (with_engine p m.subchannel o.engine) _ (with_engine_lem p _ _ f (engine_fits n)) (engine_fits n)
  after_fits q referred =
      record { engines = f.engines; last = f.last; reference = word; dma = f.dma; offset = f.offset; value = f.value; address = f.address; sequence = f.sequence }
  after_fits q (semaphore_bound o n) =
      record { engines = f.engines; last = f.last; reference = f.reference; dma = address_fits n table; offset = f.offset; value = f.value; address = f.address; sequence = f.sequence }
  after_fits q (offset valid) =
      record { engines = f.engines; last = f.last; reference = f.reference; dma = f.dma; offset = word; value = f.value; address = f.address; sequence = f.sequence }
  after_fits q waiting = with_value _ mode.Old word
  after_fits q (waiting_long a) = with_value _ a f.sequence
  after_fits q (addressed h) =
      record { engines = f.engines; last = f.last; reference = f.reference; dma = f.dma; offset = f.offset; value = f.value; address = h; sequence = f.sequence }
  after_fits q sequenced =
      record { engines = f.engines; last = f.last; reference = f.reference; dma = f.dma; offset = f.offset; value = f.value; address = f.address; sequence = word }
  after_fits q forwarded = with_last_lem p _ f (f.engines m.subchannel low)

  taken_fits : (o : Result) → Way p m l o → PullerFits o.taken.puller
  taken_fits o (failed e) = f
  taken_fits o (failed_bound z) = with_engine_lem p _ _ f (omega arith)
  taken_fits o (done k x h) = after_fits _ h
  taken_fits o released = f
  taken_fits o released_long = f

-- words written leave the memory as long as it was
same_length : {p : Puller} {m : Method} {l : PullerLoan} (o : Result) → Way p m l o → length o.memory ≡ length l.semaphores
same_length o (failed e) = refl
same_length o (failed_bound z) = refl
same_length o (done k x h) = refl
same_length {p} {m} {l} o released = length-set l.semaphores (place_of p) m.parameter
same_length {p} {m} {l} o released_long = length-sets l.semaphores (long_place p) (long_words p.long.sequence l.clock)

pub keeps_widths : KeepsWidths
keeps_widths =
    record {
      take = λ level p m l exit r h f low word w. rw h.answer (taken_fits p m l f low word w _ (goes level.number p m l));
      retry = λ level p sems r h f. rw h (by_retry (λ (t : Taken). PullerFits t.puller) level.number p sems f f f);
      length = λ level p m l exit r h. ap length h.memory ∙ same_length _ (goes level.number p m l);
    }
