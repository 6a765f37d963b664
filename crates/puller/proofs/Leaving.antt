-- What the definitions write out as a whole is what the statements say by fields and by an event's numbers; and that leaves one
-- answer. Assumes nothing.
use Rattle.std.proofs.Common.{◌≡◌, ℕ, List, [], ◌∷◌, sym, refl, ◌∙◌}
use Rattle.event.specs.Event.{values, number}
use Rattle.event.specs.declared.Kind.{Kind}
use Rattle.event.specs.declared.Kind.TheVariants as kind
use Rattle.event.specs.declared.Method.{Method}
use Rattle.event.proofs.Promises.{told}
use Rattle.puller.specs.Record.{with_error}
use Rattle.puller.specs.Taking.{done_with, saying, failed_by}
use Rattle.puller.specs.Promises.{telling, Leaves, Failed, Fails}
use Rattle.puller.specs.declared.record.PullerError.{PullerError}
use Rattle.puller.specs.declared.record.Puller.{Puller}
use Rattle.puller.specs.declared.taking.Taken.{Taken}

-- a method that is done, and a retry
pub done_leaves : {q : Puller} {k : Kind} (m : Method) {x : ℕ} {r : Taken} → r ≡ done_with q k m x → Leaves q (telling k m x) r
unfolding values
done_leaves m h = rw h (record { puller = refl; event = refl })

pub says_leaves : {q : Puller} {k : Kind} {r : Taken} → r ≡ saying q k → Leaves q (number k ∷ []) r
unfolding values
says_leaves h = rw h (record { puller = refl; event = refl })

-- a puller stopped by an error, all else as it was; and an answer that is so and says it
pub failed_by_lem : (p : Puller) (e : PullerError) → Failed p e (with_error p e)
failed_by_lem p e = record { engines = refl; last = refl; reference = refl; semaphore = refl; acquire = refl; error = refl; long = refl }

pub failed_fails : {p : Puller} {e : PullerError} {r : Taken} → r ≡ failed_by p e → Fails p e r
failed_fails {p} {e} h = let said = says_leaves h in record { puller = rw said.puller (failed_by_lem p e); event = said.event }

-- a puller and the numbers of an event leave one answer, and so does an error
pub leaves_one : {q : Puller} {said : List ℕ} {a b : Taken} → Leaves q said a → Leaves q said b → a ≡ b
leaves_one {a = a} {b = b} x y =
    let puller = x.puller ∙ sym y.puller in
    let event = told a.event b.event (x.event ∙ sym y.event) in
    rw (puller, event)

failed_is : {p : Puller} {e : PullerError} {q : Puller} → Failed p e q → q ≡ with_error p e
failed_is h = rw (h.engines, h.last, h.reference, h.semaphore, h.acquire, h.error, h.long)

pub fails_one : {p : Puller} {e : PullerError} {a b : Taken} → Fails p e a → Fails p e b → a ≡ b
fails_one x y = leaves_one (stops x) (stops y)
  where
    stops : {p : Puller} {e : PullerError} {r : Taken} → Fails p e r → Leaves (with_error p e) (number kind.Error ∷ []) r
    stops h = record { puller = failed_is h.puller; event = h.event }
