-- A puller that fails says so and writes nothing. Assumes nothing.
use Rattle.std.proofs.Common.{◌≡◌, ℕ, List, [], ◌∷◌, refl, ap, ◌∙◌, inl, inr}
use Rattle.event.specs.Event.{values, number as kind_number}
use Rattle.event.specs.declared.Kind.TheVariants as kind
use Rattle.event.specs.declared.Method.{Method}
use Rattle.puller.specs.Loan.{PullerLoan}
use Rattle.puller.specs.Record.{number, with_engine}
use Rattle.puller.specs.Taking.{failed_by, retry_of, Result}
use Rattle.puller.specs.Promises.{StoppedBy, Failing}
use Rattle.puller.specs.declared.record.PullerError.{PullerError}
use Rattle.puller.specs.declared.record.PullerError.TheVariants as cause
use Rattle.puller.specs.declared.record.Puller.{Puller}
use Rattle.puller.specs.declared.taking.Taken.{Taken}
use Rattle.puller.proofs.Leaving.{failed_by_lem, failed_fails}
use Rattle.puller.proofs.Ways.{by_retry, After, unchanged, bound_last, referred, semaphore_bound, offset, waiting, waiting_long, addressed, sequenced, forwarded, Way, failed, failed_bound, done, released, released_long, goes}

-- a method that is done leaves the error as it was
same_error : {p : Puller} {m : Method} {t : List ℕ} {q : Puller} → After p m t q → q.error ≡ p.error
same_error unchanged = refl
same_error (bound_last o n) = refl
same_error referred = refl
same_error (semaphore_bound o n) = refl
same_error (offset valid) = refl
same_error waiting = refl
same_error (waiting_long a) = refl
same_error (addressed h) = refl
same_error sequenced = refl
same_error forwarded = refl

module _ (p : Puller) (run : number p.error ≡ 0) where
  -- it has failed only if it says so, and then it has written nothing and has changed in nothing else
  quiet :
      {m : Method} {l : PullerLoan} (o : Result)
      → Way p m l o
      → (number o.taken.puller.error ≡ 0 → ⊥)
      → (values o.taken.event ≡ kind_number kind.Error ∷ []) × (o.memory ≡ l.semaphores) × StoppedBy p m o.taken.puller
  unfolding values
  quiet o (failed e) n = (refl, refl, inl (e, failed_by_lem p e))
  quiet {m} o (failed_bound z) n = (refl, refl, inr (rw z (failed_by_lem (with_engine p m.subchannel 0) cause.EmptySubchannel)))
  quiet o (done k x h) n = absurd (n (ap number (same_error h) ∙ run))
  quiet o released n = absurd (n run)
  quiet o released_long n = absurd (n run)

  -- a retry that has failed changes nothing but the error
  abbrev Only : Taken → Type 0
  Only r = (number r.puller.error ≡ 0 → ⊥) → (e : PullerError) × (r ≡ failed_by p e)

  retry_only : (level : ℕ) (sems : List ℕ) → Only (retry_of level p sems)
  retry_only level sems = by_retry Only level p sems (λ n. (_, refl)) (λ n. absurd (n run)) (λ n. absurd (n run))

pub failing : Failing
failing =
    record {
      take = λ level p m l exit r h run n.
          let q = quiet p run _ (goes level.number p m l) (rw h.answer at n) in
          (rw h.answer q.0, rw h.memory q.1);
      stays = λ level p m l exit r h run n. rw h.answer (quiet p run _ (goes level.number p m l) (rw h.answer at n)).2;
      retry = λ level p sems r h run n.
          let stopped = retry_only p run level.number sems (rw h at n) in
          (stopped.0, failed_fails (rw h stopped.1));
    }
