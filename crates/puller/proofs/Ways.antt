-- The ways that a method can go, and the puller that each leaves: what holds of each holds of what is taken. Assumes nothing.
use Rattle.std.proofs.Common.{◌≡◌, ℕ, ◌^◌, ◌<◌, Bool, true, List, set, refl, arith, ltb-false, eqb-true}
use Rattle.std.specs.Prelude.{Option, Some, None}
use lib.Seq.{sets}
use Rattle.word.proofs.First.{by_test}
use Rattle.event.specs.declared.Kind.{Kind}
use Rattle.event.specs.declared.Kind.TheVariants as kind
use Rattle.event.specs.declared.Method.{Method}
use Rattle.puller.specs.Loan.{PullerLoan}
use Rattle.puller.specs.Object.{lookup_of}
use Rattle.puller.specs.Record.{engine_of, with_engine, with_last, with_reference, with_dma, with_offset, with_acquire, without_acquire, with_address, with_sequence}
use Rattle.puller.specs.Taking.{Deed, binds, refers, logs, binds_semaphore, offsets, acquires, releases, forwards, looks_and_forwards, addresses_high, addresses_low, sequences, triggers, deed_of, done_with, saying, failed_by, looking_up, bind_to, bind_of, dma_to, dma_of, offset_of, place_of, long_place, past_end_error, tried, acquire_in, acquire_of, retry_of, forward_of, forward_object_of, Result, unwritten, release_of, high_of, low_of, long_words, long_release_of, trigger_of, act, take_of}
use Rattle.puller.specs.Promises.{Names}
use Rattle.puller.specs.declared.object.Object.{Object}
use Rattle.puller.specs.declared.record.PullerError.{PullerError}
use Rattle.puller.specs.declared.record.PullerError.TheVariants as cause
use Rattle.puller.specs.declared.record.AcquireMode.{AcquireMode}
use Rattle.puller.specs.declared.record.AcquireMode.TheVariants as mode
use Rattle.puller.specs.declared.record.Puller.{Puller}
use Rattle.puller.specs.declared.taking.Taken.{Taken}
use Rattle.puller.specs.declared.taking.Trial.{Trial}
use Rattle.puller.specs.declared.taking.Trial.TheVariants as trial
use Rattle.puller.proofs.Table.{names_found}

-- to show something of an acquire or a retry, show it past the end and of both its ways
by_trial : (P : Taken → Type 0) (p : Puller) (e : PullerError) (t : Trial) {x y : Taken} → P (failed_by p e) → P x → P y → P (tried p e t x y)
unfolding tried
by_trial P p e trial.Outside f g h = f
by_trial P p e trial.Passes f g h = g
by_trial P p e trial.Waits f g h = h

pub by_retry :
    (P : Taken → Type 0) (level : ℕ) (p : Puller) (sems : List ℕ)
    → P (failed_by p (past_end_error level p.acquire.mode))
    → P (saying (without_acquire p) kind.Acquire)
    → P (saying p kind.Wait)
    → P (retry_of level p sems)
unfolding retry_of
by_retry P level p sems f g h = by_trial P p _ _ f g h

-- the puller after a method that is done
pub data After (p : Puller) (m : Method) (t : List ℕ) : Puller → Type 0 where
  unchanged : After p m t p
  bound_last : (o : Object) → Names t m.parameter o → After p m t (with_last (with_engine p m.subchannel o.engine) o.engine)
  referred : After p m t (with_reference p m.parameter)
  semaphore_bound : (o : Object) → Names t m.parameter o → After p m t (with_dma p o.address)
  offset : (valid : Bool) → After p m t (with_offset p m.parameter valid)
  waiting : After p m t (with_acquire p true m.parameter mode.Old)
  waiting_long : (a : AcquireMode) → After p m t (with_acquire p true p.long.sequence a)
  addressed : {address : ℕ} → address < 2 ^ 40 → After p m t (with_address p address)
  sequenced : After p m t (with_sequence p m.parameter)
  forwarded : After p m t (with_last p (engine_of p m.subchannel))

-- a method fails, or fails with the binding of SOFTWARE stored, or is done; and two write
pub data Way (p : Puller) (m : Method) (l : PullerLoan) : Result → Type 0 where
  failed : (e : PullerError) → Way p m l (unwritten l.semaphores (failed_by p e))
  failed_bound : {engine : ℕ} → engine ≡ 0 → Way p m l (unwritten l.semaphores (failed_by (with_engine p m.subchannel engine) cause.EmptySubchannel))
  done : {q : Puller} (k : Kind) (x : ℕ) → After p m l.table q → Way p m l (unwritten l.semaphores (done_with q k m x))
  released : Way p m l (record { taken = done_with p kind.Release m m.parameter; memory = set l.semaphores (place_of p) m.parameter })
  released_long : Way p m l (record { taken = done_with p kind.Release m m.parameter; memory = sets l.semaphores (long_place p) (long_words p.long.sequence l.clock) })

module _ (level : ℕ) (p : Puller) (m : Method) (l : PullerLoan) where
  abbrev Unwritten : Taken → Type 0
  Unwritten t = Way p m l (unwritten l.semaphores t)

  looked_up : (f : Option Object) (next : Object → Taken) → lookup_of l.table m.parameter ≡ f → ((o : Object) → Names l.table m.parameter o → Unwritten (next o)) → Unwritten (looking_up p f next)
  unfolding looking_up
  looked_up (Some o) next e h = h o (names_found l.table m.parameter o e)
  looked_up None next e h = failed cause.NoHash

  forwards_on : (x : ℕ) → Unwritten (forward_of p m x)
  unfolding forward_of
  forwards_on x = by_test Unwritten (λ e. failed _) (λ e. done _ _ forwarded)

  acquires_in : (a : AcquireMode) (value : ℕ) → After p m l.table (with_acquire p true value a) → Unwritten (acquire_in level p m a value l.semaphores)
  unfolding acquire_in
  acquires_in a value waits = by_trial Unwritten p _ _ (failed _) (done _ _ unchanged) (done _ _ waits)

  triggered : Way p m l (trigger_of level p m l.clock l.semaphores)
  unfolding trigger_of long_release_of
  triggered =
      by_test (Way p m l) (λ e. acquires_in mode.Equal _ (waiting_long _))
      (λ e.
      by_test (Way p m l) (λ f. by_test (Way p m l) (λ g. failed _) (λ g. released_long))
      (λ f. by_test (Way p m l) (λ g. acquires_in mode.GreaterOrEqual _ (waiting_long _)) (λ g. failed _)))

  acts : (d : Deed) → Way p m l (act level p m l d)
  unfolding act bind_of bind_to dma_of dma_to offset_of acquire_of release_of forward_object_of high_of low_of
  acts binds = looked_up _ (bind_to p m) refl (λ o n. by_test Unwritten (λ e. failed_bound (eqb-true _ _ e)) (λ e. done _ _ (bound_last o n)))
  acts refers = done _ _ referred
  acts logs = done _ _ unchanged
  acts binds_semaphore = looked_up _ (dma_to level p m) refl (λ o n. by_test Unwritten (λ e. failed _) (λ e. done _ _ (semaphore_bound o n)))
  acts offsets =
      by_test Unwritten (λ b. by_test Unwritten (λ e. failed _) (λ e. done _ _ (offset _)))
      (λ b. by_test Unwritten (λ e. failed _) (λ e. by_test Unwritten (λ f. failed _) (λ f. done _ _ (offset _))))
  acts acquires = by_test Unwritten (λ e. failed _) (λ e. acquires_in mode.Old _ waiting)
  acts releases = by_test (Way p m l) (λ e. failed _) (λ e. by_test (Way p m l) (λ f. failed _) (λ f. released))
  acts forwards = forwards_on m.parameter
  acts looks_and_forwards = looked_up _ (λ (o : Object). forward_of p m o.address) refl (λ o n. forwards_on o.address)
  acts addresses_high = by_test Unwritten (λ e. failed _) (λ e. done _ _ (addressed (omega (arith, ltb-false))))
  acts addresses_low = by_test Unwritten (λ e. failed _) (λ e. done _ _ (addressed (omega arith)))
  acts sequences = done _ _ sequenced
  acts triggers = triggered

  pub goes : Way p m l (take_of level p m l)
  unfolding take_of
  goes = acts (deed_of level m.method)
