-- The promises about the object table and the puller, each under its name in specs/Promises.antt. Assumes nothing.
use Rattle.std.proofs.Common.{◌≡◌, ℕ, ◌+◌, ◌/◌, ◌%◌, ◌^◌, ◌<◌, ◌≤◌, Bool, true, false, ◌⊎◌, ◌↔◌, List, [], ◌∷◌, map, length, sym, refl, ap, ◌∙◌, inl, inr, ⊎_elim, arith}
use mathlib.Core.Bool.{false≢true}
use mathlib.Core.Logic.{by_cases}
use native.Mathlib.Decide.{ℕ_discrete, dec_lt}
use Rattle.word.specs.declared.setting.Level.{Level}
use Rattle.word.specs.First.{choose}
use Rattle.word.proofs.First.{one_outcome}
use Rattle.word.proofs.Tests.{not_plain, equal_plain}
use Rattle.event.specs.Event.{values}
use Rattle.event.specs.declared.Kind.{Kind}
use Rattle.event.specs.declared.Kind.TheVariants as kind
use Rattle.event.specs.declared.Method.{Method}
use Rattle.puller.specs.Loan.{PullerLoan}
use Rattle.puller.specs.Record.{number, halts}
use Rattle.puller.specs.Taking.{passes_in, binds, refers, logs, binds_semaphore, offsets, acquires, releases, forwards, looks_and_forwards, addresses_high, addresses_low, sequences, triggers, done_with, failed_by, Result, unwritten, retry_of, release_of, address_of, trigger_of, act, past_end_error}
use Rattle.puller.specs.Outcomes.{Takes}
use Rattle.puller.specs.Promises.{Looks, FirstRepeat, Names, Ready, Inside, word_in, Unnamed, engine_at, IsLong, LongInside, long_word_in, Passes, AsksFor, Setters, telling, Leaves, Fails, LongSentences, Sentences, Pulls, RetrySentences, Retrying, NoOther, Compared, comparisons, SaysSo, Each, Signed, Errors, Lends, One}
use Rattle.puller.specs.declared.object.Object.{Object}
use Rattle.puller.specs.declared.record.PullerError.{PullerError}
use Rattle.puller.specs.declared.record.AcquireMode.{AcquireMode}
use Rattle.puller.specs.declared.record.AcquireMode.TheVariants as mode
use Rattle.puller.specs.declared.record.Puller.{Puller}
use Rattle.puller.specs.declared.taking.Taken.{Taken}
use Rattle.puller.proofs.Table.{named_is, unnamed_is, names_found, names_nothing, named_or_not, repeat_is, repeat_nothing}
use Rattle.puller.proofs.Leaving.{done_leaves, says_leaves, failed_fails, leaves_one, fails_one}
use Rattle.puller.proofs.Answers.{object_values_lem, nothing_values, object_told, nothing_told, entry_values, none_values, entry_told, none_told}
use Rattle.puller.proofs.Causes.{error_numbered}
use Rattle.puller.proofs.Deeds.{none_beyond, numbered, logs_at, no_effect_at, looks_at, forwards_at}
use Rattle.puller.proofs.Sentences.{taken_as, unfit_or_not, bind_none, dma_none, object_none, bind_is, bind_software_is, dma_unfit_is, dma_is, object_is, offset_outside_is, offset_below_4_is, offset_unaligned_is, offset_too_large_is, offset_from_4_is, ready_or_not, past_end_is, past_end_of, passes_is, passes_or_not, tried_past, tried_passes, tried_waits, old_placed, acquire_unready, release_unready, acquire_past, release_past, acquire_is, wait_is, release_is, forward_software_is, forward_is}
use Rattle.puller.proofs.Long.{high_too_large_is, high_is, low_unaligned_is, low_is, release_asked, none_asked, acquire_asked, long_mode, long_placed, long_past, long_acquire_past, long_acquire_is, long_wait_is, written_one, long_release_past, long_release_is, long_release_writes}

pub looks : Looks
looks =
    record {
      named = λ t h o r f n. object_values_lem o (f ∙ named_is t h o n);
      unnamed = λ t h r f n. nothing_values (f ∙ unnamed_is t h n);
      always = λ t h o r f e v. names_found t h o (sym f ∙ object_told r o e v);
      never = λ t h r f e. names_nothing t h (sym f ∙ nothing_told r e);
    }

pub first_repeat : FirstRepeat
first_repeat =
    record {
      entry = λ t i r f. (λ e. (repeat_is t i).0 (sym f ∙ entry_told r i e.0 e.1), λ h. entry_values i (f ∙ (repeat_is t i).1 h));
      nothing = λ t r f. (λ e. (repeat_nothing t).0 (sym f ∙ none_told r e), λ h. none_values (f ∙ (repeat_nothing t).1 h));
    }

-- the two methods that may write: answer and memory from one equation
by_release :
    {level : Level} {p : Puller} {m : Method} {l : PullerLoan} {r : Taken} {exit : List ℕ}
    → Takes level p m l r exit
    → m.method ≡ 0x6c
    → {x : Result}
    → release_of level.number p m l.semaphores ≡ x
    → (r ≡ x.taken) × (exit ≡ x.memory)
unfolding act
by_release k e f = taken_as releases k ((numbered _ _).release e) (ap (λ (x : Result). x.taken) f) (ap (λ (x : Result). x.memory) f)

by_trigger :
    {level : Level} {p : Puller} {m : Method} {l : PullerLoan} {r : Taken} {exit : List ℕ}
    → Takes level p m l r exit
    → 5 ≤ level.number
    → m.method ≡ 0x1c
    → {x : Result}
    → trigger_of level.number p m l.clock l.semaphores ≡ x
    → (r ≡ x.taken) × (exit ≡ x.memory)
unfolding act
by_trigger k v e f = taken_as triggers k ((numbered _ _).trigger v e) (ap (λ (x : Result). x.taken) f) (ap (λ (x : Result). x.memory) f)

-- what an answer is and leaves in the memory, in the statements' terms
leaving :
    {q : Puller} {k : Kind} (m : Method) {x : ℕ} {r : Taken} {exit memory : List ℕ}
    → (r ≡ done_with q k m x) × (exit ≡ memory)
    → Leaves q (telling k m x) r × (exit ≡ memory)
leaving m h = (done_leaves m h.0, h.1)

stopping :
    {p : Puller} {e : PullerError} {r : Taken} {exit memory : List ℕ}
    → (r ≡ failed_by p e) × (exit ≡ memory)
    → Fails p e r × (exit ≡ memory)
stopping h = (failed_fails h.0, h.1)

-- the sentences of long semaphores
pub long_pulls : LongSentences Takes
unfolding act
long_pulls =
    record {
      high_too_large = λ level p m l exit r k v e h. stopping (taken_as addresses_high k ((numbered _ _).high v e) (high_too_large_is p m h) refl);
      high = λ level p m l exit address r k v e h high low. leaving m (taken_as addresses_high k ((numbered _ _).high v e) (high_is p m address h high low) refl);
      low_unaligned = λ level p m l exit r k v e n. stopping (taken_as addresses_low k ((numbered _ _).low v e) (low_unaligned_is p m n) refl);
      low = λ level p m l exit address r k v e h low high. leaving m (taken_as addresses_low k ((numbered _ _).low v e) (low_is p m address h low high) refl);
      sequence = λ level p m l exit r k v e. leaving m (taken_as sequences k ((numbered _ _).sequence v e) refl refl);
      no_operation = λ level p m l exit r k v e a b c. stopping (by_trigger k v e (none_asked _ p m _ l.semaphores a b c));
      release_past_end = λ level p m l exit r k v e two past.
          stopping
          (by_trigger k v e (release_asked _ p m _ l.semaphores two ∙ long_release_past p m l.clock l.semaphores past));
      release = λ level p m l exit r k v e two room.
          let x = by_trigger k v e (release_asked _ p m _ l.semaphores two ∙ long_release_is p m l.clock l.semaphores room) in
          (done_leaves m x.0, rw x.1 (long_release_writes p m l.clock l.semaphores room));
      acquire_past_end = λ level p m l exit a r k v e asked past.
          stopping
          (by_trigger k v e
          (acquire_asked _ p m _ l.semaphores a asked
          ∙ ap (unwritten l.semaphores) (long_acquire_past level.number p m a (long_mode _ a asked) _ l.semaphores past)));
      acquire = λ level p m l exit a r k v e asked inside passes.
          leaving m
          (by_trigger k v e
          (acquire_asked _ p m _ l.semaphores a asked
          ∙ ap (unwritten l.semaphores) (long_acquire_is level.number p m a (long_mode _ a asked) _ l.semaphores inside passes)));
      wait = λ level p m l exit a r k v e asked inside other.
          leaving m
          (by_trigger k v e
          (acquire_asked _ p m _ l.semaphores a asked
          ∙ ap (unwritten l.semaphores) (long_wait_is level.number p m a (long_mode _ a asked) _ l.semaphores inside other)));
    }

pub pulls : Pulls
unfolding act
pulls =
    record {
      bind = λ level p m l exit o r k e n some. leaving m (taken_as binds k ((numbered _ _).bind e) (bind_is p m l.table o n some) refl);
      bind_software = λ level p m l exit o r k e n z. stopping (taken_as binds k ((numbered _ _).bind e) (bind_software_is p m l.table o n z) refl);
      no_hash = λ level p m l exit r k s n.
          stopping
          (⊎_elim (λ e. taken_as binds k ((numbered _ _).bind e) (bind_none p m l.table n) refl)
          (λ s.
          ⊎_elim (λ e. taken_as binds_semaphore k ((numbered _ _).dma e) (dma_none p m l.table n _) refl)
          (λ h. taken_as looks_and_forwards k (looks_at _ _ h.0 h.1) (object_none p m l.table n) refl) s)
          s);
      ref = λ level p m l exit r k e. leaving m (taken_as refers k ((numbered _ _).ref e) refl refl);
      event = λ level p m l exit r k s. leaving m (taken_as logs k (logs_at _ _ s) refl refl);
      unnamed = λ level p m l exit r k u.
          leaving m
          (taken_as logs k
          (no_effect_at _ _ u.special u.not_bind u.not_ref u.not_dma u.not_offset u.not_acquire u.not_release (λ h. none_beyond _ u.not_logged h.1)) refl refl);
      dma_unfit = λ level p m l exit o r k e n u. stopping (taken_as binds_semaphore k ((numbered _ _).dma e) (dma_unfit_is p m l.table o n level u) refl);
      dma = λ level p m l exit o r k e n u. leaving m (taken_as binds_semaphore k ((numbered _ _).dma e) (dma_is p m l.table o n level u) refl);
      offset_outside = λ level p m l exit r k e v s. stopping (taken_as offsets k ((numbered _ _).offset e) (offset_outside_is level p m v s) refl);
      offset_below_4 = λ level p m l exit r k e v a b. leaving m (taken_as offsets k ((numbered _ _).offset e) (offset_below_4_is level p m v a b) refl);
      offset_unaligned = λ level p m l exit r k e v n. stopping (taken_as offsets k ((numbered _ _).offset e) (offset_unaligned_is level p m v n) refl);
      offset_too_large = λ level p m l exit r k e v a n. stopping (taken_as offsets k ((numbered _ _).offset e) (offset_too_large_is level p m v a n) refl);
      offset_from_4 = λ level p m l exit r k e v a b. leaving m (taken_as offsets k ((numbered _ _).offset e) (offset_from_4_is level p m v a b) refl);
      unready = λ level p m l exit r k s u.
          stopping
          (⊎_elim (λ e. taken_as acquires k ((numbered _ _).acquire e) (acquire_unready level p m l.semaphores u) refl)
          (λ e. by_release k e (release_unready level p m l.semaphores u)) s);
      past_end = λ level p m l exit error r k s ready h.
          stopping
          (⊎_elim (λ e. taken_as acquires k ((numbered _ _).acquire e) (acquire_past level p m l.semaphores ready error h) refl)
          (λ e. by_release k e (release_past level p m l.semaphores ready error h)) s);
      acquire = λ level p m l exit r k e ready inside same.
          leaving m
          (taken_as acquires k ((numbered _ _).acquire e) (acquire_is level p m l.semaphores ready inside same) refl);
      wait = λ level p m l exit r k e ready inside other.
          leaving m
          (taken_as acquires k ((numbered _ _).acquire e) (wait_is level p m l.semaphores ready inside other) refl);
      release = λ level p m l exit r k e ready inside. leaving m (by_release k e (release_is level p m l.semaphores ready inside));
      forward_software = λ level p m l exit r k v s z. stopping (taken_as forwards k (forwards_at _ _ v s) (forward_software_is p m _ z) refl);
      forward = λ level p m l exit r k v s n. leaving m (taken_as forwards k (forwards_at _ _ v s) (forward_is p m _ n) refl);
      object_software = λ level p m l exit o r k v h n z.
          stopping
          (taken_as looks_and_forwards k (looks_at _ _ v h) (object_is p m l.table o n ∙ forward_software_is p m _ z) refl);
      object = λ level p m l exit o r k v h n some.
          leaving m
          (taken_as looks_and_forwards k (looks_at _ _ v h) (object_is p m l.table o n ∙ forward_is p m _ some) refl);
      long = long_pulls;
    }

-- a method of 0x10 to 0x24, or outside
logged_or_not : (m : ℕ) → ((0x10 ≤ m) × (m ≤ 0x24)) ⊎ (m < 0x10) ⊎ (0x24 < m)
logged_or_not m =
    by_cases (dec_lt m 0x10) (λ l. inr (inl l)) (λ n. by_cases (dec_lt 0x24 m) (λ l. inr (inr l)) (λ o. inl (omega arith, omega arith)))

abbrev Relation : Type 1
Relation = Level → Puller → Method → PullerLoan → Taken → List ℕ → Type 0

-- No case is left open: at each a sentence applies, and it says the same of R and of `take`.
module _ (R : Relation) (h : Sentences R) (level : Level) (p : Puller) (m : Method) (l : PullerLoan) (exit : List ℕ) (r : Taken) (k : R level p m l r exit) where
  abbrev Agrees : Type 0
  Agrees = Takes level p m l r exit

  -- the sentence is written once, for any relation that the sentences hold of; no two answers, and no two memories, are as it says
  said :
      (Says : Taken → Type 0) (Writes : List ℕ → Type 0)
      → ((a b : Taken) → Says a → Says b → a ≡ b)
      → ((a b : List ℕ) → Writes a → Writes b → a ≡ b)
      → ((Q : Relation) → Sentences Q → (a : Taken) (b : List ℕ) → Q level p m l a b → Says a × Writes b)
      → Agrees
  said Says Writes one same f =
      let this = f R h r exit k in
      let other = f Takes pulls _ _ (record { answer = refl; memory = refl }) in
      record { answer = one _ _ this.0 other.0; memory = same _ _ this.1 other.1 }

  said_done :
      {q : Puller} {values : List ℕ} {y : List ℕ}
      → ((Q : Relation) → Sentences Q → (a : Taken) (b : List ℕ) → Q level p m l a b → Leaves q values a × (b ≡ y))
      → Agrees
  said_done {q} {values} {y} f = said (Leaves q values) (λ b. b ≡ y) (λ a b. leaves_one) (λ a b. one_outcome) f

  said_failed :
      {q : Puller} {e : PullerError} {y : List ℕ}
      → ((Q : Relation) → Sentences Q → (a : Taken) (b : List ℕ) → Q level p m l a b → Fails q e a × (b ≡ y))
      → Agrees
  said_failed {q} {e} {y} f = said (Fails q e) (λ b. b ≡ y) (λ a b. fails_one) (λ a b. one_outcome) f

  -- a method whose parameter is looked up: 0x00, 0x60, 0x180 to 0x1fc
  looked_up : ((m.method ≡ 0x00) ⊎ (m.method ≡ 0x60) ⊎ ((0x180 ≤ m.method) × (m.method ≤ 0x1fc))) → ((o : Object) → Names l.table m.parameter o → Agrees) → Agrees
  looked_up s named =
      ⊎_elim (λ x. named x.0 x.1) (λ none. said_failed (λ Q q a b k. q.no_hash level p m l b a k s none)) (named_or_not l.table m.parameter)

  bound : m.method ≡ 0x00 → Agrees
  bound e =
      looked_up (inl e)
      (λ o n.
      by_cases (ℕ_discrete o.engine 0) (λ z. said_failed (λ Q q a b k. q.bind_software level p m l b o a k e n z))
      (λ some. said_done (λ Q q a b k. q.bind level p m l b o a k e n some)))

  semaphore_bound_lem : m.method ≡ 0x60 → Agrees
  semaphore_bound_lem e =
      looked_up (inr (inl e))
      (λ o n.
      ⊎_elim (λ u. said_failed (λ Q q a b k. q.dma_unfit level p m l b o a k e n u))
      (λ u. said_done (λ Q q a b k. q.dma level p m l b o a k e n u)) (unfit_or_not level o))

  object_forwarded : 0x180 ≤ m.method → m.method ≤ 0x1fc → Agrees
  object_forwarded v g =
      looked_up (inr (inr (v, g)))
      (λ o n.
      by_cases (ℕ_discrete (engine_at p m.subchannel) 0) (λ z. said_failed (λ Q q a b k. q.object_software level p m l b o a k v g n z))
      (λ some. said_done (λ Q q a b k. q.object level p m l b o a k v g n some)))

  forwarded : 0x100 ≤ m.method → ((m.method < 0x180) ⊎ (0x1fc < m.method)) → Agrees
  forwarded v s =
      by_cases (ℕ_discrete (engine_at p m.subchannel) 0) (λ z. said_failed (λ Q q a b k. q.forward_software level p m l b a k v s z))
      (λ some. said_done (λ Q q a b k. q.forward level p m l b a k v s some))

  -- an offset, by the level and the parameter's bits
  offset_taken : m.method ≡ 0x64 → Agrees
  offset_taken e = by_cases (dec_lt level.number 4) below_4 (λ n. from_4 (omega arith))
    where
      below_4 : level.number < 4 → Agrees
      below_4 v =
          by_cases (ℕ_discrete (m.parameter % 4) 0)
          (λ low.
          by_cases (ℕ_discrete (m.parameter / 2 ^ 12 % 2 ^ 20) 0) (λ high. said_done (λ Q q a b k. q.offset_below_4 level p m l b a k e v low high))
          (λ high. said_failed (λ Q q a b k. q.offset_outside level p m l b a k e v (inr high))))
          (λ low. said_failed (λ Q q a b k. q.offset_outside level p m l b a k e v (inl low)))

      from_4 : 4 ≤ level.number → Agrees
      from_4 v =
          by_cases (ℕ_discrete (m.parameter % 4) 0)
          (λ low.
          by_cases (ℕ_discrete (m.parameter / 2 ^ 16 % 2 ^ 16) 0) (λ high. said_done (λ Q q a b k. q.offset_from_4 level p m l b a k e v low high))
          (λ high. said_failed (λ Q q a b k. q.offset_too_large level p m l b a k e v low high)))
          (λ low. said_failed (λ Q q a b k. q.offset_unaligned level p m l b a k e v low))

  -- an acquire or a release, where there is a word for it
  accessed : ((m.method ≡ 0x68) ⊎ (m.method ≡ 0x6c)) → (Ready level p → Inside p l.semaphores → Agrees) → Agrees
  accessed s there =
      ⊎_elim (λ u. said_failed (λ Q q a b k. q.unready level p m l b a k s u))
      (λ ready.
      by_cases (dec_lt (p.semaphore.offset / 4) (length l.semaphores)) (there ready)
      (λ n. said_failed (λ Q q a b k. q.past_end level p m l b (past_end_error level.number mode.Old) a k s ready (past_end_of level p l.semaphores (omega arith)))))
      (ready_or_not level p)

  acquired : m.method ≡ 0x68 → Agrees
  acquired e =
      accessed (inl e)
      (λ ready inside.
      by_cases (ℕ_discrete (word_in p l.semaphores) m.parameter) (λ same. said_done (λ Q q a b k. q.acquire level p m l b a k e ready inside same))
      (λ other. said_done (λ Q q a b k. q.wait level p m l b a k e ready inside other)))

  released : m.method ≡ 0x6c → Agrees
  released e = accessed (inr e) (λ ready inside. said_done (λ Q q a b k. q.release level p m l b a k e ready inside))

  -- the methods of long semaphores
  module _ (v : 5 ≤ level.number) where
    high_taken : m.method ≡ 0x10 → Agrees
    high_taken e =
        by_cases (dec_lt 255 m.parameter) (λ h. said_failed (λ Q q a b k. q.long.high_too_large level p m l b a k v e h))
        (λ n.
        said_done
        (λ Q q a b k. q.long.high level p m l b (address_of m.parameter (p.long.address % 2 ^ 32)) a k v e (omega arith) (omega arith) (omega arith)))

    low_taken : m.method ≡ 0x14 → Agrees
    low_taken e =
        by_cases (ℕ_discrete (m.parameter % 4) 0)
        (λ h.
        said_done
        (λ Q q a b k. q.long.low level p m l b (address_of (p.long.address / 2 ^ 32 % 2 ^ 8) (m.parameter % 2 ^ 32)) a k v e h (omega arith) (omega arith)))
        (λ n. said_failed (λ Q q a b k. q.long.low_unaligned level p m l b a k v e n))

    module _ (e : m.method ≡ 0x1c) where
      long_acquired : (a : AcquireMode) → AsksFor m.parameter a → Agrees
      long_acquired mode asked =
          by_cases (dec_lt (p.long.address / 4) (length l.semaphores))
          (λ inside.
          ⊎_elim (λ passes. said_done (λ Q q a b k. q.long.acquire level p m l b mode a k v e asked inside passes))
          (λ other. said_done (λ Q q a b k. q.long.wait level p m l b mode a k v e asked inside other))
          (passes_or_not mode (long_word_in p l.semaphores) p.long.sequence))
          (λ n. said_failed (λ Q q a b k. q.long.acquire_past_end level p m l b mode a k v e asked (omega arith)))

      long_released : m.parameter ≡ 2 → Agrees
      long_released two =
          by_cases (dec_lt (p.long.address / 4 + 3) (length l.semaphores))
          (λ room. said _ _ (λ a b. leaves_one) (λ a b. written_one _ _ _ _ _ _) (λ Q q a b k. q.long.release level p m l b a k v e two room))
          (λ n. said_failed (λ Q q a b k. q.long.release_past_end level p m l b a k v e two (omega arith)))

      triggered : Agrees
      triggered =
          by_cases (ℕ_discrete m.parameter 1) (λ one. long_acquired mode.Equal (inl (one, refl)))
          (λ n1.
          by_cases (ℕ_discrete m.parameter 2) long_released
          (λ n2.
          by_cases (ℕ_discrete m.parameter 4) (λ four. long_acquired mode.GreaterOrEqual (inr (four, refl)))
          (λ n4. said_failed (λ Q q a b k. q.long.no_operation level p m l b a k v e n1 n2 n4))))

  -- 0x10 to 0x24
  logged : 0x10 ≤ m.method → m.method ≤ 0x24 → Agrees
  logged h t =
      let told : (IsLong level m → ⊥) → Agrees = λ n. said_done (λ Q q a b k. q.event level p m l b a k (inr (h, t, n))) in
      by_cases (dec_lt level.number 5) (λ below. told (λ x. omega (arith, x.0)))
      (λ from.
      by_cases (ℕ_discrete m.method 0x10) (high_taken (omega arith))
      (λ not_high.
      by_cases (ℕ_discrete m.method 0x14) (low_taken (omega arith))
      (λ not_low.
      by_cases (ℕ_discrete m.method 0x18) (λ e. said_done (λ Q q a b k. q.long.sequence level p m l b a k (omega arith) e))
      (λ not_sequence.
      by_cases (ℕ_discrete m.method 0x1c) (triggered (omega arith))
      (λ not_trigger. told (λ x. ⊎_elim not_high (λ s. ⊎_elim not_low (λ s. ⊎_elim not_sequence not_trigger s) s) x.1))))))

  -- below 0x100 each method that has a sentence of its own, and the others; above, the range that is looked up
  special : m.method < 0x100 → Agrees
  special v =
      by_cases (ℕ_discrete m.method 0x00) bound
      (λ not_bind.
      by_cases (ℕ_discrete m.method 0x50) (λ e. said_done (λ Q q a b k. q.ref level p m l b a k e))
      (λ not_ref.
      by_cases (ℕ_discrete m.method 0x60) semaphore_bound_lem
      (λ not_dma.
      by_cases (ℕ_discrete m.method 0x64) offset_taken
      (λ not_offset.
      by_cases (ℕ_discrete m.method 0x68) acquired
      (λ not_acquire.
      by_cases (ℕ_discrete m.method 0x6c) released
      (λ not_release.
      by_cases (ℕ_discrete m.method 0x80) (λ e. said_done (λ Q q a b k. q.event level p m l b a k (inl e)))
      (λ not_yield.
      ⊎_elim (λ e. logged e.0 e.1)
      (λ s.
      let u : Unnamed m.method = record { special = v; not_bind = not_bind; not_ref = not_ref; not_dma = not_dma; not_offset = not_offset; not_acquire = not_acquire; not_release = not_release; not_yield = not_yield; not_logged = s } in
      said_done (λ Q q a b k. q.unnamed level p m l b a k u)) (logged_or_not m.method))))))))

  ordinary : 0x100 ≤ m.method → Agrees
  ordinary v =
      by_cases (dec_lt m.method 0x180) (λ b. forwarded v (inl b))
      (λ n. by_cases (dec_lt 0x1fc m.method) (λ a. forwarded v (inr a)) (λ o. object_forwarded (omega arith) (omega arith)))

pub retrying : Retrying
unfolding retry_of
retrying =
    record {
      past_end = λ level p sems e r k old h.
          failed_fails
          (k
          ∙ tried_past p _ p.acquire.mode (old_placed p _ old) p.acquire.value sems _ _ h.past
          ∙ ap (failed_by p) (ap (past_end_error level.number) old ∙ past_end_is level p sems e h));
      equal = λ level p sems r k old inside same.
          says_leaves
          (k
          ∙ tried_passes p _ p.acquire.mode (old_placed p _ old) p.acquire.value sems _ _ inside (rw old same));
      unequal = λ level p sems r k old inside other.
          says_leaves
          (k
          ∙ tried_waits p _ p.acquire.mode (old_placed p _ old) p.acquire.value sems _ _ inside (rw old other));
      long_past_end = λ level p sems r k long h.
          failed_fails
          (k
          ∙ tried_past p _ p.acquire.mode (long_placed p _ long) p.acquire.value sems _ _ h
          ∙ ap (failed_by p) (long_past level.number _ long));
      long_passes = λ level p sems r k long inside passes.
          says_leaves
          (k
          ∙ tried_passes p _ p.acquire.mode (long_placed p _ long) p.acquire.value sems _ _ inside passes);
      long_waits = λ level p sems r k long inside other.
          says_leaves
          (k
          ∙ tried_waits p _ p.acquire.mode (long_placed p _ long) p.acquire.value sems _ _ inside other);
    }

-- a mode is old, or another
old_or_long : (a : AcquireMode) → (a ≡ mode.Old) ⊎ (a ≡ mode.Old → ⊥)
old_or_long mode.Old = inl refl
old_or_long mode.Equal = inr (λ e. let z : ◌≡◌ {A = ℕ} 0 1 = cc in omega arith)
old_or_long mode.GreaterOrEqual = inr (λ e. let z : ◌≡◌ {A = ℕ} 0 1 = cc in omega arith)

-- and of a retry: past the end, and inside by the comparison, in either kind of mode
module _ (R : Level → Puller → List ℕ → Taken → Type 0) (h : RetrySentences R) (level : Level) (p : Puller) (sems : List ℕ) (r : Taken) (k : R level p sems r) where
  abbrev again : Taken
  again = retry_of level.number p sems

  old_compared : p.acquire.mode ≡ mode.Old → Inside p sems → r ≡ again
  old_compared old inside =
      by_cases (ℕ_discrete (word_in p sems) p.acquire.value)
      (λ same. leaves_one (h.equal level p sems r k old inside same) (retrying.equal level p sems again refl old inside same))
      (λ other. leaves_one (h.unequal level p sems r k old inside other) (retrying.unequal level p sems again refl old inside other))

  old_retried : p.acquire.mode ≡ mode.Old → r ≡ again
  old_retried old =
      by_cases (dec_lt (p.semaphore.offset / 4) (length sems)) (old_compared old)
      (λ n.
      let past = past_end_of level p sems (omega arith) in
      fails_one (h.past_end level p sems _ r k old past) (retrying.past_end level p sems _ again refl old past))

  module _ (long : p.acquire.mode ≡ mode.Old → ⊥) where
    long_compared : LongInside p sems → r ≡ again
    long_compared inside =
        ⊎_elim (λ passes. leaves_one (h.long_passes level p sems r k long inside passes) (retrying.long_passes level p sems again refl long inside passes))
        (λ other. leaves_one (h.long_waits level p sems r k long inside other) (retrying.long_waits level p sems again refl long inside other))
        (passes_or_not p.acquire.mode (long_word_in p sems) p.acquire.value)

    long_retried : r ≡ again
    long_retried =
        by_cases (dec_lt (p.long.address / 4) (length sems)) long_compared
        (λ n. fails_one (h.long_past_end level p sems r k long (omega arith)) (retrying.long_past_end level p sems again refl long (omega arith)))

  retried : r ≡ again
  retried = ⊎_elim old_retried long_retried (old_or_long p.acquire.mode)

pub no_other : NoOther
no_other =
    record {
      take = λ R h level p m l exit r k.
          by_cases (dec_lt m.method 0x100) (special R h level p m l exit r k) (λ n. ordinary R h level p m l exit r k (omega arith));
      retry = retried;
    }

-- a row of the comparisons, by the test that is computed of it
unfoldable compared_as : Compared → Kind
compared_as x = choose (passes_in mode.GreaterOrEqual x.word x.sequence) kind.Acquire kind.Wait

module _ (x : Compared) (level : Level) (p : Puller) (m : Method) (l : PullerLoan) (exit : List ℕ) (r : Taken) (k : Takes level p m l r exit) (v : 5 ≤ level.number) (e : m.method ≡ 0x1c) (four : m.parameter ≡ 4) (inside : LongInside p l.semaphores) (w : long_word_in p l.semaphores ≡ x.word) (s : p.long.sequence ≡ x.sequence) where
  row_says : values r.event ≡ telling (compared_as x) m 4
  unfolding compared_as choose
  row_says = go (passes_in mode.GreaterOrEqual x.word x.sequence) refl
    where
      plain : passes_in mode.GreaterOrEqual x.word x.sequence ≡ true ↔ Passes mode.GreaterOrEqual (long_word_in p l.semaphores) p.long.sequence
      plain = rw (w, s) (passes_is mode.GreaterOrEqual x.word x.sequence)

      go : (b : Bool) → passes_in mode.GreaterOrEqual x.word x.sequence ≡ b → values r.event ≡ telling (choose b kind.Acquire kind.Wait) m 4
      go true t = (long_pulls.acquire level p m l exit mode.GreaterOrEqual r k v e (inr (four, refl)) inside (plain.0 t)).0.event ∙ ap (telling kind.Acquire m) four
      go false t =
          (long_pulls.wait level p m l exit mode.GreaterOrEqual r k v e (inr (four, refl)) inside (λ h. false≢true (sym t ∙ plain.1 h))).0.event
          ∙ ap (telling kind.Wait m) four

says_so : (xs : List Compared) → map compared_as xs ≡ map (λ (x : Compared). x.says) xs → Each SaysSo xs
says_so [] e = tt
says_so (x ∷ xs) e =
    let this : compared_as x ≡ x.says = cc in
    let others : map compared_as xs ≡ map (λ (x : Compared). x.says) xs = cc in
    (λ level p m l exit r k v e four inside w s. row_says x level p m l exit r k v e four inside w s ∙ ap (λ (k : Kind). telling k m 4) this, says_so xs others)

pub signed : Signed
unfolding compared_as passes_in choose
signed = says_so comparisons refl

-- the setters are written out
pub setters : Setters
setters =
    record {
      engine = λ p s e. refl;
      last = λ p e. refl;
      reference = λ p x. refl;
      dma = λ p a. refl;
      offset = λ p x valid. refl;
      acquire = λ p active value a. refl;
      no_acquire = λ p. refl;
      address = λ p a. refl;
      sequence = λ p x. refl;
    }

pub errors : Errors
unfolding halts
errors =
    record {
      numbers = error_numbered;
      stopped = λ p a h. rw h (not_plain _ (equal_plain (number p.error) 0));
    }

pub lends : Lends
lends t sems clock = refl

pub one : One
one =
    record {
      lookup = λ t h a b x y. one_outcome x y;
      first_repeat = λ t a b x y. one_outcome x y;
      number = λ e a b x y. one_outcome x y;
      stopped = λ p a b x y. one_outcome x y;
      take = λ level p m l a b v w x y. (one_outcome x.answer y.answer, one_outcome x.memory y.memory);
      retry = λ level p sems a b x y. one_outcome x y;
    }
