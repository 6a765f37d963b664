-- What neither the clock nor the long semaphore has a part in. Assumes nothing.
use Rattle.std.proofs.Common.{◌≡◌, ℕ, ◌+◌, ◌<◌, ◌≤◌, Bool, true, false, ◌&&◌, leb, List, sym, refl, ap, ◌∙◌, arith, leb-true}
use Rattle.std.specs.Prelude.{Option, Some, None}
use mathlib.Core.Logic.{by_cases}
use native.Mathlib.Decide.{ℕ_discrete}
use Rattle.word.specs.First.{choose}
use Rattle.word.proofs.First.{by_test}
use Rattle.word.proofs.Tests.{both}
use Rattle.event.specs.declared.Method.{Method}
use Rattle.puller.specs.Loan.{PullerLoan, to_puller}
use Rattle.puller.specs.Record.{with_long}
use Rattle.puller.specs.Taking.{Deed, binds, refers, logs, binds_semaphore, offsets, acquires, releases, forwards, looks_and_forwards, addresses_high, addresses_low, sequences, triggers, rows, deed_in, deed_of, looking_up, bind_to, bind_of, dma_to, dma_of, offset_of, unready_at, long_place, place_in, is_past, trial_of, tried, acquire_in, acquire_of, retry_of, forward_of, forward_object_of, Result, unwritten, release_of, long_release_of, trigger_of, act, take_of}
use Rattle.puller.specs.Promises.{ButLong, ButClock, SameButLong, Apart}
use Rattle.puller.specs.declared.object.Object.{Object}
use Rattle.puller.specs.declared.record.LongSemaphore.{LongSemaphore}
use Rattle.puller.specs.declared.record.AcquireMode.{AcquireMode}
use Rattle.puller.specs.declared.record.AcquireMode.TheVariants as mode
use Rattle.puller.specs.declared.record.PullerError.{PullerError}
use Rattle.puller.specs.declared.record.Puller.{Puller}
use Rattle.puller.specs.declared.taking.Taken.{Taken}
use Rattle.puller.specs.declared.taking.Trial.{Trial}
use Rattle.puller.specs.declared.taking.Trial.TheVariants as trial
use Rattle.puller.proofs.Long.{equal_asked, release_asked, at_least_asked, none_asked}

-- what a deed of long semaphores tells of the level and the method
abbrev Known : ℕ → ℕ → Deed → Type 0
Known level m binds = Unit {0}
Known level m refers = Unit {0}
Known level m logs = Unit {0}
Known level m binds_semaphore = Unit {0}
Known level m offsets = Unit {0}
Known level m acquires = Unit {0}
Known level m releases = Unit {0}
Known level m forwards = Unit {0}
Known level m looks_and_forwards = Unit {0}
Known level m addresses_high = (5 ≤ level) × (m ≡ 0x10)
Known level m addresses_low = (5 ≤ level) × (m ≡ 0x14)
Known level m sequences = (5 ≤ level) × (m ≡ 0x18)
Known level m triggers = (5 ≤ level) × (m ≡ 0x1c)

module _ (level m : ℕ) where
  from_5 : (k : ℕ) → ((leb k m && leb m k) && leb 5 level) ≡ true → (5 ≤ level) × (m ≡ k)
  from_5 k t =
      let x = both (leb k m && leb m k) (leb 5 level) t in
      let y = both (leb k m) (leb m k) x.0 in
      (leb-true 5 level x.1, omega (arith, leb-true k m y.0, leb-true m k y.1))

  known : Known level m (deed_of level m)
  unfolding deed_of deed_in rows
  known =
      let K = Known level m in
      by_test K (λ t. tt) (λ _. by_test K (λ t. tt) (λ _. by_test K (λ t. tt) (λ _. by_test K (from_5 0x10) (λ _. by_test K (from_5 0x14) (λ _. by_test K (from_5 0x18) (λ _. by_test K (from_5 0x1c) (λ _. by_test K (λ t. tt) (λ _. by_test K (λ t. tt) (λ _. by_test K (λ t. tt) (λ _. by_test K (λ t. tt) (λ _. by_test K (λ t. tt) (λ _. by_test K (λ t. tt) (λ _. by_test K (λ t. tt) (λ t. tt))))))))))))))

-- the answer of one of two
choose_taken : (t : Bool) (a b x y : Result) → a.taken ≡ x.taken → b.taken ≡ y.taken → (choose t a b).taken ≡ (choose t x y).taken
unfolding choose
choose_taken true a b x y e f = e
choose_taken false a b x y e f = f

abbrev taken : Result → Taken
taken o = o.taken

abbrev memory : Result → List ℕ
memory o = o.memory

-- two clocks
module _ (level : ℕ) (p : Puller) (m : Method) (t sems : List ℕ) (u v : ℕ) where
  -- a trigger that doesn't release is the same, and of one that does the answer
  same_trigger : (m.parameter ≡ 2 → ⊥) → trigger_of level p m u sems ≡ trigger_of level p m v sems
  same_trigger n =
      by_cases (ℕ_discrete m.parameter 1) (λ e. equal_asked level p m u sems e ∙ sym (equal_asked level p m v sems e))
      (λ n1.
      by_cases (ℕ_discrete m.parameter 4) (λ e. at_least_asked level p m u sems e ∙ sym (at_least_asked level p m v sems e))
      (λ n4. none_asked level p m u sems n1 n n4 ∙ sym (none_asked level p m v sems n1 n n4)))

  same_answer : (trigger_of level p m u sems).taken ≡ (trigger_of level p m v sems).taken
  unfolding long_release_of
  same_answer =
      by_cases (ℕ_discrete m.parameter 2)
      (λ e.
      ap taken (release_asked level p m u sems e)
      ∙ choose_taken (is_past (long_place p + 3) sems) _ _ _ _ refl refl
      ∙ sym (ap taken (release_asked level p m v sems e)))
      (λ n. ap taken (same_trigger n))

  -- what is so of a result beside itself, and of the trigger's two, is so of what any deed leaves with either clock
  by_clock :
      (P : Result → Result → Type 0)
      → ((o : Result) → P o o)
      → (Known level m.method triggers → P (trigger_of level p m u sems) (trigger_of level p m v sems))
      → (d : Deed)
      → Known level m.method d
      → P (act level p m (to_puller t sems u) d) (act level p m (to_puller t sems v) d)
  unfolding act
  by_clock P f g binds k = f _
  by_clock P f g refers k = f _
  by_clock P f g logs k = f _
  by_clock P f g binds_semaphore k = f _
  by_clock P f g offsets k = f _
  by_clock P f g acquires k = f _
  by_clock P f g releases k = f _
  by_clock P f g forwards k = f _
  by_clock P f g looks_and_forwards k = f _
  by_clock P f g addresses_high k = f _
  by_clock P f g addresses_low k = f _
  by_clock P f g sequences k = f _
  by_clock P f g triggers k = g k

-- two long semaphores: b is a with another long semaphore, and that of a is p's
abbrev relabelled : LongSemaphore → Taken → Taken
relabelled s a = record { puller = with_long a.puller s; event = a.event }

record Twin (p : Puller) (s : LongSemaphore) (a b : Result) : Type 0 where
  pub taken : b.taken ≡ relabelled s a.taken
  pub stays : a.taken.puller.long ≡ p.long
  pub memory : a.memory ≡ b.memory

module _ (p : Puller) (s : LongSemaphore) where
  -- which of two ways is taken is told alike
  twin_choice : (t : Bool) {a b x y : Result} → Twin p s a x → Twin p s b y → Twin p s (choose t a b) (choose t x y)
  unfolding choose
  twin_choice true f g = f
  twin_choice false f g = g

  abbrev Twins : List ℕ → Taken → Taken → Type 0
  Twins sems a b = Twin p s (unwritten sems a) (unwritten sems b)

  twins : (sems : List ℕ) (a : Taken) → a.puller.long ≡ p.long → Twins sems a (relabelled s a)
  twins sems a e = record { taken = refl; stays = e; memory = refl }

  choice : (sems : List ℕ) (t : Bool) {a b x y : Taken} → Twins sems a x → Twins sems b y → Twins sems (choose t a b) (choose t x y)
  unfolding choose
  choice sems true f g = f
  choice sems false f g = g

  looked_up : (sems : List ℕ) (f : Option Object) (g h : Object → Taken) → ((o : Object) → Twins sems (g o) (h o)) → Twins sems (looking_up p f g) (looking_up (with_long p s) f h)
  unfolding looking_up
  looked_up sems (Some o) g h k = k o
  looked_up sems None g h k = twins sems _ refl

  tried_alike :
      (sems : List ℕ) (e : PullerError) (t : Trial) {a b x y : Taken}
      → Twins sems a x
      → Twins sems b y
      → Twins sems (tried p e t a b) (tried (with_long p s) e t x y)
  unfolding tried
  tried_alike sems e trial.Outside f g = twins sems _ refl
  tried_alike sems e trial.Passes f g = f
  tried_alike sems e trial.Waits f g = g

  -- the word of an old acquire is where it was
  old_trial : (a : AcquireMode) → a ≡ mode.Old → (value : ℕ) (sems : List ℕ) → trial_of a (place_in (with_long p s) a) value sems ≡ trial_of a (place_in p a) value sems
  unfolding place_in
  old_trial a e value sems = rw e

  module _ (level : ℕ) (below : level < 5) (m : Method) (t sems : List ℕ) (u v : ℕ) where
    acts : (d : Deed) → Known level m.method d → Twin p s (act level p m (to_puller t sems u) d) (act level (with_long p s) m (to_puller t sems v) d)
    unfolding act bind_of bind_to dma_of dma_to offset_of acquire_of acquire_in release_of forward_of forward_object_of unready_at
    acts binds k = looked_up sems _ _ _ (λ o. choice sems _ (twins sems _ refl) (twins sems _ refl))
    acts refers k = twins sems _ refl
    acts logs k = twins sems _ refl
    acts binds_semaphore k = looked_up sems _ _ _ (λ o. choice sems _ (twins sems _ refl) (twins sems _ refl))
    acts offsets k =
        choice sems _ (choice sems _ (twins sems _ refl) (twins sems _ refl))
        (choice sems _ (twins sems _ refl) (choice sems _ (twins sems _ refl) (twins sems _ refl)))
    acts acquires k =
        choice sems _ (twins sems _ refl)
        (rw (old_trial mode.Old refl m.parameter sems) (tried_alike sems _ _ (twins sems _ refl) (twins sems _ refl)))
    acts releases k = twin_choice _ (twins sems _ refl) (twin_choice _ (twins sems _ refl) (record { taken = refl; stays = refl; memory = refl }))
    acts forwards k = choice sems _ (twins sems _ refl) (twins sems _ refl)
    acts looks_and_forwards k = looked_up sems _ _ _ (λ o. choice sems _ (twins sems _ refl) (twins sems _ refl))
    acts addresses_high k = absurd (omega (arith, k.0))
    acts addresses_low k = absurd (omega (arith, k.0))
    acts sequences k = absurd (omega (arith, k.0))
    acts triggers k = absurd (omega (arith, k.0))

  retries : (level : ℕ) (sems : List ℕ) → p.acquire.mode ≡ mode.Old → Twins sems (retry_of level p sems) (retry_of level (with_long p s) sems)
  unfolding retry_of
  retries level sems e = rw (old_trial p.acquire.mode e p.acquire.value sems) (tried_alike sems _ _ (twins sems _ refl) (twins sems _ refl))

-- in the statements' terms
but_long : {p q : Puller} → ButLong p q → q ≡ with_long p q.long
but_long h = rw (h.engines, h.last, h.reference, h.semaphore, h.acquire, h.error)

same_but_long : {p : Puller} {s : LongSemaphore} {a b : Taken} → b ≡ relabelled s a → a.puller.long ≡ p.long → SameButLong p a b
same_but_long e f =
    rw e
    (record {
      event = refl;
      rest = record { engines = refl; last = refl; reference = refl; semaphore = refl; acquire = refl; error = refl };
      stays = f;
    })

-- what one puller is taken with as the other, and another clock
other : (level : ℕ) {p q : Puller} (m : Method) {l k : PullerLoan} (d : Deed) → ButLong p q → ButClock l k → act level q m k d ≡ act level (with_long p q.long) m (to_puller l.table l.semaphores k.clock) d
other level m {k = k} d h c = ap (λ (r : Puller). act level r m k d) (but_long h) ∙ rw (← c.table, ← c.semaphores)

pub apart : Apart
unfolding take_of
apart =
    record {
      clock = λ level p m l k x y a b c f g.
          let n = level.number in
          let with_either : (P : Result → Result → Type 0) → ((o : Result) → P o o) → (Known n m.method triggers → P (trigger_of n p m l.clock l.semaphores) (trigger_of n p m k.clock l.semaphores)) → P (take_of n p m l) (take_of n p m (to_puller l.table l.semaphores k.clock)) =
          λ P same asked. by_clock n p m l.table l.semaphores l.clock k.clock P same asked (deed_of n m.method) (known n m.method) in (
            f.answer
                ∙ with_either (λ o e. o.taken ≡ e.taken) (λ o. refl) (λ _. same_answer n p m l.table l.semaphores l.clock k.clock)
                ∙ sym (g.answer ∙ rw (← c.table, ← c.semaphores)),
            λ no.
                f.memory
                ∙ with_either (λ o e. o.memory ≡ e.memory) (λ o. refl) (λ h. ap memory (same_trigger n p m l.table l.semaphores l.clock k.clock (λ e. no (h.1, e))))
                ∙ sym (g.memory ∙ rw (← c.table, ← c.semaphores)),
          );
      take = λ level p q m l k x y a b below h c f g.
          let d = deed_of level.number m.method in
          let twin = acts p q.long level.number below m l.table l.semaphores l.clock k.clock d (known level.number m.method) in
          let alike = other level.number m d h c in (
            same_but_long
                (g.answer ∙ ap taken alike ∙ twin.taken ∙ ap (relabelled q.long) (sym f.answer))
                (ap (λ (t : Taken). t.puller.long) f.answer ∙ twin.stays),
            f.memory ∙ twin.memory ∙ sym (g.memory ∙ ap memory alike),
          );
      retry = λ level p q sems a b old h f g.
          let twin = retries p q.long level.number sems old in
          same_but_long
          (g ∙ ap (λ (r : Puller). retry_of level.number r sems) (but_long h) ∙ twin.taken ∙ ap (relabelled q.long) (sym f))
          (ap (λ (t : Taken). t.puller.long) f ∙ twin.stays);
    }
