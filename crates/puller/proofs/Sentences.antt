-- What the puller does where each of the sentences applies. Assumes nothing.
use Rattle.std.proofs.Common.{◌≡◌, ℕ, ◌/◌, ◌%◌, ◌^◌, ◌<◌, ◌≤◌, Bool, true, false, not, ◌&&◌, eqb, ◌⊎◌, ◌↔◌, List, length, get_or, set, sym, refl, ap, ◌∙◌, inl, inr, ⊎_elim, arith, ltb-false, ltb-true, le-ltb, lt-ltb, eq-eqb, ne_eqb, le-leb}
use mathlib.Core.Bool.{and-false, false≢true}
use mathlib.Core.Logic.{by_cases}
use native.Mathlib.Decide.{ℕ_discrete, dec_lt}
use borrow.Author.Tests.{lt-leb, not-true}
use Rattle.word.specs.Parts.{bits}
use Rattle.word.specs.declared.setting.Level.{Level}
use Rattle.word.proofs.First.{choose_true, choose_false, by_test}
use Rattle.word.proofs.Tests.{not_plain, or_plain, and_plain, less_plain, equal_plain}
use Rattle.event.specs.declared.Kind.TheVariants as kind
use Rattle.event.specs.declared.Method.{Method}
use Rattle.puller.specs.Loan.{PullerLoan}
use Rattle.puller.specs.Object.{lookup_of}
use Rattle.puller.specs.Record.{engine_of, with_engine, with_last, with_acquire, with_dma, with_offset}
use Rattle.puller.specs.Taking.{done_with, failed_by, looking_up, bind_to, bind_of, unfit_for, dma_to, dma_of, offset_of, unready_at, place_in, past_end_error, ahead, passes_in, trial_of, tried, acquire_in, acquire_of, forward_of, forward_object_of, unwritten, release_of, Deed, deed_of, act, take_of}
use Rattle.puller.specs.Outcomes.{Takes}
use Rattle.puller.specs.Promises.{Names, NamesNone, Unready, Ready, Inside, PastEnd, word_in, NotBehind, Passes, Unfit}
use Rattle.puller.specs.declared.object.Object.{Object}
use Rattle.puller.specs.declared.record.PullerError.{PullerError}
use Rattle.puller.specs.declared.record.PullerError.TheVariants as cause
use Rattle.puller.specs.declared.record.AcquireMode.{AcquireMode}
use Rattle.puller.specs.declared.record.AcquireMode.TheVariants as mode
use Rattle.puller.specs.declared.record.Puller.{Puller}
use Rattle.puller.specs.declared.taking.Taken.{Taken}
use Rattle.puller.proofs.Table.{named_is, unnamed_is}

-- what is taken is what the method's deed says
pub taken_as :
    {level : Level} {p : Puller} {m : Method} {l : PullerLoan} {r : Taken} {exit : List ℕ} (d : Deed)
    → Takes level p m l r exit
    → deed_of level.number m.method ≡ d
    → {x : Taken} {y : List ℕ}
    → (act level.number p m l d).taken ≡ x
    → (act level.number p m l d).memory ≡ y
    → (r ≡ x) × (exit ≡ y)
unfolding take_of
taken_as {level} {p} {m} {l} d k e f g = (
  k.answer ∙ ap (λ (a : Deed). (act level.number p m l a).taken) e ∙ f,
  k.memory ∙ ap (λ (a : Deed). (act level.number p m l a).memory) e ∙ g,
)

-- an object looked up, or none
module _ (p : Puller) (t : List ℕ) (h : ℕ) (next : Object → Taken) where
  found_is : (o : Object) → Names t h o → looking_up p (lookup_of t h) next ≡ next o
  unfolding looking_up
  found_is o n = rw (named_is t h o n)

  none_is : NamesNone t h → looking_up p (lookup_of t h) next ≡ failed_by p cause.NoHash
  unfolding looking_up
  none_is n = rw (unnamed_is t h n)

-- what a test tells is so, or is not
either : (b : Bool) {P : Type 0} → b ≡ true ↔ P → P ⊎ (P → ⊥)
either true e = inl (e.0 refl)
either false e = inr (λ p. false≢true (e.1 p))

-- an object that can't be a semaphore's
set_or_not : (b : Bool) → not b ≡ true ↔ (b ≡ false)
set_or_not b = (not-true b, λ e. rw e)

unfit_is : (level : Level) (o : Object) → unfit_for level.number o ≡ true ↔ Unfit level o
unfolding unfit_for
unfit_is level o =
    and_plain _ _ (less_plain level.number 4)
    (or_plain _ _ (not_plain _ (equal_plain o.class 2)) (or_plain _ _ (set_or_not o.writeonly) (set_or_not o.paged)))

pub unfit_or_not : (level : Level) (o : Object) → Unfit level o ⊎ (Unfit level o → ⊥)
unfit_or_not level o = either (unfit_for level.number o) (unfit_is level o)

module _ (p : Puller) (m : Method) (t : List ℕ) where
  module _ (n : NamesNone t m.parameter) where
    pub bind_none : bind_of p m t ≡ failed_by p cause.NoHash
    unfolding bind_of
    bind_none = none_is p t _ _ n

    pub dma_none : (level : ℕ) → dma_of level p m t ≡ failed_by p cause.NoHash
    unfolding dma_of
    dma_none level = none_is p t _ _ n

    pub object_none : forward_object_of p m t ≡ failed_by p cause.NoHash
    unfolding forward_object_of
    object_none = none_is p t _ _ n

  module _ (o : Object) (n : Names t m.parameter o) where
    -- 0x00
    pub bind_is : (o.engine ≡ 0 → ⊥) → bind_of p m t ≡ done_with (with_last (with_engine p m.subchannel o.engine) o.engine) kind.Bind m o.address
    unfolding bind_of bind_to
    bind_is some = found_is p t _ _ o n ∙ choose_false (ne_eqb _ _ some) _ _

    pub bind_software_is : o.engine ≡ 0 → bind_of p m t ≡ failed_by (with_engine p m.subchannel 0) cause.EmptySubchannel
    unfolding bind_of bind_to
    bind_software_is z =
        found_is p t _ _ o n
        ∙ choose_true (eq-eqb _ _ z) _ _
        ∙ ap (λ (e : ℕ). failed_by (with_engine p m.subchannel e) cause.EmptySubchannel) z

    -- 0x60
    pub dma_unfit_is : (level : Level) → Unfit level o → dma_of level.number p m t ≡ failed_by p cause.Semaphore1
    unfolding dma_of dma_to
    dma_unfit_is level u = found_is p t _ _ o n ∙ choose_true ((unfit_is level o).1 u) _ _

    pub dma_is : (level : Level) → (Unfit level o → ⊥) → dma_of level.number p m t ≡ done_with (with_dma p o.address) kind.Dma m o.address
    unfolding dma_of dma_to
    dma_is level u = found_is p t _ _ o n ∙ choose_false (not-true _ ((not_plain _ (unfit_is level o)).1 u)) _ _

    -- 0x180 to 0x1fc
    pub object_is : forward_object_of p m t ≡ forward_of p m o.address
    unfolding forward_object_of
    object_is = found_is p t _ _ o n

-- P11: an offset that has other bits than 11-2
outside_is : (w : ℕ) → (w % 4 ≡ 0 → ⊥) ⊎ (w / 2 ^ 12 % 2 ^ 20 ≡ 0 → ⊥) → not (eqb (bits 1 0 w) 0 && eqb (bits 31 12 w) 0) ≡ true
outside_is w s = ⊎_elim (λ n. rw (ne_eqb (bits 1 0 w) 0 (λ q. n (omega arith)))) (λ n. rw (ne_eqb (bits 31 12 w) 0 n, and-false)) s

module _ (level : Level) (p : Puller) (m : Method) where
  pub offset_outside_is :
      level.number < 4
      → (m.parameter % 4 ≡ 0 → ⊥) ⊎ (m.parameter / 2 ^ 12 % 2 ^ 20 ≡ 0 → ⊥)
      → offset_of level.number p m ≡ failed_by p cause.Semaphore1
  unfolding offset_of
  offset_outside_is l s = choose_true (lt-ltb _ _ l) _ _ ∙ choose_true (outside_is m.parameter s) _ _

  pub offset_below_4_is :
      level.number < 4
      → m.parameter % 4 ≡ 0
      → m.parameter / 2 ^ 12 % 2 ^ 20 ≡ 0
      → offset_of level.number p m ≡ done_with (with_offset p m.parameter p.semaphore.valid) kind.Offset m m.parameter
  unfolding offset_of
  offset_below_4_is l a b =
      choose_true (lt-ltb _ _ l) _ _
      ∙ choose_false (rw (eq-eqb (bits 1 0 m.parameter) 0 (omega arith), eq-eqb (bits 31 12 m.parameter) 0 b)) _ _

  module _ (l : 4 ≤ level.number) where
    pub offset_unaligned_is : (m.parameter % 4 ≡ 0 → ⊥) → offset_of level.number p m ≡ failed_by p cause.Semaphore1
    unfolding offset_of
    offset_unaligned_is n = choose_false (le-ltb _ _ l) _ _ ∙ choose_true (rw (ne_eqb (bits 1 0 m.parameter) 0 (λ q. n (omega arith)))) _ _

    module _ (a : m.parameter % 4 ≡ 0) where
      pub offset_too_large_is : (m.parameter / 2 ^ 16 % 2 ^ 16 ≡ 0 → ⊥) → offset_of level.number p m ≡ failed_by p cause.Semaphore3
      unfolding offset_of
      offset_too_large_is n =
          choose_false (le-ltb _ _ l) _ _
          ∙ choose_false (rw (eq-eqb (bits 1 0 m.parameter) 0 (omega arith))) _ _
          ∙ choose_true (rw (ne_eqb (bits 31 16 m.parameter) 0 n)) _ _

      pub offset_from_4_is : m.parameter / 2 ^ 16 % 2 ^ 16 ≡ 0 → offset_of level.number p m ≡ done_with (with_offset p m.parameter true) kind.Offset m m.parameter
      unfolding offset_of
      offset_from_4_is b =
          choose_false (le-ltb _ _ l) _ _
          ∙ choose_false (rw (eq-eqb (bits 1 0 m.parameter) 0 (omega arith))) _ _
          ∙ choose_false (rw (eq-eqb (bits 31 16 m.parameter) 0 b)) _ _

-- 0x68 and 0x6c alike: whether there is a semaphore, and the error past the end of the memory
module _ (level : Level) (p : Puller) where
  unready_is : Unready level p → unready_at level.number p ≡ true
  unfolding unready_at
  unready_is u =
      ⊎_elim (λ h. choose_true (lt-ltb _ _ h.0) _ _ ∙ eq-eqb _ _ h.1) (λ h. choose_false (le-ltb _ _ h.0) _ _ ∙ rw h.1) u

  ready_is : Ready level p → unready_at level.number p ≡ false
  unfolding unready_at
  ready_is u =
      ⊎_elim (λ h. choose_true (lt-ltb _ _ h.0) _ _ ∙ ne_eqb _ _ h.1) (λ h. choose_false (le-ltb _ _ h.0) _ _ ∙ rw h.1) u

  pub ready_or_not : Unready level p ⊎ Ready level p
  ready_or_not =
      by_cases (dec_lt level.number 4)
      (λ l. by_cases (ℕ_discrete p.semaphore.dma 0) (λ z. inl (inl (l, z))) (λ n. inr (inl (l, n))))
      (λ n. from_4 (omega arith) p.semaphore.valid refl)
    where
      from_4 : 4 ≤ level.number → (b : Bool) → p.semaphore.valid ≡ b → Unready level p ⊎ Ready level p
      from_4 l true e = inr (inr (l, e))
      from_4 l false e = inl (inr (l, e))

  module _ (sems : List ℕ) where
    pub past_end_is : (e : PullerError) → PastEnd level p sems e → past_end_error level.number mode.Old ≡ e
    unfolding past_end_error
    past_end_is e h = by_test (λ (x : PullerError). x ≡ e) (λ l. sym (h.below_4 (ltb-true _ _ l))) (λ l. sym (h.from_4 (ltb-false _ _ l)))

    pub past_end_of : length sems ≤ p.semaphore.offset / 4 → PastEnd level p sems (past_end_error level.number mode.Old)
    unfolding past_end_error
    past_end_of l =
        record {
          past = l;
          below_4 = λ b. choose_true (lt-ltb _ _ b) _ _;
          from_4 = λ b. choose_false (le-ltb _ _ b) _ _;
        }

-- less than 2^31 ahead of a value, modulo 2^32, is not behind it
ahead_is : (word value : ℕ) → (ahead word value < 2 ^ 31) ↔ NotBehind word value
ahead_is word value = (
  λ h. record { difference = ahead word value; not_negative = h; comes = omega arith },
  λ n. omega arith,
)

-- a word lets an acquire pass, or does not
pub passes_is : (a : AcquireMode) (word value : ℕ) → passes_in a word value ≡ true ↔ Passes a word value
unfolding passes_in
passes_is mode.Old word value = equal_plain word value
passes_is mode.Equal word value = equal_plain word value
passes_is mode.GreaterOrEqual word value =
    let less = less_plain (ahead word value) (2 ^ 31) in
    let plain = ahead_is word value in
    (λ e. plain.0 (less.0 e), λ n. less.1 (plain.1 n))

pub passes_or_not : (a : AcquireMode) (word value : ℕ) → Passes a word value ⊎ (Passes a word value → ⊥)
passes_or_not a word value = either (passes_in a word value) (passes_is a word value)

-- an acquire, the first time and at a retry: past the end, and the two ways that it has; its word is where its mode says
module _ (p : Puller) (e : PullerError) (a : AcquireMode) {place : ℕ} (at : place_in p a ≡ place) (value : ℕ) (sems : List ℕ) (passes waits : Taken) where
  abbrev Comes : Taken → Type 0
  Comes r = tried p e (trial_of a (place_in p a) value sems) passes waits ≡ r

  pub tried_past : length sems ≤ place → Comes (failed_by p e)
  unfolding trial_of tried
  tried_past h = rw (at, choose_true (le-leb _ _ h))

  module _ (inside : place < length sems) where
    pub tried_passes : Passes a (get_or sems place 0) value → Comes passes
    unfolding trial_of tried
    tried_passes h = rw (at, choose_false (lt-leb _ _ inside), choose_true ((passes_is a _ value).1 h))

    pub tried_waits : (Passes a (get_or sems place 0) value → ⊥) → Comes waits
    unfolding trial_of tried
    tried_waits n = rw (at, choose_false (lt-leb _ _ inside), choose_false (not-true _ ((not_plain _ (passes_is a _ value)).1 n)))

-- in the mode old, its place and its error
pub old_placed : (p : Puller) (a : AcquireMode) → a ≡ mode.Old → place_in p a ≡ p.semaphore.offset / 4
unfolding place_in
old_placed p a e = rw e

module _ (level : Level) (p : Puller) (m : Method) (sems : List ℕ) where
  pub acquire_unready : Unready level p → acquire_of level.number p m sems ≡ failed_by p cause.Semaphore2
  unfolding acquire_of
  acquire_unready u = choose_true (unready_is level p u) _ _

  pub release_unready : Unready level p → release_of level.number p m sems ≡ unwritten sems (failed_by p cause.Semaphore2)
  unfolding release_of
  release_unready u = choose_true (unready_is level p u) _ _

  module _ (ready : Ready level p) where
    pub acquire_past : (e : PullerError) → PastEnd level p sems e → acquire_of level.number p m sems ≡ failed_by p e
    unfolding acquire_of acquire_in place_in
    acquire_past e h =
        choose_false (ready_is level p ready) _ _
        ∙ tried_past p _ mode.Old refl m.parameter sems _ _ h.past
        ∙ ap (failed_by p) (past_end_is level p sems e h)

    pub release_past : (e : PullerError) → PastEnd level p sems e → release_of level.number p m sems ≡ unwritten sems (failed_by p e)
    unfolding release_of
    release_past e h =
        choose_false (ready_is level p ready) _ _
        ∙ choose_true (le-leb _ _ h.past) _ _
        ∙ ap (λ (x : PullerError). unwritten sems (failed_by p x)) (past_end_is level p sems e h)

    module _ (inside : Inside p sems) where
      pub acquire_is : word_in p sems ≡ m.parameter → acquire_of level.number p m sems ≡ done_with p kind.Acquire m m.parameter
      unfolding acquire_of acquire_in place_in
      acquire_is e = choose_false (ready_is level p ready) _ _ ∙ tried_passes p _ mode.Old refl m.parameter sems _ _ inside e

      pub wait_is : (word_in p sems ≡ m.parameter → ⊥) → acquire_of level.number p m sems ≡ done_with (with_acquire p true m.parameter mode.Old) kind.Wait m m.parameter
      unfolding acquire_of acquire_in place_in
      wait_is n = choose_false (ready_is level p ready) _ _ ∙ tried_waits p _ mode.Old refl m.parameter sems _ _ inside n

      pub release_is : release_of level.number p m sems ≡ record { taken = done_with p kind.Release m m.parameter; memory = set sems (p.semaphore.offset / 4) m.parameter }
      unfolding release_of
      release_is = choose_false (ready_is level p ready) _ _ ∙ choose_false (lt-leb _ _ inside) _ _

-- 0x100 up
module _ (p : Puller) (m : Method) (x : ℕ) where
  pub forward_software_is : engine_of p m.subchannel ≡ 0 → forward_of p m x ≡ failed_by p cause.EmptySubchannel
  unfolding forward_of
  forward_software_is z = choose_true (eq-eqb _ _ z) _ _

  pub forward_is : (engine_of p m.subchannel ≡ 0 → ⊥) → forward_of p m x ≡ done_with (with_last p (engine_of p m.subchannel)) kind.Forward m x
  unfolding forward_of
  forward_is n = choose_false (ne_eqb _ _ n) _ _
