-- `Ended`: when a run has ended, and how. Assumes nothing.
use Prim.Native.Nat.{ℕ, ◌≤◌, ◌<◌}
use mathlib.Core.Path.{◌≡◌, refl, sym, ◌∙◌}
use mathlib.Core.Bool.{Bool, true, false, or-true, false≢true}
use mathlib.Core.List.{List, [], ◌∷◌}
use mathlib.Core.Logic.{◌↔◌}
use mathlib.Core.Option.{none}
use native.Mathlib.Omega.{arith}
use lib.Dec.{leb}
use borrow.Author.Tests.{leb-true, leb-false}
use Rattle.word.proofs.First.{choose_true, choose_false}
use Rattle.event.specs.Event.{number}
use Rattle.event.specs.declared.Kind.TheVariants as kind
use Rattle.puller.specs.Record as puller_record
use Rattle.puller.proofs.Causes as causes
use Rattle.pusher.specs.Record as pusher_record
use Rattle.pusher.proofs.Sentences as errors
use Rattle.channel.specs.Loan.{Loan}
use Rattle.channel.specs.Answers.{step_refusal, answer_values}
use Rattle.channel.specs.Outcomes.{StepsTo}
use Rattle.channel.specs.Stepping.{is_stopped}
use Rattle.channel.specs.Idle.{idles}
use Rattle.channel.specs.declared.record.Channel.{Channel}
use Rattle.channel.specs.declared.stepping.Stepped.{Stepped}
use Rattle.channel.proofs.Idling.{idle}
use Rattle.trace.specs.End.{cause_of, ending_of}
use Rattle.trace.specs.Answers.{end_number, ending_number}
use Rattle.trace.specs.declared.end.Cause.TheVariants as cause
use Rattle.trace.specs.declared.end.End.TheVariants.{Error, Idle, Budget}
use Rattle.std.specs.declared.option.Option.TheVariants.{None, Some}

-- which end it is, by the tests in turn
module _ (c : Channel) (n : ℕ) where
  pub if_stopped : is_stopped c.pusher c.puller ≡ true → ending_of c n ≡ Some (Error (cause_of c))
  unfolding ending_of
  if_stopped s = choose_true s _ _

  module _ (runs : is_stopped c.pusher c.puller ≡ false) where
    if_idle : idles c ≡ true → ending_of c n ≡ Some Idle
    unfolding ending_of
    if_idle i = choose_false runs _ _ ∙ choose_true i _ _

    module _ (busy : idles c ≡ false) where
      if_late : leb 65536 n ≡ true → ending_of c n ≡ Some Budget
      unfolding ending_of
      if_late h = choose_false runs _ _ ∙ choose_false busy _ _ ∙ choose_true h _ _

      if_early : leb 65536 n ≡ false → ending_of c n ≡ None
      unfolding ending_of
      if_early h = choose_false runs _ _ ∙ choose_false busy _ _ ∙ choose_false h _ _

-- what stopped a channel, by the errors' numbers
module _ (c : Channel) where
  pub by_pusher : (pusher_record.number c.pusher.error ≡ 0 → ⊥) → (is_stopped c.pusher c.puller ≡ true) × (cause_of c ≡ cause.Pusher c.pusher.error)
  unfolding is_stopped cause_of
  by_pusher e = let h = errors.stands c.pusher.error e in (rw h, choose_true h _ _)

  pub by_puller :
      pusher_record.number c.pusher.error ≡ 0
      → (puller_record.number c.puller.error ≡ 0 → ⊥)
      → (is_stopped c.pusher c.puller ≡ true) × (cause_of c ≡ cause.Puller c.puller.error)
  unfolding is_stopped cause_of
  by_puller z e = (rw (causes.stands c.puller.error e, or-true), choose_false (errors.runs c.pusher.error z) _ _)

  pub not_stopped : pusher_record.number c.pusher.error ≡ 0 → puller_record.number c.puller.error ≡ 0 → is_stopped c.pusher c.puller ≡ false
  unfolding is_stopped
  not_stopped a b = rw (errors.runs c.pusher.error a, causes.runs c.puller.error b)

  -- what is stopped does not idle
  stopped_busy : is_stopped c.pusher c.puller ≡ true → idles c ≡ false
  unfolding idles
  stopped_busy s = rw s

module _ (c : Channel) (n : ℕ) where
  -- the end is 'idle' exactly if the channel idles,
  pub idle_iff : ending_number (ending_of c n) ≡ 2 ↔ idles c ≡ true
  unfolding ending_number end_number
  idle_iff = go (is_stopped c.pusher c.puller) (idles c) (leb 65536 n) refl refl refl
    where
      busy : idles c ≡ false → idles c ≡ true → ⊥
      busy b i = false≢true (sym b ∙ i)

      go : (a b d : Bool) → is_stopped c.pusher c.puller ≡ a → idles c ≡ b → leb 65536 n ≡ d → ending_number (ending_of c n) ≡ 2 ↔ idles c ≡ true
      go true b d s i h = rw (if_stopped c n s) (λ e. absurd (omega arith), λ e. absurd (busy (stopped_busy c s) e))
      go false true d s i h = (λ e. i, λ e. rw (if_idle c n s i))
      go false false true s i h = rw (if_late c n s i h) (λ e. absurd (omega arith), λ e. absurd (busy i e))
      go false false false s i h = rw (if_early c n s i h) (λ e. absurd (omega arith), λ e. absurd (busy i e))

  -- so exactly if a step that is not refused says so,
  pub step_iff :
      (l : Loan) (exit : List ℕ) (r : Stepped)
      → StepsTo c l r exit
      → step_refusal r.answer ≡ none
      → ending_number (ending_of c n) ≡ 2 ↔ (answer_values r.answer ≡ number kind.Idle ∷ [])
  step_iff l exit r m taken = let says = idle.step c (idles c) l exit r refl m taken in (λ e. says.0 (idle_iff.0 e), λ e. idle_iff.1 (says.1 e))

  -- and of one that neither is stopped nor idles, 'budget' exactly after 65,536 steps
  pub budget_iff :
      is_stopped c.pusher c.puller ≡ false
      → idles c ≡ false
      → (ending_number (ending_of c n) ≡ 3 ↔ 65536 ≤ n) × (ending_number (ending_of c n) ≡ 0 ↔ n < 65536)
  unfolding ending_number end_number
  budget_iff s i = go (leb 65536 n) refl
    where
      go : (d : Bool) → leb 65536 n ≡ d → (ending_number (ending_of c n) ≡ 3 ↔ 65536 ≤ n) × (ending_number (ending_of c n) ≡ 0 ↔ n < 65536)
      go true h =
          let late = leb-true 65536 n h in
          rw (if_late c n s i h) ((λ e. late, λ x. refl), (λ e. absurd (omega arith), λ x. absurd (omega arith)))
      go false h =
          let early = leb-false 65536 n h in
          rw (if_early c n s i h) ((λ e. absurd (omega arith), λ x. absurd (omega arith)), (λ e. early, λ x. refl))
