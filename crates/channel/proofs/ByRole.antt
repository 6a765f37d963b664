-- What a step does where each of the sentences applies. Assumes nothing.
use Prim.Native.Nat.{ℕ}
use mathlib.Core.Path.{◌≡◌, refl, sym, ap, ◌∙◌}
use mathlib.Core.Bool.{true, false, not, or-true, false≢true}
use mathlib.Core.List.{List}
use mathlib.Core.Logic.{◌⊎◌, inl, inr, ⊎_elim, by_cases}
use mathlib.Core.Option.{Option, none}
use native.Mathlib.Decide.{ℕ_discrete}
use lib.ListN.{length}
use borrow.Author.Tests.{le-ltb, not-true}
use Rattle.word.specs.First.{first}
use Rattle.word.proofs.First.{fails_none}
use Rattle.word.proofs.Settings.{told_first}
use Rattle.word.proofs.Tests.{not_plain}
use Rattle.event.specs.declared.Kind.TheVariants as kind
use Rattle.event.specs.declared.Method.{Method}
use Rattle.event.specs.declared.Event.{Event}
use Rattle.event.specs.declared.Event.TheVariants.{Plain}
use Rattle.puller.specs.Record as puller
use Rattle.puller.specs.Outcomes.{Takes, Retries}
use Rattle.puller.specs.declared.taking.Taken.{Taken}
use Rattle.puller.proofs.Causes as causes
use Rattle.pusher.specs.Record as pusher
use Rattle.pusher.specs.Loan.{PusherLoan}
use Rattle.pusher.specs.Moving.{push_of}
use Rattle.pusher.specs.declared.moving.Did.TheVariants as did
use Rattle.pusher.specs.declared.moving.Pushed.{Pushed}
use Rattle.pusher.proofs.Sentences as errors
use Rattle.channel.specs.Loan.{Loan}
use Rattle.channel.specs.Answers.{step_refusal}
use Rattle.channel.specs.Opening.{table_refused}
use Rattle.channel.specs.Stepping.{Outcome, Effect, is_stopped, Role, halted, retries, moves, role, act, finished, acted_on, acting, unrefused, step_cases, unchanged, step_of}
use Rattle.channel.specs.Outcomes.{StepsTo}
use Rattle.channel.specs.Promises.{Takable, Running, MakesMove}
use Rattle.channel.specs.declared.record.Channel.{Channel}
use Rattle.channel.specs.declared.stepping.Stepped.{Stepped}
use Rattle.channel.proofs.Leaving.{leaving}
use Rattle.channel.proofs.Formed.{unformed}
use Rattle.channel.proofs.Refusals.{accepted_is, table_plain}
use Rattle.channel.proofs.Steps.{when_stopped, when_waiting, when_free, free}

-- what a step tells
abbrev pub step_tells : Outcome → Option ℕ
step_tells o = step_refusal o.stepped.answer

module _ (c : Channel) (l : Loan) where
  -- every step that is taken says an event, so a step tells the first refusal that holds
  pub step_first : step_tells (step_of c l) ≡ first (step_cases c l)
  unfolding step_of step_refusal
  step_first = told_first (unchanged c l) step_tells (λ x. refl) (step_cases c l) (unrefused c l) _ refl refl

  -- one that is not refused does what its role says
  pub taken : step_tells (step_of c l) ≡ none → step_of c l ≡ unrefused c l
  unfolding step_of step_refusal
  taken e = accepted_is (unchanged c l) step_tells (λ x. refl) (first (step_cases c l)) (unrefused c l) e

  pub none_refused : Takable c l → step_tells (step_of c l) ≡ none
  none_refused h =
      let t = table_refused (length l.puller.table) in
      let size = h.sizes in
      step_first
      ∙ fails_none (step_cases c l) (
        ap not (unformed c h.well_formed),
        (
          rw (le-ltb 1048576 (length l.pusher.words) size.words, le-ltb 1048576 (length l.puller.semaphores) size.semaphores),
          (not-true t ((not_plain t (table_plain l.puller.table)).1 size.table), tt),
        ),
      )

  pub by_role : Takable c l → (x : Role) → role c.pusher c.puller ≡ x → step_of c l ≡ acting c l x
  by_role h x e = taken (none_refused h) ∙ ap (λ (y : Role). acting c l y) e

-- whether either half is stopped, by the errors' numbers
module _ (c : Channel) where
  running : Running c → is_stopped c.pusher c.puller ≡ false
  unfolding is_stopped
  running h = rw (errors.runs c.pusher.error h.0, causes.runs c.puller.error h.1)

  -- it runs, or one of the halves has an error, which stops it
  abbrev OneFailed : Type 0
  OneFailed = (pusher.number c.pusher.error ≡ 0 → ⊥) ⊎ (puller.number c.puller.error ≡ 0 → ⊥)

  runs_or_not : Running c ⊎ OneFailed
  runs_or_not =
      by_cases (ℕ_discrete (pusher.number c.pusher.error) 0)
      (λ a. by_cases (ℕ_discrete (puller.number c.puller.error) 0) (λ b. inl (a, b)) (λ b. inr (inr b)))
      (λ a. inr (inl a))

  one_stops : OneFailed → is_stopped c.pusher c.puller ≡ true
  unfolding is_stopped
  one_stops h = ⊎_elim (λ n. rw (errors.stands c.pusher.error n)) (λ n. rw (causes.stands c.puller.error n, or-true)) h

  standing : (Running c → ⊥) → is_stopped c.pusher c.puller ≡ true
  standing n = ⊎_elim (λ run. absurd (n run)) one_stops runs_or_not

  still_running : is_stopped c.pusher c.puller ≡ false → Running c
  still_running e = ⊎_elim (λ run. run) (λ h. absurd (false≢true (sym e ∙ one_stops h))) runs_or_not

  pub whether_running : Running c ⊎ (Running c → ⊥)
  whether_running = ⊎_elim (λ run. inl run) (λ h. inr (λ run. ⊎_elim (λ n. n run.0) (λ n. n run.1) h)) runs_or_not

  -- the step goes on to the pusher's move, as the definition has it,
  abbrev pub GoesOn : Type 0
  GoesOn = role c.pusher c.puller ≡ moves

  -- exactly if it makes that move
  pub goes_on : (l : PusherLoan) (x : Pushed) → MakesMove c l x → GoesOn
  goes_on l x m = when_free _ _ (running m.running) m.no_acquire

  pub makes : (l : PusherLoan) → GoesOn → MakesMove c l (push_of c.setup c.pusher l)
  makes l g = let f = free _ _ g in record { running = still_running f.0; no_acquire = f.1; move = refl }

module _ (c : Channel) (l : Loan) (exit : List ℕ) (r : Stepped) (m : StepsTo c l r exit) where
  -- what a step leaves, where its outcome is known
  pub leaves : {x : Outcome} → step_of c l ≡ x → (r ≡ x.stepped) × (exit ≡ x.memory)
  leaves e = (m.answer ∙ ap (λ (y : Outcome). y.stepped) e, m.memory ∙ ap (λ (y : Outcome). y.memory) e)

  module _ (h : Takable c l) where
    pub stopped_is : (Running c → ⊥) → (r ≡ leaving c (Plain kind.Stopped) c.pusher c.puller) × (exit ≡ l.puller.semaphores)
    unfolding act
    stopped_is n = leaves (by_role c l h halted (when_stopped _ _ (standing c n)))

    pub retry_is :
        (taken : Taken)
        → Running c
        → c.puller.acquire.active ≡ true
        → Retries c.setup.setting.level c.puller l.puller.semaphores taken
        → (r ≡ leaving c taken.event c.pusher taken.puller) × (exit ≡ l.puller.semaphores)
    unfolding act
    retry_is taken run a e = rw e (leaves (by_role c l h retries (when_waiting _ _ (running c run) a)))

    -- the pusher's move: what it leaves is what follows from what it did
    abbrev follows : Pushed → Effect
    follows x = finished c.setup.setting.level x.pusher c.puller x.did l.puller

    pub moved_is : (x : Pushed) → MakesMove c l.pusher x → (r ≡ (acted_on c (follows x)).stepped) × (exit ≡ (follows x).memory)
    unfolding act
    moved_is x k = rw k.move (leaves (by_role c l h moves (goes_on c _ x k)))

    pub move_is :
        (x : Pushed) (e : Event)
        → MakesMove c l.pusher x
        → x.did ≡ did.Event e
        → (r ≡ leaving c e x.pusher c.puller) × (exit ≡ l.puller.semaphores)
    unfolding finished
    move_is x e k d = rw d at (moved_is x k)

    pub submit_is :
        (after : List ℕ) (x : Pushed) (m : Method) (taken : Taken)
        → MakesMove c l.pusher x
        → x.did ≡ did.Submit m
        → Takes c.setup.setting.level c.puller m l.puller taken after
        → (r ≡ leaving c taken.event x.pusher taken.puller) × (exit ≡ after)
    unfolding finished
    submit_is after x m taken k d y = rw (y.answer, y.memory) (rw d at (moved_is x k))
