-- Below level 5 neither the clock nor the long semaphore has a part in a step. Assumes nothing.
use Prim.Native.Nat.{ℕ, ◌<◌}
use mathlib.Core.Path.{◌≡◌, refl, sym, ap, ◌∙◌}
use mathlib.Core.Bool.{Bool, true, false}
use mathlib.Core.List.{List}
use mathlib.Core.Logic.{⊎_elim}
use Rattle.event.specs.Event.{values}
use Rattle.puller.specs.Taking.{take_of, retry_of}
use Rattle.puller.specs.Promises as puller
use Rattle.puller.specs.declared.record.AcquireMode.TheVariants as mode
use Rattle.puller.specs.declared.record.Puller.{Puller}
use Rattle.puller.proofs.Apart as puller_apart
use Rattle.pusher.specs.Moving.{push_of}
use Rattle.pusher.specs.declared.record.Pusher.{Pusher}
use Rattle.pusher.specs.declared.moving.Did.{Did}
use Rattle.pusher.specs.declared.moving.Did.TheVariants as did
use Rattle.pusher.specs.declared.moving.Pushed.{Pushed}
use Rattle.pusher.proofs.Told.{event_did, submit_did}
use Rattle.channel.specs.Loan.{Loan}
use Rattle.channel.specs.Answers.{answer_values}
use Rattle.channel.specs.Outcomes.{StepsTo}
use Rattle.channel.specs.Promises.{Takable, Running, MakesMove, Leaves, ButLong, ButClock, Apart}
use Rattle.channel.specs.declared.record.Channel.{Channel}
use Rattle.channel.specs.declared.stepping.Stepped.{Stepped}
use Rattle.channel.proofs.ByRole.{whether_running}
use Rattle.channel.proofs.Promises.{says}

module _ (c d : Channel) (l k : Loan) (x y : List ℕ) (a b : Stepped) (h : StepsTo c l a x) (g : StepsTo d k b y) (t : Takable c l) (u : Takable d k) (s : ButLong c d) (o : ButClock l k) where
  abbrev Same : Type 0
  Same = (answer_values a.answer ≡ answer_values b.answer) × ButLong a.channel b.channel × (a.channel.puller.long ≡ c.puller.long) × (x ≡ y)

  -- both leave the same pusher, and pullers that differ in nothing else
  same :
      {f e : Pusher} {p q : Puller} {said other memory after : List ℕ}
      → Leaves c f p said a × (x ≡ memory)
      → Leaves d e q other b × (y ≡ after)
      → said ≡ other
      → f ≡ e
      → puller.ButLong p q
      → p.long ≡ c.puller.long
      → memory ≡ after
      → Same
  same left right said pusher rest stays memory = (
    left.0.says ∙ said ∙ sym right.0.says,
    record {
      setup = left.0.channel.setup ∙ s.setup ∙ sym right.0.channel.setup;
      pusher = left.0.channel.pusher ∙ pusher ∙ sym right.0.channel.pusher;
      puller = rw (left.0.channel.puller, right.0.channel.puller) rest;
    },
    ap (λ (z : Puller). z.long) left.0.channel.puller ∙ stays,
    left.1 ∙ memory ∙ sym right.1,
  )

  -- one is stopped, or waits, where the other is
  runs_too : Running c → Running d
  runs_too run = (rw s.pusher at run.0, rw s.puller.error at run.1)

  runs_back : Running d → Running c
  runs_back run = (rw s.pusher run.0, rw s.puller.error run.1)

  stopped : (Running c → ⊥) → Same
  stopped n =
      same (says.stopped c l x a h t n) (says.stopped d k y b g u (λ run. n (runs_back run))) refl s.pusher s.puller refl o.puller.semaphores

  waiting : Running c → c.puller.acquire.active ≡ true → c.puller.acquire.mode ≡ mode.Old → Same
  waiting run active old =
      let level = c.setup.setting.level in
      let alike = (puller_apart.apart).retry level c.puller d.puller l.puller.semaphores _ _ old s.puller refl refl in
      same (says.retry c l x _ a h t run active refl)
      (says.retry d k y (retry_of level.number d.puller l.puller.semaphores) b g u (runs_too run) (rw s.puller.acquire at active) (rw (← s.setup, ← o.puller.semaphores)))
      alike.event s.pusher alike.rest alike.stays o.puller.semaphores

  module _ (below : c.setup.setting.level.number < 5) (run : Running c) (idle : c.puller.acquire.active ≡ false) where
    abbrev made : Pushed
    made = push_of c.setup c.pusher l.pusher

    makes : MakesMove c l.pusher made
    makes = record { running = run; no_acquire = idle; move = refl }

    makes_too : MakesMove d k.pusher made
    makes_too = record { running = runs_too run; no_acquire = rw s.puller.acquire at idle; move = rw (← s.setup, ← s.pusher, ← o.pusher) }

    moving : (e : Did) → made.did ≡ e → Same
    moving (did.Event e) f =
        same (says.move c l x (values e) made a h t makes (event_did f)) (says.move d k y (values e) made b g u makes_too (event_did f)) refl refl s.puller refl o.puller.semaphores
    moving (did.Submit m) f =
        let level = c.setup.setting.level in
        let p = take_of level.number c.puller m l.puller in
        let q = take_of level.number d.puller m k.puller in
        let alike = (puller_apart.apart).take level c.puller d.puller m l.puller k.puller p.memory q.memory p.taken q.taken below s.puller o.puller (record { answer = refl; memory = refl }) (record { answer = refl; memory = refl }) in
        same (says.submit c l x p.memory made m p.taken a h t makes (submit_did f) (record { answer = refl; memory = refl }))
        (says.submit d k y q.memory made m q.taken b g u makes_too (submit_did f) (record { answer = rw (← s.setup); memory = rw (← s.setup) }))
        alike.0.event refl alike.0.rest alike.0.stays alike.1

pub apart : Apart
apart c d l k x y a b h g t u s o below old =
    ⊎_elim (λ run. go run c.puller.acquire.active refl) (stopped c d l k x y a b h g t u s o) (whether_running c)
  where
    go : Running c → (w : Bool) → c.puller.acquire.active ≡ w → Same c d l k x y a b h g t u s o
    go run true e = waiting c d l k x y a b h g t u s o run e (old e)
    go run false e = moving c d l k x y a b h g t u s o below run e _ refl
