-- `Idle`: a channel is idle exactly if it rests, and then a further step would say so. Assumes nothing.
use Prim.Native.Nat.{ℕ}
use mathlib.Core.Path.{◌≡◌, refl, sym, ap, ◌∙◌}
use mathlib.Core.Bool.{Bool, true, false, not, ◌&&◌, false≢true}
use mathlib.Core.List.{List, [], ◌∷◌}
use mathlib.Core.Logic.{◌⊎◌, inl, inr, ⊎_elim, ◌↔◌}
use mathlib.Core.Option.{none}
use lib.Dec.{eqb}
use borrow.Author.Tests.{eqb-true, eqb-false, eq-eqb, not-true}
use Rattle.word.specs.First.{choose}
use Rattle.word.proofs.First.{by_test, choose_true}
use Rattle.word.proofs.Tests.{both}
use Rattle.event.specs.Event.{number}
use Rattle.event.specs.declared.Kind.TheVariants as kind
use Rattle.event.specs.declared.Event.TheVariants.{Plain}
use Rattle.puller.specs.declared.record.Puller.{Puller}
use Rattle.pusher.specs.Record.{halts}
use Rattle.pusher.specs.Loan.{PusherLoan, to_pusher}
use Rattle.pusher.specs.Moving as pusher
use Rattle.pusher.specs.declared.record.Pusher.{Pusher}
use Rattle.pusher.proofs.Roles.{Facts, facts, without_ib, without_entries}
use Rattle.channel.specs.Loan.{Loan}
use Rattle.channel.specs.Answers.{step_refusal, answer_values}
use Rattle.channel.specs.Outcomes.{StepsTo}
use Rattle.channel.specs.Stepping.{is_stopped}
use Rattle.channel.specs.Idle.{idles}
use Rattle.channel.specs.Promises.{Resting, Idle}
use Rattle.channel.specs.declared.record.Channel.{Channel}
use Rattle.std.specs.declared.result.Result.TheVariants.{Ok}
use Rattle.channel.specs.declared.stepping.Stepped.{Stepped}
use Rattle.channel.proofs.Answers.{says_kind, kind_says}
use Rattle.channel.proofs.Steps.{when_free, free}
use Rattle.channel.proofs.ByRole.{leaves, GoesOn, goes_on, makes}
use Rattle.channel.proofs.Says.{only_idle, says_idle, goes_as, said_by}

-- a channel that is not stopped has a pusher that is not
not_halted : (p : Pusher) (q : Puller) → is_stopped p q ≡ false → halts p.error ≡ false
unfolding is_stopped
not_halted p q e = go (halts p.error) refl
  where
    go : (b : Bool) → halts p.error ≡ b → halts p.error ≡ false
    go true h = absurd (false≢true (sym e ∙ rw h))
    go false h = h

module _ (c : Channel) where
  -- no entry waits: there are none in NV04-style, and in IB mode ib_get is ib_put
  abbrev NoEntry : Type 0
  NoEntry = (c.setup.setting.mode.number ≡ 1 → ⊥) ⊎ (c.pusher.ib.get ≡ c.pusher.ib.put)

  abbrev ib : Bool
  ib = eqb c.setup.setting.mode.number 1

  abbrev entered : Bool
  entered = eqb c.pusher.ib.get c.pusher.ib.put

  no_entry : choose ib entered true ≡ true → NoEntry
  no_entry e = go ib refl
    where
      go : (b : Bool) → ib ≡ b → NoEntry
      go true m = inr (eqb-true _ _ (sym (choose_true m entered true) ∙ e))
      go false m = inl (eqb-false _ _ m)

  -- 'resting' by the step's role
  abbrev RestingRole : Type 0
  RestingRole = GoesOn c × (c.pusher.get ≡ c.pusher.put) × NoEntry

  rests : idles c ≡ true → RestingRole
  unfolding idles
  rests e =
      let stopped = is_stopped c.pusher c.puller in
      let active = c.puller.acquire.active in
      let equal = eqb c.pusher.get c.pusher.put in
      let x = both (not stopped && not active && equal) (choose ib entered true) e in
      let y = both (not stopped && not active) equal x.0 in
      let z = both (not stopped) (not active) y.0 in
      (when_free _ _ (not-true _ z.0) (not-true _ z.1), eqb-true _ _ y.1, no_entry x.1)

  idle_at : RestingRole → idles c ≡ true
  unfolding idles
  idle_at h =
      let f = free _ _ h.0 in
      rw (
        f.0,
        f.1,
        eq-eqb c.pusher.get c.pusher.put h.1,
        by_test (λ (b : Bool). b ≡ true) {t = ib} (λ m. ⊎_elim (λ n. absurd (n (eqb-true _ _ m))) (λ q. eq-eqb _ _ q) h.2) (λ m. refl),
      )

  module _ (l : Loan) where
    -- of a channel that rests the pusher's role is 'idles', and only then
    idle_role : RestingRole → pusher.role c.setup c.pusher l.pusher ≡ pusher.idles
    idle_role h =
        let on = not_halted c.pusher c.puller (free _ _ h.0).0 in
        ⊎_elim (λ n. without_ib c.setup c.pusher l.pusher on h.1 n) (λ q. without_entries c.setup c.pusher l.pusher on h.1 q) h.2

    resting_role : GoesOn c → pusher.role c.setup c.pusher l.pusher ≡ pusher.idles → RestingRole
    resting_role g e =
        let f : Facts c.setup c.pusher l.pusher pusher.idles = rw e at (facts c.setup c.pusher l.pusher) in
        (g, f.1, f.2)

-- and in plain terms; what is lent is not looked at
module _ (c : Channel) where
  abbrev unlent : PusherLoan
  unlent = to_pusher [] []

  of_role : RestingRole c → Resting c
  of_role h = let m = makes c unlent h.0 in record { running = m.running; no_acquire = m.no_acquire; equal = h.1; no_entry = h.2 }

  to_role : Resting c → RestingRole c
  to_role h = (goes_on c unlent _ (record { running = h.running; no_acquire = h.no_acquire; move = refl }), h.equal, h.no_entry)

says_so : (c : Channel) (l : Loan) (exit : List ℕ) (r : Stepped) → StepsTo c l r exit → step_refusal r.answer ≡ none → idles c ≡ true ↔ (answer_values r.answer ≡ number kind.Idle ∷ [])
says_so c l exit r m t = (
  λ i.
      let w = rests c i in
      let done = goes_as c l (ap (λ (y : Stepped). step_refusal y.answer) (sym m.answer) ∙ t) w.0 (idle_role c l w) in
      kind_says (ap (λ (y : Stepped). y.answer) (leaves c l exit r m done).0 ∙ ap Ok (says_idle c.setup c.pusher c.puller l)),
  λ e.
      let s = said_by c l exit r m (Plain kind.Idle) pusher.idles (says_kind r.answer kind.Idle e) only_idle in
      idle_at c (resting_role c l s.0 s.1),
)

pub idle : Idle
idle =
    record {
      rests = λ c a h. rw h (λ i. of_role c (rests c i), λ k. idle_at c (to_role c k));
      step = λ c a l exit r h m t. rw h (says_so c l exit r m t);
    }
