-- Well-formed channels: those opened, and those that puts and steps leave. Assumes nothing.
use Prim.Native.Nat.{ℕ, zero, suc, ◌%◌, ◌^◌, ◌≤◌, ◌<◌}
use mathlib.Core.Path.{◌≡◌, refl, sym, ◌∙◌}
use mathlib.Core.Bool.{Bool, true, false, false≢true}
use mathlib.Core.List.{List}
use mathlib.Core.Logic.{inl, inr}
use mathlib.Core.Option.{Option, none, some}
use native.Mathlib.Omega.{arith}
use lib.Dec.{eqb}
use lib.ListN.{length, get_or, replicate}
use lib.Pow.{pow_pos}
use borrow.Author.Tests.{eq-eqb, ne_eqb, eqb-true, eqb-false}
use Rattle.word.specs.First.{first}
use Rattle.word.specs.Setting.{refused_or}
use Rattle.std.specs.declared.result.Result.TheVariants.{Ok}
use Rattle.word.proofs.First.{choose_true, choose_false, by_test}
use Rattle.word.proofs.Settings.{accepted}
use Rattle.puller.specs.Widths.{PullerFits}
use Rattle.puller.proofs.Widths as puller
use Rattle.pusher.specs.Moving.{push_of}
use Rattle.pusher.specs.Widths.{SetUp, PusherFits, DidFits}
use Rattle.pusher.specs.declared.record.Setup.{Setup}
use Rattle.pusher.specs.declared.record.Pusher.{Pusher}
use Rattle.pusher.specs.declared.moving.Did.{Did}
use Rattle.pusher.specs.declared.moving.Did.TheVariants as did
use Rattle.pusher.proofs.Widths.{narrow_32, submit_fits}
use Rattle.pusher.proofs.Widths as pusher
use Rattle.channel.specs.Loan.{Loan}
use Rattle.channel.specs.Answers.{opening_refusal}
use Rattle.channel.specs.Opening.{resting_at, setup_with, held_order, fresh_channel, blank_channel, opened, opening_of, open_of}
use Rattle.channel.specs.Putting.{put_cases, with_put, unchanged, put_of}
use Rattle.channel.specs.Stepping.{Effect, Role, halted, retries, moves, role, finished, act, unrefused, step_cases, step_of}
use Rattle.channel.specs.Stepping as stepping
use Rattle.channel.specs.Promises.{WellFormed, OfWords, open_plain, put_plain, step_plain}
use Rattle.channel.specs.declared.record.Channel.{Channel}
use Rattle.std.specs.declared.result.Result.{Result}
use Rattle.channel.specs.declared.opening.Unopened.{Unopened}
use Rattle.channel.proofs.Refusals.{NoneOf, none_of, refused_one, put_agree, step_agree}
use Rattle.channel.proofs.OpensPlainly.{opened_blank, opened_open, seven, open_first, open_agree}

-- a channel at rest
zeros : (n i : ℕ) → ◌≡◌ {A = ℕ} (get_or (replicate n 0) i 0) 0
zeros zero i = refl
zeros (suc n) zero = refl
zeros (suc n) (suc i) = zeros n i

resting : (s : Setup) (mask : ℕ) (active : Bool) → SetUp s → mask < 2 ^ 12 → WellFormed (resting_at s mask active)
resting s mask active u h =
    record {
      setup = u;
      pusher =
          record {
            addresses =
                record {
                  get = (narrow_32 s 0 (omega arith), refl);
                  put = (narrow_32 s 0 (omega arith), refl);
                  mget = narrow_32 s 0 (omega arith);
                  back = (omega arith, refl);
                };
            ib_get = pow_pos s.order;
            ib_put = pow_pos s.order;
            run = record { count = omega arith; method = omega arith; subchannel = omega arith };
            mask = h;
          };
      puller =
          record {
            engines = λ i l. rw (zeros 8 i) (omega arith);
            last = omega arith;
            reference = omega arith;
            dma = omega arith;
            offset = omega arith;
            value = omega arith;
            address = omega arith;
            sequence = omega arith;
          };
    }

-- the set-up of an opening that is not refused
module _ (level mode order : ℕ) (sli : Bool) (mask limit : ℕ) (t : List ℕ) (low : limit < 2 ^ 32) (h : NoneOf (open_plain level mode order sli mask t)) where
  fresh_set_up : SetUp (setup_with level mode sli (held_order mode order) limit)
  unfolding held_order
  fresh_set_up =
      let over = h.0 in
      let modes = h.1.0 in
      record {
        level = omega arith;
        mode = let n : (1 < mode → ⊥) = λ l. modes (inl l) in omega arith;
        ib = λ m. let n : (level < 4 → ⊥) = λ l. modes (inr (m, l)) in omega arith;
        order = λ m.
            let n : (12 < order → ⊥) = λ l. h.1.1.0 (m, l) in
            rw (choose_true (eq-eqb mode 1 m) order 0) (omega arith);
        sli = λ e. let n : (level < 3 → ⊥) = λ l. h.1.1.1.0 (e, l) in omega arith;
        held = λ m. choose_false (ne_eqb mode 1 (λ e. omega arith)) order 0;
        limit = low;
      }

  fresh_formed : WellFormed (fresh_channel level mode order sli mask limit)
  fresh_formed = let n = h.1.1.1.1.0 in resting _ mask true fresh_set_up (omega arith)

blank_formed : WellFormed blank_channel
blank_formed =
    resting _ 0 false
    (record { level = omega arith; mode = omega arith; ib = λ m. absurd (omega arith); order = λ m. omega arith; sli = λ e. absurd (false≢true e); held = λ m. refl; limit = omega arith })
    (omega arith)

-- opened and blank channels
module _ (level mode order : ℕ) (sli : Bool) (mask limit : ℕ) (t : List ℕ) (low : limit < 2 ^ 32) where
  abbrev answer : Result Unit Unopened
  answer = opening_of level mode order sli mask t

  abbrev fresh : Channel
  fresh = fresh_channel level mode order sli mask limit

  by_refusal : (o : Option ℕ) → opening_refusal answer ≡ o → WellFormed (opened answer fresh).channel
  by_refusal none e =
      let held = none_of (seven level mode order sli mask t) (open_plain level mode order sli mask t) (open_agree level mode order sli mask t) (sym (open_first level mode order sli mask t) ∙ e) in
      rw (opened_open answer fresh e).1 (fresh_formed level mode order sli mask limit t low held)
  by_refusal (some n) e = rw (opened_blank answer fresh n e) blank_formed

  pub opened_formed : WellFormed (open_of level mode order sli mask limit t).channel
  unfolding open_of
  opened_formed = by_refusal (opening_refusal answer) refl

-- a put
put_formed : (c : Channel) (n : ℕ) → WellFormed c → n < 2 ^ 32 → NoneOf (put_plain c n) → WellFormed (with_put c n)
unfolding with_put
put_formed c n w low h =
    let f = w.pusher in
    let a = f.addresses in
    by_test WellFormed
    (λ e.
    let ib = eqb-true c.setup.setting.mode.number 1 e in
    let over : (2 ^ c.setup.order ≤ n → ⊥) = λ l. h.1.0 (inr (ib, l)) in
    record {
      setup = w.setup;
      pusher = record { addresses = a; ib_get = f.ib_get; ib_put = omega arith; run = f.run; mask = f.mask };
      puller = w.puller;
    })
    (λ e.
    let nv04 = eqb-false c.setup.setting.mode.number 1 e in
    let four : n % 4 ≡ 0 = aligned (λ m. h.1.0 (inl (nv04, m))) in
    record {
      setup = w.setup;
      pusher =
          record {
            addresses = record { get = a.get; put = (narrow_32 c.setup n low, four); mget = a.mget; back = a.back };
            ib_get = f.ib_get;
            ib_put = f.ib_put;
            run = f.run;
            mask = f.mask;
          };
      puller = w.puller;
    })
  where
    aligned : ((n % 4 ≡ 0 → ⊥) → ⊥) → n % 4 ≡ 0
    aligned d = go (eqb (n % 4) 0) refl
      where
        go : (b : Bool) → eqb (n % 4) 0 ≡ b → n % 4 ≡ 0
        go true e = eqb-true _ _ e
        go false e = absurd (d (eqb-false _ _ e))

pub put_keeps : (c : Channel) (n : ℕ) → WellFormed c → n < 2 ^ 32 → WellFormed (put_of c n).channel
unfolding put_of
put_keeps c n w low = go (first (put_cases c n)) refl
  where
    go : (o : Option ℕ) → first (put_cases c n) ≡ o → WellFormed (refused_or (unchanged c) o (record { answer = Ok tt; channel = with_put c n })).channel
    go none e = rw (accepted (unchanged c) (record { answer = Ok tt; channel = with_put c n }) {o = none} refl) (put_formed c n w low (none_of (put_cases c n) (put_plain c n) (put_agree c n) e))
    go (some k) e = rw (refused_one (unchanged c) (record { answer = Ok tt; channel = with_put c n }) k) w

-- a step
module _ (c : Channel) (l : Loan) (w : WellFormed c) (lent : OfWords l) where
  -- what it leaves of the halves fits
  abbrev Fits : Effect → Type 0
  Fits x = PusherFits c.setup x.acted.pusher × PullerFits x.acted.puller

  finished_fits : (p : Pusher) (d : Did) → PusherFits c.setup p → DidFits d → Fits (finished c.setup.setting.level p c.puller d l.puller)
  unfolding finished
  finished_fits p (did.Event e) f g = (f, w.puller)
  finished_fits p (did.Submit m) f g =
      let h = (submit_fits m).0 g in
      (f, (puller.keeps_widths).take c.setup.setting.level c.puller m l.puller _ _ (record { answer = refl; memory = refl }) w.puller h.0 h.1 lent.table)

  act_fits : length l.pusher.words ≤ 1048576 → (x : Role) → Fits (act c.setup c.pusher c.puller l x)
  unfolding act
  act_fits few halted = (w.pusher, w.puller)
  act_fits few retries = (w.pusher, (puller.keeps_widths).retry c.setup.setting.level c.puller l.puller.semaphores _ refl w.puller)
  act_fits few moves =
      let f = pusher.keeps_widths c.setup c.pusher l.pusher _ refl w.setup w.pusher lent.words few in
      finished_fits _ (push_of c.setup c.pusher l.pusher).did f.0 f.1

  pub step_keeps : WellFormed (step_of c l).stepped.channel
  unfolding step_of
  step_keeps = go (first (step_cases c l)) refl
    where
      go : (o : Option ℕ) → first (step_cases c l) ≡ o → WellFormed (refused_or (stepping.unchanged c l) o (unrefused c l)).stepped.channel
      go none e =
          let h = none_of (step_cases c l) (step_plain c l) (step_agree c l) e in
          let over : (1048576 < length l.pusher.words → ⊥) = λ b. h.1.0 (inl b) in
          let f = act_fits (omega arith) (role c.pusher c.puller) in
          rw (accepted (stepping.unchanged c l) (unrefused c l) {o = none} refl) (record { setup = w.setup; pusher = f.0; puller = f.1 })
      go (some k) e = rw (refused_one (stepping.unchanged c l) (unrefused c l) k) w
