-- A move keeps the widths and alignments of the pusher. Assumes nothing.
use Prim.Native.Nat.{ℕ, ◌+◌, ◌*◌, ◌/◌, ◌%◌, ◌^◌, ◌≤◌, ◌<◌}
use mathlib.Core.Path.{◌≡◌, refl}
use mathlib.Core.Bool.{Bool, true, false}
use mathlib.Core.Logic.{◌↔◌}
use native.Mathlib.Nat.{mod-lt}
use native.Mathlib.Omega.{arith}
use lib.Dec.{ltb}
use lib.ListN.{length}
use lib.Pow.{pow_pos}
use borrow.Author.Tests.{le-ltb}
use Rattle.word.specs.First.{choose}
use Rattle.word.specs.Lent.{Words}
use Rattle.word.specs.Parts.{numbers_in}
use Rattle.word.specs.Promises.{Within}
use Rattle.word.specs.declared.reading.Reading.{Reading}
use Rattle.word.specs.declared.reading.Reading.TheVariants.{Increasing, NonIncreasing, Sli, Return, Long, OldJump, Jump, Call, Reserved, Refused}
use Rattle.word.proofs.First.{by_test, choose_false}
use Rattle.word.proofs.Promises.{widths}
use Rattle.event.specs.declared.Method.{Method}
use Rattle.event.specs.declared.Event.{Event}
use Rattle.event.proofs.Promises.{at}
use Rattle.pusher.specs.Loan.{PusherLoan}
use Rattle.pusher.specs.Record.{with_get, with_run, with_subroutine, with_ib}
use Rattle.pusher.specs.Entry.{parts, entry_of}
use Rattle.pusher.specs.Moving as moving
use Rattle.pusher.specs.Answers.{did_number, did_values}
use Rattle.pusher.specs.Widths.{SetUp, Narrow, Addresses, RunFits, PusherFields, PusherFits, DidFits, KeepsWidths}
use Rattle.pusher.specs.declared.record.Setup.{Setup}
use Rattle.pusher.specs.declared.record.Run.{Run}
use Rattle.pusher.specs.declared.record.Pusher.{Pusher}
use Rattle.pusher.specs.declared.moving.Did.TheVariants as did
use Rattle.pusher.specs.declared.moving.Pushed.{Pushed}
use Rattle.pusher.proofs.Roles.{Facts, facts}

-- a number below 2^32 is narrow enough in either mode, and one below 2^40 in IB mode
pub narrow_32 : (s : Setup) (a : ℕ) → a < 2 ^ 32 → Narrow s a
narrow_32 s a h = record { nv04_style = λ m. h; ib = λ m. omega arith }

narrow_40 : (s : Setup) (a : ℕ) → s.setting.mode.number ≡ 1 → a < 2 ^ 40 → Narrow s a
narrow_40 s a ib h = record { nv04_style = λ m. absurd (omega arith); ib = λ m. h }

-- an event submits nothing
event_fits : {e : Event} → DidFits (did.Event e)
unfolding did_number
event_fits b m w t = let z : ◌≡◌ {A = ℕ} 1 2 = t.number in absurd (omega arith)

-- a method that is submitted fits exactly if its numbers do
pub submit_fits : (o : Method) → DidFits (did.Submit o) ↔ ((o.subchannel < 8) × (o.parameter < 2 ^ 32))
unfolding did_number did_values
submit_fits o = (
  λ f. f o.subchannel o.method o.parameter (record { number = refl; values = refl }),
  λ h b m w t.
      let same_b : o.subchannel ≡ b = at 0 t.values in
      let same_w : o.parameter ≡ w = at 2 t.values in
      (rw same_b at h.0, rw same_w at h.1),
)

-- what a move leaves fits
abbrev PushedFits : Setup → Pushed → Type 0
PushedFits s r = PusherFits s r.pusher × DidFits r.did

module _ (s : Setup) where
  -- other addresses, another run
  at_addresses : (p : Pusher) (get put mget back : ℕ) → PusherFits s p → Addresses s get put mget back → PusherFields s get put mget back p.ib.get p.ib.put p.run p.sli.mask
  at_addresses p get put mget back f a = record { addresses = a; ib_get = f.ib_get; ib_put = f.ib_put; run = f.run; mask = f.mask }

  at_address : (p : Pusher) (a : ℕ) → PusherFits s p → a < 2 ^ 32 → a % 4 ≡ 0 → PusherFits s (with_get p a)
  at_address p a f h e =
      let old = f.addresses in
      at_addresses p _ _ _ _ f (record { get = (narrow_32 s a h, e); put = old.put; mget = old.mget; back = old.back })

  with_run_lem : (p : Pusher) (r : Run) → PusherFits s p → RunFits r → PusherFits s (with_run p r)
  with_run_lem p r f h = record { addresses = f.addresses; ib_get = f.ib_get; ib_put = f.ib_put; run = h; mask = f.mask }

  with_back : (p : Pusher) (on : Bool) (b : ℕ) → PusherFits s p → b < 2 ^ 32 → b % 4 ≡ 0 → PusherFits s (with_subroutine p on b)
  with_back p on b f h e =
      let old = f.addresses in
      at_addresses p _ _ _ _ f (record { get = old.get; put = old.put; mget = old.mget; back = (h, e) })

  -- past a word that was lent
  past : (p : Pusher) → PusherFits s p → p.get / 4 < 1048576 → PusherFits s (moving.advanced s p)
  unfolding moving.advanced
  past p f l =
      let low : p.get + 4 < 2 ^ 32 = omega arith in
      let four : (p.get + 4) % 4 ≡ 0 = omega (arith, f.addresses.get.1) in
      let old = f.addresses in
      let new = narrow_32 s (p.get + 4) low in
      by_test (PusherFits s) (λ e. at_addresses p _ _ _ _ f (record { get = (new, four); put = old.put; mget = new; back = old.back }))
      (λ e. at_address p (p.get + 4) f low four)

  -- a parameter
  used_up_lem : (p : Pusher) → RunFits p.run → RunFits (moving.used_up p).run
  used_up_lem p f =
      record {
        count = omega (arith, f.count);
        method = by_test (λ (n : ℕ). n < 2 ^ 11) (λ e. omega arith) (λ e. f.method);
        subchannel = f.subchannel;
      }

  parameter : (p : Pusher) (w : ℕ) → PusherFits s p → w < 2 ^ 32 → PushedFits s (moving.parameter_of s p w)
  unfolding moving.parameter_of
  parameter p w f h =
      let after = with_run_lem p _ f (used_up_lem p f.run) in
      by_test (PushedFits s) (λ e. (f, event_fits)) (λ e. by_test (PushedFits s) (λ g. (after, event_fits)) (λ g. (after, (submit_fits (moving.method_of p w)).1 (f.run.subchannel, h))))

  -- a command
  begun : (p : Pusher) (c b n : ℕ) (up : Bool) → PusherFits s p → c < 0x800 → b < 8 → n < 0x2000 → PushedFits s (moving.begun p c b n up)
  unfolding moving.begun
  begun p c b n up f hc hb hn =
      by_test (PushedFits s) (λ e. (f, event_fits)) (λ e. (with_run_lem p _ f (record { count = omega arith; method = omega arith; subchannel = hb }), event_fits))

  command : (p : Pusher) (x : Reading) → PusherFits s p → Within x → PushedFits s (moving.commanded p x)
  unfolding moving.commanded moving.conditional moving.called moving.returned
  command p (Increasing c b n) f w = begun p c b n true f w.0 w.1 w.2
  command p (NonIncreasing c b n) f w = begun p c b n false f w.0 w.1 w.2
  command p (Sli k) f w = (f, event_fits)
  command p Return f w =
      by_test (PushedFits s) (λ e. (f, event_fits)) (λ e. (at_address p p.subroutine.back f f.addresses.back.0 f.addresses.back.1, event_fits))
  command p (Long b n c) f w = (with_run_lem p _ f (record { count = f.run.count; method = omega (arith, w.1); subchannel = w.0 }), event_fits)
  command p (OldJump t) f w = (at_address p t f (omega (arith, w.0)) w.1, event_fits)
  command p (Jump t) f w = (at_address p t f w.0 w.1, event_fits)
  command p (Call t) f w =
      by_test (PushedFits s) (λ e. (f, event_fits))
      (λ e.
      let four : p.get % 2 ^ 32 % 4 ≡ 0 = omega (arith, f.addresses.get.1) in
      (at_address (with_subroutine p true (p.get % 2 ^ 32)) t (with_back p true (p.get % 2 ^ 32) f (omega arith) four) w.0 w.1, event_fits))
  command p (Reserved y) f w = (f, event_fits)
  command p (Refused n) f w = (f, event_fits)

  -- an entry
  entry : (p : Pusher) (e : ℕ) → SetUp s → s.setting.mode.number ≡ 1 → PusherFits s p → PushedFits s (moving.entered (with_ib p (moving.next_index s.order p.ib.get) p.ib.put) (entry_of e))
  unfolding moving.entered moving.next_index moving.prepared entry_of parts numbers_in
  entry p e u ib f =
      let order : choose (ltb 12 s.order) 12 s.order ≡ s.order = choose_false (le-ltb 12 s.order (u.order ib)) _ _ in
      let next : (p.ib.get + 1) % 2 ^ choose (ltb 12 s.order) 12 s.order < 2 ^ s.order = rw order (mod-lt (p.ib.get + 1) (pow_pos s.order)) in
      let address = e / 2 ^ 2 % 2 ^ 38 * 4 in
      let put = (address + 4 * (e / 2 ^ 42 % 2 ^ 22)) % 2 ^ 40 in
      let old = f.addresses in
      by_test (PushedFits s) (λ z. (record { addresses = old; ib_get = next; ib_put = f.ib_put; run = f.run; mask = f.mask }, event_fits))
      (λ z. (
        record {
          addresses =
              record {
                get = (narrow_40 s address ib (omega arith), omega arith);
                put = (narrow_40 s put ib (omega arith), omega arith);
                mget = by_test (Narrow s) (λ n. old.mget) (λ n. narrow_40 s address ib (omega arith));
                back = old.back;
              };
          ib_get = next;
          ib_put = f.ib_put;
          run = f.run;
          mask = f.mask;
        },
        event_fits,
      ))

  -- every move
  act : (p : Pusher) (l : PusherLoan) → SetUp s → PusherFits s p → Words l.words → length l.words ≤ 1048576 → (x : moving.Role) → Facts s p l x → PushedFits s (moving.act s p l x)
  unfolding moving.act moving.counted
  act p l u f w n moving.halted k = (f, event_fits)
  act p l u f w n moving.faults k = (f, event_fits)
  act p l u f w n moving.counts k =
      let q = past p f (omega (arith, k.1.lent)) in
      (with_run_lem (moving.advanced s p) _ q (record { count = omega arith; method = q.run.method; subchannel = q.run.subchannel }), event_fits)
  act p l u f w n moving.submits k = parameter _ (moving.word_at p l.words) (past p f (omega (arith, k.1.lent))) (w (p.get / 4))
  act p l u f w n moving.commands k = command _ _ (past p f (omega (arith, k.1.lent))) (widths s.setting (moving.word_at p l.words) 0 _ refl)
  act p l u f w n moving.enters k = entry p _ u k.1.ib f
  act p l u f w n moving.idles k = (f, event_fits)

pub keeps_widths : KeepsWidths
unfolding moving.push_of
keeps_widths s p l r m u f w n = rw m (act s p l u f w n (moving.role s p l) (facts s p l))
