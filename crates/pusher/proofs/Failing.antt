-- A move that leaves an error changes nothing else, but for the advance past a word or to the next entry. Assumes nothing.
use Prim.Native.Nat.{ℕ, ◌≤◌}
use mathlib.Core.Path.{◌≡◌, refl, sym, ap, ◌∙◌}
use mathlib.Core.Bool.{Bool, true, false, false≢true}
use native.Mathlib.Omega.{arith}
use Rattle.std.specs.Prelude.{Some}
use Rattle.word.specs.declared.why.Why.TheVariants as why
use Rattle.word.specs.declared.reading.Reading.{Reading}
use Rattle.word.specs.declared.reading.Reading.TheVariants.{Increasing, NonIncreasing, Sli, Return, Long, OldJump, Jump, Call, Reserved, Refused}
use Rattle.word.proofs.First.{by_test}
use Rattle.pusher.specs.Loan.{PusherLoan}
use Rattle.pusher.specs.Record.{number, with_ib}
use Rattle.pusher.specs.Moving.{Role, halted, faults, counts, submits, commands, enters, idles, role, act, push_of, advanced, counted, parameter_of, begun, conditional, called, returned, commanded, next_index, entered, prepared, failed_by}
use Rattle.pusher.specs.Outcomes.{Moves}
use Rattle.pusher.specs.Promises.{Running, Failing}
use Rattle.pusher.specs.declared.record.Setup.{Setup}
use Rattle.pusher.specs.declared.record.PusherError.{PusherError}
use Rattle.pusher.specs.declared.record.PusherError.TheVariants as cause
use Rattle.pusher.specs.declared.record.Pusher.{Pusher}
use Rattle.pusher.specs.declared.moving.Pushed.{Pushed}
use Rattle.pusher.specs.declared.entry.Entry.{Entry}
use Rattle.pusher.proofs.PastWord.{advanced_only}
use Rattle.pusher.proofs.Roles.{Facts, facts}
use Rattle.pusher.proofs.Outcomes.{ends_with, fails_of}
use Rattle.pusher.proofs.Sentences.{runs, past_is, rises_to}

-- the pushers to which a move may add nothing but the error: q past the word, i at the next entry, p itself
module _ (q i p : Pusher) where
  -- which of them it is, by the error's number
  record Fate (r : Pushed) : Type 0 where
    word : 1 ≤ number r.pusher.error → number r.pusher.error ≤ 4 → r ≡ ends_with q r.pusher.error
    entry : number r.pusher.error ≡ 5 → r ≡ ends_with i r.pusher.error
    protection : number r.pusher.error ≡ 6 → r ≡ ends_with p r.pusher.error

  -- without an error it is none of them
  runs_on : (r : Pushed) → Running r.pusher → Fate r
  runs_on r run = record { word = λ a b. absurd (omega arith); entry = λ a. absurd (omega arith); protection = λ a. absurd (omega arith) }

  word_fails : (e : PusherError) → 1 ≤ number (Some e) → number (Some e) ≤ 4 → Fate (failed_by q e)
  word_fails e a b = record { word = λ c d. refl; entry = λ c. absurd (omega arith); protection = λ c. absurd (omega arith) }

  -- of a word, where q runs on
  module _ (run : Running q) where
    parameter_fails : (s : Setup) (w : ℕ) → Fate (parameter_of s q w)
    unfolding parameter_of number
    parameter_fails s w = by_test Fate (λ e. word_fails cause.NonCache (omega arith) (omega arith)) (λ e. by_test Fate (λ f. runs_on _ run) (λ f. runs_on _ run))

    begun_fails : (c b n : ℕ) (up : Bool) → Fate (begun q c b n up)
    unfolding begun
    begun_fails c b n up = by_test Fate (λ e. runs_on _ run) (λ e. runs_on _ run)

    command_fails : (x : Reading) → Fate (commanded q x)
    unfolding commanded conditional called returned number
    command_fails (Increasing c b n) = begun_fails c b n true
    command_fails (NonIncreasing c b n) = begun_fails c b n false
    command_fails (Sli k) = runs_on _ run
    command_fails Return = by_test Fate (λ e. word_fails cause.Return (omega arith) (omega arith)) (λ e. runs_on _ run)
    command_fails (Long b n c) = runs_on _ run
    command_fails (OldJump t) = runs_on _ run
    command_fails (Jump t) = runs_on _ run
    command_fails (Call t) = by_test Fate (λ e. word_fails cause.Call (omega arith) (omega arith)) (λ e. runs_on _ run)
    command_fails (Reserved y) = word_fails (cause.ReservedCmd y) (omega arith) (omega arith)
    command_fails (Refused n) = word_fails (cause.ReservedCmd why.Form) (omega arith) (omega arith)

  entry_fails : (e : Entry) → Running i → Fate (entered i e)
  unfolding entered prepared number
  entry_fails e run =
      by_test Fate (λ z. record { word = λ a b. absurd (omega arith); entry = λ a. refl; protection = λ a. absurd (omega arith) }) (λ z. runs_on _ run)

  protection_fails : Fate (failed_by p cause.Protection)
  unfolding number
  protection_fails = record { word = λ a b. absurd (omega arith); entry = λ a. absurd (omega arith); protection = λ a. refl }

-- past a word it still runs
advanced_runs : (s : Setup) (p : Pusher) → Running p → Running (advanced s p)
advanced_runs s p run = ap (λ (x : Pusher). number x.error) (advanced_only s p) ∙ run

-- the pusher with ib_get at the next entry
abbrev at_next : Setup → Pusher → Pusher
at_next s p = with_ib p (next_index s.order p.ib.get) p.ib.put

module _ (s : Setup) (p : Pusher) (l : PusherLoan) (run : Running p) where
  act_fails : (x : Role) → Facts s p l x → Fate (advanced s p) (at_next s p) p (act s p l x)
  unfolding act counted
  act_fails halted f = absurd (false≢true (sym (runs p.error run) ∙ f))
  act_fails faults f = protection_fails _ _ p
  act_fails counts f = runs_on _ _ p _ (advanced_runs s p run)
  act_fails submits f = parameter_fails _ _ p (advanced_runs s p run) s _
  act_fails commands f = command_fails _ _ p (advanced_runs s p run) _
  act_fails enters f = entry_fails _ (at_next s p) p _ run
  act_fails idles f = runs_on _ _ p _ run

  move_fails : (r : Pushed) → Moves s p l r → Fate (advanced s p) (at_next s p) p r
  unfolding push_of
  move_fails r m = rw m (act_fails (role s p l) (facts s p l))

pub failing : Failing
failing =
    record {
      word = λ s p q l r m run a b past.
          let f = (move_fails s p l run r m).word a b in
          fails_of r.pusher.error (rw (past_is s p q past) f);
      entry = λ s p l i r m run e up.
          let f = (move_fails s p l run r m).entry e in
          rw (sym e) (fails_of r.pusher.error (rw (sym (rises_to s p i up)) f));
      protection = λ s p l r m run e. rw (sym e) (fails_of r.pusher.error ((move_fails s p l run r m).protection e));
    }
