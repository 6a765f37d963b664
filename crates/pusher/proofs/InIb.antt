-- In IB mode a word that is read leaves the read address behind it. Assumes nothing.
use Prim.Native.Nat.{ℕ, ◌+◌}
use mathlib.Core.Path.{◌≡◌, refl, ap, ◌∙◌}
use mathlib.Core.Bool.{Bool, true, false}
use native.Mathlib.Omega.{arith}
use lib.Dec.{eqb}
use borrow.Author.Tests.{eqb-true, eqb-false}
use Rattle.word.specs.Reading as reading
use Rattle.word.specs.Reading.{read_of}
use Rattle.word.specs.Forms.{Each, ReadsAs, rows}
use Rattle.word.specs.declared.setting.Setting.{Setting}
use Rattle.word.specs.declared.reading.Reading.{Reading}
use Rattle.word.specs.declared.reading.Reading.TheVariants.{Increasing, NonIncreasing, Sli, Return, Long, OldJump, Jump, Call, Reserved, Refused}
use Rattle.word.proofs.First.{by_test}
use Rattle.word.proofs.Forms.{forms}
use Rattle.pusher.specs.Loan.{PusherLoan}
use Rattle.pusher.specs.Moving.{counts, submits, commands, act, advanced, counted, parameter_of, commanded, begun, conditional, push_of}
use Rattle.pusher.specs.Promises.{InIb, ReadsWord}
use Rattle.pusher.specs.declared.record.Setup.{Setup}
use Rattle.pusher.specs.declared.record.Pusher.{Pusher}
use Rattle.pusher.specs.declared.moving.Pushed.{Pushed}
use Rattle.pusher.proofs.PastWord.{advanced_only}
use Rattle.pusher.proofs.Sentences.{by_role, count_role, parameter_role, command_role}

-- what is left has the read address of q
abbrev Stays : Pusher → Pushed → Type 0
Stays q r = r.pusher.get ≡ q.get

-- W4, W6, W7, W8: what sets the read address is no command of IB mode
module _ (s : Setting) (w : ℕ) (ib : s.mode.number ≡ 1) (q : Pusher) where
  away : {P : Type 0} (x : Reading) → x ≡ read_of s w 0 → (reading.number x ≡ 10 → ⊥) → (Each (ReadsAs x) (rows s w 0) → s.mode.number ≡ 0) → P
  away x e n f = absurd (omega (arith, f (forms.each s w 0 x e (λ h. n ((forms.refused s w 0 x e).0.1 h)))))

  command_stays : (x : Reading) → x ≡ read_of s w 0 → Stays q (commanded q x)
  unfolding commanded begun conditional reading.number
  command_stays (Increasing c b m) e = by_test (Stays q) (λ t. refl) (λ t. refl)
  command_stays (NonIncreasing c b m) e = by_test (Stays q) (λ t. refl) (λ t. refl)
  command_stays (Sli k) e = refl
  command_stays Return e = away Return e (λ n. omega arith) (λ x. (x.1.1.1.0.exactly.0 refl).1.1)
  command_stays (Long b m c) e = refl
  command_stays (OldJump t) e = away (OldJump t) e (λ n. omega arith) (λ x. (x.1.1.1.1.1.0.exactly.0 refl).1)
  command_stays (Jump t) e = away (Jump t) e (λ n. omega arith) (λ x. (x.1.1.1.1.1.1.0.exactly.0 refl).1.1)
  command_stays (Call t) e = away (Call t) e (λ n. omega arith) (λ x. (x.1.1.1.1.1.1.1.0.exactly.0 refl).1.1)
  command_stays (Reserved y) e = refl
  command_stays (Refused n) e = refl

parameter_stays : (s : Setup) (q : Pusher) (w : ℕ) → Stays q (parameter_of s q w)
unfolding parameter_of
parameter_stays s q w = by_test (Stays q) (λ t. refl) (λ t. by_test (Stays q) (λ u. refl) (λ u. refl))

pub read_on : (s : Setup) (p : Pusher) (l : PusherLoan) → InIb s → ReadsWord s p l → (push_of s p l).pusher.get ≡ p.get + 4
unfolding act counted
read_on s p l ib h = go p.run.awaited (eqb p.run.count 0) refl refl
  where
    past : (advanced s p).get ≡ p.get + 4
    past = ap (λ (q : Pusher). q.get) (advanced_only s p)

    go : (a z : Bool) → p.run.awaited ≡ a → eqb p.run.count 0 ≡ z → (push_of s p l).pusher.get ≡ p.get + 4
    go true z e f = rw (by_role s p l counts (count_role s p l (record { word = h; awaited = e }))) past
    go false true e f =
        rw (by_role s p l commands (command_role s p l (record { word = h; unawaited = e; none_left = eqb-true _ _ f }))) (command_stays s.setting _ ib (advanced s p) _ refl ∙ past)
    go false false e f =
        rw (by_role s p l submits (parameter_role s p l (record { word = h; unawaited = e; left = eqb-false _ _ f }))) (parameter_stays s (advanced s p) _ ∙ past)
