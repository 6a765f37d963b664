-- `AtMostOneMove`: a step is at most one move of the pusher. Assumes nothing.
use Prim.Native.Nat.{ℕ}
use mathlib.Core.Path.{◌≡◌, refl}
use mathlib.Core.Logic.{◌⊎◌, inl, inr}
use mathlib.Core.Option.{Option, none, some}
use Rattle.word.specs.First.{first}
use Rattle.word.specs.Setting.{refused_or}
use Rattle.word.specs.declared.setting.Level.{Level}
use Rattle.puller.specs.Loan.{PullerLoan}
use Rattle.puller.specs.declared.record.Puller.{Puller}
use Rattle.pusher.specs.Moving.{push_of}
use Rattle.pusher.specs.declared.record.Pusher.{Pusher}
use Rattle.pusher.specs.declared.moving.Did.{Did}
use Rattle.pusher.specs.declared.moving.Did.TheVariants as did
use Rattle.pusher.specs.declared.moving.Pushed.{Pushed}
use Rattle.channel.specs.Loan.{Loan}
use Rattle.channel.specs.Stepping.{Outcome, Role, halted, retries, moves, role, act, acting, unrefused, finished, step_cases, unchanged, step_of}
use Rattle.channel.specs.Promises.{MakesMove, AtMostOneMove}
use Rattle.channel.specs.declared.record.Channel.{Channel}
use Rattle.channel.proofs.ByRole.{makes}

-- whatever follows a move leaves its pusher
pub finished_carries : (level : Level) (p : Pusher) (q : Puller) (d : Did) (l : PullerLoan) → (finished level p q d l).acted.pusher ≡ p
unfolding finished
finished_carries level p q (did.Event e) l = refl
finished_carries level p q (did.Submit m) l = refl

module _ (c : Channel) (l : Loan) where
  -- what a step leaves of set-up and pusher
  abbrev Carries : Outcome → Type 0
  Carries o =
      (o.stepped.channel.setup ≡ c.setup)
      × ((o.stepped.channel.pusher ≡ c.pusher) ⊎ ((x : Pushed) × MakesMove c l.pusher x × (o.stepped.channel.pusher ≡ x.pusher)))

  act_carries : (x : Role) → role c.pusher c.puller ≡ x → Carries (acting c l x)
  unfolding act
  act_carries halted e = (refl, inl refl)
  act_carries retries e = (refl, inl refl)
  act_carries moves e = (
    refl,
    inr (push_of c.setup c.pusher l.pusher, makes c l.pusher e, finished_carries _ _ c.puller (push_of c.setup c.pusher l.pusher).did l.puller),
  )

  carries : Carries (step_of c l)
  unfolding step_of refused_or
  carries = go (first (step_cases c l))
    where
      go : (o : Option ℕ) → Carries (refused_or (unchanged c l) o (unrefused c l))
      go none = act_carries (role c.pusher c.puller) refl
      go (some n) = (refl, inl refl)

pub at_most_one_move : AtMostOneMove
at_most_one_move c l exit r m = rw m.answer (carries c l)
