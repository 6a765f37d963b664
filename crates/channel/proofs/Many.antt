-- Laws of steps one after another: where they begin well-formed they stay so, and none is refused. Assumes nothing.
use Prim.Native.Nat.{ℕ, zero, suc}
use mathlib.Core.Path.{◌≡◌, refl, ◌∙◌}
use mathlib.Core.Option.{Option, none, some}
use native.Mathlib.Omega.{arith}
use lib.ListN.{length}
use Rattle.word.specs.First.{first}
use Rattle.word.specs.Setting.{refused_or}
use Rattle.word.specs.declared.setting.Level.{Level}
use Rattle.word.specs.declared.setting.Refusal.{Refusal}
use Rattle.event.specs.declared.Event.{Event}
use Rattle.puller.specs.Loan.{PullerLoan}
use Rattle.puller.specs.declared.record.Puller.{Puller}
use Rattle.puller.proofs.Widths.{keeps_widths}
use Rattle.pusher.specs.Moving.{push_of}
use Rattle.pusher.specs.declared.record.Pusher.{Pusher}
use Rattle.pusher.specs.declared.moving.Did.{Did}
use Rattle.pusher.specs.declared.moving.Did.TheVariants as did
use Rattle.channel.specs.Loan.{Loan, with_semaphores}
use Rattle.channel.specs.Answers.{step_refusal}
use Rattle.channel.specs.Stepping.{Role, halted, retries, moves, role, finished, act, acting, unrefused, step_cases, unchanged, step_of}
use Rattle.channel.specs.Many.{step_at, after}
use Rattle.channel.specs.Promises.{WellFormed, SizesFit, OfWords, Later, same, step}
use Rattle.channel.specs.declared.record.Channel.{Channel}
use Rattle.std.specs.declared.result.Result.{Result}
use Rattle.std.specs.declared.result.Result.TheVariants.{Ok, Err}
use Rattle.channel.proofs.ByRole as taking
use Rattle.channel.proofs.Promises.{kept}

-- an answer that is not a refusal is an event
pub is_event : (a : Result Event Refusal) → step_refusal a ≡ none → (e : Event) × (a ≡ Ok e)
unfolding step_refusal
is_event (Ok e) h = (e, refl)
is_event (Err r) h = let z : ◌≡◌ {A = ℕ} 0 1 = cc in absurd (omega arith)

-- A step keeps the length of the semaphore memory.
finished_length : (level : Level) (p : Pusher) (q : Puller) (d : Did) (l : PullerLoan) → length (finished level p q d l).memory ≡ length l.semaphores
unfolding finished
finished_length level p q (did.Event e) l = refl
finished_length level p q (did.Submit m) l = keeps_widths.length level q m l _ _ (record { answer = refl; memory = refl })

module _ (c : Channel) (l : Loan) where
  act_length : (x : Role) → length (acting c l x).memory ≡ length l.puller.semaphores
  unfolding act
  act_length halted = refl
  act_length retries = refl
  act_length moves = finished_length _ _ c.puller (push_of c.setup c.pusher l.pusher).did l.puller

  -- a refused one leaves it
  pub step_length : length (step_of c l).memory ≡ length l.puller.semaphores
  unfolding step_of refused_or
  step_length = go (first (step_cases c l))
    where
      go : (o : Option ℕ) → length (refused_or (unchanged c l) o (unrefused c l)).memory ≡ length l.puller.semaphores
      go none = act_length (role c.pusher c.puller)
      go (some n) = refl

module _ (l : Loan) (c : Channel) where
  pub after_length : (n : ℕ) → length (after l n c).semaphores ≡ length l.puller.semaphores
  unfolding after
  after_length zero = refl
  after_length (suc n) = step_length (after l n c).channel (with_semaphores l (after l n c).semaphores) ∙ after_length n

  module _ (words : OfWords l) where
    -- what is lent at a moment is of words too
    at : (n : ℕ) → OfWords (with_semaphores l (after l n c).semaphores)
    at n = record { words = words.words; table = words.table }

    pub after_later : (n : ℕ) → Later c (after l n c).channel
    unfolding after
    after_later zero = same
    after_later (suc n) = step (with_semaphores l (after l n c).semaphores) _ _ (after_later n) (at n) (record { answer = refl; memory = refl }) refl

    module _ (formed : WellFormed c) where
      pub after_formed : (n : ℕ) → WellFormed (after l n c).channel
      after_formed n = kept.later c (after l n c).channel formed (after_later n)

      pub none_refused : SizesFit l → (n : ℕ) → step_refusal (step_at l (after l n c)).stepped.answer ≡ none
      none_refused size n =
          let long = after_length n in
          taking.none_refused (after l n c).channel (with_semaphores l (after l n c).semaphores) (record {
            well_formed = after_formed n;
            sizes = record { words = size.words; semaphores = omega (arith, size.semaphores); table = size.table };
          })
