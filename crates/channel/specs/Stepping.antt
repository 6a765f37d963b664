-- One step of the channel (docs/CARD.md, S). What a step does, it does to the halves; the channel is put together again from them.
use Rattle.std.specs.Prelude.{ℕ, Bool, not, ◌||◌, List, [], ◌∷◌, length, Ok, Err}
use Rattle.word.specs.First.{choose, Case, first, ◌when◌}
use Rattle.word.specs.Setting.{STATE, SIZE, TABLE, size_refused, refused_or}
use Rattle.word.specs.declared.setting.Level.{Level}
use Rattle.word.specs.declared.setting.Refusal.{Refusal}
use Rattle.event.specs.declared.Kind.TheVariants as kind
use Rattle.event.specs.declared.Method.{Method}
use Rattle.event.specs.declared.Event.{Event}
use Rattle.event.specs.declared.Event.TheVariants.{Plain}
use Rattle.puller.specs.Loan.{PullerLoan}
use Rattle.puller.specs.Record as puller
use Rattle.puller.specs.Taking.{retry_of, take_of}
use Rattle.puller.specs.declared.record.Puller.{Puller}
use Rattle.puller.specs.declared.taking.Taken.{Taken}
use Rattle.pusher.specs.Record as pusher
use Rattle.pusher.specs.Moving.{push_of}
use Rattle.pusher.specs.declared.record.Setup.{Setup}
use Rattle.pusher.specs.declared.record.Pusher.{Pusher}
use Rattle.pusher.specs.declared.moving.Did.{Did}
use Rattle.pusher.specs.declared.moving.Did.TheVariants as did
use Rattle.channel.specs.Loan.{Loan}
use Rattle.channel.specs.Record.{with_halves}
use Rattle.channel.specs.State.{well_formed}
use Rattle.channel.specs.Opening.{table_refused}
use Rattle.channel.specs.declared.record.Channel.{Channel}
use Rattle.channel.specs.declared.stepping.Acted.{Acted}
use Rattle.channel.specs.declared.stepping.Stepped.{Stepped}

-- What a step leaves: its answer with the channel, and the semaphore memory.
pub record Outcome : Type 0 where
  pub stepped : Stepped
  pub memory : List ℕ

-- What a step does: what it says with the halves after it, and the semaphore memory.
pub record Effect : Type 0 where
  pub acted : Acted
  pub memory : List ℕ

-- S4: an error of either half has stopped the channel
unfoldable pub is_stopped : Pusher → Puller → Bool
is_stopped p q = pusher.halts p.error || puller.halts q.error

-- S3: what a step is about to do: nothing more, a retry, or the pusher's move, which tells S6, S7 and S8 apart
-- (pusher/specs/Moving.antt).
pub data Role : Type 0 where
  halted retries moves : Role

-- S3, S4, S5: the first that applies
unfoldable pub role : Pusher → Puller → Role
role p q = choose (is_stopped p q) halted (choose q.acquire.active retries moves)

abbrev pub saying : Event → Pusher → Puller → Acted
saying e p q = record { event = e; pusher = p; puller = q }

-- S5: what the puller says, with the pusher as it is
abbrev pub with_taken : Pusher → Taken → Acted
with_taken p t = saying t.event p t.puller

abbrev pub waited : Level → Pusher → Puller → List ℕ → Acted
waited level p q sems = with_taken p (retry_of level.number q sems)

-- S24, P21: the puller takes a method in the step that submits it, and whatever comes of that, the pusher keeps its move
abbrev pub submitted : Level → Pusher → Puller → Method → PullerLoan → Effect
submitted level p q m l = record { acted = with_taken p (take_of level.number q m l).taken; memory = (take_of level.number q m l).memory }

-- S3, S27: what the pusher says by itself leaves the puller and the memory
unfoldable pub finished : Level → Pusher → Puller → Did → PullerLoan → Effect
finished level p q (did.Event e) l = record { acted = saying e p q; memory = l.semaphores }
finished level p q (did.Submit m) l = submitted level p q m l

abbrev pub moved : Setup → Pusher → Puller → Loan → Effect
moved s p q l = finished s.setting.level (push_of s p l.pusher).pusher q (push_of s p l.pusher).did l.puller

-- S3: what a step does in a role; S4: where an error has stopped it, nothing
unfoldable pub act : Setup → Pusher → Puller → Loan → Role → Effect
act s p q l halted = record { acted = saying (Plain kind.Stopped) p q; memory = l.puller.semaphores }
act s p q l retries = record { acted = waited s.setting.level p q l.puller.semaphores; memory = l.puller.semaphores }
act s p q l moves = moved s p q l

-- the channel with the halves that it leaves
abbrev pub with_acted : Channel → Acted → Stepped
with_acted c a = record { answer = Ok a.event; channel = with_halves c a.pusher a.puller }

abbrev pub acted_on : Channel → Effect → Outcome
acted_on c x = record { stepped = with_acted c x.acted; memory = x.memory }

-- what a step leaves in a role, and in its own, where it is not refused
abbrev pub acting : Channel → Loan → Role → Outcome
acting c l x = acted_on c (act c.setup c.pusher c.puller l x)

abbrev pub unrefused : Channel → Loan → Outcome
unrefused c l = acting c l (role c.pusher c.puller)

-- R27: the order of a step
abbrev pub step_cases : Channel → Loan → List Case
step_cases c l =
    STATE when not (well_formed c)
    ∷ SIZE when (size_refused (length l.pusher.words) || size_refused (length l.puller.semaphores))
    ∷ TABLE when table_refused (length l.puller.table)
    ∷ []

-- R31: a refusal leaves the channel, and the memory
abbrev pub refusing : Channel → Refusal → Stepped
refusing c n = record { answer = Err n; channel = c }

abbrev pub unchanged : Channel → Loan → Refusal → Outcome
unchanged c l n = record { stepped = refusing c n; memory = l.puller.semaphores }

-- one step
unfoldable pub step_of : Channel → Loan → Outcome
step_of c l = refused_or (unchanged c l) (first (step_cases c l)) (unrefused c l)
