-- What the definitions write out as a whole is what the statements say by fields and by an answer's values; and that leaves one
-- answer. Assumes nothing.
use Prim.Native.Nat.{ℕ}
use mathlib.Core.Path.{◌≡◌, refl, sym, ◌∙◌}
use mathlib.Core.Option.{some}
use Rattle.event.specs.Event.{values}
use Rattle.event.specs.declared.Event.{Event}
use Rattle.puller.specs.declared.record.Puller.{Puller}
use Rattle.pusher.specs.declared.record.Pusher.{Pusher}
use Rattle.channel.specs.Answers.{step_refusal, answer_values}
use Rattle.channel.specs.Record.{with_halves}
use Rattle.channel.specs.Stepping.{refusing}
use Rattle.channel.specs.Promises.{Halves, Leaves}
use Rattle.channel.specs.declared.record.Channel.{Channel}
use Rattle.std.specs.declared.result.Result.TheVariants.{Ok}
use Rattle.channel.specs.declared.stepping.Stepped.{Stepped}
use Rattle.channel.proofs.Answers.{says_event, says_refusal}

-- it says e, and leaves the pusher p and the puller q
abbrev pub leaving : Channel → Event → Pusher → Puller → Stepped
leaving c e p q = record { answer = Ok e; channel = with_halves c p q }

module _ {c : Channel} {p : Pusher} {q : Puller} where
  pub has_halves : {d : Channel} → d ≡ with_halves c p q → Halves c p q d
  has_halves h = rw h (record { setup = refl; pusher = refl; puller = refl })

  pub halves_are : {d : Channel} → Halves c p q d → d ≡ with_halves c p q
  halves_are h = rw (h.setup, h.pusher, h.puller)

  pub leaves_plainly : {e : Event} {r : Stepped} → r ≡ leaving c e p q → Leaves c p q (values e) r
  unfolding answer_values
  leaves_plainly h = rw h (record { channel = has_halves refl; says = refl })

  pub leaves_is : (e : Event) (r : Stepped) → Leaves c p q (values e) r → r ≡ leaving c e p q
  leaves_is e r h = let says = says_event r.answer e h.says in let channel = halves_are h.channel in rw (says, channel)

-- no two answers are so
pub leaves_one : {c : Channel} {p : Pusher} {q : Puller} (e : Event) (a b : Stepped) → Leaves c p q (values e) a → Leaves c p q (values e) b → a ≡ b
leaves_one e a b x y = leaves_is e a x ∙ sym (leaves_is e b y)

-- a refusal that hands the channel back
pub refusing_is : (c : Channel) (n : ℕ) (r : Stepped) → step_refusal r.answer ≡ some n → r.channel ≡ c → r ≡ refusing c (record { number = n })
refusing_is c n r h k = let says = says_refusal r.answer n h in rw (says, k)
