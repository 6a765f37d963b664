-- How put is set.
use Rattle.std.specs.Prelude.{ℕ, ◌%◌, ◌^◌, Bool, not, List, [], ◌∷◌, eqb, leb, Ok, Err}
use Rattle.word.specs.First.{choose, Case, first, ◌when◌}
use Rattle.word.specs.Setting.{STATE, PUT, refused_or}
use Rattle.word.specs.declared.setting.Refusal.{Refusal}
use Rattle.pusher.specs.Record as pusher
use Rattle.channel.specs.Record.{with_pusher}
use Rattle.channel.specs.State.{well_formed}
use Rattle.channel.specs.declared.record.Channel.{Channel}
use Rattle.channel.specs.declared.putting.Put.{Put}

-- R7: where put may not be
unfoldable pub put_refused : Channel → ℕ → Bool
put_refused c n = choose (eqb c.setup.setting.mode.number 1) (leb (2 ^ c.setup.order) n) (not (eqb (n % 4) 0))

-- R26: the order of setting put
abbrev pub put_cases : Channel → ℕ → List Case
put_cases c n = STATE when not (well_formed c) ∷ PUT when put_refused c n ∷ []

-- S2: put, or ib_put, and nothing else
unfoldable pub with_put : Channel → ℕ → Channel
with_put c n =
    choose (eqb c.setup.setting.mode.number 1) (with_pusher c (pusher.with_ib c.pusher c.pusher.ib.get n))
    (with_pusher c (pusher.with_put c.pusher n))

-- R31: a refusal leaves the channel
abbrev pub unchanged : Channel → Refusal → Put
unchanged c n = record { answer = Err n; channel = c }

unfoldable pub put_of : Channel → ℕ → Put
put_of c n = refused_or (unchanged c) (first (put_cases c n)) (record { answer = Ok tt; channel = with_put c n })
