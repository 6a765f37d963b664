-- How a run ends.
use Rattle.std.specs.Prelude.{ℕ, leb}
use Rattle.std.specs.declared.option.Option.{Option}
use Rattle.std.specs.declared.option.Option.TheVariants.{None, Some}
use Rattle.word.specs.First.{choose}
use Rattle.pusher.specs.Record as pusher
use Rattle.channel.specs.Stepping.{is_stopped}
use Rattle.channel.specs.Idle.{idles}
use Rattle.channel.specs.declared.record.Channel.{Channel}
use Rattle.trace.specs.declared.end.Cause.{Cause}
use Rattle.trace.specs.declared.end.Cause.TheVariants as cause
use Rattle.trace.specs.declared.end.End.{End}
use Rattle.trace.specs.declared.end.End.TheVariants.{Error, Idle, Budget}

-- T9: what stopped a channel: the pusher's error, or else the puller's
unfoldable pub cause_of : Channel → Cause
cause_of c = choose (pusher.halts c.pusher.error) (cause.Pusher c.pusher.error) (cause.Puller c.puller.error)

-- whether a run has ended, and how: none where it goes on
abbrev pub Ending : Type 0
Ending = Option End

-- T6: error, idle, budget, in that order, or it goes on
unfoldable pub ending_of : Channel → ℕ → Ending
ending_of c steps =
    choose (is_stopped c.pusher c.puller) (Some (Error (cause_of c)))
    (choose (idles c) (Some Idle)
    (choose (leb 65536 steps) (Some Budget)
    None))
