-- The channel's record with other halves.
use Rattle.puller.specs.declared.record.Puller.{Puller}
use Rattle.pusher.specs.declared.record.Pusher.{Pusher}
use Rattle.channel.specs.declared.record.Channel.{Channel}

abbrev pub with_pusher : Channel → Pusher → Channel
with_pusher c p = record { setup = c.setup; pusher = p; puller = c.puller }

abbrev pub with_puller : Channel → Puller → Channel
with_puller c q = record { setup = c.setup; pusher = c.pusher; puller = q }

abbrev pub with_halves : Channel → Pusher → Puller → Channel
with_halves c p q = with_puller (with_pusher c p) q
