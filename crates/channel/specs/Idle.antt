-- Whether a further step would say idle, told by the channel's own fields.
use Rattle.std.specs.Prelude.{Bool, true, not, ◌&&◌, eqb}
use Rattle.word.specs.First.{choose}
use Rattle.channel.specs.Stepping.{is_stopped}
use Rattle.channel.specs.declared.record.Channel.{Channel}

-- S8: neither half is stopped, no acquire is active, the read address is put, and in IB mode ib_get is ib_put. Then, and only then,
-- a step that is not refused is idle (`Idle`).
unfoldable pub idles : Channel → Bool
idles c =
    not (is_stopped c.pusher c.puller)
    && not c.puller.acquire.active
    && eqb c.pusher.get c.pusher.put
    && (choose (eqb c.setup.setting.mode.number 1) (eqb c.pusher.ib.get c.pusher.ib.put) true)
