-- When a channel's record is well-formed, and so not refused as STATE.
use Rattle.std.specs.Prelude.{ℕ, ◌%◌, ◌^◌, Bool, true, not, ◌&&◌, ◌||◌, List, [], ◌∷◌, ◌++◌, eqb, leb, ltb}
use Rattle.word.specs.First.{choose}
use Rattle.word.specs.Setting.{level_refused, mode_refused, sli_refused}
use Rattle.word.specs.Lowest.{lowest, found?}
use Rattle.puller.specs.Record.{engine_of}
use Rattle.puller.specs.declared.record.Puller.{Puller}
use Rattle.pusher.specs.declared.record.Setup.{Setup}
use Rattle.pusher.specs.declared.record.Pusher.{Pusher}
use Rattle.channel.specs.declared.record.Channel.{Channel}

-- R3: the ring of IB entries has at most 2^12
abbrev pub order_refused : ℕ → ℕ → Bool
order_refused mode order = eqb mode 1 && ltb 12 order

-- R34: a set-up that opening could have made
unfoldable pub setup_fits : Setup → Bool
setup_fits s =
    not (level_refused s.setting.level.number)
    && not (mode_refused s.setting.level.number s.setting.mode.number)
    && not (order_refused s.setting.mode.number s.order)
    && not (sli_refused s.setting.level.number s.setting.sli)
    && (eqb s.setting.mode.number 1 || eqb s.order 0)

-- a number and how many bits it may have
pub record Width : Type 0 where
  pub value : ℕ
  pub bits : ℕ

infix 70 ◌in_bits◌
abbrev pub ◌in_bits◌ : ℕ → ℕ → Width
v in_bits b = record { value = v; bits = b }

unfoldable pub within : List Width → Bool
within [] = true
within (w ∷ ws) = ltb w.value (2 ^ w.bits) && within ws

-- R32: how wide an address is, by the mode
unfoldable pub address_bits : Setup → ℕ
address_bits s = choose (eqb s.setting.mode.number 1) 40 32

-- R32: the addresses, and the indices into the ring
abbrev pub address_widths : Setup → Pusher → List Width
address_widths s p =
    p.get in_bits address_bits s
    ∷ p.put in_bits address_bits s
    ∷ p.main.mget in_bits address_bits s
    ∷ p.ib.get in_bits s.order
    ∷ p.ib.put in_bits s.order
    ∷ []

-- R32: the run under way, and the SLI mask
abbrev pub run_widths : Pusher → List Width
run_widths p = p.run.count in_bits 24 ∷ p.sli.mask in_bits 12 ∷ p.run.method in_bits 11 ∷ p.run.subchannel in_bits 3 ∷ []

-- R32: the last engine and the long semaphore's address, and each of the eight engines that are bound
abbrev pub puller_widths : Puller → List Width
puller_widths p = p.last in_bits 5 ∷ p.long.address in_bits 40 ∷ []

abbrev pub engine_too_wide : Puller → ℕ → Bool
engine_too_wide p subchannel = leb (2 ^ 5) (engine_of p subchannel)

unfoldable pub engines_fit : Puller → Bool
engines_fit p = not (found? (lowest (engine_too_wide p) 8))

-- R32: the numbers of 32 bits
abbrev pub other_widths : Channel → List Width
other_widths c =
    c.setup.limit in_bits 32
    ∷ c.pusher.subroutine.back in_bits 32
    ∷ c.puller.reference in_bits 32
    ∷ c.puller.semaphore.dma in_bits 32
    ∷ c.puller.semaphore.offset in_bits 32
    ∷ c.puller.acquire.value in_bits 32
    ∷ c.puller.long.sequence in_bits 32
    ∷ []

abbrev pub widths : Channel → List Width
widths c = address_widths c.setup c.pusher ++ (run_widths c.pusher ++ (puller_widths c.puller ++ other_widths c))

-- R33: the addresses that are multiples of 4
abbrev pub addresses : Pusher → List ℕ
addresses p = p.get ∷ p.put ∷ p.subroutine.back ∷ []

unfoldable pub aligned : List ℕ → Bool
aligned [] = true
aligned (a ∷ more) = eqb (a % 4) 0 && aligned more

-- R13, R35: all of these, and nothing else
unfoldable pub well_formed : Channel → Bool
well_formed c = setup_fits c.setup && (within (widths c) && (aligned (addresses c.pusher) && engines_fit c.puller))
