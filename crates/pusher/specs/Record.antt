-- The pusher's record: its errors' numbers, and the record, or its run, with one thing changed.
use Rattle.std.specs.Prelude as std
use Rattle.std.specs.Prelude.{ℕ, Bool, not, eqb, None, Some}
use Rattle.std.proofs.Math.Option.{Option, none, some}
use Rattle.word.specs.Why.{why_number}
use Rattle.pusher.specs.declared.record.PusherError.{PusherError}
use Rattle.pusher.specs.declared.record.PusherError.TheVariants as cause
use Rattle.pusher.specs.declared.record.Run.{Run}
use Rattle.pusher.specs.declared.record.Main.{Main}
use Rattle.pusher.specs.declared.record.Pusher.{Pusher}

-- S26: the errors' numbers; 0 is none
unfoldable pub number : std.Option PusherError → ℕ
number None = 0
number (Some cause.Call) = 1
number (Some cause.NonCache) = 2
number (Some cause.Return) = 3
number (Some (cause.ReservedCmd y)) = 4
number (Some cause.Ib) = 5
number (Some cause.Protection) = 6

-- S33: the number of its why, which RESERVED_CMD alone has
unfoldable pub why : std.Option PusherError → Option ℕ
why None = none
why (Some cause.Call) = none
why (Some cause.NonCache) = none
why (Some cause.Return) = none
why (Some (cause.ReservedCmd y)) = some (why_number y)
why (Some cause.Ib) = none
why (Some cause.Protection) = none

-- S4, S27: an error stops the pusher
unfoldable pub halts : std.Option PusherError → Bool
halts e = not (eqb (number e) 0)

-- S27: the error is stored, and nothing else with it
abbrev pub with_error : Pusher → PusherError → Pusher
with_error p e = record { get = p.get; put = p.put; run = p.run; subroutine = p.subroutine; ib = p.ib; main = p.main; sli = p.sli; error = Some e }

-- the record, or its run, with another number or flag and all else as it was
abbrev pub with_get : Pusher → ℕ → Pusher
with_get p a = record { get = a; put = p.put; run = p.run; subroutine = p.subroutine; ib = p.ib; main = p.main; sli = p.sli; error = p.error }

abbrev pub with_put : Pusher → ℕ → Pusher
with_put p a = record { get = p.get; put = a; run = p.run; subroutine = p.subroutine; ib = p.ib; main = p.main; sli = p.sli; error = p.error }

abbrev pub with_run : Pusher → Run → Pusher
with_run p r = record { get = p.get; put = p.put; run = r; subroutine = p.subroutine; ib = p.ib; main = p.main; sli = p.sli; error = p.error }

abbrev pub with_count : Run → ℕ → Run
with_count r c = record { count = c; method = r.method; subchannel = r.subchannel; increasing = r.increasing; awaited = r.awaited }

abbrev pub with_method : Run → ℕ → Run
with_method r n = record { count = r.count; method = n; subchannel = r.subchannel; increasing = r.increasing; awaited = r.awaited }

abbrev pub with_awaited : Run → Bool → Run
with_awaited r a = record { count = r.count; method = r.method; subchannel = r.subchannel; increasing = r.increasing; awaited = a }

abbrev pub with_subroutine : Pusher → Bool → ℕ → Pusher
with_subroutine p a b = record { get = p.get; put = p.put; run = p.run; subroutine = record { active = a; back = b }; ib = p.ib; main = p.main; sli = p.sli; error = p.error }

abbrev pub with_ib : Pusher → ℕ → ℕ → Pusher
with_ib p g q = record { get = p.get; put = p.put; run = p.run; subroutine = p.subroutine; ib = record { get = g; put = q }; main = p.main; sli = p.sli; error = p.error }

abbrev pub with_main : Pusher → Main → Pusher
with_main p m = record { get = p.get; put = p.put; run = p.run; subroutine = p.subroutine; ib = p.ib; main = m; sli = p.sli; error = p.error }

abbrev pub with_active : Pusher → Bool → Pusher
with_active p a = record { get = p.get; put = p.put; run = p.run; subroutine = p.subroutine; ib = p.ib; main = p.main; sli = record { mask = p.sli.mask; active = a }; error = p.error }
