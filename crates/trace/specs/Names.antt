-- The names of kinds, causes, whys and refusals, by their numbers.
use Rattle.std.specs.Prelude.{ℕ, List, [], ◌∷◌, get_or, Option}
use Prim.Native.String.{String}
use Rattle.event.specs.declared.Kind.{Kind}
use Rattle.event.specs.Event.{number}
use Rattle.pusher.specs.Record as pusher
use Rattle.pusher.specs.declared.record.PusherError.{PusherError}
use Rattle.puller.specs.Record as puller
use Rattle.puller.specs.declared.record.PullerError.{PullerError}
use Rattle.trace.specs.declared.end.Cause.{Cause}
use Rattle.trace.specs.declared.end.Cause.TheVariants.{Pusher, Puller}

-- the name at a number's place in a list that counts from 1; a number that the list doesn't have has none
abbrev pub name : List String → ℕ → String
name names n = get_or ("" ∷ names) n ""

-- T5: the kinds, in the order of their numbers
unfoldable pub kinds : List String
kinds =
    "command"
    ∷ "count"
    ∷ "bind"
    ∷ "ref"
    ∷ "event"
    ∷ "dma"
    ∷ "offset"
    ∷ "acquire"
    ∷ "release"
    ∷ "wait"
    ∷ "forward"
    ∷ "error"
    ∷ "entry"
    ∷ "discard"
    ∷ "idle"
    ∷ "stopped"
    ∷ []

unfoldable pub kind_name : Kind → String
kind_name k = name kinds (number k)

-- T8: the pusher's errors, in the order of their numbers
unfoldable pub pusher_errors : List String
pusher_errors = "CALL" ∷ "NON_CACHE" ∷ "RETURN" ∷ "RESERVED_CMD" ∷ "IB" ∷ "PROTECTION" ∷ []

-- T8: the puller's
unfoldable pub puller_errors : List String
puller_errors = "NO_HASH" ∷ "EMPTY_SUBCHANNEL" ∷ "SEMAPHORE_1" ∷ "SEMAPHORE_2" ∷ "SEMAPHORE_3" ∷ "SEMAPHORE_4" ∷ []

unfoldable pub pusher_name : Option PusherError → String
pusher_name e = name pusher_errors (pusher.number e)

unfoldable pub puller_name : Option PullerError → String
puller_name e = name puller_errors (puller.number e)

unfoldable pub cause_name : Cause → String
cause_name (Pusher e) = pusher_name e
cause_name (Puller e) = puller_name e

-- T11: the whys, in the order of their numbers
unfoldable pub whys : List String
whys = "FORM" ∷ "LEVEL" ∷ "MODE" ∷ "SLI" ∷ []

unfoldable pub why_name : ℕ → String
why_name n = name whys n

-- T2: the refusals, in the order of their numbers
unfoldable pub refusals : List String
refusals =
    "LEVEL"
    ∷ "MODE"
    ∷ "ORDER"
    ∷ "SLI"
    ∷ "TABLE"
    ∷ "DUPLICATE"
    ∷ "PUT"
    ∷ "SIZE"
    ∷ "LENGTH"
    ∷ "FIELD"
    ∷ "ROOM"
    ∷ "FORM"
    ∷ "STATE"
    ∷ []

unfoldable pub refusal_name : ℕ → String
refusal_name n = name refusals n
