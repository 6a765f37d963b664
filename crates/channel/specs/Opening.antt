-- How a channel is opened.
use Rattle.std.specs.Prelude.{ℕ, ◌%◌, Bool, true, false, not, ◌||◌, List, [], ◌∷◌, eqb, ltb, length, replicate, Result, Ok, Err, ⊤, Option, Some, None}
use Rattle.word.specs.First.{choose, Case, first, ◌when◌}
use Rattle.word.specs.Setting.{LEVEL, MODE, ORDER, SLI, FIELD, TABLE, level_refused, mode_refused, sli_refused, refused_or}
use Rattle.puller.specs.Object.{repeat_of}
use Rattle.puller.specs.declared.record.Puller.{Puller}
use Rattle.puller.specs.declared.record.AcquireMode.TheVariants as mode
use Rattle.pusher.specs.declared.record.Setup.{Setup}
use Rattle.pusher.specs.declared.record.Pusher.{Pusher}
use Rattle.channel.specs.State.{order_refused}
use Rattle.channel.specs.declared.record.Channel.{Channel}
use Rattle.channel.specs.declared.opening.Unopened.{Unopened}
use Rattle.channel.specs.declared.opening.Unopened.TheVariants.{Refused, Duplicate}
use Rattle.channel.specs.declared.opening.Opened.{Opened}

-- R5: entries of four words, at most 1,024 of them
abbrev pub table_refused : ℕ → Bool
table_refused words = not (eqb (words % 4) 0) || ltb 4096 words

-- R25, R10: the order of opening, but for its last, which has a case of its own
abbrev pub open_cases : ℕ → ℕ → ℕ → Bool → ℕ → List ℕ → List Case
open_cases level mode order sli mask table =
    LEVEL when level_refused level
    ∷ MODE when mode_refused level mode
    ∷ ORDER when order_refused mode order
    ∷ SLI when sli_refused level sli
    ∷ FIELD when ltb 4095 mask
    ∷ TABLE when table_refused (length table)
    ∷ []

-- R6: the last, with the entry whose handle stood before
unfoldable pub duplicate_or : Option ℕ → Result ⊤ Unopened
duplicate_or None = Ok tt
duplicate_or (Some i) = Err (Duplicate i)

-- R25: what opening answers
unfoldable pub opening_of : ℕ → ℕ → ℕ → Bool → ℕ → List ℕ → Result ⊤ Unopened
opening_of level mode order sli mask table = refused_or (λ n. Err (Refused n)) (first (open_cases level mode order sli mask table)) (duplicate_or (repeat_of table))

-- S1: the halves of a channel at rest
abbrev pub pusher_at : ℕ → Bool → Pusher
pusher_at mask active =
    record {
      get = 0;
      put = 0;
      run = record { count = 0; method = 0; subchannel = 0; increasing = false; awaited = false };
      subroutine = record { active = false; back = 0 };
      ib = record { get = 0; put = 0 };
      main = record { nonmain = false; mget = 0; valid = false };
      sli = record { mask = mask; active = active };
      error = None;
    }

abbrev pub puller_at_rest : Puller
puller_at_rest =
    record {
      engines = replicate 8 0;
      last = 0;
      reference = 0;
      semaphore = record { dma = 0; offset = 0; valid = false };
      acquire = record { active = false; value = 0; mode = mode.Old };
      error = None;
      long = record { address = 0; sequence = 0 };
    }

abbrev pub resting_at : Setup → ℕ → Bool → Channel
resting_at s mask active = record { setup = s; pusher = pusher_at mask active; puller = puller_at_rest }

abbrev pub setup_with : ℕ → ℕ → Bool → ℕ → ℕ → Setup
setup_with level mode sli order limit =
    record { setting = record { level = record { number = level }; mode = record { number = mode }; sli = sli }; order = order; limit = limit }

-- S1: the ib_order that a channel holds
unfoldable pub held_order : ℕ → ℕ → ℕ
held_order mode order = choose (eqb mode 1) order 0

-- S1: the fresh channel
abbrev pub fresh_channel : ℕ → ℕ → ℕ → Bool → ℕ → ℕ → Channel
fresh_channel level mode order sli mask limit = resting_at (setup_with level mode sli (held_order mode order) limit) mask true

-- R30: the blank channel
abbrev pub blank_channel : Channel
blank_channel = resting_at (setup_with 0 0 false 0 0) 0 false

-- R30, S1: which of the two an answer has beside it
unfoldable pub opened : Result ⊤ Unopened → Channel → Opened
opened (Ok u) c = record { answer = Ok u; channel = c }
opened (Err y) c = record { answer = Err y; channel = blank_channel }

unfoldable pub open_of : ℕ → ℕ → ℕ → Bool → ℕ → ℕ → List ℕ → Opened
open_of level mode order sli mask limit table = opened (opening_of level mode order sli mask table) (fresh_channel level mode order sli mask limit)
