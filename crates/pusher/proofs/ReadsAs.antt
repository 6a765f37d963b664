-- A word is read as a command, or as a parameter, exactly where the pusher's fields say so: what the move's definition goes by, in
-- plain terms. Assumes nothing.
use mathlib.Core.Path.{◌≡◌}
use mathlib.Core.Bool.{false}
use mathlib.Core.Logic.{◌↔◌}
use borrow.Author.Tests.{eqb-true, not-false}
use Rattle.std.specs.Prelude.{Option}
use Rattle.pusher.specs.Loan.{PusherLoan}
use Rattle.pusher.specs.Record.{number, halts}
use Rattle.pusher.specs.Moving.{submits, commands, role}
use Rattle.pusher.specs.Promises.{ReadsWord, ReadsParameter, ReadsCommand}
use Rattle.pusher.specs.declared.record.Setup.{Setup}
use Rattle.pusher.specs.declared.record.PusherError.{PusherError}
use Rattle.pusher.specs.declared.record.Pusher.{Pusher}
use Rattle.pusher.proofs.Roles.{AtWord, Facts, facts}
use Rattle.pusher.proofs.Sentences.{parameter_role, command_role}

-- an error that does not halt is none
pub unhalted : (e : Option PusherError) → halts e ≡ false → number e ≡ 0
unfolding halts
unhalted e h = eqb-true _ _ (not-false _ h)

module _ (s : Setup) (p : Pusher) (l : PusherLoan) where
  reads_word : halts p.error ≡ false → AtWord s p l → ReadsWord s p l
  reads_word h w = record { running = unhalted p.error h; unequal = w.unequal; limit = w.low; lent = w.lent }

  pub reads_parameter : role s p l ≡ submits ↔ ReadsParameter s p l
  reads_parameter = (
    λ e. let f : Facts s p l submits = rw e at (facts s p l) in record { word = reads_word f.0 f.1; unawaited = f.2; left = f.3 },
    parameter_role s p l,
  )

  pub reads_command : role s p l ≡ commands ↔ ReadsCommand s p l
  reads_command = (
    λ e. let f : Facts s p l commands = rw e at (facts s p l) in record { word = reads_word f.0 f.1; unawaited = f.2; none_left = f.3 },
    command_role s p l,
  )
