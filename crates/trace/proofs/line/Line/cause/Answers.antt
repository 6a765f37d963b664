use Rattle.trace.specs.Text.{text}
use Rattle.trace.specs.Names.{pusher_errors, puller_errors, pusher_name, puller_name, cause_name}
use Rattle.trace.specs.Lines.{cause_part}
use Rattle.trace.proofs.Adding.{add_then}
use Rattle.trace.proofs.Names.{said_name}
use Rattle.trace.proofs.line.Line.cause.Goals as goal

pub returns-in-Pusher : goal.returns-in-Pusher
unfolding text pusher_errors puller_errors pusher_name puller_name cause_name cause_part
returns-in-Pusher c =
    rw c.in-Pusher.is (add_then _ _ _ (said_name pusher_errors _ _ _ c.error_number.ensures c.name.ensures) c.why.ensures)

pub returns-in-Puller : goal.returns-in-Puller
unfolding text pusher_errors puller_errors pusher_name puller_name cause_name cause_part
returns-in-Puller c = rw c.in-Puller.is (said_name puller_errors _ _ _ c.error_number-in-Puller.ensures c.name-in-Puller.ensures)
