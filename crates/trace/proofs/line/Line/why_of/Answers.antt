use Rattle.pusher.specs.Record.{why}
use Rattle.trace.specs.Text.{text}
use Rattle.trace.specs.Names.{whys, why_name}
use Rattle.trace.specs.Lines.{why_part}
use Rattle.trace.proofs.Adding.{add_then}
use Rattle.trace.proofs.Names.{said_name}
use Rattle.trace.proofs.line.Line.why_of.Goals as goal

pub returns-in-ReservedCmd : goal.returns-in-ReservedCmd
unfolding text whys why_name why why_part
returns-in-ReservedCmd c = rw c.in-ReservedCmd.is (add_then _ _ _ c.say.ensures (said_name whys _ _ _ c.number.ensures c.name.ensures))
