use Rattle.trace.specs.Text.{text}
use Rattle.trace.specs.Names.{kinds, kind_name}
use Rattle.trace.proofs.Names.{said_name}
use Rattle.trace.proofs.line.Line.kind.Goals as goal

pub returns : goal.returns
unfolding text kinds kind_name
returns c = said_name kinds _ _ _ c.number.ensures c.name.ensures
