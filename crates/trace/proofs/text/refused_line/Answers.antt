use mathlib.Core.Path.{refl}
use mathlib.Core.List.{append_assoc}
use Rattle.trace.specs.Text.{text}
use Rattle.trace.specs.Names.{refusals, refusal_name}
use Rattle.trace.specs.Lines.{refused_text}
use Rattle.trace.proofs.Adding.{add_line}
use Rattle.trace.proofs.Names.{said_name}
use Rattle.trace.proofs.text.refused_line.Goals as goal

pub returns : goal.returns
unfolding text refusals refusal_name refused_text
returns c =
    let name = said_name refusals _ _ _ refl c.name.ensures in
    rw (c.say-2.ensures, name, c.say.ensures, c.empty.ensures) (simp (add_line, append_assoc))
