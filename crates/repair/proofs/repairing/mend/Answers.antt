use mathlib.Core.Path.{sym}
use native.Mathlib.Omega.{arith}
use Rattle.word.proofs.Bytes.{words_length}
use Rattle.rules.specs.Reason.{submitted}
use Rattle.search.proofs.Outcomes.{acted}
use Rattle.repair.proofs.Outcomes.{mends}
use Rattle.repair.proofs.repairing.mend.Goals as goal

pub returns : goal.returns
returns c =
    let a = c.args in
    let own = a.submission.now in
    let many = words_length own.words.now in
    mends (submitted own) (omega arith) a.map.now a.list.now a.work.now c.search.new.room (sym c.requires.0)
    (acted own.setting own.words.now own.permit.now a.work.now (omega arith) (omega arith) c.search.ensures) c.rewrite.ensures
