-- `One`; the others stand in the files of their names. Assumes nothing.
use mathlib.Core.Path.{sym, ap, ◌∙◌}
use Rattle.word.proofs.First.{one_outcome}
use Rattle.repair.proofs.Promises as repair
use Rattle.upborliya.specs.Packed.{packed_repair, on}
use Rattle.upborliya.specs.Promises.{One}

pub one : One
one =
    record {
      judge = λ level sli bytes map list a b. one_outcome;
      read = λ level mode sli w next a b. one_outcome;
      repair = λ level sli l a b map map' list list' work work' h k.
          let same = repair.one level (on sli) l h.answer k.answer map map' list list' work work' h.repairs k.repairs in
          (h.number ∙ ap packed_repair same.0 ∙ sym k.number, same.1, same.2, same.3);
    }
