-- `NoneWraps`: the runs of accepted words rise to 0x1ffc at most. Assumes nothing.
use Prim.Native.Nat.{ℕ, ◌+◌, ◌/◌, ◌<◌}
use mathlib.Core.Path.{◌≡◌, sym, ◌∙◌}
use mathlib.Core.Bool.{false, false≢true}
use mathlib.Core.List.{[], ◌∷◌}
use mathlib.Core.Logic.{◌↔◌}
use native.Mathlib.Omega.{arith}
use Rattle.word.specs.Reading.{number, values}
use Rattle.word.specs.declared.reading.Reading.{Reading}
use Rattle.rules.specs.Parameters.{wraps}
use Rattle.rules.specs.Reason.{submission, command_at, by_map}
use Rattle.rules.specs.Judging.{setting_of}
use Rattle.rules.specs.Reasons.{GoesTo, increasing, non_increasing, long, NoneWraps}
use Rattle.rules.proofs.Parts.{mark_within}
use Rattle.rules.proofs.MethodLaws.{wraps_plain}
use Rattle.rules.proofs.Table.{passed}
use Rattle.rules.proofs.Cases.{quiet}
use Rattle.rules.proofs.Clean.{clean}
use Rattle.rules.proofs.Reasons.{marked_plain}

-- where a run does not wrap, each parameter goes to its own method, of the first 2,048
module _ (d : Reading) (rising : wraps d ≡ false) (c b m : ℕ) (is : number d ≡ 1) (told : values d ≡ c ∷ b ∷ m ∷ []) (k : ℕ) (l : k < c) where
  below : m / 4 + k < 2048
  below =
      let up : 2048 < m / 4 + c → ⊥ = λ past. false≢true (sym rising ∙ (wraps_plain d).1 (c, b, m, is, told, omega arith, past)) in
      omega arith

  goes : (a n : ℕ) → GoesTo d k a n → (a ≡ b) × (n ≡ m / 4 + k)
  goes a n (increasing e f i v h to) =
      let same : f ≡ m = cc in
      let fits = below in
      (cc, omega arith)
  goes a n (non_increasing e f i v h to) = absurd (omega arith)
  goes a n (long f e i v h to) = absurd (omega arith)

  came : (a n : ℕ) → (a ≡ b) × (n ≡ m / 4 + k) → GoesTo d k a n
  came a n (e, to) = let fits = below in rw e (increasing c m is told l (omega arith))

  in_turn : (m / 4 + k < 2048) × ((a n : ℕ) → GoesTo d k a n ↔ ((a ≡ b) × (n ≡ m / 4 + k)))
  in_turn = (below, λ a n. (goes a n, came a n))

pub none_wraps : NoneWraps
none_wraps level sli bytes map list r j a p s mark =
    let x = submission (setting_of level sli) bytes list in
    let h = passed _ level sli bytes map list r j a in
    let here = (marked_plain x map p s).1 mark in
    let within = mark_within map p s here in
    let none = (clean x map h.0.bytes_map h.1).quiet p s (omega (arith, h.0.bytes_map)) here in
    in_turn (command_at x p) ((quiet (by_map map) x p s).0 none).own.wraps
