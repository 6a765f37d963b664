-- Any number of steps is a number of moves. Assumes nothing.
use Prim.Native.Nat.{ℕ}
use mathlib.Core.Path.{◌≡◌, refl, ap, ◌∙◌}
use mathlib.Core.List.{List}
use mathlib.Core.Logic.{⊎_elim}
use Rattle.pusher.specs.Many.{Moved, unmoved, move}
use Rattle.channel.specs.declared.record.Channel.{Channel}
use Rattle.channel.proofs.AtMostOneMove.{at_most_one_move}
use Rattle.rules.specs.Promises.{AfterSteps, now, step}

pub steps_moved : (ws : List ℕ) (c d : Channel) → AfterSteps ws c d → (d.setup ≡ c.setup) × Moved c.setup ws c.pusher d.pusher
steps_moved ws c d now = (refl, unmoved)
steps_moved ws c d (step {d = b} l exit r a words table m e) =
    let before = steps_moved ws c b a in
    let one = at_most_one_move b l exit r m in
    let same : d.pusher ≡ r.channel.pusher = ap (λ (y : Channel). y.pusher) e in (
      ap (λ (y : Channel). y.setup) e ∙ one.0 ∙ before.0,
      ⊎_elim (λ q. let k : d.pusher ≡ b.pusher = same ∙ q in rw k before.1)
          (λ q. move l.pusher q.0 before.1 words (rw before.0 at q.1.move) (same ∙ q.2))
          one.1,
    )
