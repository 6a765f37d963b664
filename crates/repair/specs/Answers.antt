-- The numbers of the repair's answer: the refusal's, or none, and how many bytes of the map changed.
use Rattle.std.specs.Prelude.{ℕ, List, [], ◌∷◌}
use Rattle.std.proofs.Math.Option.{Option, none, some}
use Rattle.std.specs.declared.result.Result.{Result}
use Rattle.std.specs.declared.result.Result.TheVariants.{Ok, Err}
use Rattle.word.specs.declared.setting.Refusal.{Refusal}

unfoldable pub repaired_refusal : Result ℕ Refusal → Option ℕ
repaired_refusal (Ok c) = none
repaired_refusal (Err n) = some n.number

unfoldable pub repaired_values : Result ℕ Refusal → List ℕ
repaired_values (Ok c) = c ∷ []
repaired_values (Err n) = []
