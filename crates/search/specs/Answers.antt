-- The numbers of the search's answer: the refusal's, or none, and how many pairs were found.
use Rattle.std.specs.Prelude.{ℕ, List, [], ◌∷◌}
use Rattle.std.proofs.Math.Option.{Option, none, some}
use Rattle.std.specs.declared.result.Result.{Result}
use Rattle.std.specs.declared.result.Result.TheVariants.{Ok, Err}
use Rattle.word.specs.declared.setting.Refusal.{Refusal}

unfoldable pub searched_refusal : Result ℕ Refusal → Option ℕ
searched_refusal (Ok c) = none
searched_refusal (Err n) = some n.number

unfoldable pub searched_values : Result ℕ Refusal → List ℕ
searched_values (Ok c) = c ∷ []
searched_values (Err n) = []
