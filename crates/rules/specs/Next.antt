-- The pairs at which the words go on after a command.
use Rattle.std.specs.Prelude.{ℕ, ◌+◌, ◌/◌, Bool, List, [], ◌∷◌, ◌++◌, Option}
use Rattle.std.specs.declared.option.Option.TheVariants.{None, Some}
use Rattle.word.specs.declared.reading.Reading.{Reading}
use Rattle.word.specs.declared.reading.Reading.TheVariants.{Increasing, NonIncreasing, Sli, Return, Long, OldJump, Jump, Call, Reserved, Refused}
use Rattle.rules.specs.Map.{main, inside}
use Rattle.rules.specs.Parameters.{place_after}
use Rattle.rules.specs.declared.pair.Pair.{Pair}
use Rattle.rules.specs.declared.pair.Nexts.{Nexts}

infix 70 ◌in_state◌
abbrev pub ◌in_state◌ : ℕ → Bool → Pair
p in_state s = record { place = p; inside = s }

-- G27: the next pairs, in the order in which they are tried. Targets are byte numbers; what is no command has none.
unfoldable pub nexts : Reading → ℕ → Bool → List Pair
nexts (Increasing c b m) p s = place_after (Increasing c b m) p in_state s ∷ []
nexts (NonIncreasing c b m) p s = place_after (NonIncreasing c b m) p in_state s ∷ []
nexts (Sli k) p s = place_after (Sli k) p in_state s ∷ []
nexts Return p s = []
nexts (Long b m c) p s = []
nexts (OldJump t) p s = (t / 4) in_state s ∷ []
nexts (Jump t) p s = (t / 4) in_state s ∷ []
nexts (Call t) p s = (t / 4) in_state inside ∷ (p + 1) in_state main ∷ []
nexts (Reserved y) p s = []
nexts (Refused r) p s = []

-- as `nexts` answers them: the first two
unfoldable pub held : List Pair → Nexts
held [] = record { first = None; second = None }
held (q ∷ []) = record { first = Some q; second = None }
held (q ∷ t ∷ qs) = record { first = Some q; second = Some t }

-- and the pairs that an answer holds, in order
unfoldable pub pair_in : Option Pair → List Pair
pair_in None = []
pair_in (Some q) = q ∷ []

unfoldable pub pairs_in : Nexts → List Pair
pairs_in r = pair_in r.first ++ pair_in r.second
