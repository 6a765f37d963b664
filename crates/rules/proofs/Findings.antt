-- What is found at a pair: by lists of cases in turn, by those of its next pairs, and by those of its command. Assumes nothing.
use Prim.Native.Nat.{ℕ}
use mathlib.Core.Path.{◌≡◌, refl, sym, ◌∙◌}
use mathlib.Core.Bool.{Bool, true, false}
use mathlib.Core.List.{List, ◌++◌}
use mathlib.Core.Option.{Option, none, some}
use Rattle.std.specs.declared.option.Option as code
use Rattle.std.specs.declared.option.Option.TheVariants.{None, Some}
use Rattle.std.specs.Option.{MatchOption}
use Rattle.word.specs.First.{Case, first}
use Rattle.word.specs.declared.reading.Reading.{Reading}
use Rattle.word.proofs.First.{choose_true, choose_false, or_else, first_append}
use Rattle.rules.specs.Map.{marked}
use Rattle.rules.specs.Reason.{Submission, command_at, arrival_cases, next_cases, by_map, command_cases, first_reason, finding_of}
use Rattle.rules.specs.Judging.{at_mark}
use Rattle.rules.specs.Next.{pair_in, pairs_in}
use Rattle.rules.specs.declared.pair.Pair.{Pair}
use Rattle.rules.specs.declared.pair.Nexts.{Nexts}
use Rattle.rules.specs.declared.reason.Reason.{Reason}

-- the first of two findings where it speaks against the command, else the second
unfoldable pub either : code.Option Reason → code.Option Reason → code.Option Reason
either None g = g
either (Some r) g = Some r

-- it is what is found by the first of two numbers
either_found : (o p : Option ℕ) → finding_of (or_else o p) ≡ either (finding_of o) (finding_of p)
unfolding finding_of or_else either
either_found none p = refl
either_found (some n) p = refl

-- What is found by two lists of cases in turn, f by the first of them:
module _ (cs ds : List Case) {f : code.Option Reason} (found : f ≡ finding_of (first cs)) where
  -- f or what is found by the second;
  in_turn : finding_of (first (cs ++ ds)) ≡ either f (finding_of (first ds))
  in_turn = rw (first_append cs ds, either_found (first cs) (first ds), found)

-- so too as the library's `or_else` has it
pub or_found : (cs ds : List Case) (f : code.Option Reason) {g : code.Option Reason} {Later : Type 0} → f ≡ finding_of (first cs) → MatchOption f Later (λ r. g ≡ Some r) → (Later → g ≡ finding_of (first ds)) → g ≡ finding_of (first (cs ++ ds))
unfolding either
or_found cs ds None is m h = h m ∙ sym (in_turn cs ds is)
or_found cs ds (Some r) is m h = m ∙ sym (in_turn cs ds is)

-- What is found by the next pairs: by the first, if there is one, and then by the second.
module _ (lacks : Pair → Bool) (n : ℕ) where
  abbrev at : code.Option Pair → code.Option Reason
  at q = finding_of (first (next_cases lacks n (pair_in q)))

  in_pairs : (q t : code.Option Pair) → finding_of (first (next_cases lacks n (pair_in q ++ pair_in t))) ≡ either (at q) (at t)
  unfolding pair_in either first finding_of
  in_pairs None t = refl
  in_pairs (Some q) t = in_turn (arrival_cases n q (lacks q)) (next_cases lacks n (pair_in t)) refl

  pub by_nexts : (ns : Nexts) → finding_of (first (next_cases lacks n (pairs_in ns))) ≡ either (at ns.first) (at ns.second)
  unfolding pairs_in
  by_nexts ns = in_pairs ns.first ns.second

-- At a pair that the map does not mark nothing is found; at one that it marks, what is found by the cases of its command.
module _ (x : Submission) (map : List ℕ) (p : ℕ) (s : Bool) where
  pub unmarked_none : marked map p s ≡ false → None ≡ finding_of (at_mark x map p s)
  unfolding at_mark finding_of
  unmarked_none e = rw (choose_false e)

  pub at_command :
      marked map p s ≡ true
      → {d : Reading}
      → d ≡ command_at x p
      → {f : code.Option Reason}
      → f ≡ finding_of (first (command_cases (by_map map) x d p s))
      → f ≡ finding_of (at_mark x map p s)
  unfolding at_mark first_reason
  at_command e read h = rw (choose_true e, ← read) h
