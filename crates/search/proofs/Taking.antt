-- How a pair is taken: what is found of it, and from it. Assumes nothing.
use Prim.Native.Nat.{ℕ, ◌+◌, ◌*◌, ◌≤◌, ◌<◌}
use mathlib.Core.Path.{◌≡◌, refl, sym, ap, ◌∙◌}
use mathlib.Core.Bool.{Bool, true, false, false≢true}
use mathlib.Core.List.{List, [], ◌∷◌}
use mathlib.Core.Logic.{inl, inr}
use mathlib.Core.Option.{Option, none, some}
use native.Mathlib.Numerals.{add-one}
use lib.Dec.{eqb}
use lib.ListN.{length, get_or}
use borrow.Author.Tests.{lt-ltb, le-ltb}
use Rattle.std.specs.declared.option.Option as code
use Rattle.std.specs.Option.{IfSome, is_some}
use Rattle.word.specs.First.{choose, first}
use Rattle.word.specs.Lowest.{found?}
use Rattle.word.proofs.First.{choose_true, choose_false}
use Rattle.word.specs.declared.reading.Reading.{Reading}
use Rattle.rules.specs.Next.{nexts, held}
use Rattle.rules.specs.Reason.{Submission, size, command_at, no_map, cases_by, first_reason, flaw_at, finding_of}
use Rattle.rules.specs.Judging.{place_of, state_of}
use Rattle.rules.specs.Path.{OneOf}
use Rattle.rules.specs.Search.{Found, ◌found_from◌, find_each, taking, take_nth, found_after, found}
use Rattle.rules.specs.declared.pair.Pair.{Pair}
use Rattle.rules.specs.declared.pair.Nexts.{Nexts}
use Rattle.rules.specs.declared.reason.Reason.{Reason}
use Rattle.rules.specs.Next.{pairs_in}
use Rattle.rules.proofs.NextLaws.{held_pairs}
use Rattle.rules.proofs.Complete.{next_within}

-- something is found exactly where there is a reason
some_found : (o : Option ℕ) → is_some (finding_of o) ≡ found? o
unfolding finding_of found?
some_found none = refl
some_found (some n) = refl

none_found : (o : Option ℕ) → found? o ≡ false → o ≡ none
unfolding found?
none_found none e = refl
none_found (some n) e = absurd (false≢true (sym e))

-- of next pairs that lie within so many words, those that are handed over do
first_within : (qs : List Pair) (n : ℕ) → ((q : ℕ) (t : Bool) → OneOf qs q t → q ≤ n) → IfSome (held qs).first (λ q. q.place ≤ n)
unfolding held
first_within [] n h = tt
first_within (q ∷ []) n h = h q.place q.inside (inl (refl, refl))
first_within (q ∷ r ∷ qs) n h = h q.place q.inside (inl (refl, refl))

second_within : (qs : List Pair) (n : ℕ) → ((q : ℕ) (t : Bool) → OneOf qs q t → q ≤ n) → IfSome (held qs).second (λ q. q.place ≤ n)
unfolding held
second_within [] n h = tt
second_within (q ∷ []) n h = tt
second_within (q ∷ r ∷ qs) n h = h r.place r.inside (inr (inl (refl, refl)))

-- A pair, the command there, and where the words go on: what is found of it by no map is what the path rule says;
module _
    (x : Submission) (p : ℕ) (s : Bool) {d : Reading} (read : d ≡ command_at x p) {ns : Nexts} (is : ns ≡ held (nexts d p s))
    {f : code.Option Reason} (found : f ≡ finding_of (first (cases_by no_map x d p s (pairs_in ns)))) where
  pub handed : pairs_in ns ≡ nexts d p s
  handed = ap pairs_in is ∙ held_pairs d p s

  by_path_rule : f ≡ finding_of (flaw_at x p s)
  unfolding first_reason
  by_path_rule = rw (← read) (rw handed at found)

  pub flawed : is_some f ≡ true → found? (flaw_at x p s) ≡ true
  flawed e = sym (some_found (flaw_at x p s)) ∙ rw by_path_rule at e

  pub flawless : is_some f ≡ false → flaw_at x p s ≡ none
  flawless e = none_found (flaw_at x p s) (sym (some_found (flaw_at x p s)) ∙ rw by_path_rule at e)

  -- and where that says nothing, the words go on within them
  module _ (e : is_some f ≡ false) where
    within : (q : ℕ) (t : Bool) → OneOf (nexts d p s) q t → q ≤ size x
    within q t o = next_within x p s q t (flawless e) (rw read at o)

    pub first_there : IfSome ns.first (λ q. q.place ≤ size x)
    first_there = rw is (first_within (nexts d p s) (size x) within)

    pub second_there : IfSome ns.second (λ q. q.place ≤ size x)
    second_there = rw is (second_within (nexts d p s) (size x) within)

-- the i-th is taken, if so many were found
module _ (x : Submission) (fs : List Found) (i : ℕ) where
  abbrev pair : ℕ
  pair = (get_or fs i (0 found_from 0)).pair

  pub take_past : length fs ≤ i → take_nth x i fs ≡ fs
  unfolding take_nth
  take_past l = choose_false (le-ltb i (length fs) l) (taking x pair fs) fs

  module _ (l : i < length fs) {j : ℕ} (is : j ≡ pair) where
    taken : take_nth x i fs ≡ taking x j fs
    unfolding take_nth
    taken = choose_true (lt-ltb i (length fs) l) (taking x pair fs) fs ∙ ap (λ (k : ℕ). taking x k fs) (sym is)

    pub take_flawed : found? (flaw_at x (place_of j) (state_of j)) ≡ true → take_nth x i fs ≡ fs
    unfolding taking
    take_flawed e = taken ∙ choose_true e fs (find_each (size x) j fs (nexts (command_at x (place_of j)) (place_of j) (state_of j)))

    pub take_sound : flaw_at x (place_of j) (state_of j) ≡ none → take_nth x i fs ≡ find_each (size x) j fs (nexts (command_at x (place_of j)) (place_of j) (state_of j))
    unfolding taking found?
    take_sound e = taken ∙ choose_false (rw e) fs (find_each (size x) j fs (nexts (command_at x (place_of j)) (place_of j) (state_of j)))

-- turn by turn
pub after_none : (x : Submission) {n : ℕ} → size x ≡ n → choose (eqb n 0) [] (0 found_from 0 ∷ []) ≡ found_after x 0
unfolding found_after
after_none x e = rw e

pub after_one : (x : Submission) (i : ℕ) → take_nth x i (found_after x i) ≡ found_after x (i + 1)
unfolding found_after
after_one x i = rw (add-one i)

pub after_all : (x : Submission) (i : ℕ) → i ≡ 2 * size x → found_after x i ≡ found x
unfolding found
after_all x i e = rw e
