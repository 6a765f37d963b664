-- What it says that a list of reasons gives none, test by test: the one place that goes by the order of the lists. Assumes nothing.
use Prim.Native.Nat.{ℕ, ◌+◌}
use mathlib.Core.Path.{◌≡◌, refl}
use mathlib.Core.Bool.{Bool, false, not, ◌&&◌}
use mathlib.Core.List.{List, [], ◌∷◌, ◌++◌}
use mathlib.Core.Logic.{inl, inr, ◌↔◌}
use mathlib.Core.Option.{none}
use lib.Dec.{eqb, ltb}
use Rattle.word.specs.First.{choose, Case, first, ◌when◌}
use Rattle.word.specs.Reading.{parameter_count}
use Rattle.word.specs.declared.reading.Reading.{Reading}
use Rattle.word.proofs.First.{or_else, first_append, first_none, append_none, Fails, none_fails, fails_none}
use Rattle.rules.specs.Parameters as parameters
use Rattle.rules.specs.Next.{◌in_state◌, nexts}
use Rattle.rules.specs.Reason.{MARKED_PARAMETER, Submission, size, command_at, reserved?, call?, return?, own_cases, arrival_cases, next_cases, MapTests, command_cases, first_reason}
use Rattle.rules.specs.Path.{OneOf, Next}
use Rattle.rules.specs.declared.pair.Pair.{Pair}

-- of a command's own reasons none is given
pub record NoneOwn (x : Submission) (d : Reading) (p : ℕ) (s : Bool) : Type 0 where
  pub reserved : reserved? d ≡ false
  pub call_inside : call? d && s ≡ false
  pub return_outside : return? d && not s ≡ false
  pub short : ltb (size x) (parameters.place_after d p) ≡ false
  pub wraps : parameters.wraps d ≡ false
  pub lacking : parameters.lacking x.setting d ≡ false
  pub denied : parameters.denied x.permit d ≡ false

module _ (x : Submission) (d : Reading) (p : ℕ) (s : Bool) where
  named_own : Fails (own_cases x d p s) → NoneOwn x d p s
  named_own (reserved, (call_inside, (return_outside, (short, (wraps, (lacking, (denied, end))))))) =
      record { reserved = reserved; call_inside = call_inside; return_outside = return_outside; short = short; wraps = wraps; lacking = lacking; denied = denied }

  pub none_own : first (own_cases x d p s) ≡ none ↔ NoneOwn x d p s
  none_own = (
    λ e. named_own (none_fails (own_cases x d p s) e),
    λ n. fails_none (own_cases x d p s) (n.reserved, (n.call_inside, (n.return_outside, (n.short, (n.wraps, (n.lacking, (n.denied, tt))))))),
  )

-- of those of a next pair none is
pub record Arrived (n : ℕ) (q : Pair) (lacks : Bool) : Type 0 where
  pub past : ltb n q.place ≡ false
  pub end_inside : eqb q.place n && q.inside ≡ false
  pub unmarked : not (eqb q.place n) && lacks ≡ false

module _ (n : ℕ) (q : Pair) (lacks : Bool) where
  named_arrival : Fails (arrival_cases n q lacks) → Arrived n q lacks
  named_arrival (past, (end_inside, (unmarked, end))) = record { past = past; end_inside = end_inside; unmarked = unmarked }

  pub arrived : first (arrival_cases n q lacks) ≡ none ↔ Arrived n q lacks
  arrived = (
    λ e. named_arrival (none_fails (arrival_cases n q lacks) e),
    λ a. fails_none (arrival_cases n q lacks) (a.past, (a.end_inside, (a.unmarked, tt))),
  )

-- none is given by two lists together, nor by a case that does not hold and a list
both_none : (cs ds : List Case) → first cs ≡ none → first ds ≡ none → first (cs ++ ds) ≡ none
unfolding or_else
both_none cs ds e h = rw (first_append cs ds, e) h

case_none : (n : ℕ) (cs : List Case) {b : Bool} → b ≡ false → first cs ≡ none → first (n when b ∷ cs) ≡ none
unfolding first choose
case_none n cs e h = rw e h

-- none is given by a list of next pairs exactly if none is by any of them
module _ (lacks : Pair → Bool) (n : ℕ) where
  each_arrived : (qs : List Pair) → first (next_cases lacks n qs) ≡ none → (q : ℕ) (t : Bool) → OneOf qs q t → Arrived n (q in_state t) (lacks (q in_state t))
  each_arrived [] e q t o = absurd o
  each_arrived (a ∷ qs) e q t (inl h) = rw (h.0, h.1) ((arrived n a (lacks a)).0 (append_none (arrival_cases n a (lacks a)) (next_cases lacks n qs) e).0)
  each_arrived (a ∷ qs) e q t (inr o) = each_arrived qs (append_none (arrival_cases n a (lacks a)) (next_cases lacks n qs) e).1 q t o

  all_arrived : (qs : List Pair) → ((q : ℕ) (t : Bool) → OneOf qs q t → Arrived n (q in_state t) (lacks (q in_state t))) → first (next_cases lacks n qs) ≡ none
  unfolding first
  all_arrived [] h = refl
  all_arrived (a ∷ qs) h =
      both_none (arrival_cases n a (lacks a)) (next_cases lacks n qs) ((arrived n a (lacks a)).1 (h a.place a.inside (inl (refl, refl)))) (all_arrived qs (λ q t o. h q t (inr o)))

-- of all reasons of a pair none is
pub record Quiet (m : MapTests) (x : Submission) (d : Reading) (p : ℕ) (s : Bool) : Type 0 where
  pub own : NoneOwn x d p s
  pub among : m.among (p + 1) (parameter_count d) ≡ false
  pub arrivals : (q : ℕ) (t : Bool) → Next d p s q t → Arrived (size x) (q in_state t) (m.lacks (q in_state t))

pub quiet : (m : MapTests) (x : Submission) (p : ℕ) (s : Bool) → first_reason m x p s ≡ none ↔ Quiet m x (command_at x p) p s
unfolding first_reason
quiet m x p s = (apart, together)
  where
    d : Reading
    d = command_at x p

    apart : first (command_cases m x d p s) ≡ none → Quiet m x d p s
    apart e =
        let two = append_none (own_cases x d p s) _ e in
        let among = first_none _ _ two.1 in
        record { own = (none_own x d p s).0 two.0; among = among.0; arrivals = each_arrived m.lacks (size x) (nexts d p s) among.1 }

    together : Quiet m x d p s → first (command_cases m x d p s) ≡ none
    together f =
        both_none (own_cases x d p s) _ ((none_own x d p s).1 f.own)
        (case_none MARKED_PARAMETER _ f.among (all_arrived m.lacks (size x) (nexts d p s) f.arrivals))
