-- `Complete`: the exact map of words without a bad place is accepted; and accepted words have none. Assumes nothing.
use Prim.Native.Nat.{ℕ, ◌+◌, ◌-◌, ◌*◌, ◌/◌, ◌%◌, ◌≤◌, ◌<◌}
use mathlib.Core.Path.{◌≡◌, refl, ap}
use mathlib.Core.Bool.{Bool, true, false, not, ◌&&◌, and-false}
use mathlib.Core.List.{List}
use mathlib.Core.Logic.{⊎_elim, ◌↔◌}
use mathlib.Core.Option.{Option, none, some}
use native.Mathlib.Omega.{arith}
use lib.Dec.{eqb}
use lib.ListN.{length, get_or}
use borrow.Author.Tests.{eqb-true, eqb-false, eq-eqb, ltb-false}
use Rattle.std.specs.declared.result.Result.TheVariants.{Err}
use Rattle.word.specs.First.{choose}
use Rattle.word.specs.Lowest.{lowest, found?}
use Rattle.word.specs.Reading.{parameter_count}
use Rattle.word.proofs.Lowest.{lowest_none, none_found}
use Rattle.rules.specs.Map.{main, inside, marked, unmarked, starts, among}
use Rattle.rules.specs.Parameters.{place_after}
use Rattle.rules.specs.Next.{◌in_state◌}
use Rattle.rules.specs.Reason.{NO_START, Submission, size, command_at, by_map, reason_at, no_map, flaw_at}
use Rattle.rules.specs.Judging.{first_of, place_verdict, start_verdict, at_mark, place_of, state_of, refused_pair, numbered_pair, first_refused, pair_verdict, verdict_of}
use Rattle.rules.specs.Path.{Next, Reached, origin, onward, Bad, flawed, amid, Exact}
use Rattle.rules.specs.declared.judging.Unfit.TheVariants.{Rejected}
use Rattle.rules.specs.Judging.{accepted}
use Rattle.rules.proofs.Cases.{Arrived, quiet}
use Rattle.rules.proofs.Clean.{fine, Clean, none_wide, mark_none, unstarted}

module _ (x : Submission) where
  -- what a pair without those reasons says of a next pair: it is at most the end
  pub next_within : (p : ℕ) (s : Bool) (q : ℕ) (t : Bool) → flaw_at x p s ≡ none → Next (command_at x p) p s q t → q ≤ size x
  next_within p s q t e n = ltb-false _ _ (((quiet no_map x p s).0 e).arrivals q t n).past

  -- what is reached lies before the end
  pub reached_within : {p : ℕ} {s : Bool} → Reached x p s → p < size x
  reached_within (origin l) = l
  reached_within (onward {p} {s} {q} {t} r e n ne) = let h = next_within p s q t e n in omega arith

  -- a reason is there or not
  settled : (o : Option ℕ) → ((o ≡ none → ⊥) → ⊥) → o ≡ none
  settled none h = refl
  settled (some n) h = absurd (h (λ e. let z : ◌≡◌ {A = ℕ} 0 1 = cc in omega arith))

  module _ (map : List ℕ) where
    -- without those reasons, with no marked parameter and every next pair marked, a pair has no reason
    quiet_arrival : (q : ℕ) (t : Bool) → Arrived (size x) (q in_state t) false → ((q ≡ size x → ⊥) → marked map q t ≡ true) → Arrived (size x) (q in_state t) (unmarked map (q in_state t))
    unfolding unmarked
    quiet_arrival q t f h = record { past = f.past; end_inside = f.end_inside; unmarked = go (eqb q (size x)) refl }
      where
        go : (b : Bool) → eqb q (size x) ≡ b → not b && not (marked map q t) ≡ false
        go true e = refl
        go false e = ap not (h (eqb-false _ _ e))

    without :
        (p : ℕ) (s : Bool)
        → flaw_at x p s ≡ none
        → among map (p + 1) (parameter_count (command_at x p)) ≡ false
        → ((q : ℕ) (t : Bool) → Next (command_at x p) p s q t → (q ≡ size x → ⊥) → marked map q t ≡ true)
        → reason_at x map p s ≡ none
    without p s e b h =
        let f = (quiet no_map x p s).0 e in
        (quiet (by_map map) x p s).1 (record { own = f.own; among = b; arrivals = λ q t n. quiet_arrival q t (f.arrivals q t n) (h q t n) })

    module _ (exact : Exact x map) where
      -- the marks are what is reached
      exact_marks : (p : ℕ) (s : Bool) → p < size x → marked map p s ≡ true ↔ Reached x p s
      unfolding marked
      exact_marks p false l = (λ m. (exact.in_main p l).0 (eqb-true _ _ m), λ r. eq-eqb _ _ ((exact.in_main p l).1 r))
      exact_marks p true l =
          let n = exact.narrow p l in (
            λ m. let e = eqb-true (get_or map p 0 / 2 % 2) 1 m in (exact.in_subroutine p l).0 (omega arith),
            λ r. let e = (exact.in_subroutine p l).1 r in eq-eqb (get_or map p 0 / 2 % 2) 1 (omega arith),
          )

      -- a byte with neither mark is 0
      bare : (p : ℕ) → p < size x → ((s : Bool) → Reached x p s → ⊥) → get_or map p 0 ≡ 0
      bare p l h =
          let n = exact.narrow p l in
          let a : get_or map p 0 % 2 ≡ 1 → ⊥ = λ e. h main ((exact.in_main p l).0 e) in
          let b : get_or map p 0 / 2 ≡ 1 → ⊥ = λ e. h inside ((exact.in_subroutine p l).0 e) in
          omega arith

      module _ (fair : (p : ℕ) → Bad x p → ⊥) where
        no_flaw : (p : ℕ) (s : Bool) → Reached x p s → flaw_at x p s ≡ none
        no_flaw p s r = settled (flaw_at x p s) (λ n. fair p (flawed r n))

        clear : (p : ℕ) (s : Bool) → Reached x p s → among map (p + 1) (parameter_count (command_at x p)) ≡ false
        unfolding among starts
        clear p s r =
            let l = ltb-false (size x) (place_after (command_at x p) p) ((quiet no_map x p s).0 (no_flaw p s r)).own.short in
            none_found _ _ (λ k h. ap not (eq-eqb _ _ (bare (p + 1 + k) (omega arith) (λ t v. fair p (amid r v (omega arith) (omega arith))))))

        reached_quiet : (p : ℕ) (s : Bool) → Reached x p s → reason_at x map p s ≡ none
        reached_quiet p s r =
            let e = no_flaw p s r in
            without p s e (clear p s r) (λ q t n ne. let v = onward r e n ne in (exact_marks q t (reached_within v)).1 v)

        mark_quiet : (p : ℕ) (s : Bool) → p < size x → found? (at_mark x map p s) ≡ false
        mark_quiet p s l = mark_none x map p s (λ m. reached_quiet p s ((exact_marks p s l).0 m))

        start_quiet : start_verdict map ≡ accepted
        unfolding start_verdict choose
        start_quiet = go (eqb (length map) 0) refl
          where
            go : (b : Bool) → eqb (length map) 0 ≡ b → choose (not b && not (marked map 0 main)) (Err (Rejected (record { number = NO_START }) 0)) accepted ≡ accepted
            go true e = refl
            go false e =
                let n = eqb-false (length map) 0 e in
                let l : 0 < size x = omega (arith, exact.bytes) in
                rw ((exact_marks 0 main l).1 (origin l))

        pub complete_verdict : verdict_of x map ≡ accepted
        unfolding verdict_of first_of place_verdict first_refused numbered_pair pair_verdict refused_pair
        complete_verdict =
            let narrow = (none_wide x map).1 exact.narrow in
            let pairs : lowest (refused_pair x map) (2 * size x) ≡ none =
            (lowest_none (refused_pair x map) (2 * size x)).1 (λ k l. mark_quiet (place_of k) (state_of k) (omega arith)) in
            rw (narrow, start_quiet, pairs)

    -- the other way: an accepted map marks all that is reached, so that no place is bad
    module _ (ok : Clean x map) where
      pub reached_marked : {p : ℕ} {s : Bool} → Reached x p s → (p < size x) × (marked map p s ≡ true)
      reached_marked (origin l) = (l, ok.origin l)
      reached_marked (onward {p} {s} {q} {t} r e n ne) =
          let h = reached_marked r in
          ⊎_elim (λ g. absurd (ne g.0)) (λ g. g) ((fine x map p s (ok.quiet p s h.0 h.1)).next q t n)

      lenient : (p : ℕ) (s : Bool) → reason_at x map p s ≡ none → flaw_at x p s ≡ none
      lenient p s e =
          let f = (quiet (by_map map) x p s).0 e in
          (quiet no_map x p s).1
          (record {
            own = f.own;
            among = refl;
            arrivals = λ q t n.
                let a = f.arrivals q t n in
                record { past = a.past; end_inside = a.end_inside; unmarked = and-false (not (eqb q (size x))) };
          })

      pub reached_none_bad : (p : ℕ) → Bad x p → ⊥
      reached_none_bad p (flawed {s = s} r n) = let h = reached_marked r in n (lenient p s (ok.quiet p s h.0 h.1))
      reached_none_bad p (amid {s = s} {q = q} {t = t} r v l m) =
          let h = reached_marked r in
          let f = fine x map p s (ok.quiet p s h.0 h.1) in
          let e : p + 1 + (q - p - 1) ≡ q = omega arith in
          unstarted x map q t (rw e at (f.bare (q - p - 1) (omega arith))) (reached_marked v).1
