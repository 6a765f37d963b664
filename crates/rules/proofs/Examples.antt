-- `Examples`: submissions computed, each by three tests. Assumes nothing.
use Prim.Native.Nat.{ℕ, zero, suc, ◌+◌, ◌*◌, ◌/◌, ◌%◌, ◌<◌}
use mathlib.Core.Path.{◌≡◌, refl}
use mathlib.Core.Bool.{Bool, true, false, not, ◌&&◌, ◌||◌, false≢true}
use mathlib.Core.List.{List, [], ◌∷◌}
use mathlib.Core.Logic.Iff
use mathlib.Core.Logic.{inl, inr, ⊎_elim}
use mathlib.Core.Option.{Option, none, some}
use native.Mathlib.Omega.{arith}
use lib.Dec.{eqb}
use lib.ListN.{get_or}
use borrow.Author.Tests.{eqb-true, eq-eqb, not-true, not-false}
use Rattle.word.specs.First.{choose, first}
use Rattle.word.specs.Lowest.{keep, lowest, found?}
use Rattle.word.specs.Setting.{refused_or}
use Rattle.word.specs.Parts.{has_bits, numbers_in}
use Rattle.word.specs.Form.{in_mode, increasing, non_increasing, sli_conditional, returning, long, old_jump, jump, call, everything_else, forms, form_in, why_not, nowhere?, usable}
use Rattle.word.specs.Reading.{number, parameter_count, command_in, reading_of, read_of}
use Rattle.word.specs.Special.{specials, listed, present_of}
use Rattle.word.specs.Lent.{words_of}
use Rattle.word.proofs.Lowest.{found_none}
use Rattle.word.proofs.Tests.{both, or_plain}
use Rattle.rules.specs.Permit.{permits}
use Rattle.rules.specs.Map.{main, inside, marked, unmarked, over_three, starts, among}
use Rattle.rules.specs.Parameters.{methods_of, method_for, wraps, any_fails, lacking, denied}
use Rattle.rules.specs.Next.{nexts}
use Rattle.rules.specs.Reason.{reserved?, call?, return?, Submission, submission, size, command_at, first_reason, flaw_at}
use Rattle.rules.specs.Judging.{judge_cases, first_of, place_verdict, start_verdict, at_mark, place_of, state_of, refused_pair, refused_at, numbered_pair, first_refused, pair_verdict, verdict_of, setting_of}
use Rattle.rules.specs.Path.{OneOf, Reached, origin, onward}
use Rattle.rules.specs.Examples.{Example, nothing, everything, byte_alone, printed, subroutine, over, old_over, conditional, countless, subchannel_one, three_parameters, up_to_the_last, past_the_last, call_past, Examples}
use Rattle.rules.specs.declared.pair.Pair.{Pair}
use Rattle.rules.specs.Judging.{accepted}
use Rattle.rules.proofs.Scans.{found_plain}
use Rattle.rules.proofs.Table.{fits, sized}
use Rattle.rules.proofs.Clean.{numbered, clean}
use Rattle.rules.proofs.Complete.{reached_marked, reached_none_bad}
use Rattle.rules.proofs.BadExample.{bad_example}

-- whether two states are the same
unfoldable same_state : Bool → Bool → Bool
same_state true b = b
same_state false b = not b

same_state_lem : (a b : Bool) → same_state a b ≡ true → b ≡ a
unfolding same_state
same_state_lem true b e = e
same_state_lem false b e = not-true b e

-- whether a place in a state is one of these pairs
unfoldable is_one : List Pair → ℕ → Bool → Bool
is_one [] q t = false
is_one (a ∷ qs) q t = (eqb q a.place && same_state a.inside t) || is_one qs q t

is_one_lem : (qs : List Pair) (q : ℕ) (t : Bool) → is_one qs q t ≡ true → OneOf qs q t
unfolding is_one
is_one_lem [] q t e = absurd (false≢true e)
is_one_lem (a ∷ qs) q t e =
    ⊎_elim (λ h. let y = both (eqb q a.place) (same_state a.inside t) h in inl (eqb-true q a.place y.0, same_state_lem a.inside t y.1)) (λ h. inr (is_one_lem qs q t h))
    ((or_plain (eqb q a.place && same_state a.inside t) (is_one qs q t) Iff.rfl Iff.rfl).0 e)

-- Whether each marked pair is (place 0, main), or a next pair of a marked one before it that has none of the path rule's reasons: then
-- all of them are reached. The pairs are taken by their numbers.
module _ (x : Submission) (map : List ℕ) where
  unfoldable leads : ℕ → ℕ → Bool
  leads k j =
      marked map (place_of j) (state_of j)
      && (not (found? (flaw_at x (place_of j) (state_of j))) && is_one (nexts (command_at x (place_of j)) (place_of j) (state_of j)) (place_of k) (state_of k))

  abbrev comes : ℕ → Bool
  comes k = (eqb (place_of k) 0 && not (state_of k)) || found? (lowest (leads k) k)

  unfoldable followed : Bool
  followed = not (found? (lowest (λ k. marked map (place_of k) (state_of k) && not (comes k)) (2 * size x)))

  unfound : (o : Option ℕ) → not (found? o) ≡ true → o ≡ none
  unfolding found?
  unfound none e = refl
  unfound (some n) e = cc

  module _ (all : followed ≡ true) where
    -- what is marked comes of something
    marked_comes : (k : ℕ) → k < 2 * size x → marked map (place_of k) (state_of k) ≡ true → comes k ≡ true
    unfolding followed
    marked_comes k l m = not-false _ (rw m at (found_none _ (2 * size x) (not-true _ all) k l))

    reached_by : (n k : ℕ) → k < n → k < 2 * size x → marked map (place_of k) (state_of k) ≡ true → Reached x (place_of k) (state_of k)
    unfolding leads
    reached_by zero k l w m = absurd (omega arith)
    reached_by (suc n) k l w m =
        ⊎_elim
        (λ e. let h = both (eqb (place_of k) 0) (not (state_of k)) e in rw (eqb-true (place_of k) 0 h.0, not-true (state_of k) h.1) (origin (omega arith)))
        (λ j.
        let a = both (marked map (place_of j.0) (state_of j.0)) _ j.2 in
        let b = both (not (found? (flaw_at x (place_of j.0) (state_of j.0)))) _ a.1 in
        onward (reached_by n j.0 (omega (arith, j.1)) (omega (arith, j.1)) a.0) (unfound _ b.0) (is_one_lem _ (place_of k) (state_of k) b.1) (λ e. omega arith))
        ((or_plain _ _ Iff.rfl (found_plain (leads k) k (λ j. Iff.rfl))).0 (marked_comes k w m))

-- sizes that the table does not refuse, an accepted map, and marks that are all reached make an example
module _ (level : ℕ) (sli : Bool) (bytes map list : List ℕ) where
  abbrev given : Submission
  given = submission (setting_of level sli) bytes list

  example : first (judge_cases 1048576 level sli bytes map list) ≡ none → verdict_of given map ≡ accepted → followed given map ≡ true → Example level sli bytes map list
  unfolding marked
  example table accepted all =
      let fit = fits 1048576 level sli bytes map list table in
      let ok = clean given map fit.bytes_map accepted in
      let reach : (p : ℕ) (s : Bool) → p < size given → marked map p s ≡ true → Reached given p s = λ p s l m.
      let k = numbered given map p s in
      rw (k.1, k.2) at (reached_by given map all (k.0 + 1) k.0 (omega arith) (k.3 l) (rw (k.1, k.2) m)) in
      record {
        sized = sized level sli bytes map list table;
        fair = reached_none_bad given map ok;
        exact = record {
          bytes = fit.bytes_map;
          narrow = ok.narrow;
          in_main = λ p l. (λ m. reach p main l (eq-eqb _ _ m), λ r. eqb-true _ _ (reached_marked given map ok r).1);
          in_subroutine = λ p l.
              let n = ok.narrow p l in (
                λ m. reach p inside l (eq-eqb (get_or map p 0 / 2 % 2) 1 (omega arith)),
                λ r. let m = eqb-true (get_or map p 0 / 2 % 2) 1 (reached_marked given map ok r).1 in omega arith,
              );
        };
      }

pub examples : Examples
unfolding followed leads is_one same_state verdict_of first_of place_verdict start_verdict at_mark refused_pair refused_at numbered_pair first_refused pair_verdict keep lowest found? choose first refused_or has_bits numbers_in in_mode increasing non_increasing sli_conditional returning long old_jump jump call everything_else forms form_in why_not nowhere? usable command_in reading_of read_of specials listed present_of words_of permits marked unmarked over_three starts among number parameter_count methods_of method_for wraps any_fails lacking denied reserved? call? return? nexts first_reason
examples =
    record {
      printed_case = example 3 false printed (1 ∷ 0 ∷ []) (byte_alone 2 0x10) refl refl refl;
      with_subroutine = example 2 false subroutine (1 ∷ 1 ∷ 2 ∷ []) nothing refl refl refl;
      jump_over = example 2 false over (1 ∷ 0 ∷ 1 ∷ []) nothing refl refl refl;
      old_jump_over = example 0 false old_over (1 ∷ 0 ∷ 1 ∷ []) nothing refl refl refl;
      sli_conditional = example 3 true conditional (1 ∷ 1 ∷ []) nothing refl refl refl;
      count_zero = example 0 false countless (1 ∷ []) nothing refl refl refl;
      other_subchannel = example 0 false subchannel_one (1 ∷ 0 ∷ []) (byte_alone 268 0x01) refl refl refl;
      non_increasing_run = example 1 false three_parameters (1 ∷ 0 ∷ 0 ∷ 0 ∷ []) (byte_alone 2047 0x80) refl refl refl;
      run_up_to_the_last = example 0 false up_to_the_last (1 ∷ 0 ∷ 0 ∷ []) (byte_alone 255 0xc0) refl refl refl;
      run_past_the_last = bad_example 0 false past_the_last everything 3 13 refl refl refl;
      call_past_the_end = bad_example 2 false call_past nothing 1 10 refl refl refl;
    }
