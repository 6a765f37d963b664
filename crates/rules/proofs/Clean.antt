-- What acceptance says, taken apart into facts. Assumes nothing.
use Prim.Native.Nat.{ℕ, ◌+◌, ◌*◌, ◌%◌, ◌≤◌, ◌<◌}
use mathlib.Core.Path.{◌≡◌, refl, sym, ap, ◌∙◌}
use mathlib.Core.Bool.{Bool, true, false, not, ◌&&◌, false≢true}
use mathlib.Core.List.{List}
use mathlib.Core.Logic.{◌⊎◌, inl, inr, ◌↔◌}
use mathlib.Core.Option.{Option, none, some}
use native.Mathlib.Omega.{arith}
use lib.Dec.{eqb}
use lib.ListN.{length, get_or}
use borrow.Author.Tests.{eqb-true, eqb-false, ne_eqb, ltb-false, le-ltb, not-false}
use Rattle.std.specs.declared.result.Result.TheVariants.{Ok, Err}
use Rattle.word.specs.First.{choose}
use Rattle.word.specs.Lowest.{lowest, found?}
use Rattle.word.specs.Reading.{parameter_count}
use Rattle.word.specs.Special.{present_of}
use Rattle.word.proofs.First.{by_test, choose_true}
use Rattle.word.proofs.Lowest.{lowest_none, lowest_some, found_none}
use Rattle.rules.specs.Map.{main, marked, unmarked, over_three, starts, among}
use Rattle.rules.specs.Parameters.{place_after, methods_of, method_for, any_fails, lacking, denied}
use Rattle.rules.specs.Next.{◌in_state◌}
use Rattle.rules.specs.Reason.{reserved?, call?, return?, Submission, size, command_at, by_map, reason_at}
use Rattle.rules.specs.Judging.{first_of, place_verdict, start_verdict, at_mark, place_of, state_of, refused_pair, refused_at, numbered_pair, first_refused, pair_verdict, verdict_of}
use Rattle.rules.specs.Path.{Next}
use Rattle.rules.specs.Promises.{Permitted}
use Rattle.rules.specs.declared.pair.Pair.{Pair}
use Rattle.rules.specs.Judging.{Verdict}
use Rattle.rules.specs.declared.judging.Unfit.TheVariants.{Rejected, Refused, Reserved}
use Rattle.rules.specs.Judging.{accepted}
use Rattle.rules.proofs.Parts.{permits_plain}
use Rattle.rules.proofs.Cases.{Arrived, quiet}

-- what holds of two verdicts holds of the first that is no acceptance; and where that is acceptance, both are
either_first : (P : Verdict → Type 0) (v w : Verdict) → P v → P w → P (first_of v w)
unfolding first_of
either_first P (Ok u) w a b = b
either_first P (Err (Rejected r p)) w a b = a
either_first P (Err (Refused n)) w a b = a
either_first P (Err (Reserved y p)) w a b = a

both_accept : (v w : Verdict) → first_of v w ≡ accepted → (v ≡ accepted) × (w ≡ accepted)
unfolding first_of
both_accept (Ok u) w e = (refl, e)
both_accept (Err (Rejected r p)) w e = let z : ◌≡◌ {A = ℕ} 0 1 = cc in absurd (omega arith)
both_accept (Err (Refused n)) w e = let z : ◌≡◌ {A = ℕ} 0 1 = cc in absurd (omega arith)
both_accept (Err (Reserved y p)) w e = let z : ◌≡◌ {A = ℕ} 0 1 = cc in absurd (omega arith)

module _ (x : Submission) (map : List ℕ) where
  -- a pair at which a command starts by the map, or the end, in main
  abbrev pub Good : ℕ → Bool → Type 0
  Good q t = ((q ≡ size x) × (t ≡ main)) ⊎ ((q < size x) × (marked map q t ≡ true))

  -- what a pair without a reason says of its command
  pub record Fine (p : ℕ) (s : Bool) : Type 0 where
    pub command : reserved? (command_at x p) ≡ false
    pub no_call : call? (command_at x p) && s ≡ false
    pub no_return : return? (command_at x p) && not s ≡ false
    pub within : place_after (command_at x p) p ≤ size x
    pub present : (k : ℕ) → k < parameter_count (command_at x p) → present_of x.setting.level.number (method_for (methods_of (command_at x p)) k) ≡ true
    pub allowed : (k : ℕ) → k < parameter_count (command_at x p) → Permitted x.permit (methods_of (command_at x p)).subchannel (method_for (methods_of (command_at x p)) k)
    pub bare : (k : ℕ) → k < parameter_count (command_at x p) → get_or map (p + 1 + k) 0 ≡ 0
    pub next : (q : ℕ) (t : Bool) → Next (command_at x p) p s q t → Good q t

  arrive_good : (q : ℕ) (t : Bool) → Arrived (size x) (q in_state t) (unmarked map (q in_state t)) → Good q t
  unfolding unmarked
  arrive_good q t f = go (eqb q (size x)) refl t f.end_inside f.unmarked
    where
      go : (b : Bool) → eqb q (size x) ≡ b → (t : Bool) → b && t ≡ false → not b && not (marked map q t) ≡ false → Good q t
      go true e true g h = absurd (false≢true (sym g))
      go true e false g h = inl (eqb-true _ _ e, refl)
      go false e t g h =
          let ne = eqb-false q (size x) e in
          let l = ltb-false (size x) q f.past in
          inr (omega arith, not-false _ h)

  pub fine : (p : ℕ) (s : Bool) → reason_at x map p s ≡ none → Fine p s
  unfolding lacking denied any_fails among starts
  fine p s e =
      let f = (quiet (by_map map) x p s).0 e in
      let own = f.own in
      record {
        command = own.reserved;
        no_call = own.call_inside;
        no_return = own.return_outside;
        within = ltb-false _ _ own.short;
        present = λ k l. not-false _ (found_none _ _ own.lacking k l);
        allowed = λ k l. (permits_plain _ _ _).0 (not-false _ (found_none _ _ own.denied k l));
        bare = λ k l. eqb-true _ _ (not-false _ (found_none _ _ f.among k l));
        next = λ q t n. arrive_good q t (f.arrivals q t n);
      }

  -- of an accepted map: its bytes, the start, and every marked pair
  pub record Clean : Type 0 where
    pub narrow : (p : ℕ) → p < size x → get_or map p 0 ≤ 3
    pub origin : 0 < size x → marked map 0 main ≡ true
    pub quiet : (p : ℕ) (s : Bool) → p < size x → marked map p s ≡ true → reason_at x map p s ≡ none

  -- the two numbers of a place are of different states,
  two_states : (p : ℕ) → state_of (2 * p + 1) ≡ not (state_of (2 * p))
  two_states p =
      let even : 2 * p % 2 ≡ 0 = omega arith in
      let odd : (2 * p + 1) % 2 ≡ 1 = omega arith in
      rw (even, odd)

  -- so that a pair has a number, the one of its place's two that is of its state
  pub numbered : (p : ℕ) (s : Bool) → (k : ℕ) × (place_of k ≡ p) × (state_of k ≡ s) × (p < size x → k < 2 * size x)
  numbered p s = go (state_of (2 * p)) refl s
    where
      go : (b : Bool) → state_of (2 * p) ≡ b → (s : Bool) → (k : ℕ) × (place_of k ≡ p) × (state_of k ≡ s) × (p < size x → k < 2 * size x)
      go true e true = (2 * p, omega arith, e, λ l. omega arith)
      go true e false = (2 * p + 1, omega arith, two_states p ∙ ap not e, λ l. omega arith)
      go false e true = (2 * p + 1, omega arith, two_states p ∙ ap not e, λ l. omega arith)
      go false e false = (2 * p, omega arith, e, λ l. omega arith)

  -- the same of the three that a judgement is made of, in whatever order they are tried
  abbrev bytes : Verdict
  bytes = place_verdict (lowest (over_three map) (size x))

  abbrev pairs : Verdict
  pairs = pair_verdict (first_refused x map)

  pub one_of_three : (P : Verdict → Type 0) → P bytes → P (start_verdict map) → P pairs → P (verdict_of x map)
  unfolding verdict_of
  one_of_three P a b c = search (either_first P)

  all_accept : verdict_of x map ≡ accepted → (bytes ≡ accepted) × (start_verdict map ≡ accepted) × (pairs ≡ accepted)
  unfolding verdict_of
  all_accept e =
      let a = both_accept _ _ e in
      let b = both_accept _ _ a.1 in
      (search, search, search)

  -- what they say where they are acceptance
  no_place : (o : Option ℕ) → place_verdict o ≡ accepted → o ≡ none
  unfolding place_verdict
  no_place none e = refl
  no_place (some p) e = let z : ◌≡◌ {A = ℕ} 0 1 = cc in absurd (omega arith)

  started : length map ≡ size x → start_verdict map ≡ accepted → 0 < size x → marked map 0 main ≡ true
  unfolding start_verdict choose
  started same e l = go (marked map 0 main) (rw (ne_eqb (length map) 0 (omega arith)) at e)
    where
      go : (b : Bool) → choose (not b) (Err (Rejected (record { number = 2 }) 0)) accepted ≡ accepted → b ≡ true
      go true e = refl
      go false e = let z : ◌≡◌ {A = ℕ} 0 1 = cc in absurd (omega arith)

  pair_none : (p : ℕ) (s : Bool) → marked map p s ≡ true → found? (at_mark x map p s) ≡ false → reason_at x map p s ≡ none
  unfolding at_mark found?
  pair_none p s m e = go (reason_at x map p s) refl (rw (choose_true m (reason_at x map p s) none) at e)
    where
      go : (o : Option ℕ) → reason_at x map p s ≡ o → found? o ≡ false → reason_at x map p s ≡ none
      go none q e = q
      go (some n) q e = absurd (false≢true (sym e))

  no_pair : (o : Option ℕ) → lowest (refused_pair x map) (2 * size x) ≡ o → pair_verdict (numbered_pair x map o) ≡ accepted → (k : ℕ) → k < 2 * size x → refused_pair x map k ≡ false
  unfolding numbered_pair pair_verdict refused_at refused_pair found?
  no_pair none q e = (lowest_none (refused_pair x map) (2 * size x)).0 q
  no_pair (some j) q e = go _ (at_mark x map (place_of j) (state_of j)) ((lowest_some (refused_pair x map) (2 * size x) j).0 q).1 e
    where
      go : (a : Pair) (o : Option ℕ) → found? o ≡ true → pair_verdict (refused_at a o) ≡ accepted → (k : ℕ) → k < 2 * size x → refused_pair x map k ≡ false
      go a none h e = absurd (false≢true h)
      go a (some n) h e = let z : ◌≡◌ {A = ℕ} 0 1 = cc in absurd (omega arith)

  -- there is no lowest byte over 3 exactly if no byte is
  pub none_wide : lowest (over_three map) (size x) ≡ none ↔ ((p : ℕ) → p < size x → get_or map p 0 ≤ 3)
  unfolding over_three
  none_wide = (
    λ e p l. ltb-false _ _ ((lowest_none (over_three map) (size x)).0 e p l),
    λ h. (lowest_none (over_three map) (size x)).1 (λ p l. le-ltb _ _ (h p l)),
  )

  pub clean : length map ≡ size x → verdict_of x map ≡ accepted → Clean
  unfolding first_refused refused_pair
  clean same e =
      let a = all_accept e in
      let passed = no_pair (lowest (refused_pair x map) (2 * size x)) refl a.2 in
      record {
        narrow = none_wide.0 (no_place _ a.0);
        origin = started same a.1;
        quiet = λ p s l m. let k = numbered p s in pair_none p s m (rw (k.1, k.2) at (passed k.0 (k.3 l)));
      }

  -- a place that is no start is marked for neither state
  pub unstarted : (p : ℕ) (s : Bool) → get_or map p 0 ≡ 0 → marked map p s ≡ true → ⊥
  unfolding marked
  unstarted p false z m = omega (arith, eqb-true)
  unstarted p true z m = omega (arith, eqb-true)

  -- nothing is found at a pair that has no reason where it is marked
  pub mark_none : (p : ℕ) (s : Bool) → (marked map p s ≡ true → reason_at x map p s ≡ none) → found? (at_mark x map p s) ≡ false
  unfolding at_mark found?
  mark_none p s h = by_test (λ (o : Option ℕ). found? o ≡ false) (λ m. ap found? (h m)) (λ m. refl)
