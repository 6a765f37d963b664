-- `Reasons`, `FirstPairs`, `AtOnePair`: the gatekeeper's tests as conditions, and the first pair that is refused. Assumes nothing.
use Prim.Native.Nat.{ℕ, ◌+◌, ◌*◌, ◌/◌, ◌%◌, ◌≤◌, ◌<◌}
use mathlib.Core.Path.{◌≡◌, refl, sym, ap, ◌∙◌, subst}
use mathlib.Core.Bool.{Bool, true, false, not, ◌&&◌, false≢true}
use mathlib.Core.List.{List, [], ◌∷◌, ◌++◌}
use mathlib.Core.Logic.Iff
use mathlib.Core.Logic.{◌⊎◌, inl, inr, ◌↔◌}
use mathlib.Core.Option.{Option, none, some}
use native.Mathlib.Omega.{arith}
use lib.Dec.{eqb, ltb}
use lib.ListN.{length, get_or, get_or-eq_default}
use borrow.Author.Tests.{eqb-true, eq-eqb, ne_eqb, ltb-true, ltb-false, lt-ltb, le-ltb, not-true}
use Rattle.std.specs.declared.option.Option as code
use Rattle.std.specs.declared.option.Option.TheVariants.{None, Some}
use Rattle.std.specs.declared.result.Result.TheVariants.{Err}
use Rattle.word.specs.First.{choose, Case, first, ◌when◌, PlainCase, ◌if◌, FirstIs}
use Rattle.word.specs.Lowest.{lowest, found?}
use Rattle.word.specs.Reading.{number, parameter_count}
use Rattle.word.specs.Special.{present_of}
use Rattle.word.specs.Outcomes.{Presents}
use Rattle.word.specs.declared.reading.Reading.{Reading}
use Rattle.word.proofs.First.{by_test, Agree, first_is, choose_true}
use Rattle.word.proofs.Lowest.{lowest_some}
use Rattle.word.proofs.Tests.{not_plain, or_plain, and_plain, less_plain, equal_plain, most_plain}
use Rattle.rules.specs.Permit.{permits}
use Rattle.rules.specs.Map.{main, marked, unmarked, over_three, starts, among}
use Rattle.rules.specs.Parameters.{place_after, methods_of, method_for, any_fails, lacking, denied}
use Rattle.rules.specs.Next.{◌in_state◌, nexts, held}
use Rattle.rules.specs.Reason.{MAP_BYTE, NO_START, MARKED_PARAMETER, reserved?, call?, return?, own_cases, arrival_cases, next_cases, MapTests, by_map, no_map, cases_by, command_cases, Submission, submission, size, command_at, first_reason, reason_at, finding_of}
use Rattle.rules.specs.Judging.{first_of, place_verdict, start_verdict, at_mark, place_of, state_of, ◌refuses◌, refused_pair, refused_at, numbered_pair, first_refused, pair_verdict, verdict_of, setting_of}
use Rattle.rules.specs.Answers.{finding_number, verdict_why}
use Rattle.rules.specs.Next.{pairs_in}
use Rattle.rules.specs.Promises.{Permitted}
use Rattle.rules.specs.Reasons.{Marks, GoesTo, own_plain, AmongPlain, arrival_plain, next_plain, command_plain, pair_plain, WideByte, NoneWide, NoStart, Earlier, FirstPair, Against, Reasons, FirstPairs, AtOnePair}
use Rattle.rules.specs.declared.pair.Pair.{Pair}
use Rattle.rules.specs.declared.pair.Nexts.{Nexts}
use Rattle.rules.specs.declared.reason.Reason.{Reason}
use Rattle.rules.specs.declared.judging.FirstRefused.{FirstRefused}
use Rattle.rules.specs.Judging.{Verdict}
use Rattle.rules.specs.declared.judging.Unfit.TheVariants.{Rejected}
use Rattle.rules.specs.Judging.{accepted}
use Rattle.rules.proofs.Answers.{told_rejected, number_kept, values_kept, told_refused, finding_tells, none_tells}
use Rattle.rules.proofs.Scans.{found_plain}
use Rattle.rules.proofs.Parts.{permits_plain}
use Rattle.rules.proofs.MethodLaws.{goes_to, goes_only, wraps_plain}
use Rattle.rules.proofs.Cases.{none_own, arrived, quiet}
use Rattle.rules.proofs.NextLaws.{nexts_plain, gives, held_pairs}
use Rattle.rules.proofs.Clean.{numbered, none_wide, mark_none, one_of_three}
use Rattle.rules.proofs.Promises.{judged_fits, judged_is}

-- equal rejections have one reason and one place, and equal refused pairs are one pair with one reason
rejected_same : (m n p q : ℕ) → ◌≡◌ {A = Verdict} (Err (Rejected (record { number = m }) p)) (Err (Rejected (record { number = n }) q)) → (m ≡ n) × (p ≡ q)
rejected_same m n p q e =
    let reason : ◌≡◌ {A = Reason} (record { number = m }) (record { number = n }) = cc in
    (ap (λ (r : Reason). r.number) reason, cc)

refused_same : (m n : ℕ) (p q : Pair) → Some (m refuses p) ≡ Some (n refuses q) → (m ≡ n) × (p ≡ q)
refused_same m n p q e =
    let same : m refuses p ≡ n refuses q = cc in
    (ap (λ (f : FirstRefused). f.reason.number) same, ap (λ (f : FirstRefused). f.pair) same)

-- the forms, by their numbers
reserved_plain : (d : Reading) → reserved? d ≡ true ↔ ((number d ≡ 5) ⊎ (9 ≤ number d))
unfolding reserved?
reserved_plain d = or_plain _ _ (equal_plain (number d) 5) (most_plain 9 (number d))

call_plain : (d : Reading) → call? d ≡ true ↔ (number d ≡ 8)
unfolding call?
call_plain d = equal_plain (number d) 8

return_plain : (d : Reading) → return? d ≡ true ↔ (number d ≡ 4)
unfolding return?
return_plain d = equal_plain (number d) 4

main_plain : (s : Bool) → not s ≡ true ↔ (s ≡ main)
main_plain s = (not-true s, λ e. ap not e)

-- a parameter whose method fails a test
fails_plain :
    (d : Reading) (test : ℕ → ℕ → Bool) {Fails : ℕ → ℕ → Type 0}
    → ((b n : ℕ) → not (test b n) ≡ true ↔ Fails b n)
    → any_fails (test (methods_of d).subchannel) (methods_of d) (parameter_count d) ≡ true
    ↔ ((k : ℕ) × (b : ℕ) × (n : ℕ) × GoesTo d k b n × Fails b n)
unfolding any_fails
fails_plain d test h =
    let found = found_plain (λ k. not (test (methods_of d).subchannel (method_for (methods_of d) k))) (parameter_count d) (λ k. h (methods_of d).subchannel (method_for (methods_of d) k)) in (
      λ e. let k = found.0 e in (k.0, (methods_of d).subchannel, method_for (methods_of d) k.0, goes_to d k.0 k.1, k.2),
      λ k. let at = goes_only d k.0 k.1 k.2 k.3 in found.1 (k.0, at.0, rw (at.1, at.2) at k.4),
    )

among_plain : (map : List ℕ) (p c : ℕ) → among map (p + 1) c ≡ true ↔ AmongPlain map p c
unfolding among starts
among_plain map p c = found_plain _ c (λ k. not_plain _ (equal_plain (get_or map (p + 1 + k) 0) 0))

-- The cases are the conditions: of a command's own reasons,
own_agree : (x : Submission) (d : Reading) (p : ℕ) (s : Bool) → Agree (own_cases x d p s) (own_plain x d p s)
unfolding lacking denied
own_agree x d p s =
    let absent : (b n : ℕ) → not (present_of x.setting.level.number n) ≡ true ↔ Presents x.setting.level n false = λ b n. (λ e. sym (not-true _ e), λ e. ap not (sym e)) in
    let unset : (b n : ℕ) → not (permits x.permit b n) ≡ true ↔ (Permitted x.permit b n → ⊥) = λ b n. not_plain _ (permits_plain x.permit b n) in (
      refl,
      reserved_plain d,
      (
        refl,
        and_plain _ s (call_plain d) Iff.rfl,
        (
          refl,
          and_plain _ _ (return_plain d) (main_plain s),
          (
            refl,
            less_plain (size x) (place_after d p),
            (
              refl,
              wraps_plain d,
              (refl, fails_plain d (λ b. present_of x.setting.level.number) absent, (refl, fails_plain d (permits x.permit) unset, tt)),
            ),
          ),
        ),
      ),
    )

-- and of those of a next pair
arrival_agree : (n : ℕ) (q : Pair) (lacks : Bool) {Lacks : Type 0} → lacks ≡ true ↔ Lacks → Agree (arrival_cases n q lacks) (arrival_plain n q Lacks)
arrival_agree n q lacks h =
    let end = equal_plain q.place n in
    (refl, less_plain n q.place, (refl, and_plain _ q.inside end Iff.rfl, (refl, and_plain _ lacks (not_plain _ end) h, tt)))

-- two lists after each other
pub agree_append : (cs ds : List Case) (ps qs : List PlainCase) → Agree cs ps → Agree ds qs → Agree (cs ++ ds) (ps ++ qs)
agree_append [] ds [] qs a b = b
agree_append [] ds (p ∷ ps) qs a b = absurd a
agree_append (c ∷ cs) ds [] qs a b = absurd a
agree_append (c ∷ cs) ds (p ∷ ps) qs a b = (a.0, a.1, agree_append cs ds ps qs a.2 b)

module _ (x : Submission) (map : List ℕ) where
  pub marked_plain : (q : ℕ) (t : Bool) → marked map q t ≡ true ↔ Marks map q t
  unfolding marked
  marked_plain q false = equal_plain (get_or map q 0 % 2) 1
  marked_plain q true = equal_plain (get_or map q 0 / 2 % 2) 1

  -- so those of one pair are
  next_agree : (qs : List Pair) → Agree (next_cases (unmarked map) (size x) qs) (next_plain x map qs)
  unfolding unmarked
  next_agree [] = tt
  next_agree (q ∷ qs) =
      agree_append (arrival_cases (size x) q (unmarked map q)) (next_cases (unmarked map) (size x) qs) (arrival_plain (size x) q (Marks map q.place q.inside → ⊥)) (next_plain x map qs)
      (arrival_agree (size x) q (unmarked map q) (not_plain _ (marked_plain q.place q.inside)))
      (next_agree qs)

  pair_agree : (d : Reading) (p : ℕ) (s : Bool) → Agree (command_cases (by_map map) x d p s) (command_plain x map d p s)
  pair_agree d p s =
      agree_append (own_cases x d p s) (MARKED_PARAMETER when among map (p + 1) (parameter_count d) ∷ next_cases (unmarked map) (size x) (nexts d p s)) (own_plain x d p s) (9 if AmongPlain map p (parameter_count d) ∷ next_plain x map (nexts d p s))
      (own_agree x d p s)
      (refl, among_plain map p (parameter_count d), next_agree (nexts d p s))

  pub reason_plain : (p : ℕ) (s : Bool) (n : ℕ) → reason_at x map p s ≡ some n ↔ FirstIs (pair_plain x map p s) n
  unfolding first_reason
  reason_plain p s n = first_is (command_cases (by_map map) x (command_at x p) p s) (pair_plain x map p s) (pair_agree (command_at x p) p s) n

  -- a marked pair's reason, and that of a pair that has none
  mark_reason : (p : ℕ) (s : Bool) → Marks map p s → at_mark x map p s ≡ reason_at x map p s
  unfolding at_mark
  mark_reason p s m = choose_true ((marked_plain p s).1 m) _ _

  quiet_mark : (p : ℕ) (s : Bool) → (Marks map p s → (n : ℕ) → FirstIs (pair_plain x map p s) n → ⊥) → found? (at_mark x map p s) ≡ false
  quiet_mark p s h = mark_none x map p s (λ m. go (reason_at x map p s) refl (h ((marked_plain p s).0 m)))
    where
      go : (o : Option ℕ) → reason_at x map p s ≡ o → ((n : ℕ) → FirstIs (pair_plain x map p s) n → ⊥) → reason_at x map p s ≡ none
      go none e n = e
      go (some k) e n = absurd (n k ((reason_plain p s k).0 e))

  -- what a found pair says
  found_mark : (p : ℕ) (s : Bool) (n : ℕ) → at_mark x map p s ≡ some n → Marks map p s × FirstIs (pair_plain x map p s) n
  unfolding at_mark choose
  found_mark p s n e = go (marked map p s) refl e
    where
      go : (b : Bool) → marked map p s ≡ b → choose b (reason_at x map p s) none ≡ some n → Marks map p s × FirstIs (pair_plain x map p s) n
      go true m e = ((marked_plain p s).0 m, (reason_plain p s n).0 e)
      go false m e = let z : ◌≡◌ {A = ℕ} 0 1 = cc in absurd (omega arith)

  -- the pairs before a pair are those with lower numbers
  earlier_number : (p : ℕ) (s : Bool) (k : ℕ) → place_of k ≡ p → state_of k ≡ s → (q : ℕ) (t : Bool) → Earlier q t p s → (j : ℕ) × (j < k) × (place_of j ≡ q) × (state_of j ≡ t)
  earlier_number p s k a b q t (inl l) = let n = numbered x map q t in (n.0, omega (arith, n.1), n.1, n.2)
  earlier_number p s k a b q t (inr e) =
      let odd = eqb-true (k % 2) 1 (b ∙ e.2) in
      let here = e.0 in
      (2 * p, omega arith, omega arith, ne_eqb (2 * p % 2) 1 (omega arith) ∙ sym e.1)

  number_earlier : (k j : ℕ) → j < k → Earlier (place_of j) (state_of j) (place_of k) (state_of k)
  number_earlier k j l = go (ltb (place_of j) (place_of k)) refl
    where
      go : (b : Bool) → ltb (place_of j) (place_of k) ≡ b → Earlier (place_of j) (state_of j) (place_of k) (state_of k)
      go true e = inl (ltb-true _ _ e)
      go false e =
          let h = ltb-false (place_of j) (place_of k) e in
          inr (omega arith, ne_eqb (j % 2) 1 (omega arith), eq-eqb (k % 2) 1 (omega arith))

  -- a pair is the first that is refused exactly if its number is the lowest
  pub pair_first : (n p : ℕ) (s : Bool) → first_refused x map ≡ Some (n refuses (p in_state s)) ↔ FirstPair x map n p s
  unfolding first_refused numbered_pair refused_at refused_pair found?
  pair_first n p s = (λ e. go (lowest (refused_pair x map) (2 * size x)) refl e, back)
    where
      take :
          (k : ℕ) (o : Option ℕ)
          → at_mark x map (place_of k) (state_of k) ≡ o
          → k < 2 * size x
          → found? o ≡ true
          → ((i : ℕ) → i < k → refused_pair x map i ≡ false)
          → refused_at (place_of k in_state state_of k) o ≡ Some (n refuses (p in_state s))
          → FirstPair x map n p s
      take k none q l f b e = absurd (false≢true f)
      take k (some m) q l f b e =
          let c = refused_same m n (place_of k in_state state_of k) (p in_state s) e in
          let here = found_mark (place_of k) (state_of k) m q in
          let first : FirstPair x map m (place_of k) (state_of k) =
          record {
            within = omega arith;
            marked = here.0;
            reason = here.1;
            before = λ i t v w r h.
                let j = earlier_number (place_of k) (state_of k) k refl refl i t v in
                let z = rw (j.2, j.3) at (b j.0 j.1) in
                false≢true (sym z ∙ ap found? (mark_reason i t w ∙ (reason_plain i t r).1 h));
          } in
          subst (λ (y : Pair). FirstPair x map n y.place y.inside) c.1 (subst (λ (y : ℕ). FirstPair x map y (place_of k) (state_of k)) c.0 first)

      go : (o : Option ℕ) → lowest (refused_pair x map) (2 * size x) ≡ o → numbered_pair x map o ≡ Some (n refuses (p in_state s)) → FirstPair x map n p s
      go none q e = let z : ◌≡◌ {A = ℕ} 0 1 = cc in absurd (omega arith)
      go (some k) q e = let y = (lowest_some (refused_pair x map) (2 * size x) k).0 q in take k (at_mark x map (place_of k) (state_of k)) refl y.0 y.1 y.2 e

      back : FirstPair x map n p s → numbered_pair x map (lowest (refused_pair x map) (2 * size x)) ≡ Some (n refuses (p in_state s))
      back f =
          let k = numbered x map p s in
          let is : at_mark x map (place_of k.0) (state_of k.0) ≡ some n = rw (k.1, k.2) (mark_reason p s f.marked ∙ (reason_plain p s n).1 f.reason) in
          let low : lowest (refused_pair x map) (2 * size x) ≡ some k.0 =
          (lowest_some (refused_pair x map) (2 * size x) k.0).1
          (k.3 f.within, ap found? is, λ i l. quiet_mark (place_of i) (state_of i) (f.before (place_of i) (state_of i) (rw (k.1, k.2) at (number_earlier k.0 i l)))) in
          rw (low, is, k.1, k.2)

  -- and then the verdict gives its reason and place
  pair_verdict_lem : (n p : ℕ) → pair_verdict (first_refused x map) ≡ Err (Rejected (record { number = n }) p) ↔ ((s : Bool) × FirstPair x map n p s)
  unfolding pair_verdict
  pair_verdict_lem n p = (λ e. go (first_refused x map) refl e, λ f. rw ((pair_first n p f.0).1 f.1))
    where
      go : (f : code.Option FirstRefused) → first_refused x map ≡ f → pair_verdict f ≡ Err (Rejected (record { number = n }) p) → (s : Bool) × FirstPair x map n p s
      go None is e = let z : ◌≡◌ {A = ℕ} 0 1 = cc in absurd (omega arith)
      go (Some f) is e =
          let r = f.reason in
          let q = f.pair in
          let c = rejected_same r.number n q.place p e in
          (q.inside, subst (λ (y : ℕ). FirstPair x map n y q.inside) c.1 (subst (λ (y : ℕ). FirstPair x map y q.place q.inside) c.0 ((pair_first r.number q.place q.inside).0 is)))

-- the verdict is a rejection exactly where something is against the words
module _ (x : Submission) (map : List ℕ) (same : length map ≡ size x) where
  wide_plain : (p : ℕ) → lowest (over_three map) (size x) ≡ some p ↔ WideByte x map p
  unfolding over_three
  wide_plain p = (
    λ e. let y = (lowest_some (over_three map) (size x) p).0 e in record { within = y.0; wide = ltb-true _ _ y.1; lowest = λ q l. ltb-false _ _ (y.2 q l) },
    λ w. (lowest_some (over_three map) (size x) p).1 (w.within, lt-ltb _ _ w.wide, λ q l. le-ltb _ _ (w.lowest q l)),
  )

  -- past the end there is no mark
  all_narrow : ((p : ℕ) → p < size x → get_or map p 0 ≤ 3) → NoneWide map
  all_narrow narrow q = go (ltb q (size x)) refl
    where
      go : (b : Bool) → ltb q (size x) ≡ b → get_or map q 0 ≤ 3
      go true e = narrow q (ltb-true _ _ e)
      go false e =
          let l = ltb-false q (size x) e in
          let z = get_or-eq_default map 0 {n = q} (omega arith) in
          omega arith

  start_plain : not (eqb (length map) 0) && not (marked map 0 main) ≡ true ↔ NoStart x map
  start_plain =
      let some_word = not_plain (eqb (length map) 0) (equal_plain (length map) 0) in
      let unmarked = not_plain (marked map 0 main) (marked_plain x map 0 main) in
      let both = and_plain (not (eqb (length map) 0)) (not (marked map 0 main)) some_word unmarked in
      (λ e. let h = both.0 e in (let n = h.0 in omega arith, h.1), λ h. both.1 (λ z. omega (arith, h.0), h.1))

  abbrev pairs : Verdict
  pairs = pair_verdict (first_refused x map)

  abbrev startless : Bool
  startless = not (eqb (length map) 0) && not (marked map 0 main)

  started : (NoStart x map → ⊥) → startless ≡ false
  started h = go startless refl
    where
      go : (b : Bool) → startless ≡ b → startless ≡ false
      go true e = absurd (h (start_plain.0 e))
      go false e = e

  -- G25: a byte over 3 is the verdict; where there is none, it is the first of the other two
  wide_first : (w : ℕ) → lowest (over_three map) (size x) ≡ some w → verdict_of x map ≡ Err (Rejected (record { number = MAP_BYTE }) w)
  unfolding verdict_of first_of place_verdict
  wide_first w q = rw q

  then_start : lowest (over_three map) (size x) ≡ none → verdict_of x map ≡ first_of (start_verdict map) pairs
  unfolding verdict_of first_of place_verdict
  then_start q = rw q

  pub verdict_plain : (n p : ℕ) → verdict_of x map ≡ Err (Rejected (record { number = n }) p) ↔ Against x map n p
  unfolding first_of start_verdict choose
  verdict_plain n p = (by_bytes (lowest (over_three map) (size x)) refl, back)
    where
      by_start : (b : Bool) → startless ≡ b → NoneWide map → first_of (choose b (Err (Rejected (record { number = NO_START }) 0)) accepted) pairs ≡ Err (Rejected (record { number = n }) p) → Against x map n p
      by_start true t narrow e = let z = rejected_same NO_START n 0 p e in inr (narrow, inl (sym z.0, sym z.1, start_plain.0 t))
      by_start false t narrow e = inr (narrow, inr (λ h. false≢true (sym t ∙ start_plain.1 h), (pair_verdict_lem x map n p).0 e))

      by_bytes : (o : Option ℕ) → lowest (over_three map) (size x) ≡ o → verdict_of x map ≡ Err (Rejected (record { number = n }) p) → Against x map n p
      by_bytes none q e = by_start startless refl (all_narrow ((none_wide x map).0 q)) (sym (then_start q) ∙ e)
      by_bytes (some w) q e = let z = rejected_same MAP_BYTE n w p (sym (wide_first w q) ∙ e) in inl (sym z.0, subst (λ (y : ℕ). WideByte x map y) z.1 ((wide_plain w).0 q))

      back : Against x map n p → verdict_of x map ≡ Err (Rejected (record { number = n }) p)
      back (inl w) = wide_first p ((wide_plain p).1 w.1) ∙ rw w.0
      back (inr (narrow, inl h)) = then_start ((none_wide x map).1 (λ q l. narrow q)) ∙ rw (start_plain.1 h.2, h.0, h.1)
      back (inr (narrow, inr h)) = then_start ((none_wide x map).1 (λ q l. narrow q)) ∙ rw (started h.0) ((pair_verdict_lem x map n p).1 h.1)

-- what the pairs are judged by says no why yet
place_mute : (o : Option ℕ) → verdict_why (place_verdict o) ≡ none
unfolding place_verdict verdict_why
place_mute none = refl
place_mute (some p) = refl

pair_mute : (f : code.Option FirstRefused) → verdict_why (pair_verdict f) ≡ none
unfolding pair_verdict verdict_why
pair_mute None = refl
pair_mute (Some f) = refl

pub no_why : (x : Submission) (map : List ℕ) → verdict_why (verdict_of x map) ≡ none
unfolding start_verdict verdict_why
no_why x map = one_of_three x map (λ v. verdict_why v ≡ none) (place_mute _) (by_test (λ (v : Verdict). verdict_why v ≡ none) (λ e. refl) (λ e. refl)) (pair_mute _)

pub reasons : Reasons
reasons level sli bytes map list r j e n p =
    let x = submission (setting_of level sli) bytes list in
    let is = judged_is _ level sli bytes map list r j e in
    let plain = verdict_plain x map (judged_fits _ level sli bytes map list r j e).bytes_map n p in
    let told = told_rejected (verdict_of x map) n p (no_why x map) in
    rw (is, number_kept x (verdict_of x map), values_kept x (verdict_of x map)) (λ h. plain.0 (told.0 h), λ h. told.1 (plain.1 h))

-- what is found is the first condition that holds
found_is : (cs : List Case) (ps : List PlainCase) → Agree cs ps → (r : code.Option Reason) → r ≡ finding_of (first cs) → (n : ℕ) → finding_number r ≡ some n ↔ FirstIs ps n
found_is cs ps a r e n =
    let is = first_is cs ps a n in
    rw (e, finding_tells (first cs)) is

pub first_pairs : FirstPairs
first_pairs setting bytes map list r e n p s =
    let x = submission setting bytes list in
    let plain = pair_first x map n p s in
    let told = told_refused (first_refused x map) n p s in
    rw e (λ h. plain.0 (told.0 h), λ h. told.1 (plain.1 h))

-- the reasons of a command, where the pairs at which the words go on are those that it has
by_next : (m : MapTests) (x : Submission) (d : Reading) (p : ℕ) (s : Bool) {ns : Nexts} {r : code.Option Reason} → ns ≡ held (nexts d p s) → r ≡ finding_of (first (cases_by m x d p s (pairs_in ns))) → r ≡ finding_of (first (command_cases m x d p s))
by_next m x d p s next is = rw (ap pairs_in next ∙ held_pairs d p s) at is

pub at_one_pair : AtOnePair
unfolding first_reason
at_one_pair =
    record {
      own_reason = λ setting bytes list d p s r.
          let x = submission setting bytes list in
          found_is (own_cases x d p s) (own_plain x d p s) (own_agree x d p s) r;
      marked_among = λ map p c r e. rw e (among_plain map p c);
      arrival = λ n q lacks r. found_is (arrival_cases n q lacks) (arrival_plain n q (lacks ≡ true)) (arrival_agree n q lacks Iff.rfl) r;
      next_pairs = nexts_plain;
      answers_nexts = λ d p s r e. rw e (gives d p s);
      command_reason = λ setting bytes map list d p s ns r next is.
          let x = submission setting bytes list in
          found_is (command_cases (by_map map) x d p s) (command_plain x map d p s) (pair_agree x map d p s) r (by_next (by_map map) x d p s next is);
      flaw = λ setting bytes list p s ns r next is.
          let x = submission setting bytes list in
          rw (by_next no_map x (command_at x p) p s next is) (finding_tells _);
      path_rule = λ setting bytes list p s.
          let x = submission setting bytes list in
          let d = command_at x p in
          let all = quiet no_map x p s in
          let own = none_own x d p s in (
            λ e. let f = all.0 e in ((none_tells _).1 (own.1 f.own), λ q t n. (none_tells _).1 ((arrived (size x) (q in_state t) false).1 (f.arrivals q t n))),
            λ h. all.1 (record { own = own.0 ((none_tells _).0 h.0); among = refl; arrivals = λ q t n. (arrived (size x) (q in_state t) false).0 ((none_tells _).0 (h.1 q t n)) }),
          );
    }
