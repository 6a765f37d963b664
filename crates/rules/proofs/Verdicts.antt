-- How the gatekeeper's loops come to their verdicts, and what the verdicts make together. Assumes nothing.
use Prim.Native.Nat.{ℕ, ◌+◌, ◌*◌, ◌≤◌, ◌<◌}
use mathlib.Core.Path.{◌≡◌, refl, sym, ap, ◌∙◌}
use mathlib.Core.Bool.{Bool, true, false}
use mathlib.Core.List.{List}
use mathlib.Core.Option.{Option, none, some}
use native.Mathlib.Omega.{arith}
use lib.Dec.{eqb, ltb}
use lib.ListN.{length, get_or}
use Rattle.std.specs.Prelude.{nat_lt}
use Rattle.std.specs.List.{position}
use Rattle.std.proofs.lemmas.List.Quantifiers.{position-Some}
use Rattle.std.proofs.lemmas.List.Sums.{position_or_len_is}
use borrow.Author.Tests.{lt-ltb, ltb-true, ltb-false}
use Rattle.std.specs.declared.option.Option as code
use Rattle.std.specs.declared.option.Option.TheVariants.{None, Some}
use Rattle.std.specs.declared.result.Result.TheVariants.{Err}
use Rattle.word.specs.Lowest.{lowest, found?}
use Rattle.word.specs.Why.{why_of}
use Rattle.word.specs.Reading.{why}
use Rattle.word.specs.declared.why.Why.{Why}
use Rattle.word.proofs.First.{choose_true, choose_false}
use Rattle.word.proofs.Lowest.{lowest_none, lowest_some}
use Rattle.rules.specs.Map.{over_three}
use Rattle.rules.specs.Next.{◌in_state◌}
use Rattle.rules.specs.Reason.{MAP_BYTE, RESERVED, Submission, size, command_at, finding_of}
use Rattle.rules.specs.Judging.{first_of, place_verdict, start_verdict, at_mark, place_of, state_of, ◌refuses◌, refused_pair, refused_at, numbered_pair, first_refused, pair_verdict, verdict_of, with_why}
use Rattle.rules.specs.declared.pair.Pair.{Pair}
use Rattle.rules.specs.declared.reason.Reason.{Reason}
use Rattle.rules.specs.declared.judging.FirstRefused.{FirstRefused}
use Rattle.rules.specs.Judging.{Verdict}
use Rattle.rules.specs.declared.judging.Unfit.TheVariants.{Rejected, Refused, Reserved}
use Rattle.rules.specs.Judging.{accepted}
use Rattle.rules.specs.declared.judging.Unfit.{Unfit}
use Rattle.rules.proofs.Scans.{Passed, onward, met}
use Rattle.rules.proofs.Clean.{unstarted, mark_none}

-- Reason 1, by the first byte that is over 3, as the library looks for it.
module _ (map : List ℕ) where
  pub byte_met : {p : ℕ} → position (λ b. nat_lt 3 b) map ≡ Some p → Err (Rejected (record { number = MAP_BYTE }) p) ≡ place_verdict (lowest (over_three map) (length map))
  unfolding over_three place_verdict
  byte_met {p} e =
      let h = position-Some (λ b. nat_lt 3 b) map p 0 e in
      rw ((lowest_some (over_three map) (length map) p).1 h)

  pub bytes_fine : position (λ b. nat_lt 3 b) map ≡ None → accepted ≡ place_verdict (lowest (over_three map) (length map))
  unfolding over_three place_verdict
  bytes_fine e = go (lowest (over_three map) (length map)) refl
    where
      go : (o : Option ℕ) → lowest (over_three map) (length map) ≡ o → accepted ≡ place_verdict o
      go none q = refl
      go (some k) q =
          let h = (lowest_some (over_three map) (length map) k).0 q in
          let at = position_or_len_is (λ b. nat_lt 3 b) map k 0 (omega arith) h.2 (λ l. h.1) in
          let some_k = rw (at, lt-ltb k (length map) h.0) at e in
          cc

-- at a place that is no start nothing is found
unmarked_quiet : (x : Submission) (map : List ℕ) (p : ℕ) (s : Bool) → get_or map p 0 ≡ 0 → found? (at_mark x map p s) ≡ false
unmarked_quiet x map p s z = mark_none x map p s (λ m. absurd (unstarted x map p s z m))

-- The other reasons, of the pairs up to k.
module _ (x : Submission) (map : List ℕ) (k : ℕ) (passed : Passed (refused_pair x map) (2 * size x) k) where
  module _ (l : k < 2 * size x) {q : Pair} (is : place_of k in_state state_of k ≡ q) {f : code.Option Reason} (says : f ≡ finding_of (at_mark x map q.place q.inside)) where
    found : f ≡ finding_of (at_mark x map (place_of k) (state_of k))
    found = rw (← is) at says

    -- one more that has none,
    pub pair_onward : f ≡ None → Passed (refused_pair x map) (2 * size x) (k + 1)
    unfolding refused_pair found? finding_of
    pair_onward e = onward (refused_pair x map) (2 * size x) k passed l (go (at_mark x map (place_of k) (state_of k)) (sym e ∙ found))
      where
        go : (o : Option ℕ) → None ≡ finding_of o → found? o ≡ false
        go none q = refl
        go (some m) q = cc

    -- the first that has one,
    pub pair_met : {r : Reason} → f ≡ Some r → Some (record { reason = r; pair = q }) ≡ first_refused x map
    unfolding refused_pair found? finding_of refused_at numbered_pair first_refused
    pair_met {r} e = rw (← is) (go (at_mark x map (place_of k) (state_of k)) refl (sym e ∙ found))
      where
        go : (o : Option ℕ) → at_mark x map (place_of k) (state_of k) ≡ o → Some r ≡ finding_of o → Some (record { reason = r; pair = place_of k in_state state_of k }) ≡ numbered_pair x map (lowest (refused_pair x map) (2 * size x))
        go none q h = let z : ◌≡◌ {A = ℕ} 0 1 = cc in absurd (omega arith)
        go (some m) q h =
            let same : r ≡ record { number = m } = cc in
            rw (met (refused_pair x map) (2 * size x) k passed l (rw q), q) (ap (λ (a : Reason). Some (record { reason = a; pair = place_of k in_state state_of k })) same)

  -- and as many more as belong to places that are no starts;
  pub pairs_over : (to : ℕ) → to ≤ size x → ((p : ℕ) → place_of k ≤ p → p < to → get_or map p 0 ≡ 0) → Passed (refused_pair x map) (2 * size x) (2 * to)
  unfolding refused_pair
  pairs_over to within bare = (
    omega arith,
    (lowest_none (refused_pair x map) (2 * to)).1
        (λ i l. go (ltb i k) i refl l),
  )
    where
      go : (b : Bool) → (i : ℕ) → ltb i k ≡ b → i < 2 * to → found? (at_mark x map (place_of i) (state_of i)) ≡ false
      go true i e l = (lowest_none (refused_pair x map) k).0 passed.1 i (ltb-true _ _ e)
      go false i e l = let from = ltb-false i k e in unmarked_quiet x map (place_of i) (state_of i) (bare (place_of i) (omega arith) (omega arith))

  -- so none at all, where from there on no place is a start
  pub pairs_fine : ((p : ℕ) → place_of k ≤ p → p < size x → get_or map p 0 ≡ 0) → None ≡ first_refused x map
  unfolding first_refused numbered_pair
  pairs_fine bare = rw (pairs_over (size x) (omega arith) bare).1

-- a refused pair is one of the words'
pub refused_within : (x : Submission) (map : List ℕ) {f : FirstRefused} → first_refused x map ≡ Some f → f.pair.place < size x
unfolding first_refused numbered_pair refused_at
refused_within x map {f} e = go (lowest (refused_pair x map) (2 * size x)) refl e
  where
    at : (k : ℕ) (o : Option ℕ) → refused_at (place_of k in_state state_of k) o ≡ Some f → place_of k ≡ f.pair.place
    at k none e = cc
    at k (some n) e = let same : n refuses (place_of k in_state state_of k) ≡ f = cc in ap (λ (a : FirstRefused). a.pair.place) same

    go : (o : Option ℕ) → lowest (refused_pair x map) (2 * size x) ≡ o → numbered_pair x map o ≡ Some f → f.pair.place < size x
    go none d e = let z : ◌≡◌ {A = ℕ} 0 1 = cc in absurd (omega arith)
    go (some k) d e =
        let l = ((lowest_some (refused_pair x map) (2 * size x) k).0 d).0 in
        let here = at k (at_mark x map (place_of k) (state_of k)) e in
        omega arith

-- The why of reason 3. What is no rejection stays,
pub accepted_stays : (x : Submission) → accepted ≡ with_why x accepted
unfolding with_why
accepted_stays x = refl

pub as_it_is : (x : Submission) (n : Unfit) → ((r : Reason) (p : ℕ) → n ≡ Rejected r p → ⊥) → Err n ≡ with_why x (Err n)
unfolding with_why
as_it_is x (Rejected r p) h = absurd (h r p refl)
as_it_is x (Refused n) h = refl
as_it_is x (Reserved y p) h = refl

-- so does a rejection for another reason, and reason 3 has the why of the word at its place
module _ (x : Submission) {v : Verdict} {r : Reason} {p : ℕ} (is : v ≡ Err (Rejected r p)) where
  pub other_reason : eqb r.number RESERVED ≡ false → v ≡ with_why x v
  unfolding with_why
  other_reason h = rw is (sym (choose_false h _ _))

  pub reserved_reason : eqb r.number RESERVED ≡ true → {y : Why} → y ≡ why_of (why (command_at x p)) → Err (Reserved y p) ≡ with_why x v
  unfolding with_why
  reserved_reason h e = rw is (ap (λ (z : Why). Err (Reserved z p)) e ∙ sym (choose_true h _ _))

-- The three verdicts together, where the map has a byte for each word.
module _ (x : Submission) (map : List ℕ) (whole : size x ≡ length map) {b : Verdict} (bytes : b ≡ place_verdict (lowest (over_three map) (length map))) where
  -- that of the pairs, the last
  abbrev pairs : Verdict
  pairs = pair_verdict (first_refused x map)

  -- the first of the three that is no acceptance
  together : verdict_of x map ≡ first_of b (first_of (start_verdict map) pairs)
  unfolding verdict_of
  together = rw (whole, bytes)

  -- that of the bytes stands where it is no acceptance,
  pub bytes_stand : {n : Unfit} → b ≡ Err n → Err n ≡ verdict_of x map
  unfolding first_of
  bytes_stand e = sym (together ∙ rw e)

  module _ (fine : b ≡ accepted) {s : Verdict} (start : s ≡ start_verdict map) where
    -- the first of the other two
    after_bytes : verdict_of x map ≡ first_of s pairs
    unfolding first_of
    after_bytes = together ∙ rw (fine, start)

    -- that of the start where it is none,
    pub start_stands : {n : Unfit} → s ≡ Err n → Err n ≡ verdict_of x map
    unfolding first_of
    start_stands e = sym (after_bytes ∙ rw e)

    -- and that of the pairs where both are
    pub pairs_stand : s ≡ accepted → {v : Verdict} → v ≡ pairs → v ≡ verdict_of x map
    unfolding first_of
    pairs_stand e h = h ∙ sym (after_bytes ∙ rw e)
