-- How large the numbers of an answer are: reason and refusal from 1 to 255, a place of 24 bits, a count of 16. Assumes nothing.
use Prim.Native.Nat.{ℕ, zero, suc, ◌*◌, ◌^◌, ◌≤◌, ◌<◌}
use mathlib.Core.Path.{◌≡◌, refl}
use mathlib.Core.Bool.{Bool, true, false, ◌&&◌}
use mathlib.Core.List.{List, [], ◌∷◌}
use mathlib.Core.Option.{Option, none, some}
use native.Mathlib.Omega.{arith}
use lib.Count.{ones-le}
use lib.Dec.{ltb}
use lib.ListN.{get_or}
use borrow.Author.Tests.{ltb-true}
use Rattle.std.specs.declared.result.Result.TheVariants.{Ok, Err}
use Rattle.word.specs.First.{choose, Case, first}
use Rattle.word.specs.Lowest.{lowest}
use Rattle.word.specs.Setting.{refused_or}
use Rattle.word.proofs.First.{by_test}
use Rattle.word.proofs.Lowest.{lowest_some}
use Rattle.word.proofs.Tests.{both}
use Rattle.rules.specs.Permit.{set_bits, count_of}
use Rattle.rules.specs.Map.{marked, over_three, unmarked}
use Rattle.rules.specs.Next.{◌in_state◌, nexts}
use Rattle.rules.specs.Reason.{next_cases, by_map, command_cases, Submission, submission, size, command_at, first_reason, reason_at}
use Rattle.rules.specs.Judging.{place_verdict, start_verdict, at_mark, place_of, state_of, refused_pair, refused_at, numbered_pair, first_refused, pair_verdict, verdict_of, with_why, judge_cases, refusing, setting_of, judged, judge_up_to}
use Rattle.rules.specs.Promises.{Bytes}
use Rattle.rules.specs.declared.pair.Pair.{Pair}
use Rattle.rules.specs.Judging.{Verdict}
use Rattle.rules.specs.declared.judging.Unfit.TheVariants.{Rejected, Refused, Reserved}
use Rattle.rules.proofs.Table.{fits}
use Rattle.rules.proofs.Clean.{one_of_three}

-- whether every number of a list of cases is one from 1 to 255; then so is that of the first that holds
unfoldable byte_numbers : List Case → Bool
byte_numbers [] = true
byte_numbers (c ∷ cs) = ltb 0 c.number && ltb c.number 256 && byte_numbers cs

first_byte : (cs : List Case) (n : ℕ) → byte_numbers cs ≡ true → first cs ≡ some n → (0 < n) × (n < 2 ^ 8)
unfolding first choose byte_numbers
first_byte [] n b e = let z : ◌≡◌ {A = ℕ} 0 1 = cc in absurd (omega arith)
first_byte (c ∷ cs) n b e =
    let low = both (ltb 0 c.number && ltb c.number 256) (byte_numbers cs) b in
    let here = both (ltb 0 c.number) (ltb c.number 256) low.0 in
    go c.holds e (ltb-true _ _ here.0) (ltb-true _ _ here.1) (λ h. first_byte cs n low.1 h)
  where
    go : (t : Bool) → choose t (some c.number) (first cs) ≡ some n → 0 < c.number → c.number < 256 → (first cs ≡ some n → (0 < n) × (n < 2 ^ 8)) → (0 < n) × (n < 2 ^ 8)
    go true e low high later = let q : c.number ≡ n = cc in (omega arith, omega arith)
    go false e low high later = later e

next_bytes : (lacks : Pair → Bool) (n : ℕ) (qs : List Pair) → byte_numbers (next_cases lacks n qs) ≡ true
unfolding byte_numbers
next_bytes lacks n [] = refl
next_bytes lacks n (q ∷ qs) = next_bytes lacks n qs

-- what an answer of the gatekeeper is within
abbrev pub Small : Verdict → Type 0
Small (Ok u) = Unit {0}
Small (Err (Rejected r p)) = (0 < r.number) × (r.number < 2 ^ 8) × (p < 2 ^ 24)
Small (Err (Refused n)) = (0 < n.number) × (n.number < 2 ^ 8)
Small (Err (Reserved y p)) = p < 2 ^ 24

module _ (x : Submission) (map : List ℕ) (words : size x ≤ 2 ^ 24) where
  place_small : (o : Option ℕ) → lowest (over_three map) (size x) ≡ o → Small (place_verdict o)
  unfolding place_verdict
  place_small none e = tt
  place_small (some p) e = let l = ((lowest_some (over_three map) (size x) p).0 e).0 in (omega arith, omega arith, omega arith)

  reason_bytes : (p : ℕ) (s : Bool) → byte_numbers (command_cases (by_map map) x (command_at x p) p s) ≡ true
  unfolding byte_numbers
  reason_bytes p s = next_bytes (unmarked map) (size x) (nexts (command_at x p) p s)

  -- a reason that is given at a mark is the pair's
  given_at : (t : Bool) (o : Option ℕ) (n : ℕ) → choose t o none ≡ some n → o ≡ some n
  unfolding choose
  given_at true o n e = e
  given_at false o n e = let z : ◌≡◌ {A = ℕ} 0 1 = cc in absurd (omega arith)

  mark_small : (p : ℕ) (s : Bool) → p < size x → (o : Option ℕ) → at_mark x map p s ≡ o → Small (pair_verdict (refused_at (p in_state s) o))
  unfolding pair_verdict refused_at at_mark first_reason
  mark_small p s l none e = tt
  mark_small p s l (some n) e =
      let b = first_byte (command_cases (by_map map) x (command_at x p) p s) n (reason_bytes p s) (given_at (marked map p s) (reason_at x map p s) n e) in
      (b.0, b.1, omega arith)

  pair_small : (o : Option ℕ) → lowest (refused_pair x map) (2 * size x) ≡ o → Small (pair_verdict (numbered_pair x map o))
  unfolding numbered_pair pair_verdict
  pair_small none e = tt
  pair_small (some k) e = let l = ((lowest_some (refused_pair x map) (2 * size x) k).0 e).0 in mark_small (place_of k) (state_of k) (omega arith) (at_mark x map (place_of k) (state_of k)) refl

  start_small : Small (start_verdict map)
  unfolding start_verdict
  start_small = by_test Small (λ e. (omega arith, omega arith, omega arith)) (λ e. tt)

  verdict_small : Small (verdict_of x map)
  unfolding first_refused
  verdict_small = one_of_three x map Small (place_small _ refl) start_small (pair_small _ refl)

  -- so too with the why of reason 3
  why_small : (v : Verdict) → Small v → Small (with_why x v)
  unfolding with_why
  why_small (Ok u) s = s
  why_small (Err (Rejected r p)) s = by_test Small (λ t. s.2) (λ t. s)
  why_small (Err (Refused n)) s = s
  why_small (Err (Reserved y p)) s = s

-- no byte has more than eight set bits
count_small : (list : List ℕ) → Bytes list → (n : ℕ) → set_bits list n ≤ 8 * n
unfolding set_bits
count_small list h zero = omega arith
count_small list h (suc n) = let a = count_small list h n in let b = ones-le 8 (get_or list n 0) (h n) in omega arith

-- the whole answer, of at most so many words
module _ (most level : ℕ) (sli : Bool) (bytes map list : List ℕ) (few : most ≤ 2 ^ 24) (narrow : Bytes list) where
  table_bytes : byte_numbers (judge_cases most level sli bytes map list) ≡ true
  unfolding byte_numbers
  table_bytes = refl

  pub judgement_small : Small (judge_up_to most level sli bytes map list).verdict × ((judge_up_to most level sli bytes map list).count < 2 ^ 16)
  unfolding judge_up_to refused_or count_of
  judgement_small = go (first (judge_cases most level sli bytes map list)) refl
    where
      go :
          (o : Option ℕ)
          → first (judge_cases most level sli bytes map list) ≡ o
          → Small (refused_or refusing o (judged level sli bytes map list)).verdict × ((refused_or refusing o (judged level sli bytes map list)).count < 2 ^ 16)
      go none e =
          let c = count_small list narrow 2048 in
          let x = submission (setting_of level sli) bytes list in
          let few_words : size x ≤ 2 ^ 24 = omega (arith, (fits most level sli bytes map list e).words) in
          (why_small x map few_words (verdict_of x map) (verdict_small x map few_words), omega arith)
      go (some n) e = (first_byte (judge_cases most level sli bytes map list) n table_bytes e, omega arith)
