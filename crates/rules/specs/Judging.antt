-- The judgement.
use Rattle.std.specs.Prelude.{ℕ, ◌*◌, ◌/◌, ◌%◌, Bool, not, ◌&&◌, ◌||◌, List, [], ◌∷◌, eqb, ltb, length}
use Rattle.std.specs.declared.option.Option as code
use Rattle.std.specs.declared.option.Option.TheVariants.{None, Some}
use Rattle.std.proofs.Math.Option.{Option, none, some}
use Rattle.std.specs.declared.result.Result.{Result}
use Rattle.std.specs.declared.result.Result.TheVariants.{Ok, Err}
use Rattle.word.specs.First.{choose, Case, first, ◌when◌}
use Rattle.word.specs.Lowest.{lowest, found?}
use Rattle.word.specs.Why.{why_of}
use Rattle.word.specs.Reading.{why}
use Rattle.word.specs.Setting.{LEVEL, SLI, SIZE, LENGTH, level_refused, sli_refused, refused_or}
use Rattle.word.specs.declared.setting.Refusal.{Refusal}
use Rattle.word.specs.declared.setting.Setting.{Setting}
use Rattle.rules.specs.Permit.{count_of}
use Rattle.rules.specs.Map.{main, marked, over_three}
use Rattle.rules.specs.Next.{◌in_state◌}
use Rattle.rules.specs.Reason.{MAP_BYTE, NO_START, RESERVED, Submission, submission, size, command_at, reason_at}
use Rattle.rules.specs.declared.pair.Pair.{Pair}
use Rattle.rules.specs.declared.judging.FirstRefused.{FirstRefused}
use Rattle.rules.specs.declared.judging.Unfit.{Unfit}
use Rattle.rules.specs.declared.judging.Unfit.TheVariants.{Rejected, Refused, Reserved}
use Rattle.rules.specs.declared.judging.Judgement.{Judgement}

-- R9: the lengths of words, map and list that don't fit
abbrev pub length_refused : ℕ → ℕ → ℕ → Bool
length_refused bytes map list = not (eqb (bytes % 4) 0) || (not (eqb map (bytes / 4)) || not (eqb list 2048))

-- R28, R8: the gatekeeper's order, with the most words that may be lent
abbrev pub judge_cases : ℕ → ℕ → Bool → List ℕ → List ℕ → List ℕ → List Case
judge_cases most level sli bytes map list =
    LEVEL when level_refused level
    ∷ SLI when sli_refused level sli
    ∷ SIZE when ltb (4 * most) (length bytes)
    ∷ LENGTH when length_refused (length bytes) (length map) (length list)
    ∷ []

-- G25: the verdict: that the submission is accepted, or why not
abbrev pub Verdict : Type 0
Verdict = Result (Unit {0}) Unfit

abbrev pub accepted : Verdict
accepted = Ok tt

-- G25: the first of two that is no acceptance
unfoldable pub first_of : Verdict → Verdict → Verdict
first_of (Ok u) v = v
first_of (Err n) v = Err n

-- G1: a byte over 3, at its place
unfoldable pub place_verdict : Option ℕ → Verdict
place_verdict none = accepted
place_verdict (some p) = Err (Rejected (record { number = MAP_BYTE }) p)

-- G2, G30: place 0, if there is a word
unfoldable pub start_verdict : List ℕ → Verdict
start_verdict map = choose (not (eqb (length map) 0) && not (marked map 0 main)) (Err (Rejected (record { number = NO_START }) 0)) accepted

-- G25: the reason of a pair that the map marks
unfoldable pub at_mark : Submission → List ℕ → ℕ → Bool → Option ℕ
at_mark x map p s = choose (marked map p s) (reason_at x map p s) none

-- G25: the pairs are numbered in the order in which they are tried: places rising, main before inside
abbrev pub place_of : ℕ → ℕ
place_of k = k / 2

abbrev pub state_of : ℕ → Bool
state_of k = eqb (k % 2) 1

unfoldable pub refused_pair : Submission → List ℕ → ℕ → Bool
refused_pair x map k = found? (at_mark x map (place_of k) (state_of k))

infix 70 ◌refuses◌
abbrev pub ◌refuses◌ : ℕ → Pair → FirstRefused
n refuses q = record { reason = record { number = n }; pair = q }

-- a pair with its reason, if it has one; and the pair of a number, if there is one, with its reason
unfoldable pub refused_at : Pair → Option ℕ → code.Option FirstRefused
refused_at q none = None
refused_at q (some n) = Some (n refuses q)

unfoldable pub numbered_pair : Submission → List ℕ → Option ℕ → code.Option FirstRefused
numbered_pair x map none = None
numbered_pair x map (some k) = refused_at (place_of k in_state state_of k) (at_mark x map (place_of k) (state_of k))

-- G25: the first pair that is refused
unfoldable pub first_refused : Submission → List ℕ → code.Option FirstRefused
first_refused x map = numbered_pair x map (lowest (refused_pair x map) (2 * size x))

-- G31: of which the verdict gives the place
unfoldable pub pair_verdict : code.Option FirstRefused → Verdict
pair_verdict None = accepted
pair_verdict (Some f) = Err (Rejected f.reason f.pair.place)

-- G25, G31: map bytes, start, pairs
unfoldable pub verdict_of : Submission → List ℕ → Verdict
verdict_of x map =
    first_of (place_verdict (lowest (over_three map) (size x)))
    (first_of (start_verdict map) (pair_verdict (first_refused x map)))

-- G40: reason 3 says why the word at its place is reserved; the rest of a verdict stays
unfoldable pub with_why : Submission → Verdict → Verdict
with_why x (Ok u) = accepted
with_why x (Err (Rejected r p)) = choose (eqb r.number RESERVED) (Err (Reserved (why_of (why (command_at x p))) p)) (Err (Rejected r p))
with_why x (Err (Refused n)) = Err (Refused n)
with_why x (Err (Reserved y p)) = Err (Reserved y p)

-- G24: a refusal has count 0
abbrev pub refusing : Refusal → Judgement
refusing n = record { verdict = Err (Refused n); count = 0 }

-- G21: the setting, always NV04-style
abbrev pub setting_of : ℕ → Bool → Setting
setting_of level sli = record { level = record { number = level }; mode = record { number = 0 }; sli = sli }

-- G24, G31, G40: what is judged where nothing is refused
abbrev pub judged : ℕ → Bool → List ℕ → List ℕ → List ℕ → Judgement
judged level sli bytes map list =
    let x = submission (setting_of level sli) bytes list in
    record { verdict = with_why x (verdict_of x map); count = count_of list }

-- the judgement where so many words may be lent,
unfoldable pub judge_up_to : ℕ → ℕ → Bool → List ℕ → List ℕ → List ℕ → Judgement
judge_up_to most level sli bytes map list = refused_or refusing (first (judge_cases most level sli bytes map list)) (judged level sli bytes map list)

-- R8: and the gatekeeper's
abbrev pub judge_of : ℕ → Bool → List ℕ → List ℕ → List ℕ → Judgement
judge_of level sli bytes map list = judge_up_to 1048576 level sli bytes map list
