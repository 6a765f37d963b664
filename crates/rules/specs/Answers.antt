-- The numbers of the answers, reasons and refusals by their own, none where there is none; and their values.
use Rattle.std.specs.Prelude.{ℕ, ◌≡◌, List, [], ◌∷◌}
use Rattle.std.specs.declared.option.Option as code
use Rattle.std.specs.declared.option.Option.TheVariants.{None, Some}
use Rattle.std.proofs.Math.Option.{Option, none, some}
use Rattle.std.specs.declared.result.Result.{Result}
use Rattle.std.specs.declared.result.Result.TheVariants.{Ok, Err}
use Rattle.word.specs.Why.{why_number}
use Rattle.rules.specs.declared.pair.Pair.{Pair}
use Rattle.word.specs.declared.setting.Refusal.{Refusal}
use Rattle.rules.specs.declared.submission.Submission as code_submission
use Rattle.rules.specs.declared.reason.Reason.{Reason}
use Rattle.rules.specs.declared.judging.FirstRefused.{FirstRefused}
use Rattle.rules.specs.declared.judging.Unfit.TheVariants.{Rejected, Refused, Reserved}
use Rattle.rules.specs.Judging.{Verdict}

-- what is found: its reason
unfoldable pub finding_number : code.Option Reason → Option ℕ
finding_number None = none
finding_number (Some r) = some r.number

-- the first refused pair: its reason, and which it is
unfoldable pub refused_number : code.Option FirstRefused → Option ℕ
refused_number None = none
refused_number (Some f) = some f.reason.number

unfoldable pub refused_pair_in : code.Option FirstRefused → Option Pair
refused_pair_in None = none
refused_pair_in (Some f) = some f.pair

-- what is submitted, or why not: the refusal
unfoldable pub submit_refusal : Result code_submission.Submission Refusal → Option ℕ
submit_refusal (Ok x) = none
submit_refusal (Err n) = some n.number

-- a verdict: its reason, its refusal,
unfoldable pub number : Verdict → Option ℕ
number (Ok u) = none
number (Err (Rejected r p)) = some r.number
number (Err (Refused n)) = none
number (Err (Reserved y p)) = some 3

unfoldable pub verdict_refusal : Verdict → Option ℕ
verdict_refusal (Ok u) = none
verdict_refusal (Err (Rejected r p)) = none
verdict_refusal (Err (Refused n)) = some n.number
verdict_refusal (Err (Reserved y p)) = none

-- and of a reason its place
unfoldable pub values : Verdict → List ℕ
values (Ok u) = []
values (Err (Rejected r p)) = p ∷ []
values (Err (Refused n)) = []
values (Err (Reserved y p)) = p ∷ []

-- G40: and the why, which reason 3 alone has
unfoldable pub verdict_why : Verdict → Option ℕ
verdict_why (Ok u) = none
verdict_why (Err (Rejected r p)) = none
verdict_why (Err (Refused n)) = none
verdict_why (Err (Reserved y p)) = some (why_number y)

-- accepted: it is no refusal and has no reason
abbrev pub Accepts : Verdict → Type 0
Accepts v = (verdict_refusal v ≡ none) × (number v ≡ none)
