-- The contracts of the public functions, each as a predicate over inputs and answer. None writes lent memory: it is lent to be read
-- alone.
use Rattle.std.specs.Prelude.{ℕ, ◌+◌, ◌≡◌, Bool, List}
use Rattle.std.specs.Result.{MatchResult}
use Rattle.std.specs.declared.option.Option.{Option}
use Rattle.std.specs.declared.result.Result.{Result}
use Rattle.std.proofs.Math.Option.{none, some}
use Rattle.word.specs.First.{first}
use Rattle.word.specs.declared.setting.Setting.{Setting}
use Rattle.word.specs.declared.setting.Refusal.{Refusal}
use Rattle.word.specs.declared.reading.Reading.{Reading}
use Rattle.rules.specs.Map.{among}
use Rattle.rules.specs.Next.{nexts, held}
use Rattle.rules.specs.Reason.{submission, submitted, size, command_at, MapTests, own_cases, cases_by, arrival_cases, finding_of}
use Rattle.rules.specs.Judging.{length_refused, first_refused, judge_cases, setting_of, judge_of}
use Rattle.rules.specs.Next.{pairs_in}
use Rattle.rules.specs.declared.pair.Pair.{Pair}
use Rattle.rules.specs.declared.pair.Nexts.{Nexts}
use Rattle.rules.specs.declared.reason.Reason.{Reason}
use Rattle.rules.specs.declared.judging.FirstRefused.{FirstRefused}
use Rattle.rules.specs.declared.submission.Submission.{Submission}
use Rattle.rules.specs.declared.judging.Judgement.{Judgement}

-- `size` of what is submitted: of setting, the words' bytes, and the list of permitted methods
abbrev pub Counts : Setting → List ℕ → List ℕ → ℕ → Type 0
Counts setting bytes list r = r ≡ size (submission setting bytes list)

-- `command_at`, of the same, at a place
abbrev pub ReadsAt : Setting → List ℕ → List ℕ → ℕ → Reading → Type 0
ReadsAt setting bytes list p r = r ≡ command_at (submission setting bytes list) p

-- `own_reason`, of setting, the words' bytes, the list of permitted methods, and a command with the pair at which it stands
abbrev pub FindsOwn : Setting → List ℕ → List ℕ → Reading → ℕ → Bool → Option Reason → Type 0
FindsOwn setting bytes list d p s r = r ≡ finding_of (first (own_cases (submission setting bytes list) d p s))

-- `marked_among`, of the map, a command's place, and how many parameters follow it
abbrev pub MarkedAmong : List ℕ → ℕ → ℕ → Bool → Type 0
MarkedAmong map p c r = r ≡ among map (p + 1) c

-- `arrival`, of how many words there are, a pair, and whether it lacks its mark
abbrev pub Arrives : ℕ → Pair → Bool → Option Reason → Type 0
Arrives n q lacks r = r ≡ finding_of (first (arrival_cases n q lacks))

-- `nexts`, of a command and the pair at which it stands
abbrev pub NextPairs : Reading → ℕ → Bool → Nexts → Type 0
NextPairs d p s r = r ≡ held (nexts d p s)

-- `command_reason`, of setting, the words' bytes, the list of permitted methods, what a map says, and a command with the pair at which it
-- stands and the pairs at which the words go on
abbrev pub FindsAt : Setting → List ℕ → List ℕ → MapTests → Reading → ℕ → Bool → Nexts → Option Reason → Type 0
FindsAt setting bytes list m d p s ns r = r ≡ finding_of (first (cases_by m (submission setting bytes list) d p s (pairs_in ns)))

-- `first_refused`, of setting, the words' bytes, the map, and the list of permitted methods
abbrev pub FirstRefuses : Setting → List ℕ → List ℕ → List ℕ → Option FirstRefused → Type 0
FirstRefuses setting bytes map list r = r ≡ first_refused (submission setting bytes list) map

-- `no_such_lengths`, of how many bytes words, map and list have
abbrev pub NoSuchLengths : ℕ → ℕ → ℕ → Bool → Type 0
NoSuchLengths bytes map list r = r ≡ length_refused bytes map list

-- `submit`, of the most words that may be lent, level, SLI setting, the words' bytes, the map, and the list of permitted methods: what is
-- submitted, where none of the gatekeeper's refusals holds, or the first that does
abbrev pub HandsIn : ℕ → ℕ → Bool → List ℕ → List ℕ → List ℕ → Result Submission Refusal → Type 0
HandsIn most level sli bytes map list r =
    MatchResult r (λ x. (first (judge_cases most level sli bytes map list) ≡ none) × (submitted x ≡ submission (setting_of level sli) bytes list) × (x.words.now ≡ bytes))
    (λ n. first (judge_cases most level sli bytes map list) ≡ some n.number)

-- `judge`, of level, SLI setting, the words' bytes, the map, and the list of permitted methods
abbrev pub Judges : ℕ → Bool → List ℕ → List ℕ → List ℕ → Judgement → Type 0
Judges level sli bytes map list r = r ≡ judge_of level sli bytes map list
