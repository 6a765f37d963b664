-- The reasons of one pair of a place and a state.
use Rattle.std.specs.Prelude.{ℕ, ◌+◌, Bool, false, not, ◌&&◌, ◌||◌, List, [], ◌∷◌, ◌++◌, eqb, leb, ltb, length, get_or}
use Rattle.std.specs.declared.option.Option as code
use Rattle.std.specs.declared.option.Option.TheVariants.{None, Some}
use Rattle.std.proofs.Math.Option.{Option, none, some}
use Rattle.word.specs.First.{Case, first, ◌when◌}
use Rattle.word.specs.Reading.{number, parameter_count, read_of}
use Rattle.word.specs.declared.setting.Setting.{Setting}
use Rattle.word.specs.declared.reading.Reading.{Reading}
use Rattle.word.specs.Lent.{words_of}
use Rattle.rules.specs.Map.{among, unmarked}
use Rattle.rules.specs.Parameters.{place_after, wraps, lacking, denied}
use Rattle.rules.specs.Next.{nexts}
use Rattle.rules.specs.declared.pair.Pair.{Pair}
use Rattle.rules.specs.declared.reason.Reason.{Reason}
use Rattle.rules.specs.declared.submission.Submission as code_submission

-- the reasons' numbers (docs/CARD.md, G)
abbrev pub MAP_BYTE : ℕ
MAP_BYTE = 1

abbrev pub NO_START : ℕ
NO_START = 2

abbrev pub RESERVED : ℕ
RESERVED = 3

abbrev pub CALL_INSIDE : ℕ
CALL_INSIDE = 4

abbrev pub RETURN_OUTSIDE : ℕ
RETURN_OUTSIDE = 5

abbrev pub SHORT : ℕ
SHORT = 6

abbrev pub NON_CACHE : ℕ
NON_CACHE = 7

abbrev pub NOT_PERMITTED : ℕ
NOT_PERMITTED = 8

abbrev pub MARKED_PARAMETER : ℕ
MARKED_PARAMETER = 9

abbrev pub TARGET_PAST : ℕ
TARGET_PAST = 10

abbrev pub NOT_MARKED : ℕ
NOT_MARKED = 11

abbrev pub END_INSIDE : ℕ
END_INSIDE = 12

abbrev pub WRAPS : ℕ
WRAPS = 13

-- G21: what is submitted beside the map: the setting, in NV04-style, the words, and the list of permitted methods.
pub record Submission : Type 0 where
  pub setting : Setting
  pub words : List ℕ
  pub permit : List ℕ

abbrev pub submission : Setting → List ℕ → List ℕ → Submission
submission setting bytes list = record { setting = setting; words = words_of bytes; permit = list }

-- and as the code hands it on
abbrev pub submitted : code_submission.Submission → Submission
submitted s = submission s.setting s.words.now s.permit.now

-- G21: how many words there are, and what the word at a place reads as, by itself
abbrev pub size : Submission → ℕ
size x = length x.words

abbrev pub command_at : Submission → ℕ → Reading
command_at x p = read_of x.setting (get_or x.words p 0) 0

-- the forms that have reasons of their own, by their numbers. G3: the long form, 5, is no command of NV04-style
unfoldable pub reserved? : Reading → Bool
reserved? d = eqb (number d) 5 || leb 9 (number d)

unfoldable pub call? : Reading → Bool
call? d = eqb (number d) 8

unfoldable pub return? : Reading → Bool
return? d = eqb (number d) 4

-- The reasons of a command d at place p in state s, in the order in which they are tried. G3 to G8, G13: its own.
abbrev pub own_cases : Submission → Reading → ℕ → Bool → List Case
own_cases x d p s =
    RESERVED when reserved? d
    ∷ CALL_INSIDE when (call? d && s)
    ∷ RETURN_OUTSIDE when (return? d && not s)
    ∷ SHORT when ltb (size x) (place_after d p)
    ∷ WRAPS when wraps d
    ∷ NON_CACHE when lacking x.setting d
    ∷ NOT_PERMITTED when denied x.permit d
    ∷ []

-- G10, G12, G11, G28: those of a next pair q, of so many words, and whether it lacks its mark.
abbrev pub arrival_cases : ℕ → Pair → Bool → List Case
arrival_cases n q lacks =
    TARGET_PAST when ltb n q.place
    ∷ END_INSIDE when (eqb q.place n && q.inside)
    ∷ NOT_MARKED when (not (eqb q.place n) && lacks)
    ∷ []

-- G26: of each next pair in turn
abbrev pub next_cases : (Pair → Bool) → ℕ → List Pair → List Case
next_cases lacks n [] = []
next_cases lacks n (q ∷ qs) = arrival_cases n q (lacks q) ++ next_cases lacks n qs

-- What a map says: whether a marked place lies among so many from a place on, and whether a pair lacks its mark.
pub record MapTests : Type 0 where
  pub among : ℕ → ℕ → Bool
  pub lacks : Pair → Bool

-- G26, G9: the order at one pair: its own reasons, a marked parameter, and those of its next pairs.
abbrev pub cases_by : MapTests → Submission → Reading → ℕ → Bool → List Pair → List Case
cases_by m x d p s qs =
    own_cases x d p s
    ++ (MARKED_PARAMETER when m.among (p + 1) (parameter_count d) ∷ next_cases m.lacks (size x) qs)

abbrev pub command_cases : MapTests → Submission → Reading → ℕ → Bool → List Case
command_cases m x d p s = cases_by m x d p s (nexts d p s)

unfoldable pub first_reason : MapTests → Submission → ℕ → Bool → Option ℕ
first_reason m x p s = first (command_cases m x (command_at x p) p s)

-- G26: the reason of a pair, by a map;
abbrev pub by_map : List ℕ → MapTests
by_map map = record { among = among map; lacks = unmarked map }

abbrev pub reason_at : Submission → List ℕ → ℕ → Bool → Option ℕ
reason_at x map p s = first_reason (by_map map) x p s

-- H2: and by no map, which leaves the path rule's reasons
abbrev pub no_map : MapTests
no_map = record { among = λ a c. false; lacks = λ q. false }

abbrev pub flaw_at : Submission → ℕ → Bool → Option ℕ
flaw_at x p s = first_reason no_map x p s

-- what the gatekeeper finds
unfoldable pub finding_of : Option ℕ → code.Option Reason
finding_of none = None
finding_of (some n) = Some (record { number = n })
