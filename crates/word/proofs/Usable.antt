-- When a form may be used, as one test: none of the four that speak against it holds; and what the first of them is. Assumes nothing.
use Prim.Native.Nat.{ℕ}
use mathlib.Core.Path.{◌≡◌, refl, sym}
use mathlib.Core.Bool.{Bool, true, false, not, ◌&&◌, ◌||◌, and-false, false≢true}
use mathlib.Core.List.{List, [], ◌∷◌}
use mathlib.Core.Option.{Option, none, some}
use native.Mathlib.Omega.{arith}
use lib.Dec.{eqb, leb, ltb}
use borrow.Author.Tests.{ltb-true, ltb-false, le-ltb, le-leb, lt-leb}
use Rattle.std.specs.Bool.{then_some}
use Rattle.std.specs.Option.{option_or}
use Rattle.std.specs.Prelude.{MatchOption}
use Rattle.std.specs.declared.option.Option as rust
use Rattle.std.specs.declared.option.Option.TheVariants.{None, Some}
use Rattle.word.specs.First.{choose, Case, first, ◌when◌}
use Rattle.word.specs.Lowest.{found?}
use Rattle.word.specs.Why.{NO_SUCH_FORM, NOT_AT_LEVEL, NOT_IN_MODE, SLI_OFF, why_number, why_of}
use Rattle.word.specs.Form.{Where, either, only, nowhere, nowhere?, in_mode, Form, why_not, usable, increasing, non_increasing, sli_conditional, returning, long, old_jump, jump, call, everything_else, forms}
use Rattle.word.specs.Reading.{number, form}
use Rattle.word.specs.declared.setting.Setting.{Setting}
use Rattle.word.specs.declared.why.Why.{Why}
use Rattle.word.specs.declared.why.Why.TheVariants as why
use Rattle.word.specs.declared.reading.Reading.{Reading}
use Rattle.word.specs.declared.reading.Reading.TheVariants.{Increasing, NonIncreasing, Sli, Return, Long, OldJump, Jump, Call, Reserved, Refused}

-- four tests in a row,
abbrev four : Bool → Bool → Bool → Bool → List Case
four a b c d = NO_SUCH_FORM when a ∷ NOT_AT_LEVEL when b ∷ NOT_IN_MODE when c ∷ SLI_OFF when d ∷ []

-- the first of which fails where the third passes
none_of_four :
    (a b c d : Bool)
    → (a ≡ true → c ≡ false)
    → not (found? (first (four a b (not c) d))) ≡ (not b && c && not d)
unfolding first choose found?
none_of_four true b c d h = rw (h refl, and-false)
none_of_four false true c d h = refl
none_of_four false false false d h = refl
none_of_four false false true true h = refl
none_of_four false false true false h = refl

nowhere_none : (x : Where) (mode : ℕ) → nowhere? x ≡ true → in_mode x mode ≡ false
unfolding nowhere? in_mode
nowhere_none either mode e = absurd (false≢true e)
nowhere_none (only m) mode e = absurd (false≢true e)
nowhere_none nowhere mode e = refl

not_less : (a b : ℕ) → not (ltb a b) ≡ leb b a
not_less a b = go (ltb a b) refl
  where
    go : (t : Bool) → ltb a b ≡ t → not t ≡ leb b a
    go true e = rw (lt-leb b a (ltb-true a b e))
    go false e = rw (le-leb b a (ltb-false a b e))

unless : (a b : Bool) → not (a && not b) ≡ (not a || b)
unless false b = refl
unless true false = refl
unless true true = refl

pub usable_is : (s : Setting) (f : Form) → usable s f ≡ (leb f.level s.level.number && in_mode f.mode s.mode.number && (not f.sli || s.sli))
unfolding usable why_not
usable_is s f =
    rw (sym (not_less s.level.number f.level), sym (unless f.sli s.sli))
    (none_of_four (nowhere? f.mode) (ltb s.level.number f.level) (in_mode f.mode s.mode.number) (f.sli && not s.sli) (nowhere_none f.mode s.mode.number))

-- where a form may be used there is no why, and where it may not the why has the number that was found
pub no_why : (s : Setting) (f : Form) → usable s f ≡ true → why_not s f ≡ none
unfolding usable found?
no_why s f u = go (why_not s f) u
  where
    go : (o : Option ℕ) → not (found? o) ≡ true → o ≡ none
    go none e = refl
    go (some n) e = absurd (false≢true e)

pub why_number_lem : (s : Setting) (f : Form) → usable s f ≡ false → some (why_number (why_of (why_not s f))) ≡ why_not s f
unfolding usable why_not first choose found? why_number why_of
why_number_lem s f = go (nowhere? f.mode) (ltb s.level.number f.level) (not (in_mode f.mode s.mode.number)) (f.sli && not s.sli)
  where
    go : (a b c d : Bool) → not (found? (first (four a b c d))) ≡ false → some (why_number (why_of (first (four a b c d)))) ≡ first (four a b c d)
    go true b c d e = refl
    go false true c d e = refl
    go false false true d e = refl
    go false false false true e = refl
    go false false false false e = absurd (false≢true (sym e))

-- no level is below 0
pub not_below_0 : (l : ℕ) → ltb l 0 ≡ false
not_below_0 l = le-ltb l 0 (omega arith)

-- what is said of a command, by the tests that its form can fail: its level's, and one behind it
unfoldable pub said : Setting → Reading → rust.Option Why
said s (Increasing c b m) = None
said s (NonIncreasing c b m) = then_some (ltb s.level.number 1) why.Level
said s (Sli k) = option_or (then_some (ltb s.level.number 3) why.Level) (then_some (not s.sli) why.Sli)
said s Return = option_or (then_some (ltb s.level.number 2) why.Level) (then_some (not (eqb s.mode.number 0)) why.Mode)
said s (Long b m c) = then_some (not (eqb s.mode.number 1)) why.Mode
said s (OldJump t) = then_some (not (eqb s.mode.number 0)) why.Mode
said s (Jump t) = option_or (then_some (ltb s.level.number 2) why.Level) (then_some (not (eqb s.mode.number 0)) why.Mode)
said s (Call t) = option_or (then_some (ltb s.level.number 2) why.Level) (then_some (not (eqb s.mode.number 0)) why.Mode)
said s (Reserved y) = Some why.Form
said s (Refused n) = Some why.Form

-- a form's first why, or that it has none
abbrev Tells : rust.Option Why → Option ℕ → Type 0
Tells r o = MatchOption r (not (found? o) ≡ true) (λ y. (not (found? o) ≡ false) × (y ≡ why_of o))

one_test : (t : Bool) (n : ℕ) → Tells (then_some t (why_of (some n))) (choose t (some n) none)
unfolding choose found? why_of
one_test true n = (refl, refl)
one_test false n = refl

two_tests : (t u : Bool) (n : ℕ) → Tells (option_or (then_some t why.Level) (then_some u (why_of (some n)))) (choose t (some NOT_AT_LEVEL) (choose u (some n) none))
unfolding choose found? why_of
two_tests true u n = (refl, refl)
two_tests false u n = one_test u n

said_right : (s : Setting) (r : Reading) → MatchOption (said s r) (usable s (form r) ≡ true) (λ y. (usable s (form r) ≡ false) × (y ≡ why_of (why_not s (form r))))
unfolding said usable why_not first choose found? why_of nowhere? in_mode form number forms increasing non_increasing sli_conditional returning long old_jump jump call everything_else
said_right s (Increasing c b m) = rw (not_below_0 s.level.number) refl
said_right s (NonIncreasing c b m) = one_test (ltb s.level.number 1) 2
said_right s (Sli k) = two_tests (ltb s.level.number 3) (not s.sli) 4
said_right s Return = two_tests (ltb s.level.number 2) (not (eqb s.mode.number 0)) 3
said_right s (Long b m c) = rw (not_below_0 s.level.number) (one_test (not (eqb s.mode.number 1)) 3)
said_right s (OldJump t) = rw (not_below_0 s.level.number) (one_test (not (eqb s.mode.number 0)) 3)
said_right s (Jump t) = two_tests (ltb s.level.number 2) (not (eqb s.mode.number 0)) 3
said_right s (Call t) = two_tests (ltb s.level.number 2) (not (eqb s.mode.number 0)) 3
said_right s (Reserved y) = (refl, refl)
said_right s (Refused n) = (refl, refl)

-- so for the command that a match has found
pub told : (s : Setting) {r d : Reading} {x : rust.Option Why}
    → r ≡ d
    → x ≡ said s d
    → MatchOption x (usable s (form r) ≡ true) (λ y. (usable s (form r) ≡ false) × (y ≡ why_of (why_not s (form r))))
told s {r} {d} {x} e h = rw (h, e) (said_right s d)
