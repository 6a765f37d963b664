-- What an arm of several forms and a `let .. else` leave of a reading: its tag is one of a list. Assumes nothing.
use Prim.Native.Nat.{ℕ, suc}
use mathlib.Core.Path.{◌≡◌, refl, ap, ◌∙◌}
use mathlib.Core.Bool.{Bool, true, false, not, ◌&&◌, ◌||◌}
use mathlib.Core.List.{List, [], ◌∷◌}
use mathlib.Core.Logic.{inl, inr}
use mathlib.Core.Option.{none}
use types.Run.{OneOf}
use denote.Enum.Declared.{tag_of}
use lib.Dec.{eqb, leb}
use borrow.Author.Tests.{not-true, eqb-false}
use Rattle.word.specs.Reading.{number, why}
use Rattle.word.specs.declared.reading.Reading.{Reading}
use Rattle.word.specs.declared.reading.Reading.TheVariants.{Increasing, NonIncreasing, Sli, Return, Long, OldJump, Jump, Call, Reserved, Refused}
use Rattle.word.specs.contracts.reading.Reading.{the_type}
use Rattle.word.proofs.Told.{no_why_of}
use Rattle.word.proofs.Tests.{both}
use Rattle.rules.specs.Reason.{reserved?, call?, return?}

-- a reading's number is one more than its tag
tag_number : (r : Reading) → number r ≡ suc (tag_of the_type r)
unfolding number
tag_number (Increasing c s m) = refl
tag_number (NonIncreasing c s m) = refl
tag_number (Sli k) = refl
tag_number Return = refl
tag_number (Long s m c) = refl
tag_number (OldJump t) = refl
tag_number (Jump t) = refl
tag_number (Call t) = refl
tag_number (Reserved y) = refl
tag_number (Refused r) = refl

-- whether a test of numbers holds at each of a list of tags; then it holds at a number whose tag is one of them
unfoldable pub at_each : (ℕ → Bool) → List ℕ → Bool
at_each f [] = true
at_each f (k ∷ ks) = f (suc k) && at_each f ks

at_one : (f : ℕ → Bool) (tags : List ℕ) → at_each f tags ≡ true → (k : ℕ) → OneOf tags k → f (suc k) ≡ true
unfolding at_each
at_one f [] h k o = absurd o
at_one f (a ∷ []) h k o = rw o (both (f (suc a)) true h).0
at_one f (a ∷ b ∷ tags) h k (inl e) = rw e (both (f (suc a)) (at_each f (b ∷ tags)) h).0
at_one f (a ∷ b ∷ tags) h k (inr o) = at_one f (b ∷ tags) (both (f (suc a)) (at_each f (b ∷ tags)) h).1 k o

pub by_tag : (f : ℕ → Bool) (tags : List ℕ) → at_each f tags ≡ true → (r : Reading) → OneOf tags (tag_of the_type r) → f (number r) ≡ true
by_tag f tags h r o = ap f (tag_number r) ∙ at_one f tags h (tag_of the_type r) o

-- what has a reason by its form alone, and what has not
pub is_reserved : (r : Reading) → OneOf (4 ∷ 8 ∷ 9 ∷ []) (tag_of the_type r) → reserved? r ≡ true
unfolding reserved? at_each
is_reserved = by_tag (λ n. eqb n 5 || leb 9 n) (4 ∷ 8 ∷ 9 ∷ []) refl

pub not_reserved : (r : Reading) → OneOf (0 ∷ 1 ∷ 2 ∷ 3 ∷ 5 ∷ 6 ∷ 7 ∷ []) (tag_of the_type r) → reserved? r ≡ false
unfolding reserved? at_each
not_reserved r o = not-true _ (by_tag (λ n. not (eqb n 5 || leb 9 n)) (0 ∷ 1 ∷ 2 ∷ 3 ∷ 5 ∷ 6 ∷ 7 ∷ []) refl r o)

-- what a `let .. else` on 'reserved' leaves has no why
abbrev unreserved : List ℕ
unreserved = 0 ∷ 1 ∷ 2 ∷ 3 ∷ 4 ∷ 5 ∷ 6 ∷ 7 ∷ 9 ∷ []

pub none_said : (r : Reading) → OneOf unreserved (tag_of the_type r) → why r ≡ none
unfolding at_each
none_said r o = no_why_of r (eqb-false (number r) 9 (not-true _ (by_tag (λ n. not (eqb n 9)) unreserved refl r o)))

-- no call, and no return
pub no_call : (r : Reading) → OneOf (0 ∷ 1 ∷ 2 ∷ 3 ∷ 4 ∷ 5 ∷ 6 ∷ 8 ∷ 9 ∷ []) (tag_of the_type r) → call? r ≡ false
unfolding call? at_each
no_call r o = not-true _ (by_tag (λ n. not (eqb n 8)) (0 ∷ 1 ∷ 2 ∷ 3 ∷ 4 ∷ 5 ∷ 6 ∷ 8 ∷ 9 ∷ []) refl r o)

pub no_return : (r : Reading) → OneOf (0 ∷ 1 ∷ 2 ∷ 4 ∷ 5 ∷ 6 ∷ 7 ∷ 8 ∷ 9 ∷ []) (tag_of the_type r) → return? r ≡ false
unfolding return? at_each
no_return r o = not-true _ (by_tag (λ n. not (eqb n 4)) (0 ∷ 1 ∷ 2 ∷ 4 ∷ 5 ∷ 6 ∷ 7 ∷ 8 ∷ 9 ∷ []) refl r o)
