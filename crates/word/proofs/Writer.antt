-- The writer's words, and its answer by the first test that decides it. Assumes nothing.
use Prim.Native.Nat.{ℕ, ◌+◌, ◌*◌, ◌^◌, ◌≤◌, ◌<◌}
use mathlib.Core.Path.{◌≡◌, refl, ap, ◌∙◌}
use mathlib.Core.Bool.{Bool, true, false, not}
use mathlib.Core.List.{List, [], ◌∷◌, ◌++◌}
use mathlib.Core.Option.{some, none-ne-some}
use native.Mathlib.Omega.{arith}
use lib.Dec.{eqb, ltb}
use lib.ListN.{length}
use borrow.Author.Tests.{lt-ltb, le-ltb, ne_eqb}
use Rattle.word.specs.First.{choose, ◌when◌, first}
use Rattle.word.specs.Setting.{level_refused, mode_refused, sli_refused, check_of, refused_or, LEVEL, MODE, SLI, FIELD, FORM, ROOM}
use Rattle.word.specs.Why.{why_of}
use Rattle.word.specs.Form.{increasing, non_increasing, sli_conditional, returning, long, old_jump, jump, call, everything_else, why_not, usable, forms}
use Rattle.word.specs.Reading.{number, form, values}
use Rattle.word.specs.Parts.{numbers_fit, word_with, room}
use Rattle.word.specs.Writing.{next_word, own_words, write_cases, refusing, write_of}
use Rattle.word.specs.declared.setting.Refusal.{Refusal}
use Rattle.word.specs.declared.setting.Setting.{Setting}
use Rattle.std.specs.declared.result.Result.TheVariants.{Ok, Err}
use Rattle.word.specs.declared.reading.Reading.{Reading}
use Rattle.word.specs.declared.reading.Reading.TheVariants.{Increasing, NonIncreasing, Sli, Return, Long, OldJump, Jump, Call, Reserved, Refused}
use Rattle.word.specs.declared.writing.Unwritten.TheVariants as unwritten
use Rattle.word.proofs.First.{choose_false}
use Rattle.word.proofs.Settings.{refused_first, refused_by, passed_by, hit, miss, no_more}

-- a command that is no long form has one word, and a long form's second is its count
pub one_word : (r : Reading) → ((s m c : ℕ) → r ≡ Long s m c → ⊥) → own_words r ≡ word_with (form r).word (values r) ∷ []
unfolding own_words next_word form number forms increasing non_increasing sli_conditional returning old_jump jump call everything_else
one_word (Increasing c s m) h = refl
one_word (NonIncreasing c s m) h = refl
one_word (Sli k) h = refl
one_word Return h = refl
one_word (Long s m c) h = absurd (h s m c refl)
one_word (OldJump t) h = refl
one_word (Jump t) h = refl
one_word (Call t) h = refl
one_word (Reserved y) h = refl
one_word (Refused r) h = refl

pub two_words : {r : Reading} {s m c : ℕ} → r ≡ Long s m c → own_words r ≡ word_with (form (Long s m c)).word (values (Long s m c)) ∷ c ∷ []
unfolding own_words next_word form number forms values long word_with room
two_words {r} {s} {m} {c} e = rw e (ap (λ (x : ℕ). word_with long.word (s ∷ m ∷ c ∷ []) ∷ x ∷ []) (omega arith))

-- a command's first word by its numbers, each at its place
unfoldable pub first_of : Reading → ℕ
first_of (Increasing c s m) = c * 2 ^ 18 + (s * 2 ^ 13 + m)
first_of (NonIncreasing c s m) = 2 ^ 30 + (c * 2 ^ 18 + (s * 2 ^ 13 + m))
first_of (Sli k) = 2 ^ 16 + k * 2 ^ 4
first_of Return = 2 ^ 17
first_of (Long s m c) = 3 * 2 ^ 16 + (s * 2 ^ 13 + m)
first_of (OldJump t) = 2 ^ 29 + t
first_of (Jump t) = t + 1
first_of (Call t) = t + 2
first_of (Reserved y) = 0
first_of (Refused n) = 0

pub first_is : (r : Reading) → word_with (form r).word (values r) ≡ first_of r
unfolding first_of word_with form number forms values increasing non_increasing sli_conditional returning long old_jump jump call everything_else
first_is (Increasing c s m) = omega arith
first_is (NonIncreasing c s m) = omega arith
first_is (Sli k) = omega arith
first_is Return = refl
first_is (Long s m c) = omega arith
first_is (OldJump t) = omega arith
first_is (Jump t) = omega arith
first_is (Call t) = omega arith
first_is (Reserved y) = refl
first_is (Refused r) = refl

-- what a command has passed before the test of the room
pub record Past (s : Setting) (r : Reading) : Type 0 where
  pub fine : check_of s ≡ Ok tt
  pub fields : numbers_fit ((form r).word ++ (form r).next) (values r) ≡ true
  pub there : usable s (form r) ≡ true

-- no refusal of a setting is FORM
not_form : (s : Setting) (x : Refusal) → check_of s ≡ Err x → eqb x.number FORM ≡ false
unfolding first choose
not_form s x e = go (level_refused s.level.number) (mode_refused s.level.number s.mode.number) (sli_refused s.level.number s.sli) (refused_first s x e)
  where
    from : {n : ℕ} → n < FORM → some n ≡ some x.number → eqb x.number FORM ≡ false
    from {n} h e = let z : n ≡ x.number = cc in ne_eqb x.number FORM (λ k. omega arith)

    go : (a b c : Bool) → first (LEVEL when a ∷ MODE when b ∷ SLI when c ∷ []) ≡ some x.number → eqb x.number FORM ≡ false
    go true b c e = from (omega arith) e
    go false true c e = from (omega arith) e
    go false false true e = from (omega arith) e
    go false false false e = absurd (none-ne-some x.number e)

-- the answer, by the first test that decides it
module _ (s : Setting) (r : Reading) (space : ℕ) where
  pub by_setting : (x : Refusal) → check_of s ≡ Err x → write_of s r space ≡ Err (unwritten.Refused x)
  unfolding write_of refusing
  by_setting x e = refused_by s (write_cases s r space) (refusing s r) _ x e ∙ choose_false (not_form s x e) _ _

  pub by_field : check_of s ≡ Ok tt → numbers_fit ((form r).word ++ (form r).next) (values r) ≡ false → write_of s r space ≡ Err (unwritten.Refused (record { number = FIELD }))
  unfolding write_of refusing choose
  by_field fine f = passed_by s (write_cases s r space) (refusing s r) _ fine ∙ hit FIELD _ (refusing s r) _ (ap not f)

  pub by_form : check_of s ≡ Ok tt → numbers_fit ((form r).word ++ (form r).next) (values r) ≡ true → usable s (form r) ≡ false → write_of s r space ≡ Err (unwritten.Form (why_of (why_not s (form r))))
  unfolding write_of refusing choose
  by_form fine f u =
      passed_by s (write_cases s r space) (refusing s r) _ fine
      ∙ miss FIELD _ (refusing s r) _ (ap not f)
      ∙ hit FORM _ (refusing s r) _ (ap not u)

  module _ (p : Past s r) {ws : List ℕ} (words : own_words r ≡ ws) where
    past : write_of s r space ≡ refused_or (refusing s r) (first (ROOM when ltb space (length ws) ∷ [])) (Ok (length ws))
    unfolding write_of
    past =
        passed_by s (write_cases s r space) (refusing s r) _ p.fine
        ∙ miss FIELD _ (refusing s r) _ (ap not p.fields)
        ∙ miss FORM _ (refusing s r) _ (ap not p.there)
        ∙ ap (λ (l : List ℕ). refused_or (refusing s r) (first (ROOM when ltb space (length l) ∷ [])) (Ok (length l))) words

    pub by_room : space < length ws → write_of s r space ≡ Err (unwritten.Refused (record { number = ROOM }))
    unfolding refusing choose
    by_room h = past ∙ hit ROOM [] (refusing s r) _ (lt-ltb _ _ h)

    pub by_words : length ws ≤ space → write_of s r space ≡ Ok (length ws)
    by_words h = past ∙ miss ROOM [] (refusing s r) _ (le-ltb _ _ h) ∙ no_more (refusing s r) _
