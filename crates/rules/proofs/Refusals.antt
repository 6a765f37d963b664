-- What refuses a judgement, in the order of the tests, and what is known where nothing does. Assumes nothing.
use Prim.Native.Nat.{ℕ, ◌*◌, ◌/◌, ◌%◌, ◌≤◌, ◌<◌}
use mathlib.Core.Path.{◌≡◌, refl, sym, ◌∙◌}
use mathlib.Core.Bool.{Bool, true, false, not, ◌||◌, false≢true}
use mathlib.Core.List.{List, [], ◌∷◌, ◌++◌}
use mathlib.Core.Option.{Option, none, some}
use native.Mathlib.Omega.{arith}
use lib.Dec.{eqb, ltb}
use lib.ListN.{length}
use borrow.Author.Tests.{lt-ltb, le-ltb, eqb-true}
use Rattle.word.specs.First.{Case, choose, first, ◌when◌}
use Rattle.word.specs.Setting.{SIZE, LENGTH, setting_cases, refused_or, check_of}
use Rattle.word.specs.declared.setting.Refusal.{Refusal}
use Rattle.std.specs.declared.result.Result.TheVariants.{Ok, Err}
use Rattle.word.proofs.Settings.{refused_by, passed_by}
use Rattle.rules.specs.Judging.{length_refused, judge_cases, refusing, setting_of, judged, judge_up_to}

-- none of three tests fails
all_three : (x y z : Bool) → not x || (not y || not z) ≡ false → (x ≡ true) × (y ≡ true) × (z ≡ true)
all_three true true true h = (refl, refl, refl)
all_three true true false h = absurd (false≢true (sym h))
all_three true false z h = absurd (false≢true (sym h))
all_three false y z h = absurd (false≢true (sym h))

-- lengths that are not refused: a byte of the map for every four of the words, and a whole list
pub lengths : (bytes map list : ℕ) → length_refused bytes map list ≡ false → (bytes ≡ 4 * map) × (list ≡ 2048)
lengths bytes map list h =
    let t = all_three (eqb (bytes % 4) 0) (eqb map (bytes / 4)) (eqb list 2048) h in
    (omega (arith, eqb-true (bytes % 4) 0 t.0, eqb-true map (bytes / 4) t.1), eqb-true list 2048 t.2)

-- a refusal's number, or none
abbrev numbered : Refusal → Option ℕ
numbered x = some x.number

same : (o : Option ℕ) → refused_or numbered o none ≡ o
unfolding refused_or
same none = refl
same (some n) = refl

-- The tests of the table, one after the other: which refuses, or that none does.
module _ (most level : ℕ) (sli : Bool) (bytes map list : List ℕ) where
  abbrev table : Option ℕ
  table = first (judge_cases most level sli bytes map list)

  abbrev others : List Case
  others = SIZE when ltb (4 * most) (length bytes) ∷ LENGTH when length_refused (length bytes) (length map) (length list) ∷ []

  -- MODE refuses no setting in NV04-style: the tests are the setting's, and then the others
  setting_first : table ≡ first (setting_cases (setting_of level sli) ++ others)
  unfolding first choose
  setting_first = refl

  -- the setting refuses;
  pub by_setting : (x : Refusal) → check_of (setting_of level sli) ≡ Err x → table ≡ some x.number
  by_setting x e = setting_first ∙ sym (same _) ∙ refused_by (setting_of level sli) others numbered none x e

  module _ (fine : check_of (setting_of level sli) ≡ Ok tt) where
    -- the tests that are left where it does not
    past_setting : table ≡ first others
    past_setting = setting_first ∙ sym (same _) ∙ passed_by (setting_of level sli) others numbered none fine ∙ same _

    -- there are too many words;
    pub by_size : 4 * most < length bytes → table ≡ some SIZE
    unfolding first choose
    by_size h = rw (past_setting, lt-ltb (4 * most) (length bytes) h)

    module _ (small : length bytes ≤ 4 * most) where
      -- there are no such lengths; or none refuses
      pub by_length : length_refused (length bytes) (length map) (length list) ≡ true → table ≡ some LENGTH
      unfolding first choose
      by_length h = rw (past_setting, le-ltb (4 * most) (length bytes) small, h)

      pub unrefused : length_refused (length bytes) (length map) (length list) ≡ false → table ≡ none
      unfolding first choose
      unrefused h = rw (past_setting, le-ltb (4 * most) (length bytes) small, h)

  -- so of a judgement
  pub judge_refused : (x : Refusal) → table ≡ some x.number → refusing x ≡ judge_up_to most level sli bytes map list
  unfolding judge_up_to refused_or
  judge_refused x e = rw e

  pub judge_made : table ≡ none → judged level sli bytes map list ≡ judge_up_to most level sli bytes map list
  unfolding judge_up_to refused_or
  judge_made e = rw e
