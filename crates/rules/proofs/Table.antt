-- What the table refuses, in plain terms, and what an accepted submission has passed. Assumes nothing.
use Prim.Native.Nat.{ℕ, ◌*◌, ◌/◌, ◌%◌, ◌≤◌, ◌<◌}
use mathlib.Core.Path.{◌≡◌, refl, sym, ap, ◌∙◌}
use mathlib.Core.Bool.{Bool, true, false, not}
use mathlib.Core.List.{List, [], ◌∷◌}
use mathlib.Core.Logic.Iff
use mathlib.Core.Logic.{inl, inr, ⊎_elim, ◌↔◌}
use mathlib.Core.Option.{Option, none, some}
use native.Mathlib.Omega.{arith}
use lib.Dec.{eqb, ltb}
use lib.ListN.{length}
use borrow.Author.Tests.{eqb-true, eqb-false}
use Rattle.word.specs.First.{first, PlainCase, FirstIs}
use Rattle.word.specs.Setting.{refused_or}
use Rattle.word.proofs.First.{Agree}
use Rattle.word.proofs.Tests.{not_plain, or_plain, and_plain, less_plain, equal_plain}
use Rattle.channel.proofs.Refusals.{NoneOf, none_of}
use Rattle.word.specs.Lent.{words_of}
use Rattle.rules.specs.Reason.{submission}
use Rattle.rules.specs.Judging.{length_refused, judge_cases, judged, verdict_of, refusing, setting_of, judge_up_to}
use Rattle.rules.specs.Answers.{Accepts}
use Rattle.rules.specs.Promises.{BadLengths, judge_plain, Sized}
use Rattle.rules.specs.Judging.{accepted}
use Rattle.rules.specs.declared.judging.Judgement.{Judgement}
use Rattle.word.proofs.Bytes.{words_length}
use Rattle.rules.proofs.Answers.{accepts, accepted_kept}

-- where no plain condition holds, nothing is refused
none_first : (ps : List PlainCase) → NoneOf ps → (n : ℕ) → FirstIs ps n → ⊥
none_first [] h n f = f
none_first (p ∷ ps) h n (inl f) = h.0 f.0
none_first (p ∷ ps) h n (inr f) = none_first ps h.1 n f.1

pub none_told : (o : Option ℕ) (ps : List PlainCase) → ((n : ℕ) → o ≡ some n ↔ FirstIs ps n) → NoneOf ps → o ≡ none
none_told none ps e h = refl
none_told (some n) ps e h = absurd (none_first ps h n ((e n).0 refl))

-- two numbers that are not unequal are equal
same : (a b : ℕ) → ((a ≡ b → ⊥) → ⊥) → a ≡ b
same a b h = go (eqb a b) refl
  where
    go : (t : Bool) → eqb a b ≡ t → a ≡ b
    go true e = eqb-true _ _ e
    go false e = absurd (h (eqb-false _ _ e))

-- the lengths that don't fit
pub lengths_plain : (bytes map list : ℕ) → length_refused bytes map list ≡ true ↔ BadLengths bytes map list
lengths_plain bytes map list =
    let unequal : (a b : ℕ) → not (eqb a b) ≡ true ↔ (a ≡ b → ⊥) = λ a b. not_plain (eqb a b) (equal_plain a b) in
    or_plain _ _ (unequal (bytes % 4) 0) (or_plain _ _ (unequal map (bytes / 4)) (unequal list 2048))

module _ (most level : ℕ) (sli : Bool) (bytes map list : List ℕ) where
  pub judge_agree : Agree (judge_cases most level sli bytes map list) (judge_plain most level sli bytes map list)
  judge_agree = (
    refl,
    less_plain 5 level,
    (
      refl,
      and_plain sli (ltb level 3) Iff.rfl (less_plain level 3),
      (refl, less_plain (4 * most) (length bytes), (refl, lengths_plain (length bytes) (length map) (length list), tt)),
    ),
  )

  -- what the table does not refuse
  pub record Fits : Type 0 where
    pub level_fits : level ≤ 5
    pub sli_fits : sli ≡ true → 3 ≤ level
    pub words : length (words_of bytes) ≤ most
    pub whole : length bytes % 4 ≡ 0
    pub bytes_map : length map ≡ length (words_of bytes)
    pub permit : length list ≡ 2048

  named : NoneOf (judge_plain most level sli bytes map list) → Fits
  named (above, (low, (over, (lengths, end)))) =
      let equal = same (length map) (length bytes / 4) (λ u. lengths (inr (inl u))) in
      let count = words_length bytes in
      record {
        level_fits = omega arith;
        sli_fits = λ s. let below : level < 3 → ⊥ = λ l. low (s, l) in omega arith;
        words = omega arith;
        whole = same (length bytes % 4) 0 (λ u. lengths (inl u));
        bytes_map = omega arith;
        permit = same (length list) 2048 (λ u. lengths (inr (inr u)));
      }

  -- and what it then is not
  pub unrefused :
      level ≤ 5
      → (sli ≡ true → 3 ≤ level)
      → length bytes ≤ 4 * most
      → length bytes % 4 ≡ 0
      → length map ≡ length bytes / 4
      → length list ≡ 2048
      → NoneOf (judge_plain most level sli bytes map list)
  unrefused level_fits sli_fits small whole bytes_map permit = (
    λ l. omega arith,
    (λ e. omega (arith, e.1, sli_fits e.0), (λ l. omega arith, (λ n. ⊎_elim (λ u. u whole) (λ m. ⊎_elim (λ u. u bytes_map) (λ u. u permit) m) n, tt))),
  )

  pub fits : first (judge_cases most level sli bytes map list) ≡ none → Fits
  fits e = named (none_of (judge_cases most level sli bytes map list) (judge_plain most level sli bytes map list) judge_agree e)

  -- what is accepted has passed the table, and the verdict is the judgement's
  pub passed :
      (r : Judgement)
      → r ≡ judge_up_to most level sli bytes map list
      → Accepts r.verdict
      → Fits × (verdict_of (submission (setting_of level sli) bytes list) map ≡ accepted)
  unfolding judge_up_to refused_or
  passed r j a = go (first (judge_cases most level sli bytes map list)) refl (sym (ap (λ (y : Judgement). y.verdict) j) ∙ (accepts r.verdict).0 a)
    where
      go :
          (o : Option ℕ)
          → first (judge_cases most level sli bytes map list) ≡ o
          → (refused_or refusing o (judged level sli bytes map list)).verdict ≡ accepted
          → Fits × (verdict_of (submission (setting_of level sli) bytes list) map ≡ accepted)
      go none e h = (fits e, (accepted_kept (submission (setting_of level sli) bytes list) _).0 h)
      go (some n) e h = let z : ◌≡◌ {A = ℕ} 0 1 = cc in absurd (omega arith)

-- what the gatekeeper's table does not refuse is what `Complete` speaks of
pub sized : (level : ℕ) (sli : Bool) (bytes map list : List ℕ) → first (judge_cases 1048576 level sli bytes map list) ≡ none → Sized level sli bytes list
sized level sli bytes map list e =
    let fit = fits 1048576 level sli bytes map list e in
    let count = words_length bytes in
    record { level_fits = fit.level_fits; sli_fits = fit.sli_fits; words = omega (arith, fit.words, fit.whole); whole = fit.whole; permit = fit.permit }
