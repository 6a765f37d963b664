-- Whether a set-up fits, by the check of its setting and the test of its order; and what a set-up that fits has. Assumes
-- nothing.
use Prim.Native.Nat.{ℕ, ◌*◌, ◌%◌, ◌^◌, ◌≤◌}
use mathlib.Core.Path.{◌≡◌, refl, sym, ◌∙◌}
use mathlib.Core.Bool.{Bool, true, false, not, ◌&&◌, ◌||◌, and-true}
use mathlib.Core.List.{[], ◌∷◌}
use native.Mathlib.Omega.{arith}
use lib.Dec.{eqb, leb, ltb}
use lib.Pow.{shl_exact}
use borrow.Author.Tests.{le-leb, lt-leb, eq-eqb, ne_eqb, ltb-true, ltb-false, eqb-true, not-true}
use Rattle.word.specs.First.{choose, first, ◌when◌}
use Rattle.word.specs.Setting.{LEVEL, MODE, SLI, level_refused, mode_refused, sli_refused, setting_cases, refused_or, check_of}
use Rattle.word.specs.declared.setting.Refusal.{Refusal}
use Rattle.std.specs.declared.result.Result.TheVariants.{Ok, Err}
use Rattle.word.proofs.Tests.{both}
use Rattle.word.proofs.Settings.{refused_by, passed_by, no_more}
use Rattle.pusher.specs.declared.record.Setup.{Setup}
use Rattle.channel.specs.State.{order_refused, setup_fits}

-- a test that is at most, and that is not above
most : (a b : ℕ) → leb a b ≡ not (ltb b a)
most a b = go (ltb b a) refl
  where
    go : (t : Bool) → ltb b a ≡ t → leb a b ≡ not t
    go true e = lt-leb a b (ltb-true b a e)
    go false e = le-leb a b (ltb-false b a e)

module _ (s : Setup) where
  -- a set-up fits where its setting's cases all fail, and its order fits its mode
  unfoldable setting_fits : Bool
  setting_fits = refused_or (λ (x : Refusal). false) (first (setting_cases s.setting)) true

  unfoldable order_fits : Bool
  order_fits = not (order_refused s.setting.mode.number s.order) && (eqb s.setting.mode.number 1 || eqb s.order 0)

  parts : setup_fits s ≡ (setting_fits && order_fits)
  unfolding setup_fits setting_fits order_fits refused_or first choose
  parts =
      go (level_refused s.setting.level.number)
      (mode_refused s.setting.level.number s.setting.mode.number)
      (order_refused s.setting.mode.number s.order)
      (sli_refused s.setting.level.number s.setting.sli)
      (eqb s.setting.mode.number 1 || eqb s.order 0)
    where
      go :
          (l m o t z : Bool)
          → (not l && not m && not o && not t && z)
          ≡ (refused_or (λ (x : Refusal). false) (first (LEVEL when l ∷ MODE when m ∷ SLI when t ∷ [])) true && (not o && z))
      go true m o t z = refl
      go false true o t z = refl
      go false false true true z = refl
      go false false true false z = refl
      go false false false true z = refl
      go false false false false z = refl

  pub setting_refused : (x : Refusal) → check_of s.setting ≡ Err x → setup_fits s ≡ false
  unfolding setting_fits
  setting_refused x e = parts ∙ rw (refused_by s.setting [] (λ (x : Refusal). false) true x e)

  module _ (fine : check_of s.setting ≡ Ok tt) where
    by_order : setup_fits s ≡ order_fits
    unfolding setting_fits
    by_order = parts ∙ rw (passed_by s.setting [] (λ (x : Refusal). false) true fine, no_more (λ (x : Refusal). false) true)

    pub ib_order : s.setting.mode.number ≡ 1 → leb s.order 12 ≡ setup_fits s
    unfolding order_fits
    ib_order e = most s.order 12 ∙ sym (by_order ∙ rw (eq-eqb s.setting.mode.number 1 e, and-true))

    pub no_order : (s.setting.mode.number ≡ 1 → ⊥) → eqb s.order 0 ≡ setup_fits s
    unfolding order_fits
    no_order n = sym (by_order ∙ rw (ne_eqb s.setting.mode.number 1 n))

  module _ (fits : setup_fits s ≡ true) where
    pub order_most : s.order ≤ 12
    unfolding order_fits
    order_most =
        let ib = eqb s.setting.mode.number 1 in
        let y = both (not (ib && ltb 12 s.order)) (ib || eqb s.order 0) (both setting_fits order_fits (sym parts ∙ fits)).1 in
        go ib y.0 y.1
      where
        go : (ib : Bool) → not (ib && ltb 12 s.order) ≡ true → (ib || eqb s.order 0) ≡ true → s.order ≤ 12
        go true p q = ltb-false 12 s.order (not-true _ p)
        go false p q = omega (arith, eqb-true s.order 0 q)

    -- a shift of 1 by it is the power, and nothing is lost
    pub power : (1 * 2 ^ s.order) % 2 ^ 32 ≡ 2 ^ s.order
    power = shl_exact 1 s.order 32 (omega arith) (omega (arith, order_most)) ∙ omega arith
