-- Whether a command's numbers fit their fields, by its own tests. Assumes nothing.
use Prim.Native.Nat.{ℕ, ◌%◌, ◌^◌}
use mathlib.Core.Path.{◌≡◌, refl}
use mathlib.Core.Bool.{Bool, true, ◌&&◌, and-true}
use mathlib.Core.List.{◌++◌}
use lib.Dec.{eqb, ltb}
use Rattle.word.specs.Form.{increasing, non_increasing, sli_conditional, returning, long, old_jump, jump, call, everything_else, forms}
use Rattle.word.specs.Reading.{number, form, values}
use Rattle.word.specs.Parts.{numbers_fit}
use Rattle.word.proofs.Tests.{beside}
use Rattle.word.specs.declared.reading.Reading.{Reading}
use Rattle.word.specs.declared.reading.Reading.TheVariants.{Increasing, NonIncreasing, Sli, Return, Long, OldJump, Jump, Call, Reserved, Refused}

-- a subchannel and a method
abbrev pub place_fits : ℕ → ℕ → Bool
place_fits s m = ltb s 8 && (ltb m 8192 && eqb (m % 4) 0)

unfoldable pub fits : Reading → Bool
fits (Increasing c s m) = ltb c 2048 && place_fits s m
fits (NonIncreasing c s m) = ltb c 2048 && place_fits s m
fits (Sli k) = ltb k 4096
fits Return = true
fits (Long s m c) = place_fits s m && ltb c (2 ^ 24)
fits (OldJump t) = ltb t (2 ^ 29) && eqb (t % 4) 0
fits (Jump t) = ltb t (2 ^ 32) && eqb (t % 4) 0
fits (Call t) = ltb t (2 ^ 32) && eqb (t % 4) 0
fits (Reserved y) = true
fits (Refused n) = true

pub fits_is : (r : Reading) → numbers_fit ((form r).word ++ (form r).next) (values r) ≡ fits r
unfolding fits numbers_fit form number forms values increasing non_increasing sli_conditional returning long old_jump jump call everything_else
fits_is (Increasing c s m) = simp and-true
fits_is (NonIncreasing c s m) = simp and-true
fits_is (Sli k) = simp and-true
fits_is Return = refl
fits_is (Long s m c) = beside (ltb s 8) (ltb m 8192 && eqb (m % 4) 0) (ltb c (2 ^ 24)) (place_fits s m) refl
fits_is (OldJump t) = simp and-true
fits_is (Jump t) = simp and-true
fits_is (Call t) = simp and-true
fits_is (Reserved y) = refl
fits_is (Refused n) = refl
