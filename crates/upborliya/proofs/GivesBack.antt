-- `GivesBack`: the parts of the number for C. Assumes nothing.
use Prim.Native.Nat.{ℕ, ◌+◌, ◌*◌, ◌/◌, ◌%◌, ◌^◌, ◌<◌}
use mathlib.Core.Path.{◌≡◌, refl, sym, ap, ◌∙◌}
use mathlib.Core.Bool.{Bool, true, false, not}
use native.Mathlib.Omega.{arith}
use lib.Dec.{eqb}
use borrow.Author.Tests.{eqb-true, eqb-false}
use Rattle.std.specs.declared.result.Result.TheVariants.{Ok, Err}
use Rattle.word.specs.Why.{why_number}
use Rattle.word.proofs.Told.{why_few}
use Rattle.rules.specs.Judging.{judge_of}
use Rattle.rules.specs.Answers.{number, verdict_refusal, values, verdict_why}
use Rattle.rules.specs.Judging.{Verdict}
use Rattle.rules.specs.declared.judging.Unfit.TheVariants.{Rejected, Refused, Reserved}
use Rattle.rules.proofs.Small.{Small, judgement_small}
use Rattle.upborliya.specs.Packed.{reason_in, refusal_in, why_in, place_in, packed, on}
use Rattle.upborliya.specs.Promises.{Unpacked, Switches, GivesBack}

-- the parts of a sum of parts
parts :
    (a b w c d : ℕ)
    → a < 2 ^ 8
    → b < 2 ^ 8
    → w < 2 ^ 8
    → c < 2 ^ 16
    → d < 2 ^ 24
    → (n : ℕ)
    → n ≡ d % 2 ^ 24 * 2 ^ 40 + (c % 2 ^ 16 * 2 ^ 24 + (w * 2 ^ 16 + (b * 2 ^ 8 + a)))
    → (n < 2 ^ 64) × (n % 2 ^ 8 ≡ a) × (n / 2 ^ 8 % 2 ^ 8 ≡ b) × (n / 2 ^ 16 % 2 ^ 8 ≡ w) × (n / 2 ^ 24 % 2 ^ 16 ≡ c) × (n / 2 ^ 40 ≡ d)
parts a b w c d la lb lw lc ld n e = (omega arith, omega arith, omega arith, omega arith, omega arith, omega arith)

unpacks : (v : Verdict) (count n : ℕ) → Small v → count < 2 ^ 16 → n ≡ packed (record { verdict = v; count = count }) → (n < 2 ^ 64) × Unpacked n (record { verdict = v; count = count })
unfolding packed reason_in refusal_in why_in place_in number verdict_refusal values verdict_why
unpacks (Ok u) count n s l e =
    let p = parts 0 0 0 count 0 (omega arith) (omega arith) (omega arith) l (omega arith) n e in (
      p.0,
      record {
        reason = λ k h. let z : ◌≡◌ {A = ℕ} 0 1 = cc in absurd (omega arith);
        no_reason = λ h. p.1;
        refusal = λ k h. let z : ◌≡◌ {A = ℕ} 0 1 = cc in absurd (omega arith);
        no_refusal = λ h. p.2;
        why = λ k h. let z : ◌≡◌ {A = ℕ} 0 1 = cc in absurd (omega arith);
        no_why = λ h. p.3;
        count = p.4;
        place = λ k h. let z : ◌≡◌ {A = ℕ} 0 1 = cc in absurd (omega arith);
        no_place = λ h. p.5;
        accepted = (λ h. (refl, refl), λ h. (p.1, p.2));
      },
    )
unpacks (Err (Rejected r q)) count n s l e =
    let p = parts r.number 0 0 count q s.1 (omega arith) (omega arith) l s.2 n e in (
      p.0,
      record {
        reason = λ k h. let same : r.number ≡ k = cc in p.1 ∙ same;
        no_reason = λ h. let z : ◌≡◌ {A = ℕ} 0 1 = cc in absurd (omega arith);
        refusal = λ k h. let z : ◌≡◌ {A = ℕ} 0 1 = cc in absurd (omega arith);
        no_refusal = λ h. p.2;
        why = λ k h. let z : ◌≡◌ {A = ℕ} 0 1 = cc in absurd (omega arith);
        no_why = λ h. p.3;
        count = p.4;
        place = λ k h. let same : q ≡ k = cc in p.5 ∙ same;
        no_place = λ h. let z : ◌≡◌ {A = ℕ} 0 1 = cc in absurd (omega arith);
        accepted = (λ h. let b = p.1 in let g = h.0 in absurd (omega (arith, s.0)), λ h. let f = h.1 in let z : ◌≡◌ {A = ℕ} 0 1 = cc in absurd (omega arith));
      },
    )
unpacks (Err (Refused m)) count n s l e =
    let p = parts 0 m.number 0 count 0 (omega arith) s.1 (omega arith) l (omega arith) n e in (
      p.0,
      record {
        reason = λ k h. let z : ◌≡◌ {A = ℕ} 0 1 = cc in absurd (omega arith);
        no_reason = λ h. p.1;
        refusal = λ k h. let same : m.number ≡ k = cc in p.2 ∙ same;
        no_refusal = λ h. let z : ◌≡◌ {A = ℕ} 0 1 = cc in absurd (omega arith);
        why = λ k h. let z : ◌≡◌ {A = ℕ} 0 1 = cc in absurd (omega arith);
        no_why = λ h. p.3;
        count = p.4;
        place = λ k h. let z : ◌≡◌ {A = ℕ} 0 1 = cc in absurd (omega arith);
        no_place = λ h. p.5;
        accepted = (λ h. let b = p.2 in let g = h.1 in absurd (omega (arith, s.0)), λ h. let f = h.0 in let z : ◌≡◌ {A = ℕ} 0 1 = cc in absurd (omega arith));
      },
    )
unpacks (Err (Reserved y q)) count n s l e =
    let p = parts 3 0 (why_number y) count q (omega arith) (omega arith) (omega (arith, why_few y)) l s n e in (
      p.0,
      record {
        reason = λ k h. let same : 3 ≡ k = cc in p.1 ∙ same;
        no_reason = λ h. let z : ◌≡◌ {A = ℕ} 0 1 = cc in absurd (omega arith);
        refusal = λ k h. let z : ◌≡◌ {A = ℕ} 0 1 = cc in absurd (omega arith);
        no_refusal = λ h. p.2;
        why = λ k h. let same : why_number y ≡ k = cc in p.3 ∙ same;
        no_why = λ h. let z : ◌≡◌ {A = ℕ} 0 1 = cc in absurd (omega arith);
        count = p.4;
        place = λ k h. let same : q ≡ k = cc in p.5 ∙ same;
        no_place = λ h. let z : ◌≡◌ {A = ℕ} 0 1 = cc in absurd (omega arith);
        accepted = (λ h. let b = p.1 in let g = h.0 in absurd (omega arith), λ h. let f = h.1 in let z : ◌≡◌ {A = ℕ} 0 1 = cc in absurd (omega arith));
      },
    )

-- the setting that a number stands for
pub switched : (n : ℕ) (b : Bool) → Switches n b → b ≡ on n
switched n b s = go (eqb n 0) refl
  where
    go : (t : Bool) → eqb n 0 ≡ t → b ≡ not t
    go true e = s.zero (eqb-true _ _ e)
    go false e = s.other (eqb-false _ _ e)

pub gives_back : GivesBack
gives_back level sli b bytes map list r n h s j e =
    let small = judgement_small 1048576 level b bytes map list (omega arith) h in
    let same = e ∙ ap (λ (x : Bool). packed (judge_of level x bytes map list)) (sym (switched sli b s)) in
    rw j (unpacks (judge_of level b bytes map list).verdict (judge_of level b bytes map list).count n small.0 small.1 same)
