-- `RepairBack`: the parts of the repair's number. Assumes nothing.
use Prim.Native.Nat.{ℕ, ◌^◌, ◌≤◌, ◌<◌}
use mathlib.Core.Path.{◌≡◌, refl, ap, ◌∙◌}
use mathlib.Core.List.{[], ◌∷◌}
use mathlib.Core.Option.{some}
use native.Mathlib.Omega.{arith}
use Rattle.std.specs.declared.result.Result.{Result}
use Rattle.std.specs.declared.result.Result.TheVariants.{Ok, Err}
use Rattle.word.specs.declared.setting.Refusal.{Refusal}
use Rattle.repair.specs.Answers.{repaired_refusal, repaired_values}
use Rattle.repair.specs.Outcomes.{Repairs}
use Rattle.repair.proofs.Promises.{one, few_changes, small_refusal}
use Rattle.upborliya.specs.Packed.{packed_repair, on}
use Rattle.upborliya.specs.Promises.{UnpackedRepair, RepairBack}
use Rattle.upborliya.proofs.GivesBack.{switched}

unpacks :
    (a : Result ℕ Refusal) (n : ℕ)
    → ((c : ℕ) → repaired_values a ≡ c ∷ [] → c ≤ 8192)
    → ((k : ℕ) → repaired_refusal a ≡ some k → k < 2 ^ 8)
    → n ≡ packed_repair a
    → (n < 2 ^ 64) × UnpackedRepair n a
unfolding packed_repair repaired_values repaired_refusal
unpacks (Ok c) n few small e =
    let l = few c refl in (
      omega arith,
      record {
        refusal = λ k h. let z : ◌≡◌ {A = ℕ} 0 1 = cc in absurd (omega arith);
        no_refusal = λ h. omega arith;
        count = λ d h. let same : c ≡ d = cc in omega arith;
        no_count = λ h. let z : ◌≡◌ {A = ℕ} 0 1 = cc in absurd (omega arith);
        zeros = (omega arith, omega arith, omega arith);
      },
    )
unpacks (Err x) n few small e =
    let l = small x.number refl in (
      omega arith,
      record {
        refusal = λ k h. let same : x.number ≡ k = cc in omega arith;
        no_refusal = λ h. let z : ◌≡◌ {A = ℕ} 0 1 = cc in absurd (omega arith);
        count = λ d h. let z : ◌≡◌ {A = ℕ} 0 1 = cc in absurd (omega arith);
        no_count = λ h. omega arith;
        zeros = (omega arith, omega arith, omega arith);
      },
    )

pub repair_back : RepairBack
repair_back level sli b l n a map map' list list' work work' s h k =
    let as_on : Repairs level (on sli) l a map list work = rw (switched sli b s) at h in
    let same = one level (on sli) l k.answer a map' map list' list work' work k.repairs as_on in
    let u = unpacks a n (few_changes level b l a map list work h) (small_refusal level b l a map list work h) (k.number ∙ ap packed_repair same.0) in
    (u.0, u.1, same.1, same.2, same.3)
