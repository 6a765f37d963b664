-- What the tests of put and step refuse, in plain terms. Assumes nothing.
use Prim.Native.Nat.{ℕ, ◌%◌, ◌^◌, ◌≤◌}
use mathlib.Core.Path.{◌≡◌, refl, sym, ap, ◌∙◌}
use mathlib.Core.Bool.{Bool, true, false, not, false≢true}
use mathlib.Core.List.{List, [], ◌∷◌}
use mathlib.Core.Logic.{◌⊎◌, inl, inr, ⊎_elim, ◌↔◌}
use mathlib.Core.Option.{Option, none, some}
use native.Mathlib.Omega.{arith}
use lib.Dec.{eqb, leb, ltb}
use lib.ListN.{length}
use borrow.Author.Tests.{eqb-true, eqb-false, le-leb, leb-true}
use Rattle.word.specs.First.{choose, Case, first, PlainCase}
use Rattle.word.specs.Setting.{refused_or, size_refused}
use Rattle.word.specs.declared.setting.Refusal.{Refusal}
use Rattle.word.proofs.First.{Agree, first_none, choose_true, choose_false}
use Rattle.word.proofs.Tests.{not_plain, or_plain, less_plain, equal_plain}
use Rattle.channel.specs.Loan.{Loan}
use Rattle.channel.specs.State.{well_formed}
use Rattle.channel.specs.Opening.{table_refused}
use Rattle.channel.specs.Putting.{put_refused, put_cases}
use Rattle.channel.specs.Stepping.{step_cases}
use Rattle.channel.specs.Promises.{BadTable, put_plain, step_plain}
use Rattle.channel.specs.declared.record.Channel.{Channel}
use Rattle.channel.proofs.Formed.{formed_plain}

-- an answer that tells each refusal's number: where it tells one, it is that refusal, and where it tells none, it is what is done
module _ {A : Type 0} (refuse : Refusal → A) (tells : A → Option ℕ) (number : (x : Refusal) → tells (refuse x) ≡ some x.number) where
  pub refused_is : (o : Option ℕ) (a : A) (n : ℕ) → tells a ≡ none → tells (refused_or refuse o a) ≡ some n → refused_or refuse o a ≡ refuse (record { number = n })
  unfolding refused_or
  refused_is none a n h e = let z : ◌≡◌ {A = ℕ} 0 1 = cc in absurd (omega arith)
  refused_is (some k) a n h e = let q = number (record { number = k }) in let z : k ≡ n = cc in ap (λ (j : ℕ). refuse (record { number = j })) z

  pub accepted_is : (o : Option ℕ) (a : A) → tells (refused_or refuse o a) ≡ none → refused_or refuse o a ≡ a
  unfolding refused_or
  accepted_is none a e = refl
  accepted_is (some k) a e = let q = number (record { number = k }) in let z : ◌≡◌ {A = ℕ} 0 1 = cc in absurd (omega arith)

-- where a case holds, the answer is its refusal
pub refused_one : {A : Type 0} (refuse : Refusal → A) (a : A) (n : ℕ) → refused_or refuse (some n) a ≡ refuse (record { number = n })
unfolding refused_or
refused_one refuse a n = refl

-- where no case holds, no plain condition does
abbrev pub NoneOf : List PlainCase → Type 0
NoneOf [] = Unit {0}
NoneOf (p ∷ ps) = (p.holds → ⊥) × NoneOf ps

pub none_of : (cs : List Case) (ps : List PlainCase) → Agree cs ps → first cs ≡ none → NoneOf ps
none_of [] [] a e = tt
none_of [] (p ∷ ps) a e = absurd a
none_of (c ∷ cs) [] a e = absurd a
none_of (c ∷ cs) (p ∷ ps) a e = let x = first_none c cs e in (λ h. false≢true (sym x.0 ∙ a.1.1 h), none_of cs ps a.2 x.1)

pub table_plain : (t : List ℕ) → table_refused (length t) ≡ true ↔ BadTable t
table_plain t = or_plain (not (eqb (length t % 4) 0)) (ltb 4096 (length t)) (not_plain (eqb (length t % 4) 0) (equal_plain (length t % 4) 0)) (less_plain 4096 (length t))

put_plain_lem :
    (c : Channel) (n : ℕ)
    → put_refused c n ≡ true
    ↔ (((c.setup.setting.mode.number ≡ 1 → ⊥) × (n % 4 ≡ 0 → ⊥)) ⊎ ((c.setup.setting.mode.number ≡ 1) × (2 ^ c.setup.order ≤ n)))
unfolding put_refused
put_plain_lem c n = go (eqb c.setup.setting.mode.number 1) refl
  where
    go :
        (b : Bool)
        → eqb c.setup.setting.mode.number 1 ≡ b
        → choose (eqb c.setup.setting.mode.number 1) (leb (2 ^ c.setup.order) n) (not (eqb (n % 4) 0)) ≡ true
        ↔ (((c.setup.setting.mode.number ≡ 1 → ⊥) × (n % 4 ≡ 0 → ⊥)) ⊎ ((c.setup.setting.mode.number ≡ 1) × (2 ^ c.setup.order ≤ n)))
    go true e =
        let m = eqb-true c.setup.setting.mode.number 1 e in (
          λ h. inr (m, leb-true _ _ (sym (choose_true e _ _) ∙ h)),
          λ x. choose_true e _ _ ∙ ⊎_elim (λ y. absurd (y.0 m)) (λ y. le-leb _ _ y.1) x,
        )
    go false e =
        let m = eqb-false c.setup.setting.mode.number 1 e in
        let four = not_plain (eqb (n % 4) 0) (equal_plain (n % 4) 0) in (
          λ h. inl (m, four.0 (sym (choose_false e _ _) ∙ h)),
          λ x. choose_false e _ _ ∙ ⊎_elim (λ y. four.1 y.1) (λ y. absurd (m y.0)) x,
        )

pub put_agree : (c : Channel) (n : ℕ) → Agree (put_cases c n) (put_plain c n)
put_agree c n = (refl, not_plain (well_formed c) (formed_plain c), (refl, put_plain_lem c n, tt))

pub step_agree : (c : Channel) (l : Loan) → Agree (step_cases c l) (step_plain c l)
step_agree c l =
    let words = length l.pusher.words in
    let semaphores = length l.puller.semaphores in (
      refl,
      not_plain (well_formed c) (formed_plain c),
      (
        refl,
        or_plain (size_refused words) (size_refused semaphores) (less_plain 1048576 words) (less_plain 1048576 semaphores),
        (refl, table_plain l.puller.table, tt),
      ),
    )
