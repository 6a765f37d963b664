-- Where the words go on after a command, in plain terms. Assumes nothing.
use Prim.Native.Nat.{ℕ, ◌+◌, ◌/◌, ◌≤◌}
use mathlib.Core.Path.{◌≡◌, refl}
use mathlib.Core.Bool.{Bool}
use mathlib.Core.List.{[], ◌∷◌}
use native.Mathlib.Omega.{arith}
use Rattle.word.specs.Reading.{number, values}
use Rattle.word.specs.declared.reading.Reading.{Reading}
use Rattle.word.specs.declared.reading.Reading.TheVariants.{Increasing, NonIncreasing, Sli, Return, Long, OldJump, Jump, Call, Reserved, Refused}
use Rattle.rules.specs.Map.{main, inside}
use Rattle.rules.specs.Parameters.{place_after}
use Rattle.rules.specs.Next.{◌in_state◌, nexts, held}
use Rattle.rules.specs.Next.{pair_in, pairs_in}
use Rattle.rules.specs.Reasons.{NextsPlain, Gives}

module _ (p : ℕ) (s : Bool) (d : Reading) where
  other : number d ≤ 3 → NextsPlain d p s (place_after d p in_state s ∷ [])
  other n =
      record {
        other = λ l. refl;
        return = λ l m. absurd (omega arith);
        reserved = λ l. absurd (omega arith);
        jump = λ t l m v. absurd (omega arith);
        call = λ t e v. absurd (omega arith);
      }

  nowhere : 4 ≤ number d → (6 ≤ number d → 9 ≤ number d) → NextsPlain d p s []
  nowhere n far =
      record {
        other = λ l. absurd (omega arith);
        return = λ l m. refl;
        reserved = λ l. refl;
        jump = λ t l m v. absurd (omega (arith, far l));
        call = λ t e v. absurd (omega (arith, far (omega arith)));
      }

  jumps : (t : ℕ) → 6 ≤ number d → number d ≤ 7 → values d ≡ t ∷ [] → NextsPlain d p s ((t / 4) in_state s ∷ [])
  jumps t low high is =
      record {
        other = λ l. absurd (omega arith);
        return = λ l m. absurd (omega arith);
        reserved = λ l. absurd (omega arith);
        jump = λ u l m v. let same : t ≡ u = cc in rw same;
        call = λ u e v. absurd (omega arith);
      }

  calls : (t : ℕ) → number d ≡ 8 → values d ≡ t ∷ [] → NextsPlain d p s ((t / 4) in_state inside ∷ (p + 1) in_state main ∷ [])
  calls t n is =
      record {
        other = λ l. absurd (omega arith);
        return = λ l m. absurd (omega arith);
        reserved = λ l. absurd (omega arith);
        jump = λ u l m v. absurd (omega arith);
        call = λ u e v. let same : t ≡ u = cc in rw same;
      }

pub nexts_plain : (d : Reading) (p : ℕ) (s : Bool) → NextsPlain d p s (nexts d p s)
unfolding number values nexts
nexts_plain (Increasing c b m) p s = other p s (Increasing c b m) (omega arith)
nexts_plain (NonIncreasing c b m) p s = other p s (NonIncreasing c b m) (omega arith)
nexts_plain (Sli k) p s = other p s (Sli k) (omega arith)
nexts_plain Return p s = nowhere p s Return (omega arith) (λ l. omega arith)
nexts_plain (Long b m c) p s = nowhere p s (Long b m c) (omega arith) (λ l. omega arith)
nexts_plain (OldJump t) p s = jumps p s (OldJump t) t (omega arith) (omega arith) refl
nexts_plain (Jump t) p s = jumps p s (Jump t) t (omega arith) (omega arith) refl
nexts_plain (Call t) p s = calls p s (Call t) t refl refl
nexts_plain (Reserved y) p s = nowhere p s (Reserved y) (omega arith) (λ l. omega arith)
nexts_plain (Refused r) p s = nowhere p s (Refused r) (omega arith) (λ l. omega arith)

-- the answer gives them: they are at most two
pub gives : (d : Reading) (p : ℕ) (s : Bool) → Gives (nexts d p s) (held (nexts d p s))
unfolding nexts held
gives (Increasing c b m) p s = record { most = omega arith; first = refl; second = refl }
gives (NonIncreasing c b m) p s = record { most = omega arith; first = refl; second = refl }
gives (Sli k) p s = record { most = omega arith; first = refl; second = refl }
gives Return p s = record { most = omega arith; first = refl; second = refl }
gives (Long b m c) p s = record { most = omega arith; first = refl; second = refl }
gives (OldJump t) p s = record { most = omega arith; first = refl; second = refl }
gives (Jump t) p s = record { most = omega arith; first = refl; second = refl }
gives (Call t) p s = record { most = omega arith; first = refl; second = refl }
gives (Reserved y) p s = record { most = omega arith; first = refl; second = refl }
gives (Refused r) p s = record { most = omega arith; first = refl; second = refl }

-- and holds no others
pub held_pairs : (d : Reading) (p : ℕ) (s : Bool) → pairs_in (held (nexts d p s)) ≡ nexts d p s
unfolding nexts held pairs_in pair_in
held_pairs (Increasing c b m) p s = refl
held_pairs (NonIncreasing c b m) p s = refl
held_pairs (Sli k) p s = refl
held_pairs Return p s = refl
held_pairs (Long b m c) p s = refl
held_pairs (OldJump t) p s = refl
held_pairs (Jump t) p s = refl
held_pairs (Call t) p s = refl
held_pairs (Reserved y) p s = refl
held_pairs (Refused r) p s = refl
