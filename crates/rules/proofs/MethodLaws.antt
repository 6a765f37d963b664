-- The methods that a command's parameters go to. Assumes nothing.
use Prim.Native.Nat.{ℕ, ◌+◌, ◌*◌, ◌%◌, ◌≤◌, ◌<◌}
use mathlib.Core.Path.{◌≡◌, refl}
use mathlib.Core.Bool.{Bool, true, false, not, ◌&&◌, and-false, false≢true}
use mathlib.Core.List.{List}
use mathlib.Core.Logic.Iff
use mathlib.Core.Logic.{◌↔◌}
use native.Mathlib.Omega.{arith}
use lib.Dec.{ltb}
use borrow.Author.Tests.{le-leb, lt-ltb, ltb-false}
use Rattle.word.specs.First.{choose}
use Rattle.word.specs.Lowest.{lowest, found?}
use Rattle.word.specs.Reading.{number, values, parameter_count}
use Rattle.word.specs.Special.{present_of}
use Rattle.word.specs.declared.setting.Setting.{Setting}
use Rattle.word.specs.declared.reading.Reading.{Reading}
use Rattle.word.specs.declared.reading.Reading.TheVariants.{Increasing, NonIncreasing, Sli, Return, Long, OldJump, Jump, Call, Reserved, Refused}
use Rattle.word.proofs.First.{by_test}
use Rattle.word.proofs.Lowest.{none_found}
use Rattle.word.proofs.Tests.{and_plain, less_plain}
use Rattle.word.proofs.Told.{told_unreserved}
use Rattle.rules.specs.Permit.{permits}
use Rattle.rules.specs.Parameters.{methods_of, method_for, wraps, any_fails, lacking, denied}
use Rattle.rules.specs.Reasons.{GoesTo, increasing, non_increasing, long, WrapsPlain}
use Rattle.rules.specs.declared.parameters.Methods.{Methods}
use Rattle.rules.proofs.Scans.{Passed, onward, passes, none_passes}

-- A parameter goes to the method that has its number, and to no other.
pub goes_to : (d : Reading) (k : ℕ) → k < parameter_count d → GoesTo d k (methods_of d).subchannel (method_for (methods_of d) k)
unfolding number values parameter_count methods_of method_for choose
goes_to (Increasing c b m) k l = increasing c m refl refl l refl
goes_to (NonIncreasing c b m) k l = non_increasing c m refl refl l refl
goes_to (Sli s) k l = absurd (omega arith)
goes_to Return k l = absurd (omega arith)
goes_to (Long b m c) k l = long m c refl refl l refl
goes_to (OldJump t) k l = absurd (omega arith)
goes_to (Jump t) k l = absurd (omega arith)
goes_to (Call t) k l = absurd (omega arith)
goes_to (Reserved y) k l = absurd (omega arith)
goes_to (Refused r) k l = absurd (omega arith)

pub goes_only : (d : Reading) (k b n : ℕ) → GoesTo d k b n → (k < parameter_count d) × (b ≡ (methods_of d).subchannel) × (n ≡ method_for (methods_of d) k)
unfolding number values parameter_count methods_of method_for choose
goes_only d k b n (increasing c m e v l is) = rw (told_unreserved d (Increasing c b m) e v (λ nine. omega arith)) (l, refl, is)
goes_only d k b n (non_increasing c m e v l is) = rw (told_unreserved d (NonIncreasing c b m) e v (λ nine. omega arith)) (l, refl, is)
goes_only d k b n (long m c e v l is) = rw (told_unreserved d (Long b m c) e v (λ nine. omega arith)) (l, refl, is)

-- What wraps is an increasing command with a parameter, since that goes somewhere.
over : (d : Reading) {k b n : ℕ} → GoesTo d k b n → (methods_of d).increasing ≡ true → 2048 < (methods_of d).method + parameter_count d → WrapsPlain d
unfolding number values parameter_count methods_of
over d {k} {b} {n} (increasing c m e v l is) up past = (c, b, m, e, v, omega arith, rw (told_unreserved d (Increasing c b m) e v (λ nine. omega arith)) at past)
over d {k} {b} {n} (non_increasing c m e v l is) up past = absurd (false≢true (rw (told_unreserved d (NonIncreasing c b m) e v (λ nine. omega arith)) at up))
over d {k} {b} {n} (long m c e v l is) up past = absurd (false≢true (rw (told_unreserved d (Long b m c) e v (λ nine. omega arith)) at up))

pub wraps_plain : (d : Reading) → wraps d ≡ true ↔ WrapsPlain d
unfolding number values parameter_count methods_of wraps
wraps_plain d =
    let parts = and_plain (methods_of d).increasing _ Iff.rfl (and_plain (ltb 0 (parameter_count d)) _ (less_plain 0 _) (less_plain 2048 _)) in
    (λ e. let h = parts.0 e in over d (goes_to d 0 h.1.0) h.0 h.1.1, λ (c, b, m, e, v, some, past). parts.1 (rw (told_unreserved d (Increasing c b m) e v (λ nine. omega arith)) (refl, (some, past))))

-- no level lacks a method from 0x100 up, where the first of n is none below, and they don't go past 0x1ffc
pub above_special : (ms : Methods) (n : ℕ) → 0x40 ≤ ms.method → ms.increasing && ltb 2048 (ms.method + n) ≡ false → (level : ℕ) → any_fails (present_of level) ms n ≡ false
unfolding any_fails method_for present_of
above_special ms n low up level =
    none_found _ _
    (λ k l.
    let high_enough : 0x100 ≤ 4 * choose ms.increasing ((ms.method + k) % 2048) ms.method =
    by_test (λ (m : ℕ). 0x100 ≤ 4 * m) (λ e. let high = ltb-false 2048 (ms.method + n) (rw e at up) in omega arith) (λ e. omega arith) in
    rw (le-leb 0x100 (4 * choose ms.increasing ((ms.method + k) % 2048) ms.method) high_enough))

-- where no parameters follow, none goes past 0x1ffc, and no test fails
pub none_fails : (setting : Setting) (list : List ℕ) (d : Reading) → parameter_count d ≡ 0 → (wraps d ≡ false) × (lacking setting d ≡ false) × (denied list d ≡ false)
unfolding wraps lacking denied any_fails lowest found?
none_fails setting list d e = rw e (and-false (methods_of d).increasing, refl, refl)

-- A command that is taken apart, into its count and its methods:
module _ (d : Reading) {count : ℕ} {ms : Methods} (counted : count ≡ parameter_count d) (goes : ms ≡ methods_of d) where
  -- with a parameter it wraps where they go too far;
  pub wraps_by : (count ≡ 0 → ⊥) → {b : Bool} → ms.increasing && ltb 2048 (ms.method + count) ≡ b → wraps d ≡ b
  unfolding wraps
  wraps_by some e = let least : 0 < count = omega arith in rw (← counted, ← goes, lt-ltb 0 count least) e

  -- the level lacks the method of one, or the list denies it
  pub lacking_by : (setting : Setting) {b : Bool} → any_fails (present_of setting.level.number) ms count ≡ b → lacking setting d ≡ b
  unfolding lacking
  lacking_by setting e = rw (← counted, ← goes) e

  pub denied_by : (list : List ℕ) {b : Bool} → any_fails (permits list ms.subchannel) ms count ≡ b → denied list d ≡ b
  unfolding denied
  denied_by list e = rw (← counted, ← goes) e

-- whether a test of methods fails at the method of parameter k
unfoldable pub fails : (ℕ → Bool) → Methods → ℕ → Bool
fails t ms k = not (t (method_for ms k))

-- A loop that makes the test of each of n:
module _ (t : ℕ → Bool) (ms : Methods) (n k : ℕ) (passed : Passed (fails t ms) n k) where
  -- m is the method of parameter k, and r what the test says of it,
  module _ (l : k < n) {m : ℕ} (goes : m ≡ method_for ms k) {r : Bool} (says : r ≡ t m) where
    -- so the test says it of parameter k;
    tested : {b : Bool} → not r ≡ b → fails t ms k ≡ b
    unfolding fails
    tested h = rw (← goes, ← says) h

    -- the loop goes on where the test holds,
    pub method_onward : not r ≡ false → Passed (fails t ms) n (k + 1)
    method_onward h = onward (fails t ms) n k passed l (tested h)

    -- ends where it fails,
    pub method_met : not r ≡ true → true ≡ any_fails t ms n
    unfolding any_fails fails
    method_met h = passes (fails t ms) n k passed l (tested h)

  -- or comes to the last
  pub methods_fine : n ≤ k → false ≡ any_fails t ms n
  unfolding any_fails fails
  methods_fine l = none_passes (fails t ms) n k passed l
