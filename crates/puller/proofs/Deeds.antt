-- What a method is to the puller, by its number or the range that it is in. Assumes nothing.
use Rattle.std.proofs.Common.{◌≡◌, ℕ, ◌<◌, ◌≤◌, Bool, true, false, ◌&&◌, leb, ◌⊎◌, List, refl, ap, ◌∙◌, inl, inr, ⊎_elim, arith, le-leb}
use mathlib.Core.Bool.{and-true, and-false}
use mathlib.Core.Logic.{by_cases}
use native.Mathlib.Decide.{ℕ_discrete, dec_lt}
use lib.Dec.{leb-zero}
use borrow.Author.Tests.{lt-leb}
use Rattle.word.specs.First.{choose}
use Rattle.word.specs.declared.setting.Level.{Level}
use Rattle.word.proofs.First.{choose_true, choose_false}
use Rattle.word.proofs.Methods.{beside}
use Rattle.event.specs.declared.Method.{Method}
use Rattle.puller.specs.Loan.{PullerLoan}
use Rattle.puller.specs.Taking.{Deed, binds, refers, logs, binds_semaphore, offsets, acquires, releases, forwards, looks_and_forwards, addresses_high, addresses_low, sequences, triggers, rows, deed_in, deed_of, act, take_of}
use Rattle.puller.specs.Outcomes.{Takes}
use Rattle.puller.specs.declared.record.Puller.{Puller}
use Rattle.puller.specs.declared.taking.Taken.{Taken}

-- a method inside a row, outside it, and a row of another method
inside : (from to m : ℕ) → from ≤ m → m ≤ to → (leb from m && leb m to) ≡ true
inside from to m h k = rw (le-leb from m h, le-leb m to k)

outside : (from to m : ℕ) → (m < from) ⊎ (to < m) → (leb from m && leb m to) ≡ false
outside from to m s = ⊎_elim (λ h. rw (lt-leb from m h)) (λ h. rw (lt-leb m to h, and-false)) s

another : (k m : ℕ) → (m ≡ k → ⊥) → (leb k m && leb m k) ≡ false
another k m ne = outside k k m (beside m k ne)

same : (t : Bool) (d : Deed) → choose t d d ≡ d
unfolding choose
same true d = refl
same false d = refl

-- a row of one method, from a level on, that is passed over: it is another's, or the level is lower
too_early : (k from level m : ℕ) → (m ≡ k → level < from) → ((leb k m && leb m k) && leb from level) ≡ false
too_early k from level m h = by_cases (ℕ_discrete m k) (λ e. rw (lt-leb from level (h e), and-false)) (λ n. rw (another k m n))

-- those of long semaphores lie between 0x10 and 0x24
pub none_beyond : (m : ℕ) → (m < 0x10) ⊎ (0x24 < m) → (m ≡ 0x10) ⊎ (m ≡ 0x14) ⊎ (m ≡ 0x18) ⊎ (m ≡ 0x1c) → ⊥
none_beyond m away s =
    let other : (k : ℕ) → 0x10 ≤ k → k ≤ 0x24 → m ≡ k → ⊥ = λ k h t e. ⊎_elim (λ l. omega arith) (λ l. omega arith) away in
    ⊎_elim (other 0x10 (omega arith) (omega arith))
    (λ s.
    ⊎_elim (other 0x14 (omega arith) (omega arith))
    (λ s. ⊎_elim (other 0x18 (omega arith) (omega arith)) (other 0x1c (omega arith) (omega arith)) s) s) s

-- the methods that have a number of their own, and those that have one from level 5 on
pub record Numbered (level m : ℕ) : Type 0 where
  pub bind : m ≡ 0x00 → deed_of level m ≡ binds
  pub ref : m ≡ 0x50 → deed_of level m ≡ refers
  pub dma : m ≡ 0x60 → deed_of level m ≡ binds_semaphore
  pub offset : m ≡ 0x64 → deed_of level m ≡ offsets
  pub acquire : m ≡ 0x68 → deed_of level m ≡ acquires
  pub release : m ≡ 0x6c → deed_of level m ≡ releases
  pub high : 5 ≤ level → m ≡ 0x10 → deed_of level m ≡ addresses_high
  pub low : 5 ≤ level → m ≡ 0x14 → deed_of level m ≡ addresses_low
  pub sequence : 5 ≤ level → m ≡ 0x18 → deed_of level m ≡ sequences
  pub trigger : 5 ≤ level → m ≡ 0x1c → deed_of level m ≡ triggers

pub numbered : (level m : ℕ) → Numbered level m
unfolding deed_of deed_in rows choose
numbered level m =
    record {
      bind = λ e. ap (deed_of level) e ∙ rw (leb-zero level);
      ref = λ e. ap (deed_of level) e ∙ rw (leb-zero level);
      dma = λ e. ap (deed_of level) e ∙ rw (leb-zero level);
      offset = λ e. ap (deed_of level) e ∙ rw (leb-zero level);
      acquire = λ e. ap (deed_of level) e ∙ rw (leb-zero level);
      release = λ e. ap (deed_of level) e ∙ rw (leb-zero level);
      high = λ h e. ap (deed_of level) e ∙ rw (le-leb 5 level h);
      low = λ h e. ap (deed_of level) e ∙ rw (le-leb 5 level h);
      sequence = λ h e. ap (deed_of level) e ∙ rw (le-leb 5 level h);
      trigger = λ h e. ap (deed_of level) e ∙ rw (le-leb 5 level h);
    }

module _ (level m : ℕ) where
  -- below 0x100 every other is an event: those of the two ranges, and what is never submitted
  pub no_effect_at :
      m < 0x100
      → (m ≡ 0x00 → ⊥)
      → (m ≡ 0x50 → ⊥)
      → (m ≡ 0x60 → ⊥)
      → (m ≡ 0x64 → ⊥)
      → (m ≡ 0x68 → ⊥)
      → (m ≡ 0x6c → ⊥)
      → ((5 ≤ level) × ((m ≡ 0x10) ⊎ (m ≡ 0x14) ⊎ (m ≡ 0x18) ⊎ (m ≡ 0x1c)) → ⊥)
      → deed_of level m ≡ logs
  unfolding deed_of deed_in rows choose
  no_effect_at l n0 n50 n60 n64 n68 n6c long =
      let below : ((m ≡ 0x10) ⊎ (m ≡ 0x14) ⊎ (m ≡ 0x18) ⊎ (m ≡ 0x1c)) → level < 5 = λ s. by_cases (dec_lt level 5) (λ h. h) (λ n. absurd (long (omega arith, s))) in
      simp (another 0x00 m n0, another 0x50 m n50, another 0x60 m n60, another 0x64 m n64, another 0x68 m n68, another 0x6c m n6c, too_early 0x10 5 level m (λ e. below (inl e)), too_early 0x14 5 level m (λ e. below (inr (inl e))), too_early 0x18 5 level m (λ e. below (inr (inr (inl e)))), too_early 0x1c 5 level m (λ e. below (inr (inr (inr e)))), lt-leb 0x180 m (omega arith), lt-leb 0x100 m l, same)

  pub logs_at :
      (m ≡ 0x80) ⊎ ((0x10 ≤ m) × (m ≤ 0x24) × ((5 ≤ level) × ((m ≡ 0x10) ⊎ (m ≡ 0x14) ⊎ (m ≡ 0x18) ⊎ (m ≡ 0x1c)) → ⊥))
      → deed_of level m ≡ logs
  unfolding deed_of deed_in rows choose
  logs_at s =
      ⊎_elim (λ e. ap (deed_of level) e ∙ rw (leb-zero level))
      (λ h. no_effect_at (omega arith) (λ q. omega arith) (λ q. omega arith) (λ q. omega arith) (λ q. omega arith) (λ q. omega arith) (λ q. omega arith) h.2)
      s

  -- from 0x100 on no row is left but the last
  above : 0x100 ≤ m → deed_of level m ≡ choose (leb 0x180 m && leb m 0x1fc) looks_and_forwards forwards
  unfolding deed_of deed_in rows choose
  above h =
      let past : (k : ℕ) → k < 0x100 → leb m k ≡ false = λ k l. lt-leb m k (omega arith) in
      simp (past 0x00 (omega arith), past 0x50 (omega arith), past 0x80 (omega arith), past 0x10 (omega arith), past 0x14 (omega arith), past 0x18 (omega arith), past 0x1c (omega arith), past 0x24 (omega arith), past 0x60 (omega arith), past 0x64 (omega arith), past 0x68 (omega arith), past 0x6c (omega arith), le-leb 0x100 m h, leb-zero level, and-false, and-true)

  pub looks_at : 0x180 ≤ m → m ≤ 0x1fc → deed_of level m ≡ looks_and_forwards
  looks_at h k = above (omega arith) ∙ choose_true (inside 0x180 0x1fc m h k) _ _

  pub forwards_at : 0x100 ≤ m → (m < 0x180) ⊎ (0x1fc < m) → deed_of level m ≡ forwards
  forwards_at h s = above h ∙ choose_false (outside 0x180 0x1fc m s) _ _

-- what is taken, by what the method is
pub taken_by :
    {level : Level} {p : Puller} {m : Method} {l : PullerLoan} {r : Taken} {exit : List ℕ} (d : Deed)
    → deed_of level.number m.method ≡ d
    → r ≡ (act level.number p m l d).taken
    → exit ≡ (act level.number p m l d).memory
    → Takes level p m l r exit
unfolding take_of
taken_by d e a b = record { answer = rw e a; memory = rw e b }
