-- Which role a move has, by the tests that decide it; and what a role knows. Assumes nothing.
use Prim.Native.Nat.{ℕ, ◌/◌, ◌≤◌, ◌<◌}
use mathlib.Core.Path.{◌≡◌}
use mathlib.Core.Bool.{true, false, not}
use mathlib.Core.List.{List}
use mathlib.Core.Logic.{◌⊎◌, inl, inr, ⊎_elim, ◌↔◌}
use native.Mathlib.Omega.{arith}
use lib.Dec.{eqb}
use lib.ListN.{length}
use borrow.Author.Tests.{leb-true, leb-false, eqb-true, eqb-false, not-true, not-false}
use Rattle.std.proofs.lemmas.Bool.{and_cases}
use Rattle.std.proofs.lemmas.Bool.Decides.{nat_tests}
use Rattle.word.specs.First.{choose}
use Rattle.word.proofs.First.{by_test, choose_true}
use Rattle.word.proofs.Tests.{both}
use Rattle.pusher.specs.Loan.{PusherLoan}
use Rattle.pusher.specs.Record.{halts}
use Rattle.pusher.specs.Moving.{Role, halted, faults, counts, submits, commands, enters, idles, beyond, word_role, entry_role, role}
use Rattle.pusher.specs.Promises.{InIb, NoWord}
use Rattle.pusher.specs.declared.record.Setup.{Setup}
use Rattle.pusher.specs.declared.record.Pusher.{Pusher}

-- where a word is to be read
module _ (s : Setup) (p : Pusher) (ws : List ℕ) where
  -- S10: it is not there, or it is
  pub missing : beyond s p ws ≡ true ↔ NoWord s p ws
  missing = (λ b. grind (arith, nat_tests), λ h. grind (arith, nat_tests))

  pub readable : beyond s p ws ≡ false ↔ (((InIb s → ⊥) → p.get ≤ s.limit) × (p.get / 4 < length ws))
  readable = (λ b. grind (arith, nat_tests), λ h. grind (arith, nat_tests))

  pub no_word : NoWord s p ws → word_role s p ws ≡ faults
  unfolding word_role choose
  no_word h = grind (arith, nat_tests)

  module _ (low : (InIb s → ⊥) → p.get ≤ s.limit) (lent : p.get / 4 < length ws) where
    pub awaits_count : p.run.awaited ≡ true → word_role s p ws ≡ counts
    unfolding word_role choose
    awaits_count a = grind (arith, nat_tests)

    module _ (a : p.run.awaited ≡ false) where
      pub inside_run : (p.run.count ≡ 0 → ⊥) → word_role s p ws ≡ submits
      unfolding word_role choose
      inside_run n = grind (arith, nat_tests)

      pub between_runs : p.run.count ≡ 0 → word_role s p ws ≡ commands
      unfolding word_role choose
      between_runs n = grind (arith, nat_tests)

-- where an entry is
module _ (p : Pusher) (es : List ℕ) where
  pub past_entries : length es ≤ p.ib.get → entry_role p es ≡ faults
  unfolding entry_role choose
  past_entries h = grind (arith, nat_tests)

  pub at_entry_lem : p.ib.get < length es → entry_role p es ≡ enters
  unfolding entry_role choose
  at_entry_lem h = grind (arith, nat_tests)

-- and which of the two it is, or neither
module _ (s : Setup) (p : Pusher) (l : PusherLoan) where
  pub when_halted : halts p.error ≡ true → role s p l ≡ halted
  unfolding role
  when_halted h = choose_true h _ _

  module _ (runs : halts p.error ≡ false) where
    pub when_words : (p.get ≡ p.put → ⊥) → role s p l ≡ word_role s p l.words
    unfolding role choose
    when_words n = grind (arith, nat_tests)

    module _ (equal : p.get ≡ p.put) where
      pub without_ib : (s.setting.mode.number ≡ 1 → ⊥) → role s p l ≡ idles
      unfolding role choose
      without_ib n = grind (arith, nat_tests)

      pub without_entries : p.ib.get ≡ p.ib.put → role s p l ≡ idles
      unfolding role choose
      without_entries e = grind (arith, nat_tests)

      pub when_entries : s.setting.mode.number ≡ 1 → (p.ib.get ≡ p.ib.put → ⊥) → role s p l ≡ entry_role p l.entries
      unfolding role choose
      when_entries m n = grind (arith, nat_tests)

-- the word that is read, and the entry that comes next
pub record AtWord (s : Setup) (p : Pusher) (l : PusherLoan) : Type 0 where
  pub unequal : p.get ≡ p.put → ⊥
  pub low : (InIb s → ⊥) → p.get ≤ s.limit
  pub lent : p.get / 4 < length l.words

pub record AtEntry (s : Setup) (p : Pusher) : Type 0 where
  pub equal : p.get ≡ p.put
  pub ib : s.setting.mode.number ≡ 1
  pub unequal : p.ib.get ≡ p.ib.put → ⊥

-- what each role knows
abbrev pub Facts : Setup → Pusher → PusherLoan → Role → Type 0
Facts s p l halted = halts p.error ≡ true
Facts s p l faults =
    (halts p.error ≡ false)
    × (((p.get ≡ p.put → ⊥) × ((s.limit < p.get) ⊎ (length l.words ≤ p.get / 4))) ⊎ (AtEntry s p × (length l.entries ≤ p.ib.get)))
Facts s p l counts = (halts p.error ≡ false) × AtWord s p l × (p.run.awaited ≡ true)
Facts s p l submits = (halts p.error ≡ false) × AtWord s p l × (p.run.awaited ≡ false) × (p.run.count ≡ 0 → ⊥)
Facts s p l commands = (halts p.error ≡ false) × AtWord s p l × (p.run.awaited ≡ false) × (p.run.count ≡ 0)
Facts s p l enters = (halts p.error ≡ false) × AtEntry s p × (p.ib.get < length l.entries)
Facts s p l idles = (halts p.error ≡ false) × (p.get ≡ p.put) × ((s.setting.mode.number ≡ 1 → ⊥) ⊎ (p.ib.get ≡ p.ib.put))

module _ (s : Setup) (p : Pusher) (l : PusherLoan) where
  module _ (runs : halts p.error ≡ false) where
    word_facts : (p.get ≡ p.put → ⊥) → Facts s p l (word_role s p l.words)
    unfolding word_role
    word_facts n =
        by_test (Facts s p l) (λ b. (runs, inl (n, ⊎_elim (λ h. inl h.1) (λ h. inr h) ((missing s p l.words).0 b))))
        (λ b.
        let at = (readable s p l.words).0 b in
        let w : AtWord s p l = record { unequal = n; low = at.0; lent = at.1 } in
        by_test (Facts s p l) (λ a. (runs, w, a))
        (λ a. by_test (Facts s p l) (λ k. (runs, w, a, eqb-false _ _ (not-true _ k))) (λ k. (runs, w, a, eqb-true _ _ (not-false _ k)))))

    entry_facts : AtEntry s p → Facts s p l (entry_role p l.entries)
    unfolding entry_role
    entry_facts e = by_test (Facts s p l) (λ b. (runs, inr (e, leb-true _ _ b))) (λ b. (runs, e, leb-false _ _ b))

  pub facts : Facts s p l (role s p l)
  unfolding role
  facts =
      let ib = eqb s.setting.mode.number 1 in
      let new = not (eqb p.ib.get p.ib.put) in
      by_test (Facts s p l) (λ h. h)
      (λ runs.
      by_test (Facts s p l) (λ n. word_facts runs (eqb-false _ _ (not-true _ n)))
      (λ n.
      let equal = eqb-true _ _ (not-false _ n) in
      by_test (Facts s p l)
      (λ b. let t = both ib new b in entry_facts runs (record { equal = equal; ib = eqb-true _ _ t.0; unequal = eqb-false _ _ (not-true _ t.1) }))
      (λ b. (runs, equal, ⊎_elim (λ f. inl (eqb-false _ _ f)) (λ f. inr (eqb-true _ _ (not-false _ f))) (and_cases ib new b)))))
