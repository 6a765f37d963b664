-- What a step is about to do and what it leaves, by the first test that decides it. Assumes nothing.
use Prim.Native.Nat.{ℕ, ◌≤◌, ◌<◌}
use mathlib.Core.Path.{◌≡◌, refl, ap, ◌∙◌}
use mathlib.Core.Bool.{Bool, true, false, not, ◌||◌, or-true}
use mathlib.Core.List.{List, [], ◌∷◌}
use native.Mathlib.Omega.{arith}
use lib.ListN.{length}
use borrow.Author.Tests.{lt-ltb, le-ltb}
use Rattle.word.specs.First.{Case, first, ◌when◌}
use Rattle.word.specs.Setting.{STATE, SIZE, TABLE, size_refused, refused_or}
use Rattle.word.specs.declared.setting.Refusal.{Refusal}
use Rattle.word.proofs.First.{choose_true, choose_false}
use Rattle.word.proofs.Settings.{hit, miss, no_more}
use Rattle.puller.specs.declared.record.Puller.{Puller}
use Rattle.pusher.specs.declared.record.Pusher.{Pusher}
use Rattle.channel.specs.Loan.{Loan}
use Rattle.channel.specs.State.{well_formed}
use Rattle.channel.specs.Opening.{table_refused}
use Rattle.channel.specs.Stepping.{Outcome, is_stopped, halted, retries, moves, role, act, with_acted, unrefused, refusing, unchanged, step_of}
use Rattle.channel.specs.Outcomes.{StepsTo, Affects}
use Rattle.channel.specs.declared.record.Channel.{Channel}
use Rattle.channel.specs.declared.stepping.Acted.{Acted}
use Rattle.channel.specs.declared.stepping.Stepped.{Stepped}

-- what a step is about to do
module _ (p : Pusher) (q : Puller) where
  pub when_stopped : is_stopped p q ≡ true → role p q ≡ halted
  unfolding role
  when_stopped h = choose_true h _ _

  module _ (runs : is_stopped p q ≡ false) where
    pub when_waiting : q.acquire.active ≡ true → role p q ≡ retries
    unfolding role
    when_waiting a = choose_false runs _ _ ∙ choose_true a _ _

    pub when_free : q.acquire.active ≡ false → role p q ≡ moves
    unfolding role
    when_free a = choose_false runs _ _ ∙ choose_false a _ _

  -- and what is so where it goes on to the pusher's move
  pub free : role p q ≡ moves → (is_stopped p q ≡ false) × (q.acquire.active ≡ false)
  free e = go (is_stopped p q) q.acquire.active refl refl
    where
      go : (s a : Bool) → is_stopped p q ≡ s → q.acquire.active ≡ a → (is_stopped p q ≡ false) × (q.acquire.active ≡ false)
      go true a s h = let g = when_stopped s in let z : ◌≡◌ {A = ℕ} 0 1 = cc in absurd (omega arith)
      go false true s h = let g = when_waiting s h in let z : ◌≡◌ {A = ℕ} 0 1 = cc in absurd (omega arith)
      go false false s h = (s, h)

module _ (c : Channel) (l : Loan) where
  -- how many words and semaphore words are lent
  abbrev words : ℕ
  words = length l.pusher.words

  abbrev semaphores : ℕ
  semaphores = length l.puller.semaphores

  abbrev outcome : List Case → Outcome
  outcome cs = refused_or (unchanged c l) (first cs) (unrefused c l)

  pub by_state : well_formed c ≡ false → step_of c l ≡ unchanged c l (record { number = STATE })
  unfolding step_of
  by_state e = hit STATE _ (unchanged c l) _ (ap not e)

  -- a refusal with the channel and the memory, which it leaves
  pub refused : {r : Stepped} {x : Refusal} → step_of c l ≡ unchanged c l x → r ≡ refusing c x → StepsTo c l r l.puller.semaphores
  refused e a = record { answer = rw e a; memory = rw e }

  module _ (well : well_formed c ≡ true) where
    abbrev table_cases : List Case
    table_cases = TABLE when table_refused (length l.puller.table) ∷ []

    past_state : step_of c l ≡ outcome (SIZE when (size_refused words || size_refused semaphores) ∷ table_cases)
    unfolding step_of
    past_state = miss STATE _ (unchanged c l) _ (ap not well)

    by_size : (size_refused words || size_refused semaphores) ≡ true → step_of c l ≡ unchanged c l (record { number = SIZE })
    by_size e = past_state ∙ hit SIZE table_cases (unchanged c l) _ e

    pub by_words : 1048576 < words → step_of c l ≡ unchanged c l (record { number = SIZE })
    by_words h = by_size (rw (lt-ltb 1048576 words h))

    pub by_semaphores : 1048576 < semaphores → step_of c l ≡ unchanged c l (record { number = SIZE })
    by_semaphores h = by_size (rw (lt-ltb 1048576 semaphores h, or-true))

    module _ (few : words ≤ 1048576) (small : semaphores ≤ 1048576) where
      past_size : step_of c l ≡ outcome table_cases
      past_size = past_state ∙ miss SIZE table_cases (unchanged c l) _ (rw (le-ltb 1048576 words few, le-ltb 1048576 semaphores small))

      pub by_table : table_refused (length l.puller.table) ≡ true → step_of c l ≡ unchanged c l (record { number = TABLE })
      by_table e = past_size ∙ hit TABLE [] (unchanged c l) _ e

      past_table : table_refused (length l.puller.table) ≡ false → step_of c l ≡ unrefused c l
      past_table e = past_size ∙ miss TABLE [] (unchanged c l) _ e ∙ no_more (unchanged c l) _

      -- what is done to the halves, with the channel that they are put in
      pub steps :
          {x : Acted} {r : Stepped} {exit : List ℕ}
          → table_refused (length l.puller.table) ≡ false
          → Affects (act c.setup c.pusher c.puller l (role c.pusher c.puller)) x exit
          → r ≡ with_acted c x
          → StepsTo c l r exit
      steps e a h = let taken = past_table e in record { answer = rw (taken, h, a.answer); memory = rw taken a.memory }
