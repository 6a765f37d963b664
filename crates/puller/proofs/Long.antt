-- Long semaphores: what a trigger asks for, what each of its operations comes to, and the words of a release. Assumes nothing.
use Rattle.std.proofs.Common.{◌≡◌, ℕ, suc, ◌+◌, ◌/◌, ◌%◌, ◌^◌, ◌<◌, ◌≤◌, true, not, ◌⊎◌, List, [], ◌∷◌, length, get_or, set, sym, refl, ap, ◌∙◌, inl, inr, ⊎_elim, arith, length-set, get_or-set_other, get_or-set_same, ext_get_or, le-ltb, lt-ltb, eq-eqb, ne_eqb, le-leb}
use mathlib.Core.Logic.{by_cases}
use native.Mathlib.Decide.{ℕ_discrete, dec_lt}
use lib.Seq.{sets}
use borrow.Author.Tests.{lt-leb}
use Rattle.word.specs.Parts.{bits}
use Rattle.word.proofs.First.{choose_true, choose_false}
use Rattle.event.specs.declared.Kind.TheVariants as kind
use Rattle.event.specs.declared.Method.{Method}
use Rattle.puller.specs.Record.{with_acquire, with_address}
use Rattle.puller.specs.Taking.{done_with, failed_by, place_in, past_end_error, long_place, acquire_in, address_of, high_of, low_of, Result, unwritten, long_words, long_release_of, trigger_of}
use Rattle.puller.specs.Promises.{LongInside, long_word_in, Passes, AsksFor, FourWritten}
use Rattle.puller.specs.declared.record.AcquireMode.{AcquireMode}
use Rattle.puller.specs.declared.record.AcquireMode.TheVariants as mode
use Rattle.puller.specs.declared.record.PullerError.TheVariants as cause
use Rattle.puller.specs.declared.record.Puller.{Puller}
use Rattle.puller.proofs.Sentences.{tried_past, tried_passes, tried_waits}

module _ (p : Puller) (m : Method) where
  -- 0x10
  pub high_too_large_is : 255 < m.parameter → high_of p m ≡ failed_by p cause.Semaphore3
  unfolding high_of
  high_too_large_is h = choose_true (lt-ltb _ _ h) _ _

  pub high_is :
      (address : ℕ)
      → m.parameter ≤ 255
      → address / 2 ^ 32 ≡ m.parameter
      → address % 2 ^ 32 ≡ p.long.address % 2 ^ 32
      → high_of p m ≡ done_with (with_address p address) kind.Event m m.parameter
  unfolding high_of
  high_is address h high low =
      let same : address_of m.parameter (bits 31 0 p.long.address) ≡ address = omega arith in
      choose_false (le-ltb _ _ h) _ _ ∙ ap (λ (a : ℕ). done_with (with_address p a) kind.Event m m.parameter) same

  -- 0x14
  pub low_unaligned_is : (m.parameter % 4 ≡ 0 → ⊥) → low_of p m ≡ failed_by p cause.Semaphore1
  unfolding low_of
  low_unaligned_is n = choose_true (ap not (ne_eqb (bits 1 0 m.parameter) 0 (λ q. n (omega arith)))) _ _

  pub low_is :
      (address : ℕ)
      → m.parameter % 4 ≡ 0
      → address % 2 ^ 32 ≡ m.parameter % 2 ^ 32
      → address / 2 ^ 32 ≡ p.long.address / 2 ^ 32 % 2 ^ 8
      → low_of p m ≡ done_with (with_address p address) kind.Event m m.parameter
  unfolding low_of
  low_is address h low high =
      let same : address_of (bits 39 32 p.long.address) (bits 31 0 m.parameter) ≡ address = omega arith in
      choose_false (ap not (eq-eqb (bits 1 0 m.parameter) 0 (omega arith))) _ _
      ∙ ap (λ (a : ℕ). done_with (with_address p a) kind.Event m m.parameter) same

-- what the trigger's parameter asks for
module _ (level : ℕ) (p : Puller) (m : Method) (clock : ℕ) (sems : List ℕ) where
  abbrev Asked : Result → Type 0
  Asked o = trigger_of level p m clock sems ≡ o

  pub equal_asked : m.parameter ≡ 1 → Asked (unwritten sems (acquire_in level p m mode.Equal p.long.sequence sems))
  unfolding trigger_of
  equal_asked e = choose_true (eq-eqb _ _ e) _ _

  pub release_asked : m.parameter ≡ 2 → Asked (long_release_of p m clock sems)
  unfolding trigger_of
  release_asked e = choose_false (ne_eqb m.parameter 1 (λ q. omega arith)) _ _ ∙ choose_true (eq-eqb _ _ e) _ _

  pub at_least_asked : m.parameter ≡ 4 → Asked (unwritten sems (acquire_in level p m mode.GreaterOrEqual p.long.sequence sems))
  unfolding trigger_of
  at_least_asked e =
      choose_false (ne_eqb m.parameter 1 (λ q. omega arith)) _ _
      ∙ choose_false (ne_eqb m.parameter 2 (λ q. omega arith)) _ _
      ∙ choose_true (eq-eqb _ _ e) _ _

  pub none_asked : (m.parameter ≡ 1 → ⊥) → (m.parameter ≡ 2 → ⊥) → (m.parameter ≡ 4 → ⊥) → Asked (unwritten sems (failed_by p cause.Semaphore2))
  unfolding trigger_of
  none_asked a b c = choose_false (ne_eqb _ _ a) _ _ ∙ choose_false (ne_eqb _ _ b) _ _ ∙ choose_false (ne_eqb _ _ c) _ _

  pub acquire_asked : (a : AcquireMode) → AsksFor m.parameter a → Asked (unwritten sems (acquire_in level p m a p.long.sequence sems))
  acquire_asked a s =
      ⊎_elim (λ h. rw h.1 (equal_asked h.0)) (λ h. rw h.1 (at_least_asked h.0)) s

-- a mode other than old has its word at the long semaphore's address, and one error past the end
pub long_mode : (n : ℕ) (a : AcquireMode) → AsksFor n a → a ≡ mode.Old → ⊥
long_mode n a s e = ⊎_elim (λ h. let z : ◌≡◌ {A = ℕ} 0 1 = cc in omega arith) (λ h. let z : ◌≡◌ {A = ℕ} 0 1 = cc in omega arith) s

module _ (p : Puller) where
  pub long_placed : (a : AcquireMode) → (a ≡ mode.Old → ⊥) → place_in p a ≡ long_place p
  unfolding place_in
  long_placed mode.Old n = absurd (n refl)
  long_placed mode.Equal n = refl
  long_placed mode.GreaterOrEqual n = refl

pub long_past : (level : ℕ) (a : AcquireMode) → (a ≡ mode.Old → ⊥) → past_end_error level a ≡ cause.Semaphore4
unfolding past_end_error
long_past level mode.Old n = absurd (n refl)
long_past level mode.Equal n = refl
long_past level mode.GreaterOrEqual n = refl

-- an acquire in such a mode
module _ (level : ℕ) (p : Puller) (m : Method) (a : AcquireMode) (n : a ≡ mode.Old → ⊥) (value : ℕ) (sems : List ℕ) where
  pub long_acquire_past : length sems ≤ p.long.address / 4 → acquire_in level p m a value sems ≡ failed_by p cause.Semaphore4
  unfolding acquire_in
  long_acquire_past h = tried_past p _ a (long_placed p a n) value sems _ _ h ∙ ap (failed_by p) (long_past level a n)

  module _ (inside : LongInside p sems) where
    pub long_acquire_is : Passes a (long_word_in p sems) value → acquire_in level p m a value sems ≡ done_with p kind.Acquire m m.parameter
    unfolding acquire_in
    long_acquire_is h = tried_passes p _ a (long_placed p a n) value sems _ _ inside h

    pub long_wait_is : (Passes a (long_word_in p sems) value → ⊥) → acquire_in level p m a value sems ≡ done_with (with_acquire p true value a) kind.Wait m m.parameter
    unfolding acquire_in
    long_wait_is h = tried_waits p _ a (long_placed p a n) value sems _ _ inside h

-- four words stored one behind another
module _ (l : List ℕ) (i a b c d : ℕ) where
  abbrev one : List ℕ
  one = set l i a

  abbrev two : List ℕ
  two = set one (i + 1) b

  abbrev three : List ℕ
  three = set two (i + 2) c

  abbrev four : List ℕ
  four = set three (i + 3) d

  pub four_stores : four ≡ sets l i (a ∷ b ∷ c ∷ d ∷ [])
  four_stores =
      let first : i + 1 ≡ suc i = omega arith in
      let second : i + 2 ≡ suc (suc i) = omega arith in
      let third : i + 3 ≡ suc (suc (suc i)) = omega arith in
      rw (first, second, third)

  -- a word at another place than one that is stored at
  beside : (s : List ℕ) (k v j : ℕ) → (j ≡ k → ⊥) → get_or (set s k v) j 0 ≡ get_or s j 0
  beside s k v j n = get_or-set_other s k j v 0 n

  stays : (j : ℕ) → (j ≡ i → ⊥) → (j ≡ i + 1 → ⊥) → (j ≡ i + 2 → ⊥) → (j ≡ i + 3 → ⊥) → get_or four j 0 ≡ get_or l j 0
  stays j n0 n1 n2 n3 = beside three _ d j n3 ∙ beside two _ c j n2 ∙ beside one _ b j n1 ∙ beside l _ a j n0

  module _ (room : i + 3 < length l) where
    written : FourWritten l i a b c d four
    written =
        record {
          as_long = rw (length-set, length-set, length-set, length-set);
          first_is =
              beside three _ d i (λ q. omega arith) ∙ beside two _ c i (λ q. omega arith) ∙ beside one _ b i (λ q. omega arith) ∙ get_or-set_same l i a 0 (omega arith);
          second_is =
              beside three _ d (i + 1) (λ q. omega arith) ∙ beside two _ c (i + 1) (λ q. omega arith) ∙ get_or-set_same one (i + 1) b 0 (simp length-set (omega arith));
          third_is = beside three _ d (i + 2) (λ q. omega arith) ∙ get_or-set_same two (i + 2) c 0 (simp length-set (omega arith));
          fourth_is = get_or-set_same three (i + 3) d 0 (simp length-set (omega arith));
          others = λ j s.
              let away : (k : ℕ) → i ≤ k → k ≤ i + 3 → j ≡ k → ⊥ = λ k f t q. ⊎_elim (λ h. omega arith) (λ h. omega arith) s in
              stays j (away i (omega arith) (omega arith)) (away (i + 1) (omega arith) (omega arith)) (away (i + 2) (omega arith) (omega arith)) (away (i + 3) (omega arith) (omega arith));
        }

  -- and they leave one memory
  pub written_one : {x y : List ℕ} → FourWritten l i a b c d x → FourWritten l i a b c d y → x ≡ y
  written_one {x} {y} v w = ext_get_or 0 x y (v.as_long ∙ sym w.as_long) (λ j h. at j)
    where
      agree : {j k z : ℕ} → j ≡ k → get_or x k 0 ≡ z → get_or y k 0 ≡ z → get_or x j 0 ≡ get_or y j 0
      agree e f g = rw e (f ∙ sym g)

      away : (j : ℕ) → (j < i) ⊎ (i + 3 < j) → get_or x j 0 ≡ get_or y j 0
      away j s = v.others j s ∙ sym (w.others j s)

      at : (j : ℕ) → get_or x j 0 ≡ get_or y j 0
      at j =
          by_cases (dec_lt j i) (λ h. away j (inl h))
          (λ n.
          by_cases (dec_lt (i + 3) j) (λ h. away j (inr h))
          (λ o.
          by_cases (ℕ_discrete j i) (λ e. agree e v.first_is w.first_is)
          (λ n0.
          by_cases (ℕ_discrete j (i + 1)) (λ e. agree e v.second_is w.second_is)
          (λ n1.
          by_cases (ℕ_discrete j (i + 2)) (λ e. agree e v.third_is w.third_is) (λ n2. agree (omega arith) v.fourth_is w.fourth_is)))))

-- a long release
module _ (p : Puller) (m : Method) (clock : ℕ) (sems : List ℕ) where
  pub long_release_past : length sems ≤ p.long.address / 4 + 3 → long_release_of p m clock sems ≡ unwritten sems (failed_by p cause.Semaphore4)
  unfolding long_release_of
  long_release_past h = choose_true (le-leb _ _ h) _ _

  module _ (room : p.long.address / 4 + 3 < length sems) where
    pub long_release_is :
        long_release_of p m clock sems ≡ record { taken = done_with p kind.Release m m.parameter; memory = sets sems (long_place p) (long_words p.long.sequence clock) }
    unfolding long_release_of
    long_release_is = choose_false (lt-leb _ _ room) _ _

    pub long_release_writes :
        FourWritten sems (p.long.address / 4) p.long.sequence 0 (clock % 2 ^ 32) (clock / 2 ^ 32 % 2 ^ 32) (sets sems (long_place p) (long_words p.long.sequence clock))
    long_release_writes =
        let low : clock % 2 ^ 32 ≡ bits 31 0 clock = omega arith in
        rw low (rw four_stores at (written sems (long_place p) p.long.sequence 0 (bits 31 0 clock) (bits 63 32 clock) room))
