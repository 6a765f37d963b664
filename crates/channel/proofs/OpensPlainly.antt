-- What opening answers and leaves, in plain terms. Assumes nothing.
use Prim.Native.Nat.{ℕ}
use mathlib.Core.Path.{◌≡◌, refl, sym, ap, ◌∙◌}
use mathlib.Core.Bool.{Bool, true, ◌&&◌, false≢true}
use mathlib.Core.List.{List, [], ◌∷◌, ◌++◌}
use mathlib.Core.Logic.{◌↔◌}
use mathlib.Core.Option.{Option, none, some}
use Rattle.std.specs.declared.option.Option as option
use Rattle.std.specs.declared.option.Option.TheVariants.{Some, None}
use native.Mathlib.Omega.{arith}
use lib.Dec.{eqb, ltb}
use borrow.Author.Tests.{eq-eqb, ne_eqb}
use Rattle.word.specs.First.{choose, Case, first, ◌when◌, FirstIs}
use Rattle.word.specs.Setting.{DUPLICATE, refused_or}
use Rattle.word.proofs.First.{or_else, first_append, Agree, first_is, by_test, choose_true, choose_false}
use Rattle.word.proofs.Settings.{accepted}
use Rattle.word.proofs.Tests.{or_plain, and_plain, less_plain, equal_plain}
use Rattle.word.specs.Lowest.{lowest, found?}
use Rattle.puller.specs.Object.{entries, repeats, repeat_at, repeat_of}
use Rattle.puller.specs.Record as puller_record
use Rattle.puller.specs.Answers.{repeat_number, repeat_values}
use Rattle.puller.proofs.Answers.{entry_values, none_values}
use Rattle.puller.proofs.Causes as puller
use Rattle.puller.proofs.Promises.{first_repeat}
use Rattle.pusher.specs.Record as pusher_record
use Rattle.pusher.specs.declared.record.Setup.{Setup}
use Rattle.pusher.proofs.Told as pusher
use Rattle.channel.specs.Answers.{opening_refusal, opening_values}
use Rattle.channel.specs.Opening.{open_cases, duplicate_or, opening_of, held_order, resting_at, fresh_channel, blank_channel, opened}
use Rattle.channel.specs.Promises.{Twice, open_plain, AtRest, Fresh, Blank}
use Rattle.channel.specs.declared.record.Channel.{Channel}
use Rattle.std.specs.declared.result.Result.{Result}
use Rattle.channel.specs.declared.opening.Unopened.{Unopened}
use Rattle.std.specs.declared.result.Result.TheVariants.{Ok, Err}
use Rattle.channel.specs.declared.opening.Unopened.TheVariants.{Refused, Duplicate}
use Rattle.channel.proofs.Refusals.{table_plain}
use Rattle.channel.proofs.Openings.{refuse}

-- the answer and the channel that go together
pub opened_answer : (x : Result Unit Unopened) (c : Channel) → (opened x c).answer ≡ x
unfolding opened
opened_answer (Ok u) c = refl
opened_answer (Err y) c = refl

pub opened_blank : (x : Result Unit Unopened) (c : Channel) (n : ℕ) → opening_refusal x ≡ some n → (opened x c).channel ≡ blank_channel
unfolding opened opening_refusal
opened_blank (Ok u) c n e = let z : ◌≡◌ {A = ℕ} 0 1 = cc in absurd (omega arith)
opened_blank (Err y) c n e = refl

pub opened_open : (x : Result Unit Unopened) (c : Channel) → opening_refusal x ≡ none → (opening_values x ≡ []) × ((opened x c).channel ≡ c)
unfolding opened opening_refusal opening_values
opened_open (Ok u) c e = (refl, refl)
opened_open (Err (Refused k)) c e = let z : ◌≡◌ {A = ℕ} 0 1 = cc in absurd (omega arith)
opened_open (Err (Duplicate i)) c e = let z : ◌≡◌ {A = ℕ} 0 1 = cc in absurd (omega arith)

-- DUPLICATE's test
module _ (t : List ℕ) where
  abbrev twice : Bool
  twice = found? (lowest (repeats t) (entries t))

  at_entry_lem : (i : ℕ) → lowest (repeats t) (entries t) ≡ some i → repeat_of t ≡ Some i
  unfolding repeat_of repeat_at
  at_entry_lem i e = rw e

  at_none : lowest (repeats t) (entries t) ≡ none → repeat_of t ≡ None
  unfolding repeat_of repeat_at
  at_none e = rw e

  twice_plain : twice ≡ true ↔ Twice t
  unfolding found?
  twice_plain = (λ e. there (lowest (repeats t) (entries t)) refl e, λ x. back x (lowest (repeats t) (entries t)) refl)
    where
      there : (o : Option ℕ) → lowest (repeats t) (entries t) ≡ o → found? o ≡ true → Twice t
      there none e f = absurd (false≢true f)
      there (some i) e f =
          let h = (first_repeat.entry t i (repeat_of t) refl).0 (entry_values i (at_entry_lem i e)) in
          record { later = i; whole = h.0; repeated = h.1 }

      back : Twice t → (o : Option ℕ) → lowest (repeats t) (entries t) ≡ o → found? (lowest (repeats t) (entries t)) ≡ true
      back x none e = absurd ((first_repeat.nothing t (repeat_of t) refl).0 (none_values (at_none e)) x.later x.whole x.repeated)
      back x (some i) e = rw e

-- what opening refuses, where a table has a repeated entry or none
repeat_refusal : (o : Option ℕ) → opening_refusal (duplicate_or (repeat_at o)) ≡ first (DUPLICATE when found? o ∷ [])
unfolding opening_refusal duplicate_or repeat_at first found? choose
repeat_refusal none = refl
repeat_refusal (some i) = refl

refusal_or : (o : Option ℕ) (a : Result Unit Unopened) → opening_refusal (refused_or refuse o a) ≡ or_else o (opening_refusal a)
unfolding opening_refusal refused_or or_else
refusal_or none a = refl
refusal_or (some n) a = refl

refusal_is : (n : ℕ) (a : Result Unit Unopened) → opening_refusal (refused_or refuse (some n) a) ≡ some n
unfolding opening_refusal refused_or
refusal_is n a = refl

-- a number that is not 6
abbrev No : Option ℕ → Type 0
No o = o ≡ some DUPLICATE → ⊥

no : {b : Bool} (n : ℕ) → (n ≡ DUPLICATE → ⊥) → b ≡ true → No (some n)
no n h b e = let z : n ≡ 6 = cc in h z

module _ (level mode order : ℕ) (sli : Bool) (mask : ℕ) (t : List ℕ) where
  -- R25
  abbrev pub seven : List Case
  seven = open_cases level mode order sli mask t ++ (DUPLICATE when twice t ∷ [])

  pub open_first : opening_refusal (opening_of level mode order sli mask t) ≡ first seven
  unfolding opening_of repeat_of
  open_first =
      refusal_or (first (open_cases level mode order sli mask t)) _
      ∙ ap (or_else (first (open_cases level mode order sli mask t))) (repeat_refusal (lowest (repeats t) (entries t)))
      ∙ sym (first_append (open_cases level mode order sli mask t) (DUPLICATE when twice t ∷ []))

  pub open_agree : Agree seven (open_plain level mode order sli mask t)
  open_agree =
      let modes = or_plain (ltb 1 mode) (eqb mode 1 && ltb level 4) (less_plain 1 mode) (and_plain (eqb mode 1) (ltb level 4) (equal_plain mode 1) (less_plain level 4)) in
      let orders = and_plain (eqb mode 1) (ltb 12 order) (equal_plain mode 1) (less_plain 12 order) in
      let sli_on = and_plain sli (ltb level 3) (λ e. e, λ e. e) (less_plain level 3) in (
        refl,
        less_plain 5 level,
        (refl, modes, (refl, orders, (refl, sli_on, (refl, less_plain 4095 mask, (refl, table_plain t, (refl, twice_plain t, tt)))))),
      )

  pub open_plain_lem : (n : ℕ) → opening_refusal (opening_of level mode order sli mask t) ≡ some n ↔ FirstIs (open_plain level mode order sli mask t) n
  open_plain_lem n =
      let f = first_is seven (open_plain level mode order sli mask t) open_agree n in
      (λ e. f.0 (sym open_first ∙ e), λ x. open_first ∙ f.1 x)

  -- an answer that is DUPLICATE's comes of no other refusal
  other : first (open_cases level mode order sli mask t) ≡ some DUPLICATE → ⊥
  unfolding first
  other =
      by_test No (no 1 (λ e. omega arith))
      (λ a.
      by_test No (no 2 (λ e. omega arith))
      (λ b.
      by_test No (no 3 (λ e. omega arith))
      (λ c. by_test No (no 4 (λ e. omega arith)) (λ d. by_test No (no 10 (λ e. omega arith)) (λ f. by_test No (no 5 (λ e. omega arith)) (λ g h. let z : ◌≡◌ {A = ℕ} 0 1 = cc in omega arith))))))

  pub passed : opening_refusal (opening_of level mode order sli mask t) ≡ some DUPLICATE → opening_of level mode order sli mask t ≡ duplicate_or (repeat_of t)
  unfolding opening_of
  passed e = go (first (open_cases level mode order sli mask t)) refl e
    where
      go :
          (o : Option ℕ)
          → first (open_cases level mode order sli mask t) ≡ o
          → opening_refusal (refused_or refuse o (duplicate_or (repeat_of t))) ≡ some DUPLICATE
          → refused_or refuse o (duplicate_or (repeat_of t)) ≡ duplicate_or (repeat_of t)
      go none f h = accepted refuse _ refl
      go (some n) f h = absurd (other (f ∙ sym (refusal_is n (duplicate_or (repeat_of t))) ∙ h))

-- the entry that DUPLICATE answers
pub duplicate_is : (x : option.Option ℕ) (i : ℕ) → opening_values (duplicate_or x) ≡ i ∷ [] ↔ ((repeat_number x ≡ 1) × (repeat_values x ≡ i ∷ []))
unfolding duplicate_or opening_values repeat_number repeat_values
duplicate_is None i = (λ e. let z : ◌≡◌ {A = ℕ} 0 1 = cc in absurd (omega arith), λ e. absurd (omega (arith, e.0)))
duplicate_is (Some k) i = (λ e. (refl, e), λ e. e.1)

-- a channel at rest
at_rest : (s : Setup) (mask : ℕ) (active : Bool) → AtRest (resting_at s mask active)
unfolding pusher_record.number puller_record.number
at_rest s mask active =
    record {
      get = refl;
      put = refl;
      run = refl;
      subroutine = refl;
      ib = refl;
      main = refl;
      pusher_error = refl;
      engines = refl;
      last = refl;
      reference = refl;
      semaphore = refl;
      acquire = refl;
      long = refl;
      puller_error = refl;
    }

-- two channels at rest differ in set-up and SLI numbers alone: every other field is said
pub rest_is_one : (a b : Channel) → AtRest a → AtRest b → a.setup ≡ b.setup → a.pusher.sli ≡ b.pusher.sli → a ≡ b
rest_is_one a b x y setup sli =
    let e = pusher.other_told a.pusher.error b.pusher.error (x.pusher_error ∙ sym y.pusher_error) (λ four. omega (arith, y.pusher_error)) in
    let f = puller.error_told a.puller.error b.puller.error (x.puller_error ∙ sym y.puller_error) in
    rw (setup, sli, x.get, y.get, x.put, y.put, x.run, y.run, x.subroutine, y.subroutine, x.ib, y.ib, x.main, y.main, e, x.engines, y.engines, x.last, y.last, x.reference, y.reference, x.semaphore, y.semaphore, x.acquire, y.acquire, x.long, y.long, f)

pub blank_is : Blank blank_channel
blank_is = record { rest = at_rest _ _ _; level = refl; mode = refl; sli = refl; limit = refl; order = refl; mask = refl; active = refl }

pub fresh_is : (level mode order : ℕ) (sli : Bool) (mask limit : ℕ) → Fresh level mode order sli mask limit (fresh_channel level mode order sli mask limit)
unfolding held_order
fresh_is level mode order sli mask limit =
    record {
      rest = at_rest _ _ _;
      level_is = refl;
      mode_is = refl;
      sli_is = refl;
      limit_is = refl;
      held = λ m. choose_false (ne_eqb mode 1 (λ e. omega arith)) _ _;
      order_is = λ m. choose_true (eq-eqb mode 1 m) _ _;
      mask_is = refl;
      active = refl;
    }
