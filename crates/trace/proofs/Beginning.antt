-- What refuses a run (`Refused`), and the channel that it begins at (`Begun`). Assumes nothing.
use Prim.Native.Nat.{ℕ, ◌%◌, ◌≤◌}
use mathlib.Core.Path.{◌≡◌, refl, sym, ap, ◌∙◌}
use mathlib.Core.Bool.{false}
use mathlib.Core.List.{[]}
use mathlib.Core.Logic.{⊎_elim, ◌↔◌}
use mathlib.Core.Option.{Option, none, some}
use native.Mathlib.Omega.{arith}
use lib.Dec.{eqb}
use borrow.Author.Tests.{ltb-false, eqb-true, not-false}
use Rattle.word.specs.First.{choose, first, FirstIs}
use Rattle.word.specs.Lowest.{keep, lowest}
use Rattle.word.specs.Setting.{refused_or}
use Rattle.word.specs.Answers.{check_refusal}
use Rattle.word.specs.declared.setting.Refusal.{Refusal}
use Rattle.word.proofs.First.{none_fails, Agree}
use Rattle.word.proofs.Settings.{accepted, told_first, told_plain}
use Rattle.word.proofs.Tests.{not_plain, less_plain, equal_plain}
use Rattle.puller.specs.Object.{repeat_at, repeat_of}
use Rattle.channel.specs.Answers.{opening_refusal}
use Rattle.channel.specs.Opening.{duplicate_or, opening_of, held_order, opened, open_of}
use Rattle.channel.specs.Putting.{put_of}
use Rattle.channel.specs.Outcomes.{Opens, Puts}
use Rattle.channel.specs.Promises.{WellFormed}
use Rattle.channel.specs.declared.record.Channel.{Channel}
use Rattle.channel.specs.declared.opening.Opened.{Opened}
use Rattle.channel.specs.declared.putting.Put.{Put}
use Rattle.channel.proofs.Promises as channel
use Rattle.channel.proofs.StaysWellFormed.{opened_formed}
use Rattle.trace.specs.LineByLine.{fresh, trace_at, program_cases, begin_of}
use Rattle.trace.specs.Answers.{stage_number, stage_refusal}
use Rattle.trace.specs.Outcomes.{Begins}
use Rattle.trace.specs.Promises.{program_plain, Begun}
use Rattle.trace.specs.declared.run.Stage.TheVariants as stage
use Rattle.trace.specs.declared.run.Trace.{Trace}

-- the tests and the plain conditions of the program's refusals
program_agree : (bytes : ℕ) → Agree (program_cases bytes) (program_plain bytes)
program_agree bytes = (refl, less_plain 32768 bytes, (refl, not_plain (eqb (bytes % 4) 0) (equal_plain (bytes % 4) 0), tt))

-- A run is refused by the first case that holds:
module _ (bytes : ℕ) where
  abbrev refusing : Refusal → Trace
  refusing r = trace_at (stage.Refused r) fresh 0

  abbrev running : Trace
  running = trace_at stage.Running (put_of fresh bytes).channel 0

  abbrev refusal : Trace → Option ℕ
  refusal t = stage_refusal t.stage

  pub refusal_first : (t : Trace) → Begins bytes t → stage_refusal t.stage ≡ first (program_cases bytes)
  unfolding begin_of stage_refusal
  refusal_first t h = told_first refusing refusal (λ x. refl) (program_cases bytes) running t refl h

  pub refusal_is : (t : Trace) → Begins bytes t → (n : ℕ) → stage_refusal t.stage ≡ some n ↔ FirstIs (program_plain bytes) n
  unfolding begin_of stage_refusal
  refusal_is t h n = told_plain refusing refusal (λ x. refl) (program_cases bytes) (program_plain bytes) running t (program_agree bytes) refl h n

  -- it begins at the opened channel then, and with put set where none holds;
  pub begins_refused : (n : ℕ) → first (program_cases bytes) ≡ some n → begin_of bytes ≡ refusing (record { number = n })
  unfolding begin_of refused_or
  begins_refused n e = rw e

  module _ (e : first (program_cases bytes) ≡ none) where
    pub begins_put : begin_of bytes ≡ running
    unfolding begin_of
    begins_put = accepted _ _ e

    -- then the bytes are not too many, and whole words
    pub few_bytes : bytes ≤ 32768
    few_bytes = ltb-false 32768 bytes (none_fails (program_cases bytes) e).0

    whole_words : bytes % 4 ≡ 0
    whole_words = eqb-true (bytes % 4) 0 (not-false _ (none_fails (program_cases bytes) e).1.0)

-- S1: NV04-style holds ib_order as 0: whichever is asked for, it is the channel of the run that is opened
opens_fresh : (order : ℕ) (o : Opened) → Opens 3 0 order false 0 0xffffffff [] o → (opening_refusal o.answer ≡ none) × (o.channel ≡ fresh)
unfolding choose first keep lowest refused_or repeat_at repeat_of duplicate_or opening_of held_order opened open_of opening_refusal
opens_fresh order o h = rw h (refl, refl)

fresh_mode : fresh.setup.setting.mode.number ≡ 0
unfolding choose first keep lowest refused_or repeat_at repeat_of duplicate_or opening_of opened open_of
fresh_mode = refl

pub fresh_formed : WellFormed fresh
fresh_formed = opened_formed _ _ _ _ _ _ _ (omega arith)

-- whole words can be put
puts_whole : (bytes : ℕ) (q : Put) → bytes % 4 ≡ 0 → Puts fresh bytes q → check_refusal q.answer ≡ none
puts_whole bytes q whole h = go (check_refusal q.answer) refl
  where
    go : (o : Option ℕ) → check_refusal q.answer ≡ o → check_refusal q.answer ≡ none
    go none x = x
    go (some n) x =
        absurd (⊎_elim (λ a. a.0 fresh_formed) (λ b. ⊎_elim (λ p. ⊎_elim (λ v. v.1 whole) (λ v. omega (arith, fresh_mode, v.0)) p.0) (λ p. p.1) b.1) (((channel.refused).put fresh bytes q h n).0 x))

pub begun : Begun
unfolding stage_number
begun =
    record {
      runs = λ bytes order t o q h runs opens puts.
          let none_holds = sym (refusal_first bytes t h) ∙ runs in
          let opened = opens_fresh order o opens in
          let put : Puts fresh bytes q = puts ∙ ap (λ (c : Channel). put_of c bytes) opened.1 in
          (opened.0, puts_whole bytes q (whole_words bytes none_holds) put, rw (h, begins_put bytes none_holds, put) (record { channel = refl; stage = refl; steps = refl }));
      refused = λ bytes order n t o h refused opens.
          rw (h, begins_refused bytes n (sym (refusal_first bytes t h) ∙ refused), (opens_fresh order o opens).1) (record { channel = refl; stage = refl; steps = refl });
    }
