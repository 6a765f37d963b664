-- `Printed`: the lines of a run, in turn, are what the program prints. Assumes nothing.
use Prim.Native.Nat.{ℕ, zero, suc, ◌+◌, ◌^◌, ◌≤◌, ◌<◌}
use mathlib.Core.Path.{◌≡◌, refl, sym, ap, subst, ◌∙◌}
use mathlib.Core.Bool.{Bool, true, false}
use mathlib.Core.List.{List, [], ◌++◌, append_assoc, append-nil}
use mathlib.Core.Logic.{⊎_elim}
use mathlib.Core.Option.{Option, none, some}
use native.Mathlib.Numerals.{add-one}
use native.Mathlib.Omega.{arith}
use lib.ListN.{length, get_or, take, replicate, length-replicate}
use borrow.Author.Tests.{leb-false}
use Rattle.word.specs.First.{first}
use Rattle.word.specs.Lowest.{lowest}
use Rattle.word.specs.Lent.{words_of}
use Rattle.word.specs.Setting.{refused_or}
use Rattle.word.proofs.First.{by_test}
use Rattle.word.proofs.Lowest.{lowest_some, lowest_none}
use Rattle.word.proofs.Settings.{accepted}
use Rattle.word.proofs.Bytes.{words_length, words_narrow}
use Rattle.event.specs.declared.Event.{Event}
use Rattle.channel.specs.Answers.{step_refusal}
use Rattle.channel.specs.Loan.{to_step}
use Rattle.channel.specs.Outcomes.{StepsTo}
use Rattle.channel.specs.Putting.{put_of}
use Rattle.channel.specs.Many.{after}
use Rattle.channel.specs.Promises.{WellFormed}
use Rattle.channel.specs.declared.record.Channel.{Channel}
use Rattle.std.specs.declared.result.Result.TheVariants.{Ok}
use Rattle.channel.specs.declared.stepping.Stepped.{Stepped}
use Rattle.channel.proofs.Refusals.{refused_one}
use Rattle.channel.proofs.StaysWellFormed.{put_keeps}
use Rattle.channel.proofs.Many.{is_event, none_refused}
use Rattle.trace.specs.Text.{or_else}
use Rattle.trace.specs.Line.{line_of}
use Rattle.trace.specs.Lines.{step_text, end_text, refused_text}
use Rattle.trace.specs.End.{Ending, ending_of}
use Rattle.trace.specs.LineByLine.{fresh, trace_at, program_cases, begin_of, closed, answered, or_end, by_stage}
use Rattle.trace.specs.Printed.{lent_for, moment_after, step_after, ending_at, over?, steps_of, answer_text, line_after, lines_from, line_of_end, run_text, printed}
use Rattle.trace.specs.Answers.{stage_number}
use Rattle.trace.specs.Outcomes.{Tells}
use Rattle.trace.specs.Promises.{Tells-in-turn, over, line, LeadsTo, none_made, step_made}
use Rattle.trace.specs.declared.end.End.{End}
use Rattle.std.specs.declared.option.Option.TheVariants.{None, Some}
use Rattle.trace.specs.declared.run.Stage.TheVariants as stage
use Rattle.trace.specs.declared.run.Trace.{Trace}
use Rattle.trace.specs.declared.run.Told.{Told}
use Rattle.trace.proofs.Beginning.{fresh_formed, begins_refused, begins_put, few_bytes}
use Rattle.trace.proofs.Room.{step_has, end_has, refused_has}

-- whether an ending is over, and then which it is
goes_on : (e : Ending) → over? e ≡ false → e ≡ None
unfolding over?
goes_on None h = refl
goes_on (Some e) h = cc

is_over : (e : Ending) → over? e ≡ true → (x : End) × (e ≡ Some x)
unfolding over?
is_over None h = absurd cc
is_over (Some e) h = (e, refl)

-- after 65,536 steps it is
over_late : (c : Channel) → over? (ending_of c 65536) ≡ true
unfolding ending_of over?
over_late c =
    let P : Ending → Type 0 = λ e. over? e ≡ true in
    by_test P (λ s. refl) (λ s. by_test P (λ i. refl) (λ i. by_test P (λ l. refl) (λ l. absurd (omega (arith, leb-false 65536 65536 l)))))

-- How many steps the run makes: before them it goes on, and after them it is over.
module _ (bytes : List ℕ) where
  abbrev ended? : ℕ → Bool
  ended? n = over? (ending_at bytes n)

  abbrev Last : ℕ → Type 0
  Last n = (n ≤ 65536) × ((i : ℕ) → i < n → ended? i ≡ false) × (ended? n ≡ true)

  last : Last (steps_of bytes)
  unfolding steps_of or_else
  last = go (lowest ended? 65536) refl
    where
      go : (o : Option ℕ) → lowest ended? 65536 ≡ o → Last (or_else o 65536)
      go none e = (omega arith, (lowest_none ended? 65536).0 e, over_late (moment_after bytes 65536).channel)
      go (some k) e = let h = (lowest_some ended? 65536 k).0 e in (omega (arith, h.0), h.2, h.1)

-- a line with the lines after it, and the last
module _ (ws : List ℕ) (t : Trace) (sems : List ℕ) (told : Told) (exit : List ℕ) (tells : Tells t ws sems told exit) (text : List ℕ) (is : take told.line.length told.line.bytes ≡ text) where
  line_more : (k : ℕ) (rest : List ℕ) → Tells-in-turn ws k told.trace exit rest → Tells-in-turn ws (suc k) t sems (text ++ rest)
  line_more k rest more = subst (λ (x : List ℕ). Tells-in-turn ws (suc k) t sems (x ++ rest)) is (line k t sems told exit rest tells more)

  line_last : stage_number told.trace.stage ≡ 3 → Tells-in-turn ws 1 t sems text
  line_last o = subst (Tells-in-turn ws 1 t sems) (append-nil text) (line_more 0 [] (over told.trace exit o))

-- The run of bytes that are not too many.
module _ (bytes : List ℕ) (narrow : (i : ℕ) → get_or bytes i 0 < 2 ^ 8) (few : length bytes ≤ 32768) where
  begun_formed : WellFormed (begin_of (length bytes)).channel
  unfolding begin_of refused_or
  begun_formed = go (first (program_cases (length bytes)))
    where
      go : (o : Option ℕ) → WellFormed (refused_or (λ r. trace_at (stage.Refused r) fresh 0) o (trace_at stage.Running (put_of fresh (length bytes)).channel 0)).channel
      go none = put_keeps fresh (length bytes) fresh_formed (omega arith)
      go (some n) = fresh_formed

  -- no step is refused
  none_told : (n : ℕ) → step_refusal (step_after bytes n).stepped.answer ≡ none
  none_told n =
      let long = words_length bytes in
      let zeros = length-replicate {A = ℕ} 1024 0 in
      none_refused (lent_for bytes) (begin_of (length bytes)).channel (record { words = words_narrow bytes narrow; table = λ i. omega arith }) begun_formed
      (record { words = omega arith; semaphores = omega arith; table = λ bad. ⊎_elim (λ e. e refl) (λ e. omega arith) bad }) n

  -- the moments of the run, and what is left to print at each
  abbrev steps : ℕ
  steps = steps_of bytes

  abbrev at : ℕ → Trace
  at n = trace_at stage.Running (moment_after bytes n).channel n

  abbrev last_line : ℕ → List ℕ
  last_line n = line_of_end (ending_at bytes n) n (moment_after bytes n).channel

  -- the end line
  last_turn : (n : ℕ) (e : End) → ending_at bytes n ≡ Some e → Tells-in-turn (words_of bytes) 1 (at n) (moment_after bytes n).semaphores (last_line n)
  unfolding by_stage or_end line_of_end stage_number
  last_turn n e h =
      let c = (moment_after bytes n).channel in
      let text = end_text e n c.pusher.get c.puller.reference in
      line_last (words_of bytes) (at n) (moment_after bytes n).semaphores (closed (at n) (line_of text)) (moment_after bytes n).semaphores
      (rw h (record { answer = refl; memory = refl })) (last_line n)
      (rw h (end_has e n c.pusher.get c.puller.reference (line_of text) refl).text) refl

  -- the line of a step, and those after it
  next_turn :
      (n k : ℕ) (e : Event) (rest : List ℕ)
      → ending_at bytes n ≡ None
      → (step_after bytes n).stepped.answer ≡ Ok e
      → Tells-in-turn (words_of bytes) k (at (suc n)) (moment_after bytes (suc n)).semaphores rest
      → Tells-in-turn (words_of bytes) (suc k) (at n) (moment_after bytes n).semaphores (line_after bytes n ++ rest)
  unfolding by_stage or_end answered answer_text after
  next_turn n k e rest h a more =
      let o = step_after bytes n in
      let text = step_text (n + 1) (moment_after bytes n).channel.pusher.get e in
      line_more (words_of bytes) (at n) (moment_after bytes n).semaphores (record { line = line_of text; trace = trace_at stage.Running o.stepped.channel (n + 1) }) o.memory
      (rw (h, a) (record { answer = refl; memory = refl })) (line_after bytes n)
      (rw a (step_has (n + 1) (moment_after bytes n).channel.pusher.get e (line_of text) refl).text) k rest
      (subst (λ (m : ℕ). Tells-in-turn (words_of bytes) k (trace_at stage.Running o.stepped.channel m) o.memory rest) (sym (add-one n)) more)

  -- all that are left
  turns : (k n : ℕ) → n + k ≡ steps → Tells-in-turn (words_of bytes) (suc k) (at n) (moment_after bytes n).semaphores (lines_from bytes n k ++ last_line steps)
  unfolding lines_from
  turns zero n e =
      let q : n ≡ steps = omega arith in
      let x = is_over (ending_at bytes n) (subst (λ (m : ℕ). ended? bytes m ≡ true) (sym q) (last bytes).2) in
      subst (λ (m : ℕ). Tells-in-turn (words_of bytes) 1 (at n) (moment_after bytes n).semaphores (last_line m)) q (last_turn n x.0 x.1)
  turns (suc k) n e =
      let h = goes_on (ending_at bytes n) ((last bytes).1 n (omega arith)) in
      let x = is_event (step_after bytes n).stepped.answer (none_told n) in
      subst (Tells-in-turn (words_of bytes) (suc (suc k)) (at n) (moment_after bytes n).semaphores) (sym (append_assoc (line_after bytes n) (lines_from bytes (suc n) k) (last_line steps)))
      (next_turn n (suc k) x.0 (lines_from bytes (suc n) k ++ last_line steps) h x.1 (turns k (suc n) (omega arith)))

-- Steps lead from the beginning to the moments of the run, where nothing is lent but the words and the semaphore words.
module _ (bytes : List ℕ) where
  -- at a moment they are the run's
  step_there :
      (n : ℕ) (d : Channel) (sems exit : List ℕ) (r : Stepped)
      → d ≡ (moment_after bytes n).channel
      → sems ≡ (moment_after bytes n).semaphores
      → StepsTo d (to_step (words_of bytes) [] [] sems 0) r exit
      → (r ≡ (step_after bytes n).stepped) × (exit ≡ (step_after bytes n).memory)
  step_there n d sems exit r a b m = rw (m.answer, m.memory, a, b) (refl, refl)

  -- so each leads to the next
  moments :
      (d : Channel) (sems : List ℕ)
      → LeadsTo (words_of bytes) (begin_of (length bytes)).channel d sems
      → (n : ℕ) × (d ≡ (moment_after bytes n).channel) × (sems ≡ (moment_after bytes n).semaphores)
  unfolding after
  moments d sems none_made = (0, refl, refl)
  moments d sems (step_made before after lent exit r led m is) =
      let x = moments before lent led in
      let there = step_there x.0 before lent exit r x.1 x.2 m in
      (suc x.0, is ∙ ap (λ (y : Stepped). y.channel) there.0, there.1)

  pub none_refused_there :
      (d : Channel) (sems exit : List ℕ) (r : Stepped)
      → ((i : ℕ) → get_or bytes i 0 < 2 ^ 8)
      → first (program_cases (length bytes)) ≡ none
      → LeadsTo (words_of bytes) (begin_of (length bytes)).channel d sems
      → StepsTo d (to_step (words_of bytes) [] [] sems 0) r exit
      → step_refusal r.answer ≡ none
  none_refused_there d sems exit r narrow fine led m =
      let x = moments d sems led in
      ap (λ (y : Stepped). step_refusal y.answer) (step_there x.0 d sems exit r x.1 x.2 m).0 ∙ none_told bytes narrow (few_bytes (length bytes) fine) x.0

-- The beginning of a run: one that is not refused, and one that is.
module _ (bytes : List ℕ) where
  begins : first (program_cases (length bytes)) ≡ none → begin_of (length bytes) ≡ trace_at stage.Running (moment_after bytes 0).channel 0
  unfolding after
  begins e = let put = begins_put (length bytes) e in put ∙ ap (λ (t : Trace). trace_at stage.Running t.channel 0) (sym put)

  refused_turn : (n : ℕ) (sems : List ℕ) → Tells-in-turn (words_of bytes) 1 (trace_at (stage.Refused (record { number = n })) fresh 0) sems (refused_text n)
  unfolding by_stage stage_number
  refused_turn n sems =
      let t = trace_at (stage.Refused (record { number = n })) fresh 0 in
      line_last (words_of bytes) t sems (closed t (line_of (refused_text n))) sems (record { answer = refl; memory = refl }) (refused_text n)
      (refused_has n (line_of (refused_text n)) refl).text refl

  -- and the whole
  pub prints :
      ((i : ℕ) → get_or bytes i 0 < 2 ^ 8)
      → (k : ℕ) × (k ≤ 65537) × Tells-in-turn (words_of bytes) k (begin_of (length bytes)) (replicate 1024 0) (printed bytes)
  unfolding printed run_text after
  prints narrow = go (first (program_cases (length bytes))) refl
    where
      go :
          (o : Option ℕ)
          → first (program_cases (length bytes)) ≡ o
          → (k : ℕ) × (k ≤ 65537)
          × Tells-in-turn (words_of bytes) k (begin_of (length bytes)) (replicate 1024 0) (refused_or (λ r. refused_text r.number) (first (program_cases (length bytes))) (run_text bytes))
      go none e =
          let h = (last bytes).0 in
          rw (begins e, accepted (λ r. refused_text r.number) (run_text bytes) e) (suc (steps_of bytes), omega arith, turns bytes narrow (few_bytes (length bytes) e) (steps_of bytes) 0 (omega arith))
      go (some n) e = rw (e, refused_one (λ r. refused_text r.number) (run_text bytes) n, begins_refused (length bytes) n e) (1, omega arith, refused_turn n (replicate 1024 0))
