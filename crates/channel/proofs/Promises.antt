-- The promises about a channel, each under its name in specs/Promises.antt. Assumes nothing.
use Prim.Native.Nat.{ℕ, ◌<◌}
use mathlib.Core.Path.{◌≡◌, refl, sym, ap, ◌∙◌}
use mathlib.Core.Bool.{Bool, true, false, false≢true}
use mathlib.Core.List.{List, [], ◌∷◌}
use mathlib.Core.Logic.{inl, inr, ⊎_elim, ◌↔◌}
use mathlib.Core.Option.{Option, none, some}
use native.Mathlib.Omega.{arith}
use lib.ListN.{length}
use borrow.Author.Tests.{eq-eqb, ne_eqb}
use Rattle.word.specs.First.{first, FirstIs}
use Rattle.word.specs.Setting.{STATE, DUPLICATE}
use Rattle.word.specs.Answers.{check_refusal}
use Rattle.word.specs.declared.setting.Level.{Level}
use Rattle.std.specs.declared.result.Result.TheVariants.{Ok}
use Rattle.word.proofs.First.{one_outcome, choose_true, choose_false, first_is}
use Rattle.word.proofs.Settings.{told_plain}
use Rattle.event.specs.Event as event
use Rattle.event.specs.Event.{values}
use Rattle.event.specs.declared.Kind.TheVariants as kind
use Rattle.event.specs.declared.Method.{Method}
use Rattle.event.specs.declared.Event.{Event}
use Rattle.event.specs.declared.Event.TheVariants.{Plain}
use Rattle.puller.specs.Object.{repeat_of}
use Rattle.puller.specs.Record as puller_record
use Rattle.puller.specs.Taking.{Result, take_of, retry_of}
use Rattle.puller.specs.Outcomes.{Takes}
use Rattle.puller.specs.Answers.{repeat_number, repeat_values}
use Rattle.puller.specs.Promises as puller
use Rattle.puller.specs.Promises.{StoppedBy}
use Rattle.puller.specs.declared.record.Puller.{Puller}
use Rattle.puller.specs.declared.record.PullerError.{PullerError}
use Rattle.puller.specs.declared.taking.Taken.{Taken}
use Rattle.puller.proofs.Promises.{looks, first_repeat, pulls, retrying}
use Rattle.puller.proofs.Failing as puller_failing
use Rattle.pusher.specs.Record as pusher_record
use Rattle.pusher.specs.Moving.{push_of}
use Rattle.pusher.specs.Answers.{method_values, Tells}
use Rattle.pusher.specs.Outcomes.{Moves}
use Rattle.pusher.specs.Promises.{Fails}
use Rattle.pusher.specs.declared.record.Pusher.{Pusher}
use Rattle.pusher.specs.declared.moving.Did.{Did}
use Rattle.pusher.specs.declared.moving.Did.TheVariants as did
use Rattle.pusher.specs.declared.moving.Pushed.{Pushed}
use Rattle.pusher.proofs.Told.{did_event, did_submit, event_did, submit_did}
use Rattle.pusher.proofs.Promises.{pushes}
use Rattle.pusher.proofs.Failing.{failing}
use Rattle.channel.specs.Loan.{Loan}
use Rattle.channel.specs.State.{well_formed}
use Rattle.channel.specs.Answers.{opening_refusal, opening_values, step_refusal}
use Rattle.channel.specs.Opening.{fresh_channel, opening_of, open_of}
use Rattle.channel.specs.Record.{with_pusher}
use Rattle.channel.specs.Putting.{put_cases, with_put, unchanged, put_of}
use Rattle.channel.specs.Stepping.{Outcome, unrefused, step_cases, step_of}
use Rattle.channel.specs.Stepping as stepping
use Rattle.channel.specs.Outcomes.{Puts, StepsTo}
use Rattle.channel.specs.Promises.{WellFormed, open_plain, step_plain, put_plain, Fresh, Blank, Refused, Accepted, Lends, One, Takable, Running, MakesMove, Leaves, Sentences, Raises, PusherFails, KeepsAdvance, PullerFails, Steps, NoOther, Later, same, put, step, Kept}
use Rattle.channel.specs.declared.record.Channel.{Channel}
use Rattle.std.specs.declared.result.Result as rust
use Rattle.channel.specs.declared.opening.Unopened.{Unopened}
use Rattle.channel.specs.declared.putting.Put.{Put}
use Rattle.channel.specs.declared.stepping.Stepped.{Stepped}
use Rattle.channel.proofs.Leaving.{leaving, has_halves, leaves_plainly, leaves_one, refusing_is}
use Rattle.channel.proofs.Formed.{formed, unformed}
use Rattle.channel.proofs.Refusals.{refused_is, accepted_is, none_of, put_agree, step_agree}
use Rattle.channel.proofs.OpensPlainly.{opened_answer, opened_blank, opened_open, open_plain_lem, passed, duplicate_is, rest_is_one, blank_is, fresh_is}
use Rattle.channel.proofs.ByRole.{step_tells, whether_running, leaves, stopped_is, retry_is, move_is, submit_is}
use Rattle.channel.proofs.AtMostOneMove.{at_most_one_move}
use Rattle.channel.proofs.StaysWellFormed.{opened_formed, put_keeps, step_keeps}

-- what put tells
abbrev put_tells : Put → Option ℕ
put_tells r = check_refusal r.answer

module _ (c : Channel) (p : ℕ) where
  abbrev fine : Put
  fine = record { answer = Ok tt; channel = with_put c p }

  put_plain_lem : (n : ℕ) → put_tells (put_of c p) ≡ some n ↔ FirstIs (put_plain c p) n
  unfolding put_of check_refusal
  put_plain_lem n = told_plain (unchanged c) put_tells (λ x. refl) (put_cases c p) (put_plain c p) fine _ (put_agree c p) refl refl n

  put_refused_lem : (n : ℕ) → put_tells (put_of c p) ≡ some n → put_of c p ≡ unchanged c (record { number = n })
  unfolding put_of check_refusal
  put_refused_lem n e = refused_is (unchanged c) put_tells (λ x. refl) (first (put_cases c p)) fine n refl e

  put_accepted : put_tells (put_of c p) ≡ none → put_of c p ≡ fine
  unfolding put_of check_refusal
  put_accepted e = accepted_is (unchanged c) put_tells (λ x. refl) (first (put_cases c p)) fine e

module _ (c : Channel) (l : Loan) where
  step_plain_lem : (n : ℕ) → step_tells (step_of c l) ≡ some n ↔ FirstIs (step_plain c l) n
  unfolding step_of step_refusal
  step_plain_lem n = told_plain (stepping.unchanged c l) step_tells (λ x. refl) (step_cases c l) (step_plain c l) (unrefused c l) _ (step_agree c l) refl refl n

  step_refused : (n : ℕ) → step_tells (step_of c l) ≡ some n → step_of c l ≡ stepping.unchanged c l (record { number = n })
  unfolding step_of step_refusal
  step_refused n e = refused_is (stepping.unchanged c l) step_tells (λ x. refl) (first (step_cases c l)) (unrefused c l) n refl e

module _ (level mode order : ℕ) (sli : Bool) (mask limit : ℕ) (t : List ℕ) where
  abbrev asked : rust.Result Unit Unopened
  asked = opening_of level mode order sli mask t

  abbrev fresh : Channel
  fresh = fresh_channel level mode order sli mask limit

  -- what opening answers, and whose channel it is
  answers : (open_of level mode order sli mask limit t).answer ≡ asked
  unfolding open_of
  answers = opened_answer asked fresh

  leaves_blank : (n : ℕ) → opening_refusal (open_of level mode order sli mask limit t).answer ≡ some n → Blank (open_of level mode order sli mask limit t).channel
  unfolding open_of
  leaves_blank n e = rw (opened_blank asked fresh n (ap opening_refusal (sym answers) ∙ e)) blank_is

  leaves_fresh : opening_refusal (open_of level mode order sli mask limit t).answer ≡ none → (opening_values (open_of level mode order sli mask limit t).answer ≡ []) × Fresh level mode order sli mask limit (open_of level mode order sli mask limit t).channel
  unfolding open_of
  leaves_fresh e =
      let x = opened_open asked fresh (ap opening_refusal (sym answers) ∙ e) in
      (ap opening_values answers ∙ x.0, rw x.1 (fresh_is level mode order sli mask limit))

  tells : (n : ℕ) → opening_refusal (open_of level mode order sli mask limit t).answer ≡ some n ↔ FirstIs (open_plain level mode order sli mask t) n
  tells n = let f = open_plain_lem level mode order sli mask t n in (λ e. f.0 (ap opening_refusal (sym answers) ∙ e), λ x. ap opening_refusal answers ∙ f.1 x)

  repeats : opening_refusal (open_of level mode order sli mask limit t).answer ≡ some DUPLICATE → (i : ℕ) → opening_values (open_of level mode order sli mask limit t).answer ≡ i ∷ [] ↔ ((repeat_number (repeat_of t) ≡ 1) × (repeat_values (repeat_of t) ≡ i ∷ []))
  repeats e i =
      let p = ap opening_values (answers ∙ passed level mode order sli mask t (ap opening_refusal (sym answers) ∙ e)) in
      let d = duplicate_is (repeat_of t) i in
      (λ a. d.0 (sym p ∙ a), λ x. p ∙ d.1 x)

pub refused : Refused
refused =
    record {
      opens = λ level mode order sli mask limit t r h n. rw h (tells level mode order sli mask limit t n);
      put = λ c p r h n. rw h (put_plain_lem c p n);
      step = λ c l exit r h n. rw h.answer (step_plain_lem c l n);
      blank = λ level mode order sli mask limit t r h n e. rw h (leaves_blank level mode order sli mask limit t n (rw h at e));
      repeated = λ level mode order sli mask limit t r h e i.
          let a = repeats level mode order sli mask limit t (rw h at e) i in
          let b = first_repeat.entry t i (repeat_of t) refl in
          rw h (λ x. b.0 (a.0 x), λ x. a.1 (b.1 x));
      put_unchanged = λ c p r h n e. h_channel c p r h n e;
      step_unchanged = λ c l exit r h n e.
          let x = leaves c l exit r h (step_refused c l n (rw h.answer at e)) in
          (ap (λ (y : Stepped). y.channel) x.0, x.1);
    }
  where
    h_channel : (c : Channel) (p : ℕ) (r : Put) → Puts c p r → (n : ℕ) → put_tells r ≡ some n → r.channel ≡ c
    h_channel c p r h n e = ap (λ (y : Put). y.channel) (h ∙ put_refused_lem c p n (rw h at e))

-- put is set in NV04-style, ib_put in IB mode
with_nv04 : (c : Channel) (p : ℕ) → c.setup.setting.mode.number ≡ 0 → with_put c p ≡ with_pusher c (pusher_record.with_put c.pusher p)
unfolding with_put
with_nv04 c p m = choose_false (ne_eqb c.setup.setting.mode.number 1 (λ e. omega arith)) _ _

with_ib : (c : Channel) (p : ℕ) → c.setup.setting.mode.number ≡ 1 → with_put c p ≡ with_pusher c (pusher_record.with_ib c.pusher c.pusher.ib.get p)
unfolding with_put
with_ib c p m = choose_true (eq-eqb _ _ m) _ _

pub accepted : Accepted
accepted =
    record {
      rest_is_one = rest_is_one;
      opens = λ level mode order sli mask limit t r h e. rw h (leaves_fresh level mode order sli mask limit t (rw h at e));
      put = λ c p r h e m. has_halves (ap (λ (y : Put). y.channel) (h ∙ put_accepted c p (rw h at e)) ∙ with_nv04 c p m);
      ib_put = λ c p r h e m. has_halves (ap (λ (y : Put). y.channel) (h ∙ put_accepted c p (rw h at e)) ∙ with_ib c p m);
    }

pub lends : Lends
lends ws es t sems clock = refl

pub one : One
one =
    record {
      opens = λ level mode order sli mask limit t a b x y. one_outcome x y;
      put = λ c p a b x y. one_outcome x y;
      step = λ c l x y a b h k. (one_outcome h.answer k.answer, one_outcome h.memory k.memory);
      idle = λ c a b x y. one_outcome x y;
    }

-- what a step is and leaves in the memory, in the statements' terms
plainly :
    {c : Channel} {e : Event} {p : Pusher} {q : Puller} {r : Stepped} {exit memory : List ℕ}
    → (r ≡ leaving c e p q) × (exit ≡ memory)
    → Leaves c p q (values e) r × (exit ≡ memory)
plainly h = (leaves_plainly h.0, h.1)

pub says : Sentences StepsTo
unfolding values
says =
    record {
      refused = λ c l exit n r h f.
          let told = (step_plain_lem c l n).1 f in
          let x = leaves c l exit r h (step_refused c l n told) in
          (rw h.answer told, ap (λ (y : Stepped). y.channel) x.0, x.1);
      stopped = λ c l exit r h k n. plainly (stopped_is c l exit r h k n);
      retry = λ c l exit taken r h k run a e. plainly (retry_is c l exit r h k taken run a e);
      move = λ c l exit said x r h k m t.
          let d = did_event x.did said t in
          rw (sym d.2) (plainly (move_is c l exit r h k x d.0 m d.1));
      submit = λ c l exit after x m taken r h k makes t y. plainly (submit_is c l exit r h k after x m taken makes (did_submit x.did m t) y);
    }

-- whether a channel is well-formed is settled by the test
surely : (c : Channel) → ((WellFormed c → ⊥) → ⊥) → WellFormed c
surely c d = go (well_formed c) refl
  where
    go : (b : Bool) → well_formed c ≡ b → WellFormed c
    go true e = formed c e
    go false e = absurd (d (λ w. false≢true (sym e ∙ unformed c w)))

-- Errors, of a channel that ran.
module _ (c : Channel) (l : Loan) (exit : List ℕ) (r : Stepped) (h : StepsTo c l r exit) (k : Takable c l) (run : Running c) where
  abbrev level : Level
  level = c.setup.setting.level

  -- a step that says error and leaves the memory raises it
  raised :
      {p : Pusher} {q : Puller} {said after : List ℕ}
      → Leaves c p q said r × (exit ≡ after)
      → said ≡ event.number kind.Error ∷ []
      → after ≡ l.puller.semaphores
      → Raises c l r exit
  raised left e m = record { says = left.0.says ∙ e; setup = left.0.channel.setup; memory = left.1 ∙ m }

  -- a step that leaves a pusher error made the move that left it, which says error by itself, so nothing else changes
  pusher_fails :
      (q : Pusher) (n : ℕ)
      → (pusher_record.number r.channel.pusher.error ≡ 0 → ⊥)
      → ((x : Pushed) → Moves c.setup c.pusher l.pusher x → r.channel.pusher ≡ x.pusher → Fails q n x)
      → PusherFails c l q n r exit
  pusher_fails q n fails moved =
      ⊎_elim (λ stays. absurd (fails (ap (λ (p : Pusher). pusher_record.number p.error) stays ∙ run.0)))
      (λ made.
      let f = moved made.0 made.1.move made.2 in
      let left = says.move c l exit _ made.0 r h k made.1 f.did in
      record { raises = raised left refl refl; pusher = rw made.2 f.pusher; puller = left.0.channel.puller })
      (at_most_one_move c l exit r h).1

  abbrev retried : Taken
  retried = retry_of level.number c.puller l.puller.semaphores

  retried_is : c.puller.acquire.active ≡ true → Leaves c c.pusher retried.puller (values retried.event) r × (exit ≡ l.puller.semaphores)
  retried_is a = says.retry c l exit retried r h k run a refl

  -- a retry that fails
  retry_raises :
      {e : PullerError}
      → c.puller.acquire.active ≡ true
      → puller.Fails c.puller e retried
      → Raises c l r exit × (r.channel.pusher ≡ c.pusher) × puller.Failed c.puller e r.channel.puller
  retry_raises a f = let left = retried_is a in (raised left f.event refl, left.0.channel.pusher, rw left.0.channel.puller f.puller)

  -- P20, P21
  module _ (fails : puller_record.number r.channel.puller.error ≡ 0 → ⊥) where
    abbrev pushed : Pushed
    pushed = push_of c.setup c.pusher l.pusher

    abbrev Stopped : Type 0
    Stopped = Raises c l r exit × KeepsAdvance c l r.channel.pusher × PullerFails c l r.channel.puller

    -- the puller that a step leaves has the error
    its_error : {q : Puller} → r.channel.puller ≡ q → puller_record.number q.error ≡ 0 → ⊥
    its_error left z = fails (ap (λ (y : Puller). puller_record.number y.error) left ∙ z)

    -- what it took of a move, and that it failed
    module _ (x : Pushed) (m : Method) (makes : MakesMove c l.pusher x) (t : Tells x.did 2 (method_values m)) where
      abbrev took : Result
      took = take_of level.number c.puller m l.puller

      takes : Takes level c.puller m l.puller took.taken took.memory
      takes = record { answer = refl; memory = refl }

      left_by : Leaves c x.pusher took.taken.puller (values took.taken.event) r × (exit ≡ took.memory)
      left_by = says.submit c l exit took.memory x m took.taken r h k makes t takes

      failed : puller_record.number took.taken.puller.error ≡ 0 → ⊥
      failed = its_error left_by.0.channel.puller

      take_fails : (values took.taken.event ≡ event.number kind.Error ∷ []) × (took.memory ≡ l.puller.semaphores)
      take_fails = (puller_failing.failing).take level c.puller m l.puller took.memory took.taken takes run.1 failed

      take_stays : StoppedBy c.puller m r.channel.puller
      take_stays = rw left_by.0.channel.puller ((puller_failing.failing).stays level c.puller m l.puller took.memory took.taken takes run.1 failed)

    by_take : MakesMove c l.pusher pushed → (d : Did) → pushed.did ≡ d → Stopped
    by_take makes (did.Event e) d =
        let left = says.move c l exit (values e) pushed r h k makes (event_did d) in
        absurd (its_error left.0.channel.puller run.1)
    by_take makes (did.Submit m) d =
        let left = left_by pushed m makes (submit_did d) in
        let f = take_fails pushed m makes (submit_did d) in (
          raised left f.0 f.1,
          record {
            move = λ y made. left.0.channel.pusher ∙ ap (λ (y : Pushed). y.pusher) (sym made.move);
            retry = λ b. absurd (false≢true (sym makes.no_acquire ∙ b));
          },
          record { take = take_stays; retry = λ b. absurd (false≢true (sym makes.no_acquire ∙ b)) },
        )

    take_error : (b : Bool) → c.puller.acquire.active ≡ b → Stopped
    take_error true a =
        let left = retried_is a in
        let f = (puller_failing.failing).retry level c.puller l.puller.semaphores retried refl run.1 (its_error left.0.channel.puller) in
        let raises = retry_raises a f.1 in (
          raises.0,
          record { move = λ y made. absurd (false≢true (sym made.no_acquire ∙ a)); retry = λ b. raises.1 },
          record { take = λ y m made t. absurd (false≢true (sym made.no_acquire ∙ a)); retry = λ b. (f.0, raises.2) },
        )
    take_error false a = by_take (record { running = run; no_acquire = a; move = refl }) pushed.did refl

pub steps : Steps
steps =
    record {
      channel = says;
      pushes = pushes;
      pulls = pulls;
      retrying = retrying;
      looks = looks;
      word_error = λ c l exit q r h k run a b past.
          pusher_fails c l exit r h k run q _ (λ z. omega arith)
          (λ x m left. rw left (failing.word c.setup c.pusher q l.pusher x m run.0 (rw left at a) (rw left at b) past));
      entry_error = λ c l exit i r h k run e rises.
          pusher_fails c l exit r h k run _ 5 (λ z. omega arith)
          (λ x m left. failing.entry c.setup c.pusher l.pusher i x m run.0 (rw left at e) rises);
      protection_error = λ c l exit r h k run e.
          pusher_fails c l exit r h k run _ 6 (λ z. omega arith) (λ x m left. failing.protection c.setup c.pusher l.pusher x m run.0 (rw left at e));
      puller_error = λ c l exit r h k run fails. take_error c l exit r h k run fails c.puller.acquire.active refl;
      retry_past_end = λ c l exit e r h k run a old past.
          retry_raises c l exit r h k run a (retrying.past_end c.setup.setting.level c.puller l.puller.semaphores e _ refl old past);
      long_retry_past_end = λ c l exit r h k run a long past.
          retry_raises c l exit r h k run a (retrying.long_past_end c.setup.setting.level c.puller l.puller.semaphores _ refl long past);
    }

-- No case is left open: at each, the sentence that applies says of R and of `step` the same.
module _ (R : Channel → Loan → Stepped → List ℕ → Type 0) (s : Sentences R) (c : Channel) (l : Loan) (exit : List ℕ) (r : Stepped) (m : R c l r exit) where
  abbrev outcome : Outcome
  outcome = step_of c l

  -- what a sentence says, of whatever relation; no two answers are as it says
  said :
      (Says : Stepped → Type 0) {y : List ℕ}
      → ((a b : Stepped) → Says a → Says b → a ≡ b)
      → ((Q : Channel → Loan → Stepped → List ℕ → Type 0) → Sentences Q → (z : Stepped) (e : List ℕ) → Q c l z e → Says z × (e ≡ y))
      → StepsTo c l r exit
  said Says one f =
      let a = f R s r exit m in
      let b = f StepsTo says outcome.stepped outcome.memory (record { answer = refl; memory = refl }) in
      record { answer = one _ _ a.0 b.0; memory = one_outcome a.1 b.1 }

  said_event :
      {p : Pusher} {q : Puller} (e : Event) {y : List ℕ}
      → ((Q : Channel → Loan → Stepped → List ℕ → Type 0) → Sentences Q → (z : Stepped) (x : List ℕ) → Q c l z x → Leaves c p q (values e) z × (x ≡ y))
      → StepsTo c l r exit
  said_event e f = said (Leaves c _ _ (values e)) (leaves_one e) f

  module _ (k : Takable c l) where
    abbrev made : Pushed
    made = push_of c.setup c.pusher l.pusher

    moves_same : MakesMove c l.pusher made → (d : Did) → made.did ≡ d → StepsTo c l r exit
    moves_same x (did.Event e) d = said_event e (λ Q q z y b. q.move c l y (values e) made z b k x (event_did d))
    moves_same x (did.Submit n) d =
        let o = take_of c.setup.setting.level.number c.puller n l.puller in
        said_event o.taken.event
        (λ Q q z y b. q.submit c l y o.memory made n o.taken z b k x (submit_did d) (record { answer = refl; memory = refl }))

    takes_same : (b : Bool) → c.puller.acquire.active ≡ b → Running c → StepsTo c l r exit
    takes_same true a run = said_event _ (λ Q q z y x. q.retry c l y _ z x k run a refl)
    takes_same false a run = moves_same (record { running = run; no_acquire = a; move = refl }) _ refl

    stops_same : (Running c → ⊥) → StepsTo c l r exit
    unfolding values
    stops_same n = said_event (Plain kind.Stopped) (λ Q q z y x. q.stopped c l y z x k n)

  by_first : (o : Option ℕ) → first (step_cases c l) ≡ o → StepsTo c l r exit
  by_first (some n) e =
      let f = (first_is (step_cases c l) (step_plain c l) (step_agree c l) n).0 e in
      said (λ z. (step_refusal z.answer ≡ some n) × (z.channel ≡ c))
      (λ a b x y. one_outcome (refusing_is c n a x.0 x.1) (refusing_is c n b y.0 y.1))
      (λ Q q z y x. let t = q.refused c l y n z x f in ((t.0, t.1), t.2))
  by_first none e =
      let n = none_of (step_cases c l) (step_plain c l) (step_agree c l) e in
      let over_words : (1048576 < length l.pusher.words → ⊥) = λ b. n.1.0 (inl b) in
      let over_memory : (1048576 < length l.puller.semaphores → ⊥) = λ b. n.1.0 (inr b) in
      let k : Takable c l = record { well_formed = surely c n.0; sizes = record { words = omega arith; semaphores = omega arith; table = n.1.1.0 } } in
      ⊎_elim (takes_same k _ refl) (stops_same k) (whether_running c)

pub no_other : NoOther
no_other R s c l exit r m = by_first R s c l exit r m _ refl

-- STATE comes first in both orders, and no other refusal has its number
put_state : (c : Channel) (n : ℕ) → (put_tells (put_of c n) ≡ some STATE → ⊥) ↔ WellFormed c
put_state c n = (
  λ no. surely c (λ bad. no ((put_plain_lem c n STATE).1 (inl (bad, refl)))),
  λ w e. ⊎_elim (λ x. x.0 w) (λ x. ⊎_elim (λ y. omega (arith, y.1)) (λ y. y.1) x.1) ((put_plain_lem c n STATE).0 e),
)

step_state : (c : Channel) (l : Loan) → (step_tells (step_of c l) ≡ some STATE → ⊥) ↔ WellFormed c
step_state c l = (
  λ no. surely c (λ bad. no ((step_plain_lem c l STATE).1 (inl (bad, refl)))),
  λ w e.
      ⊎_elim (λ x. x.0 w) (λ x. ⊎_elim (λ y. omega (arith, y.1)) (λ y. ⊎_elim (λ z. omega (arith, z.1)) (λ z. z.1) y.1) x.1)
      ((step_plain_lem c l STATE).0 e),
)

later_formed : (c d : Channel) → WellFormed c → Later c d → WellFormed d
later_formed c d w same = w
later_formed c d w (put n r before low h e) = rw (e, h) (put_keeps _ n (later_formed c _ w before) low)
later_formed c d w (step l exit r before lent h e) = rw (e, h.answer) (step_keeps _ l (later_formed c _ w before) lent)

pub kept : Kept
kept =
    record {
      put_state = λ c n r h. rw h (put_state c n);
      step_state = λ c l exit r h. rw h.answer (step_state c l);
      opened = λ level mode order sli mask limit t r low h. rw h (opened_formed level mode order sli mask limit t low);
      later = later_formed;
      never = λ level mode order sli mask limit table r d low h later.
          let w = later_formed r.channel d (rw h (opened_formed level mode order sli mask limit table low)) later in
          (λ n x k e. (put_state d n).1 w (rw k at e), λ l exit x k e. (step_state d l).1 w (rw k.answer at e));
    }
