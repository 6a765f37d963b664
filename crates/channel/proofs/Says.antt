-- What a step says by what it is about to do; and, of a command, a method and idle, that nothing else says it. Assumes nothing.
use Prim.Native.Nat.{ℕ, ◌*◌}
use mathlib.Core.Path.{◌≡◌, refl, sym, ap, ◌∙◌}
use mathlib.Core.Bool.{false}
use mathlib.Core.List.{List}
use mathlib.Core.Logic.{◌⊎◌, inl, inr, ⊎_elim}
use mathlib.Core.Option.{Option, none, some}
use native.Mathlib.Omega.{arith}
use lib.Dec.{eqb}
use Rattle.word.specs.First.{choose}
use Rattle.word.specs.Reading.{read_of}
use Rattle.word.specs.declared.reading.Reading.{Reading}
use Rattle.word.specs.declared.reading.Reading.TheVariants.{Increasing, NonIncreasing, Sli, Return, Long, OldJump, Jump, Call, Reserved, Refused}
use Rattle.word.proofs.First.{by_test, choose_false}
use Rattle.event.specs.Event.{number}
use Rattle.event.specs.declared.Kind.{Kind}
use Rattle.event.specs.declared.Kind.TheVariants as kind
use Rattle.event.specs.declared.Method.{Method}
use Rattle.event.specs.declared.Event.{Event}
use Rattle.event.specs.declared.Event.TheVariants.{Plain, Of}
use Rattle.puller.specs.Taking.{retry_of}
use Rattle.puller.specs.declared.record.Puller.{Puller}
use Rattle.puller.specs.declared.taking.Taken.{Taken}
use Rattle.puller.proofs.Ways.{by_retry}
use Rattle.puller.proofs.Telling.{Tells, told, takes_tell}
use Rattle.pusher.specs.Record as pusher_record
use Rattle.pusher.specs.Moving as pusher
use Rattle.pusher.specs.declared.record.Setup.{Setup}
use Rattle.pusher.specs.declared.record.Pusher.{Pusher}
use Rattle.pusher.specs.declared.moving.Pushed.{Pushed}
use Rattle.channel.specs.Loan.{Loan}
use Rattle.channel.specs.Answers.{step_refusal}
use Rattle.channel.specs.Stepping.{Outcome, Effect, Role, halted, retries, moves, role, finished, act, acted_on, acting, step_of}
use Rattle.channel.specs.Outcomes.{StepsTo}
use Rattle.channel.specs.declared.record.Channel.{Channel}
use Rattle.std.specs.declared.result.Result.TheVariants.{Ok}
use Rattle.channel.specs.declared.stepping.Stepped.{Stepped}
use Rattle.channel.proofs.ByRole.{step_tells, taken, GoesOn}

-- the role of the pusher's move that alone says an event, where one does
unfoldable pub only : Event → Option pusher.Role
only (Plain k) = choose (eqb (number k) (number kind.Command)) (some pusher.commands) (choose (eqb (number k) (number kind.Idle)) (some pusher.idles) none)
only (Of k m) = some pusher.submits

pub only_command : only (Plain kind.Command) ≡ some pusher.commands
unfolding only number choose
only_command = refl

pub only_idle : only (Plain kind.Idle) ≡ some pusher.idles
unfolding only number choose
only_idle = refl

pub only_method : (k : Kind) (m : Method) → only (Of k m) ≡ some pusher.submits
unfolding only
only_method k m = refl

-- of what r says: where some role alone says it, that is r
abbrev Own : pusher.Role → Option pusher.Role → Type 0
Own r o = (x : pusher.Role) → o ≡ some x → r ≡ x

its_own : {r : pusher.Role} {o : Option pusher.Role} → o ≡ some r → Own r o
its_own h x f = cc

-- a kind with another number than a command's and idle's
shared : (k : Kind) → eqb (number k) (number kind.Command) ≡ false → eqb (number k) (number kind.Idle) ≡ false → only (Plain k) ≡ none
unfolding only
shared k a b = choose_false a _ _ ∙ choose_false b _ _

nobody : {o : Option pusher.Role} {x : pusher.Role} → o ≡ none → o ≡ some x → ⊥
nobody h f = let z : ◌≡◌ {A = ℕ} 0 1 = cc in omega arith

no_own : {r : pusher.Role} {o : Option pusher.Role} → o ≡ none → Own r o
no_own h x f = absurd (nobody h f)

shared_error : only (Plain kind.Error) ≡ none
unfolding number
shared_error = shared kind.Error refl refl

-- a command, or an error of the pusher
abbrev pub Commanded : Effect → Type 0
Commanded x = (x.acted.event ≡ Plain kind.Command) ⊎ ((x.acted.event ≡ Plain kind.Error) × (pusher_record.number x.acted.pusher.error ≡ 0 → ⊥))

module _ (s : Setup) (p : Pusher) (q : Puller) (l : Loan) where
  -- the pusher's move in a role, and what the step makes of it
  abbrev pub moving : pusher.Role → Pushed
  moving r = pusher.act s p l.pusher r

  abbrev pub left : Pushed → Effect
  left x = finished s.setting.level x.pusher q x.did l.puller

  abbrev Left : Pushed → Type 0
  Left x = Commanded (left x)

  commanded : (p : Pusher) (d : Reading) → Left (pusher.commanded p d)
  unfolding pusher.commanded pusher.begun pusher.conditional pusher.called pusher.returned finished pusher_record.number
  commanded p (Increasing n b m) = by_test Left (λ e. inl refl) (λ e. inl refl)
  commanded p (NonIncreasing n b m) = by_test Left (λ e. inl refl) (λ e. inl refl)
  commanded p (Sli k) = inl refl
  commanded p Return = by_test Left (λ e. inr (refl, λ z. omega arith)) (λ e. inl refl)
  commanded p (Long b m n) = inl refl
  commanded p (OldJump a) = inl refl
  commanded p (Jump a) = inl refl
  commanded p (Call a) = by_test Left (λ e. inr (refl, λ z. omega arith)) (λ e. inl refl)
  commanded p (Reserved y) = inr (refl, λ z. omega arith)
  commanded p (Refused n) = inr (refl, λ z. omega arith)

  pub says_command : Commanded (left (moving pusher.commands))
  unfolding pusher.act
  says_command = commanded (pusher.advanced s p) (read_of s.setting (pusher.word_at p l.pusher.words) 0)

  -- a parameter tells the method of the run under way, which is that of the pusher past the word, or that it failed
  abbrev pub method : Method
  method = record { subchannel = p.run.subchannel; method = 4 * p.run.method; parameter = 0 }

  advanced_run : (pusher.advanced s p).run ≡ p.run
  unfolding pusher.advanced
  advanced_run = by_test (λ (x : Pusher). x.run ≡ p.run) (λ e. refl) (λ e. refl)

  run_tells : (a : Pusher) (w : ℕ) (e : Event) → a.run ≡ p.run → Tells (pusher.method_of a w) e → Tells method e
  run_tells a w e same h = rw same at h

  parameter : (a : Pusher) (w : ℕ) → a.run ≡ p.run → Tells method (left (pusher.parameter_of s a w)).acted.event
  unfolding pusher.parameter_of finished
  parameter a w same =
      let P : Pushed → Type 0 = λ x. Tells method (left x).acted.event in
      by_test P (λ f. inl refl)
      (λ f.
      by_test P (λ g. run_tells a w _ same (told (pusher.method_of a w) kind.Discard w))
      (λ g. run_tells a w _ same (takes_tell s.setting.level.number q (pusher.method_of a w) l.puller)))

  pub says_method : Tells method (left (moving pusher.submits)).acted.event
  unfolding pusher.act
  says_method = parameter (pusher.advanced s p) (pusher.word_at p l.pusher.words) advanced_run

  -- every role's event is its own, or shared
  abbrev Says : pusher.Role → Pushed → Type 0
  Says r x = Own r (only (left x).acted.event)

  own : (r : pusher.Role) → Says r (moving r)
  unfolding pusher.act finished pusher.counted pusher.entered number
  own pusher.halted = no_own (shared kind.Stopped refl refl)
  own pusher.faults = no_own shared_error
  own pusher.counts = no_own (shared kind.Count refl refl)
  own pusher.submits = ⊎_elim (λ h. no_own (ap only h ∙ shared_error)) (λ h. its_own (ap only h.2 ∙ only_method _ _)) says_method
  own pusher.commands = ⊎_elim (λ h. its_own (ap only h ∙ only_command)) (λ h. no_own (ap only h.0 ∙ shared_error)) says_command
  own pusher.enters = by_test (Says pusher.enters) (λ e. no_own shared_error) (λ e. no_own (shared kind.Entry refl refl))
  own pusher.idles = its_own only_idle

  pub says_idle : (left (moving pusher.idles)).acted.event ≡ Plain kind.Idle
  unfolding pusher.act finished
  says_idle = refl

  -- a retry's is shared
  retry_shared : (sems : List ℕ) → only (retry_of s.setting.level.number q sems).event ≡ none
  unfolding number
  retry_shared sems = by_retry (λ (t : Taken). only t.event ≡ none) s.setting.level.number q sems shared_error (shared kind.Acquire refl refl) (shared kind.Wait refl refl)

  -- what is done where the step goes on to the pusher's move
  move_as : {r : pusher.Role} → pusher.role s p l.pusher ≡ r → act s p q l moves ≡ left (moving r)
  unfolding act pusher.push_of
  move_as e = rw e

  -- so an event that a role of the pusher's alone says is said by a move in that role
  act_own : (y : Role) (x : pusher.Role) → only (act s p q l y).acted.event ≡ some x → (y ≡ moves) × (pusher.role s p l.pusher ≡ x)
  unfolding act number pusher.push_of
  act_own halted x h = absurd (nobody (shared kind.Stopped refl refl) h)
  act_own retries x h = absurd (nobody (retry_shared l.puller.semaphores) h)
  act_own moves x h = (refl, own (pusher.role s p l.pusher) x h)

-- And of a step.
module _ (c : Channel) (l : Loan) where
  -- one that goes on, by the role of the pusher's move
  abbrev pub going : pusher.Role → Effect
  going x = left c.setup c.pusher c.puller l (moving c.setup c.pusher c.puller l x)

  pub goes_as : {x : pusher.Role} → step_tells (step_of c l) ≡ none → GoesOn c → pusher.role c.setup c.pusher l.pusher ≡ x → step_of c l ≡ acted_on c (going x)
  goes_as t g e = taken c l t ∙ ap (acting c l) g ∙ ap (acted_on c) (move_as c.setup c.pusher c.puller l e)

  -- and one that says what a role of the pusher's alone says: it goes on, in that role
  abbrev acts : Effect
  acts = act c.setup c.pusher c.puller l (role c.pusher c.puller)

  pub said_by :
      (exit : List ℕ) (r : Stepped)
      → StepsTo c l r exit
      → (e : Event) (x : pusher.Role)
      → r.answer ≡ Ok e
      → only e ≡ some x
      → GoesOn c × (pusher.role c.setup c.pusher l.pusher ≡ x)
  unfolding step_refusal
  said_by exit r m e x a o =
      let said : (step_of c l).stepped.answer ≡ Ok e = ap (λ (y : Stepped). y.answer) (sym m.answer) ∙ a in
      let done : Ok acts.acted.event ≡ Ok e = ap (λ (y : Outcome). y.stepped.answer) (sym (taken c l (ap step_refusal said))) ∙ said in
      let same : acts.acted.event ≡ e = cc in
      act_own c.setup c.pusher c.puller l (role c.pusher c.puller) x (ap only same ∙ o)
