-- What an accepted map keeps true of the pusher, move by move. Assumes nothing.
use Prim.Native.Nat.{ℕ, ◌+◌, ◌-◌, ◌*◌, ◌/◌, ◌%◌, ◌^◌, ◌≤◌, ◌<◌}
use mathlib.Core.Path.{◌≡◌, refl, sym, ap, ◌∙◌}
use mathlib.Core.Bool.{Bool, true, false, not, false≢true}
use mathlib.Core.List.{List}
use mathlib.Core.Logic.{inl, inr, ⊎_elim}
use native.Mathlib.Nat.{eq-or-lt_of_le}
use native.Mathlib.Omega.{arith}
use lib.ListN.{get_or}
use borrow.Author.Tests.{eqb-true, ne_eqb, not-false}
use Rattle.word.specs.First.{choose}
use Rattle.word.specs.Reading.{number, parameter_count, read_of}
use Rattle.word.specs.Special.{present_of}
use Rattle.word.specs.Promises.{Within}
use Rattle.word.specs.declared.reading.Reading.{Reading}
use Rattle.word.specs.declared.reading.Reading.TheVariants.{Increasing, NonIncreasing, Sli, Return, Long, OldJump, Jump, Call, Reserved, Refused}
use Rattle.word.proofs.First.{by_test, choose_false}
use Rattle.word.proofs.Promises.{widths}
use Rattle.event.specs.declared.Kind.{Kind}
use Rattle.event.specs.declared.Kind.TheVariants as kind
use Rattle.event.specs.declared.Method.{Method}
use Rattle.pusher.specs.Record.{halts, with_get}
use Rattle.pusher.specs.Loan.{PusherLoan, with_words}
use Rattle.pusher.specs.Many.{Submits}
use Rattle.pusher.specs.Moving.{Role, halted, faults, counts, submits, commands, enters, idles, role, quietly, advanced, word_at, method_of, used_up, parameter_of, begun, conditional, jumped, called, returned, commanded, act, push_of}
use Rattle.pusher.specs.declared.record.Setup.{Setup}
use Rattle.pusher.specs.declared.record.Run.{Run}
use Rattle.pusher.specs.declared.record.Subroutine.{Subroutine}
use Rattle.std.specs.declared.option.Option.{Option}
use Rattle.pusher.specs.declared.record.PusherError.{PusherError}
use Rattle.pusher.specs.declared.record.Pusher.{Pusher}
use Rattle.pusher.specs.declared.moving.Pushed.{Pushed}
use Rattle.pusher.proofs.Many.{submits_is}
use Rattle.pusher.proofs.Roles.{Facts, facts}
use Rattle.rules.specs.Map.{main, inside, marked}
use Rattle.rules.specs.Parameters.{methods_of, method_for}
use Rattle.rules.specs.Next.{nexts}
use Rattle.rules.specs.Reason.{reserved?, call?, return?, Submission, size, command_at}
use Rattle.rules.specs.Promises.{Permitted}
use Rattle.rules.specs.declared.parameters.Methods.{Methods}
use Rattle.rules.proofs.Clean.{Good, Fine, fine, Clean}

-- the methods that are left of a run
abbrev left : Run → Methods
left r = record { subchannel = r.subchannel; method = r.method; increasing = r.increasing }

-- the run of a parameter less: its method k is the one after
rest_method : (r : Run) (k : ℕ) → method_for (record { subchannel = r.subchannel; method = choose r.increasing ((r.method + 1) % 2048) r.method; increasing = r.increasing }) k ≡ method_for (left r) (k + 1)
unfolding method_for choose
rest_method r k = go r.increasing
  where
    go : (b : Bool) → choose b ((choose b ((r.method + 1) % 2048) r.method + k) % 2048) (choose b ((r.method + 1) % 2048) r.method) ≡ choose b ((r.method + (k + 1)) % 2048) r.method
    go true = omega arith
    go false = refl

-- the first method of a run is its own
first_method : (r : Run) → r.method < 2048 → method_for (left r) 0 ≡ r.method
unfolding method_for choose
first_method r l = go r.increasing
  where
    go : (b : Bool) → choose b ((r.method + 0) % 2048) r.method ≡ r.method
    go true = omega arith
    go false = refl

module _ (x : Submission) (map : List ℕ) where
  -- The invariant, of a pusher's parts: the read address is at a place, and the command after the parameters that are left starts
  -- at a pair that the map marks, or is the end in main; a subroutine returns to such a place in main; and each parameter that is
  -- left has a method that the level has and the list permits, and is no start.
  pub record Keeps (get put : ℕ) (error : Option PusherError) (run : Run) (sub : Subroutine) : Type 0 where
    pub place : ℕ
    pub address : get ≡ 4 * place
    pub end : put ≡ 4 * size x
    pub running : halts error ≡ false
    pub unawaited : run.awaited ≡ false
    pub next : Good x map (place + run.count) sub.active
    pub home : sub.active ≡ true → (b : ℕ) × (sub.back ≡ 4 * b) × Good x map b main
    pub narrow : (run.count ≡ 0 → ⊥) → run.method < 2048
    pub present : (k : ℕ) → k < run.count → present_of x.setting.level.number (method_for (left run) k) ≡ true
    pub allowed : (k : ℕ) → k < run.count → Permitted x.permit run.subchannel (method_for (left run) k)
    pub bare : (k : ℕ) → k < run.count → get_or map (place + k) 0 ≡ 0

  abbrev pub Inv : Pusher → Type 0
  Inv p = Keeps p.get p.put p.error p.run p.subroutine

  -- what a move leaves
  pub record After (r : Pushed) : Type 0 where
    pub pusher : Inv r.pusher
    pub permitted : (m : Method) → Submits r m → Permitted x.permit m.subchannel (m.method / 4)

  -- the method of the next parameter is permitted
  pub run_permitted : (p : Pusher) → Inv p → (p.run.count ≡ 0 → ⊥) → Permitted x.permit p.run.subchannel p.run.method
  run_permitted p i n = rw (first_method p.run (i.narrow n)) at (i.allowed 0 (omega arith))

  -- what a move says by itself submits nothing
  mute : (p : Pusher) (k : Kind) (m : Method) → Submits (quietly p k) m → ⊥
  mute p k m s = ⊎_elim (λ e. let z : ◌≡◌ {A = ℕ} 0 1 = cc in omega arith) (λ e. let z : ◌≡◌ {A = ℕ} 0 1 = cc in omega arith) (submits_is _ m s)

  quiet_after : (p : Pusher) (k : Kind) → Inv p → After (quietly p k)
  quiet_after p k i = record { pusher = i; permitted = λ m s. absurd (mute p k m s) }

  -- between commands, at a good pair
  between : (p : Pusher) (a q : ℕ) (s : Bool) (b : ℕ) → Inv p → p.run.count ≡ 0 → a ≡ 4 * q → Good x map q s → (s ≡ true → (h : ℕ) × (b ≡ 4 * h) × Good x map h main) → Keeps a p.put p.error p.run (record { active = s; back = b })
  between p a q s b i z e g h =
      record {
        place = q;
        address = e;
        end = i.end;
        running = i.running;
        unawaited = i.unawaited;
        next = let n : q + p.run.count ≡ q = omega arith in rw n g;
        home = h;
        narrow = λ n. absurd (n z);
        present = λ k l. absurd (omega arith);
        allowed = λ k l. absurd (omega arith);
        bare = λ k l. absurd (omega arith);
      }

  module _ (ok : Clean x map) (small : size x ≤ 1048576) where
    -- a command without a reason, at the pusher past its word
    module _ (p : Pusher) (i : Inv p) (z : p.run.count ≡ 0) (f : Fine x map i.place p.subroutine.active) (l : i.place < size x) where
      abbrev past : Pusher
      past = with_get p (p.get + 4)

      -- a run: of no parameters it leaves the one that is used up
      begun_after :
          (c b m : ℕ) (up : Bool)
          → m < 0x2000
          → Good x map (i.place + 1 + c) p.subroutine.active
          → ((k : ℕ) → k < c → present_of x.setting.level.number (method_for (record { subchannel = b; method = m / 4; increasing = up }) k) ≡ true)
          → ((k : ℕ) → k < c → Permitted x.permit b (method_for (record { subchannel = b; method = m / 4; increasing = up }) k))
          → ((k : ℕ) → k < c → get_or map (i.place + 1 + k) 0 ≡ 0)
          → After (begun past c b m up)
      unfolding begun
      begun_after c b m up w g e a n =
          by_test After
          (λ t.
          let n0 : i.place + 1 + c ≡ i.place + 1 = let h = eqb-true c 0 t in omega arith in
          quiet_after past kind.Command (between p (p.get + 4) (i.place + 1) p.subroutine.active p.subroutine.back i z (omega (arith, i.address)) (rw n0 at g) i.home))
          (λ t.
          quiet_after _ kind.Command
          (record {
            place = i.place + 1;
            address = omega (arith, i.address);
            end = i.end;
            running = i.running;
            unawaited = i.unawaited;
            next = g;
            home = i.home;
            narrow = λ h. omega arith;
            present = e;
            allowed = a;
            bare = n;
          }))

      jumped_after : (t : ℕ) → t % 4 ≡ 0 → Good x map (t / 4) p.subroutine.active → After (jumped past t)
      jumped_after t e g = quiet_after _ kind.Command (between p t (t / 4) p.subroutine.active p.subroutine.back i z (omega arith) g i.home)

      command_after : (d : Reading) → d ≡ command_at x i.place → Within d → After (commanded past d)
      unfolding commanded number parameter_count methods_of nexts reserved? call? return? conditional called returned
      command_after (Increasing c b m) e w =
          begun_after c b m true w.2 (f.next _ _ (rw (← e) (inl (refl, refl)))) (rw (← e) at f.present) (rw (← e) at f.allowed) (rw (← e) at f.bare)
      command_after (NonIncreasing c b m) e w =
          begun_after c b m false w.2 (f.next _ _ (rw (← e) (inl (refl, refl)))) (rw (← e) at f.present) (rw (← e) at f.allowed) (rw (← e) at f.bare)
      command_after (Sli k) e w =
          quiet_after _ kind.Command
          (between p (p.get + 4) (i.place + 1) p.subroutine.active p.subroutine.back i z (omega (arith, i.address)) (f.next _ _ (rw (← e) (inl (omega arith, refl)))) i.home)
      command_after Return e w =
          let out : not p.subroutine.active ≡ false = rw (← e) at f.no_return in
          let h = i.home (not-false _ out) in
          by_test After (λ t. absurd (false≢true (sym out ∙ t)))
          (λ t.
          quiet_after _ kind.Command
          (between p p.subroutine.back h.0 main p.subroutine.back i z h.1 h.2 (λ e. absurd (false≢true e))))
      command_after (Long b m c) e w = absurd (false≢true (sym (rw (← e) at f.command)))
      command_after (OldJump t) e w = jumped_after t w.1 (f.next _ _ (rw (← e) (inl (refl, refl))))
      command_after (Jump t) e w = jumped_after t w.1 (f.next _ _ (rw (← e) (inl (refl, refl))))
      command_after (Call t) e w =
          let out : p.subroutine.active ≡ false = rw (← e) at f.no_call in
          by_test After (λ h. absurd (false≢true (sym out ∙ h)))
          (λ h.
          quiet_after _ kind.Command
          (between p t (t / 4) inside ((p.get + 4) % 2 ^ 32) i z (omega arith) (f.next _ _ (rw (← e) (inl (refl, refl))))
          (λ _. (i.place + 1, omega (arith, i.address), f.next _ _ (rw (← e) (inr (inl (refl, refl))))))))
      command_after (Reserved y) e w = absurd (false≢true (sym (rw (← e) at f.command)))
      command_after (Refused r) e w = absurd (false≢true (sym (rw (← e) at f.command)))

    -- a parameter: the run has one less
    used_up_lem : (p : Pusher) (i : Inv p) → (p.run.count ≡ 0 → ⊥) → Inv (used_up (with_get p (p.get + 4)))
    used_up_lem p i n =
        record {
          place = i.place + 1;
          address = omega (arith, i.address);
          end = i.end;
          running = i.running;
          unawaited = i.unawaited;
          next = let e : i.place + 1 + (p.run.count - 1) ≡ i.place + p.run.count = omega arith in rw e i.next;
          home = i.home;
          narrow = λ h. by_test (λ (m : ℕ). m < 2048) (λ t. omega arith) (λ t. i.narrow n);
          present = λ k l. rw (rest_method p.run k) (i.present (k + 1) (omega arith));
          allowed = λ k l. rw (rest_method p.run k) (i.allowed (k + 1) (omega arith));
          bare = λ k l. let e : i.place + 1 + k ≡ i.place + (k + 1) = omega arith in rw e (i.bare (k + 1) (omega arith));
        }

    module _ (s : Setup) (setting : s.setting ≡ x.setting) (style : x.setting.mode.number ≡ 0) (limit : (k : ℕ) → k < size x → 4 * k ≤ s.limit) where
      nv04_style : s.setting.mode.number ≡ 1 → ⊥
      nv04_style e = let h : s.setting.mode.number ≡ 0 = rw setting style in omega arith

      advances : (p : Pusher) → advanced s p ≡ with_get p (p.get + 4)
      unfolding advanced
      advances p = choose_false (rw (ne_eqb _ _ nv04_style)) _ _

      own_permitted : (p : Pusher) (i : Inv p) → (p.run.count ≡ 0 → ⊥) → (w : ℕ) (m : Method) → method_of p w ≡ m → Permitted x.permit m.subchannel (m.method / 4)
      own_permitted p i n w m e = let q : 4 * p.run.method / 4 ≡ p.run.method = omega arith in rw (← e, q) (run_permitted p i n)

      parameter_after : (p : Pusher) (i : Inv p) → (p.run.count ≡ 0 → ⊥) → (w : ℕ) → After (parameter_of s (with_get p (p.get + 4)) w)
      unfolding parameter_of
      parameter_after p i n w =
          let there : present_of s.setting.level.number p.run.method ≡ true =
          rw setting (rw (first_method p.run (i.narrow n)) at (i.present 0 (omega arith))) in
          by_test After (λ t. absurd (false≢true (sym (ap not there) ∙ t)))
          (λ t.
          by_test After
          (λ u.
          record {
            pusher = used_up_lem p i n;
            permitted = λ m h.
                ⊎_elim (λ e. let z : ◌≡◌ {A = ℕ} 0 1 = cc in absurd (omega arith)) (λ e. let q : method_of p w ≡ m = cc in own_permitted p i n w m q) (submits_is _ m h);
          })
          (λ u.
          record {
            pusher = used_up_lem p i n;
            permitted = λ m h.
                ⊎_elim (λ e. let q : method_of p w ≡ m = cc in own_permitted p i n w m q) (λ e. let z : ◌≡◌ {A = ℕ} 0 1 = cc in absurd (omega arith)) (submits_is _ m h);
          }))

      -- a loan of these words, whatever else is in it
      abbrev pub on : PusherLoan → PusherLoan
      on l = with_words l x.words

      -- a place at which a command starts
      pub starts_at : (p : Pusher) (i : Inv p) → p.get / 4 < size x → p.run.count ≡ 0 → (i.place < size x) × (marked map i.place p.subroutine.active ≡ true)
      starts_at p i lent none_left = ⊎_elim (λ g. absurd (omega (arith, i.address))) (λ g. let e : i.place + p.run.count ≡ i.place = omega arith in (omega arith, rw e at g.1)) i.next

      act_after : (p : Pusher) (i : Inv p) (l : PusherLoan) (r : Role) → Facts s p (on l) r → After (act s p (on l) r)
      unfolding act
      act_after p i l halted f = absurd (false≢true (sym i.running ∙ f))
      act_after p i l faults f =
          let most : i.place ≤ size x = ⊎_elim (λ g. omega arith) (λ g. omega arith) i.next in
          ⊎_elim
          (λ g.
          let a = i.address in
          let e = i.end in
          let n = g.0 in
          let m : i.place < size x = ⊎_elim (λ q. absurd (n (omega arith))) (λ m. m) (eq-or-lt_of_le most) in
          let b = limit i.place m in
          ⊎_elim (λ h. absurd (omega arith)) (λ h. absurd (omega arith)) g.1)
          (λ g. absurd (nv04_style g.0.ib))
          f.1
      act_after p i l counts f = absurd (false≢true (sym i.unawaited ∙ f.2))
      act_after p i l submits f = rw (advances p) (parameter_after p i f.3 (word_at p x.words))
      act_after p i l commands f =
          let at = starts_at p i f.1.lent f.3 in
          let here : p.get / 4 ≡ i.place = omega (arith, i.address) in
          let d = read_of s.setting (word_at p x.words) 0 in
          rw (advances p)
          (command_after p i f.3 (fine x map i.place p.subroutine.active (ok.quiet _ _ at.0 at.1)) at.0 d (rw (setting, here)) (widths s.setting (word_at p x.words) 0 d refl))
      act_after p i l enters f = absurd (nv04_style f.1.ib)
      act_after p i l idles f = quiet_after p kind.Idle i

      pub after : (p : Pusher) → Inv p → (l : PusherLoan) → After (push_of s p (on l))
      unfolding push_of
      after p i l = act_after p i l (role s p (on l)) (facts s p (on l))
