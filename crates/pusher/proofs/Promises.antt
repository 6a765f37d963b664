-- The promises about a move of the pusher, each under its name in specs/Promises.antt. Assumes nothing.
use Prim.Native.Nat.{ℕ, ◌+◌, ◌*◌, ◌/◌, ◌%◌, ◌^◌, ◌<◌}
use mathlib.Core.Path.{◌≡◌, refl, sym, ap, ◌∙◌}
use mathlib.Core.Bool.{Bool, true, false, not, false≢true}
use mathlib.Core.List.{List, [], ◌∷◌}
use mathlib.Core.Logic.{inl, inr, ⊎_elim, ◌↔◌}
use mathlib.Core.Option.{Option}
use native.Mathlib.Omega.{arith}
use lib.Bits.{bit_and}
use lib.Dec.{eqb, ltb, leb}
use lib.ListN.{length, get_or}
use borrow.Author.Tests.{eqb-true, eqb-false, leb-true, leb-false, lt-ltb, le-ltb}
use Rattle.std.specs.Prelude.{Some}
use Rattle.std.proofs.lemmas.Bool.Decides.{nat_tests}
use Rattle.word.specs.First.{choose}
use Rattle.word.specs.Parts.{numbers_in}
use Rattle.word.specs.Special.{present_of}
use Rattle.word.specs.Reading as reading
use Rattle.word.specs.Promises.{Within}
use Rattle.word.specs.declared.reading.Reading.{Reading}
use Rattle.word.specs.declared.reading.Reading.TheVariants.{Increasing, NonIncreasing, Sli, Return, Long, OldJump, Jump, Call, Reserved, Refused}
use Rattle.word.proofs.First.{one_outcome, choose_true, choose_false}
use Rattle.word.proofs.Promises.{widths}
use Rattle.event.specs.declared.Kind.TheVariants as kind
use Rattle.pusher.specs.Loan.{PusherLoan}
use Rattle.pusher.specs.Record.{number, with_run, with_count, with_awaited}
use Rattle.pusher.specs.Entry.{parts, entry_of}
use Rattle.pusher.specs.Moving.{halted, faults, idles, beyond, act, push_of, advanced, counted, quietly, commanded, begun, conditional, called, returned}
use Rattle.pusher.specs.Outcomes.{Moves}
use Rattle.pusher.specs.Promises.{Running, ReadsWord, ReadsCommand, IsWord, ParameterRead, CommandRead, Share, EntryNext, EntryRead, size_in, Leaves, Fails, Reserves, Sentences, Pushes, NoOther, Errors, Setters, Lends, One, EntryNumbers}
use Rattle.pusher.specs.declared.record.Setup.{Setup}
use Rattle.pusher.specs.declared.record.Run.{Run}
use Rattle.pusher.specs.declared.record.PusherError.TheVariants as cause
use Rattle.pusher.specs.declared.record.Pusher.{Pusher}
use Rattle.pusher.specs.declared.moving.Pushed.{Pushed}
use Rattle.pusher.proofs.Roles.{missing, readable, no_word, past_entries, when_halted, when_words, without_ib, without_entries, when_entries}
use Rattle.pusher.proofs.Share.{share}
use Rattle.pusher.proofs.Outcomes.{says_of, discards_of, hands_over_of, fails_of, reserved_is, refused_is, leaves_one, fails_one, reserves_one}
use Rattle.pusher.proofs.Sentences.{runs, stands, past_of, keeps, by_role, count_is, parameter_is, reading_is, command_is, non_cache_is, discard_is, submit_is, taken, rises_of, used_up_is, entry_is, empty_is, not_main_is, main_is}
use Rattle.pusher.proofs.Told.{error_stands, error_why}

counted_is : (q : Pusher) (r : Run) (w : ℕ) → q.run ≡ r → counted q w ≡ quietly (with_run q (with_awaited (with_count r (w % 2 ^ 24)) false)) kind.Count
unfolding counted
counted_is q r w e = let low : w / 2 ^ 0 % 2 ^ 24 ≡ w % 2 ^ 24 = omega arith in rw (e, low)

-- what commands do
begun_nothing : (q : Pusher) (b m : ℕ) (up : Bool) → begun q 0 b m up ≡ quietly q kind.Command
unfolding begun choose
begun_nothing q b m up = refl

begun_some : (q : Pusher) (r : Run) (c b n : ℕ) (up : Bool) → q.run ≡ r → r.awaited ≡ false → (c ≡ 0 → ⊥) → begun q c b (4 * n) up ≡ quietly (with_run q (record { count = c; method = n; subchannel = b; increasing = up; awaited = false })) kind.Command
unfolding begun choose
begun_some q r c b n up e a some = grind (arith, nat_tests)

long_is : (q : Pusher) (r : Run) (b n c : ℕ) → q.run ≡ r → r.count ≡ 0 → commanded q (Long b (4 * n) c) ≡ quietly (with_run q (record { count = 0; method = n; subchannel = b; increasing = false; awaited = true })) kind.Command
unfolding commanded
long_is q r b n c e z = grind arith

-- the flag that says whether the masks share a set bit
flag_of : (k mask : ℕ) → not (eqb (bit_and k mask) 0) ≡ true ↔ Share k mask
flag_of k mask = (λ e. (share k mask).0 (grind (arith, nat_tests)), λ x. grind (arith, nat_tests, (share k mask).1 x))

flag_is : (k mask : ℕ) (active : Bool) → active ≡ true ↔ Share k mask → not (eqb (bit_and k mask) 0) ≡ active
flag_is k mask active h = grind (arith, nat_tests, share k mask)

pub pushes : Pushes
unfolding act commanded conditional called returned number reading.number reading.values
pushes =
    record {
      stopped = λ s p l r m h. says_of kind.Stopped (m ∙ by_role s p l halted (when_halted s p l (stands p.error h)));
      idle = λ s p l r m run e h.
          let go = runs p.error run in
          says_of kind.Idle (m ∙ by_role s p l idles (⊎_elim (without_ib s p l go e) (without_entries s p l go e) h));
      protection = λ s p l r m run n h. fails_of (Some cause.Protection) (m ∙ by_role s p l faults (when_words s p l (runs p.error run) n ∙ no_word s p l.words h));
      count = λ s p q l w r m rd e past.
          says_of kind.Count (m ∙ count_is s p l q w rd e past ∙ counted_is q p.run w (keeps s p q past).run);
      non_cache = λ s p q l w r m rd no.
          fails_of (Some cause.NonCache) (m ∙ parameter_is s p l q w rd ∙ non_cache_is s q w (rw (keeps s p q rd.past).run (sym no)));
      discard = λ s p q l w n r m rd ri yes on off.
          let k = keeps s p q rd.past in
          discards_of
          (m ∙ parameter_is s p l q w rd
          ∙ discard_is s q w (rw k.run (sym yes)) on (rw k.sli off)
          ∙ rw (used_up_is q p.run n k.run ri, k.run));
      submit = λ s p q l w n r m rd ri yes on.
          let k = keeps s p q rd.past in
          hands_over_of
          (m ∙ parameter_is s p l q w rd
          ∙ submit_is s q w (rw k.run (sym yes)) (rw k.sli (taken s.setting.sli p.sli.active on))
          ∙ rw (used_up_is q p.run n k.run ri, k.run));
      nothing = λ s p q l k b n r m rd h.
          says_of kind.Command
          (m
          ∙ ⊎_elim (λ e. command_is s p l q (Increasing 0 b n) rd (sym e) refl (λ z. omega arith) ∙ begun_nothing q b n true)
          (λ e. command_is s p l q (NonIncreasing 0 b n) rd (sym e) refl (λ z. omega arith) ∙ begun_nothing q b n false)
          h);
      increasing = λ s p q l c b n r m rd some.
          says_of kind.Command
          (m ∙ command_is s p l q (Increasing c b (4 * n)) rd refl refl (λ z. omega arith) ∙ begun_some q p.run c b n true (keeps s p q rd.past).run rd.read.unawaited some);
      non_increasing = λ s p q l c b n r m rd some.
          says_of kind.Command
          (m ∙ command_is s p l q (NonIncreasing c b (4 * n)) rd refl refl (λ z. omega arith) ∙ begun_some q p.run c b n false (keeps s p q rd.past).run rd.read.unawaited some);
      long = λ s p q l b n c r m rd.
          says_of kind.Command (m ∙ command_is s p l q (Long b (4 * n) c) rd refl refl (λ z. omega arith) ∙ long_is q p.run b n c (keeps s p q rd.past).run rd.read.none_left);
      sli = λ s p q l mask active r m rd h.
          says_of kind.Command (m ∙ command_is s p l q (Sli mask) rd refl refl (λ z. omega arith) ∙ rw ((keeps s p q rd.past).sli, flag_is mask p.sli.mask active h));
      jump = λ s p q l k t r m rd h.
          says_of kind.Command (m ∙ ⊎_elim (λ e. command_is s p l q (OldJump t) rd (sym e) refl (λ z. omega arith)) (λ e. command_is s p l q (Jump t) rd (sym e) refl (λ z. omega arith)) h);
      call = λ s p q l t r m rd off.
          let k = keeps s p q rd.past in
          says_of kind.Command (m ∙ command_is s p l q (Call t) rd refl refl (λ z. omega arith) ∙ choose_false (rw k.subroutine off) _ _ ∙ rw k.get);
      call_inside = λ s p q l t r m rd on.
          fails_of (Some cause.Call) (m ∙ command_is s p l q (Call t) rd refl refl (λ z. omega arith) ∙ choose_true (rw (keeps s p q rd.past).subroutine on) _ _);
      return = λ s p q l r m rd on.
          let k = keeps s p q rd.past in
          says_of kind.Command (m ∙ command_is s p l q Return rd refl refl (λ z. omega arith) ∙ choose_false (rw (k.subroutine, on)) _ _ ∙ rw k.subroutine);
      return_outside = λ s p q l r m rd off.
          fails_of (Some cause.Return) (m ∙ command_is s p l q Return rd refl refl (λ z. omega arith) ∙ choose_true (rw ((keeps s p q rd.past).subroutine, off)) _ _);
      reserved = λ s p q l ns r m rd. reserved_is q rd.command (m ∙ reading_is s p l q rd) rd.number;
      refused = λ s p q l ns r m rd. refused_is q rd.command (m ∙ reading_is s p l q rd) rd.number;
      no_entry = λ s p l r m nx h.
          fails_of (Some cause.Protection)
          (m
          ∙ by_role s p l faults
          (when_entries s p l (runs p.error nx.running) nx.equal nx.ib nx.unequal ∙ past_entries p l.entries h));
      empty_entry = λ s p l e i r m rd z. fails_of (Some cause.Ib) (m ∙ entry_is s p l e i rd ∙ empty_is _ e z);
      entry_not_main = λ s p l e i r m rd some b. says_of kind.Entry (m ∙ entry_is s p l e i rd ∙ not_main_is _ e some b);
      entry_main = λ s p l e i r m rd some b. says_of kind.Entry (m ∙ entry_is s p l e i rd ∙ main_is _ e some b);
    }

-- No case is left open: at each, the sentence that applies says of R and of `push` the same.
module _ (R : Setup → Pusher → PusherLoan → Pushed → Type 0) (h : Sentences R) (s : Setup) (p : Pusher) (l : PusherLoan) (r : Pushed) (m : R s p l r) where
  -- what a sentence says, of whatever relation: what the move leaves, or how it fails
  says : {o : Pusher} {k : ℕ} {said : List ℕ} → ((Q : Setup → Pusher → PusherLoan → Pushed → Type 0) → Sentences Q → (y : Pushed) → Q s p l y → Leaves o k said y) → Moves s p l r
  says f = leaves_one r (push_of s p l) (f R h r m) (f Moves pushes (push_of s p l) refl)

  fails : {o : Pusher} {n : ℕ} → (n ≡ 4 → ⊥) → ((Q : Setup → Pusher → PusherLoan → Pushed → Type 0) → Sentences Q → (y : Pushed) → Q s p l y → Fails o n y) → Moves s p l r
  fails k f = fails_one r (push_of s p l) k (f R h r m) (f Moves pushes (push_of s p l) refl)

  reserves : {o : Pusher} {k : Option ℕ} → ((Q : Setup → Pusher → PusherLoan → Pushed → Type 0) → Sentences Q → (y : Pushed) → Q s p l y → Reserves o k y) → Moves s p l r
  reserves f = reserves_one r (push_of s p l) (f R h r m) (f Moves pushes (push_of s p l) refl)

  abbrev q : Pusher
  q = advanced s p

  -- a parameter
  parameter : (w : ℕ) → ParameterRead s p q l w → Moves s p l r
  parameter w rd = go (present_of s.setting.level.number p.run.method) s.setting.sli p.sli.active refl refl refl
    where
      go :
          (has on active : Bool)
          → present_of s.setting.level.number p.run.method ≡ has
          → s.setting.sli ≡ on
          → p.sli.active ≡ active
          → Moves s p l r
      go false on active e f g = fails (λ e. omega arith) (λ Q k y a. k.non_cache s p q l w y a rd (sym e))
      go true false active e f g = says (λ Q k y a. k.submit s p q l w _ y a rd (rises_of p.run) (sym e) (inl f))
      go true true true e f g = says (λ Q k y a. k.submit s p q l w _ y a rd (rises_of p.run) (sym e) (inr g))
      go true true false e f g = says (λ Q k y a. k.discard s p q l w _ y a rd (rises_of p.run) (sym e) f g)

  -- a command, by what it reads as; a method is 4 times its number
  module _ (w : ℕ) (is_word : IsWord p l w) (rd : ReadsCommand s p l) where
    reading_of : (x : Reading) {k : ℕ} {ns : List ℕ} → x ≡ reading.read_of s.setting w 0 → reading.number x ≡ k → reading.values x ≡ ns → CommandRead s p q l k ns
    reading_of x e n v = record { read = rd; past = past_of s p; word = w; is_word = is_word; command = x; reads = e; number = n; values = v }

    -- a run, of either kind, by whether its count is 0
    by_count : (c : ℕ) → (c ≡ 0 → Moves s p l r) → ((c ≡ 0 → ⊥) → Moves s p l r) → Moves s p l r
    by_count c empty filled = go (eqb c 0) refl
      where
        go : (z : Bool) → eqb c 0 ≡ z → Moves s p l r
        go true z = empty (eqb-true c 0 z)
        go false z = filled (eqb-false c 0 z)

    -- by whether a subroutine is active
    by_active : (p.subroutine.active ≡ true → Moves s p l r) → (p.subroutine.active ≡ false → Moves s p l r) → Moves s p l r
    by_active inside outside = go p.subroutine.active refl
      where
        go : (a : Bool) → p.subroutine.active ≡ a → Moves s p l r
        go true a = inside a
        go false a = outside a

    command : (x : Reading) → x ≡ reading.read_of s.setting w 0 → Within x → Moves s p l r
    unfolding reading.number reading.values
    command (Increasing c b n) e wi =
        let four : n ≡ 4 * (n / 4) = omega (arith, wi.3) in
        by_count c (λ z. says (λ Q k y a. k.nothing s p q l 1 b n y a (reading_of _ e refl (ap (λ (i : ℕ). i ∷ b ∷ n ∷ []) z)) (inl refl)))
        (λ z. says (λ Q k y a. k.increasing s p q l c b (n / 4) y a (reading_of _ e refl (ap (λ (i : ℕ). c ∷ b ∷ i ∷ []) four)) z))
    command (NonIncreasing c b n) e wi =
        let four : n ≡ 4 * (n / 4) = omega (arith, wi.3) in
        by_count c (λ z. says (λ Q k y a. k.nothing s p q l 2 b n y a (reading_of _ e refl (ap (λ (i : ℕ). i ∷ b ∷ n ∷ []) z)) (inr refl)))
        (λ z. says (λ Q k y a. k.non_increasing s p q l c b (n / 4) y a (reading_of _ e refl (ap (λ (i : ℕ). c ∷ b ∷ i ∷ []) four)) z))
    command (Sli i) e wi = says (λ Q k y a. k.sli s p q l i _ y a (reading_of _ e refl refl) (flag_of i p.sli.mask))
    command Return e wi =
        by_active (λ on. says (λ Q k y a. k.return s p q l y a (reading_of _ e refl refl) on))
        (λ off. fails (λ e. omega arith) (λ Q k y a. k.return_outside s p q l y a (reading_of _ e refl refl) off))
    command (Long b n c) e wi =
        let four : n ≡ 4 * (n / 4) = omega (arith, wi.2) in
        says (λ Q k y a. k.long s p q l b (n / 4) c y a (reading_of _ e refl (ap (λ (i : ℕ). b ∷ i ∷ c ∷ []) four)))
    command (OldJump t) e wi = says (λ Q k y a. k.jump s p q l 6 t y a (reading_of _ e refl refl) (inl refl))
    command (Jump t) e wi = says (λ Q k y a. k.jump s p q l 7 t y a (reading_of _ e refl refl) (inr refl))
    command (Call t) e wi =
        by_active (λ on. fails (λ e. omega arith) (λ Q k y a. k.call_inside s p q l t y a (reading_of _ e refl refl) on))
        (λ off. says (λ Q k y a. k.call s p q l t y a (reading_of _ e refl refl) off))
    command (Reserved z) e wi = reserves (λ Q k y a. k.reserved s p q l _ y a (reading_of _ e refl refl))
    command (Refused n) e wi = reserves (λ Q k y a. k.refused s p q l _ y a (reading_of _ e refl refl))

  -- a word, by whether a count is awaited and whether parameters are left
  word : ReadsWord s p l → Moves s p l r
  word rd = go p.run.awaited (eqb p.run.count 0) refl refl
    where
      go : (a z : Bool) → p.run.awaited ≡ a → eqb p.run.count 0 ≡ z → Moves s p l r
      go true z e f = says (λ Q k y a. k.count s p q l _ y a (record { word = rd; awaited = e }) refl (past_of s p))
      go false true e f =
          command _ refl (record { word = rd; unawaited = e; none_left = eqb-true _ _ f }) _ refl (widths s.setting _ 0 _ refl)
      go false false e f =
          parameter _ (record { read = record { word = rd; unawaited = e; left = eqb-false _ _ f }; word = refl; past = past_of s p })

  unread : Running p → (p.get ≡ p.put → ⊥) → Moves s p l r
  unread run n = go (beyond s p l.words) refl
    where
      go : (b : Bool) → beyond s p l.words ≡ b → Moves s p l r
      go true e = fails (λ e. omega arith) (λ Q k y a. k.protection s p l y a run n ((missing s p l.words).0 e))
      go false e = let at = (readable s p l.words).0 e in word (record { running = run; unequal = n; limit = at.0; lent = at.1 })

  -- an entry
  entry : EntryNext s p → Moves s p l r
  entry nx = go (leb (length l.entries) p.ib.get) refl
    where
      e : ℕ
      e = get_or l.entries p.ib.get 0

      i : ℕ
      i = (p.ib.get + 1) % 2 ^ choose (ltb 12 s.order) 12 s.order

      rd : p.ib.get < length l.entries → EntryRead s p l e i
      rd lent =
          record {
            next = nx;
            lent = lent;
            entry = refl;
            rises = record { within = λ o. rw (choose_false (le-ltb 12 s.order o) 12 s.order); over = λ o. rw (choose_true (lt-ltb 12 s.order o) 12 s.order) };
          }

      there : p.ib.get < length l.entries → (a b : Bool) → eqb (size_in e) 0 ≡ a → eqb (e / 2 ^ 41 % 2) 1 ≡ b → Moves s p l r
      there lent true b z f = fails (λ e. omega arith) (λ Q k y a. k.empty_entry s p l e i y a (rd lent) (eqb-true _ _ z))
      there lent false true z f = says (λ Q k y a. k.entry_not_main s p l e i y a (rd lent) (eqb-false _ _ z) (eqb-true _ _ f))
      there lent false false z f =
          let n = eqb-false (e / 2 ^ 41 % 2) 1 f in
          let o : e / 2 ^ 41 % 2 ≡ 0 = omega arith in
          says (λ Q k y a. k.entry_main s p l e i y a (rd lent) (eqb-false _ _ z) o)

      go : (b : Bool) → leb (length l.entries) p.ib.get ≡ b → Moves s p l r
      go true f = fails (λ e. omega arith) (λ Q k y a. k.no_entry s p l y a nx (leb-true _ _ f))
      go false f = there (leb-false _ _ f) _ _ refl refl

  moved :
      (a b c d : Bool)
      → eqb (number p.error) 0 ≡ a
      → eqb p.get p.put ≡ b
      → eqb s.setting.mode.number 1 ≡ c
      → eqb p.ib.get p.ib.put ≡ d
      → Moves s p l r
  moved false b c d e f g i = says (λ Q k y a. k.stopped s p l y a (eqb-false _ _ e))
  moved true false c d e f g i = unread (eqb-true _ _ e) (eqb-false _ _ f)
  moved true true false d e f g i = says (λ Q k y a. k.idle s p l y a (eqb-true _ _ e) (eqb-true _ _ f) (inl (eqb-false s.setting.mode.number 1 g)))
  moved true true true true e f g i = says (λ Q k y a. k.idle s p l y a (eqb-true _ _ e) (eqb-true _ _ f) (inr (eqb-true p.ib.get p.ib.put i)))
  moved true true true false e f g i = entry (record { running = eqb-true _ _ e; equal = eqb-true _ _ f; ib = eqb-true _ _ g; unequal = eqb-false _ _ i })

pub no_other : NoOther
no_other R h s p l r m = moved R h s p l r m _ _ _ _ refl refl refl refl

pub errors : Errors
errors =
    record {
      numbers = error_stands;
      whys = error_why;
      stopped = λ p a h. (λ on run. false≢true (sym (runs p.error run) ∙ sym h ∙ on), λ n. h ∙ stands p.error n);
    }

pub setters : Setters
setters =
    record {
      get = λ p a. refl;
      put = λ p a. refl;
      run = λ p r. refl;
      count = λ r c. refl;
      method = λ r n. refl;
      awaited = λ r a. refl;
      subroutine = λ p a b. refl;
      ib = λ p g q. refl;
      main = λ p m. refl;
      active = λ p a. refl;
    }

pub lends : Lends
lends ws es = refl

pub one : One
one = record { push = λ s p l a b x y. one_outcome x y; number = λ e a b x y. one_outcome x y; stopped = λ p a b x y. one_outcome x y }

pub entry_numbers : EntryNumbers
unfolding entry_of parts numbers_in
entry_numbers = refl
