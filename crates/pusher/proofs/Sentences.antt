-- What a move does where each of the sentences applies. Assumes nothing.
use Prim.Native.Nat.{ℕ, ◌+◌, ◌/◌, ◌%◌, ◌^◌}
use mathlib.Core.Path.{◌≡◌, sym, ap, ◌∙◌}
use mathlib.Core.Bool.{Bool, true, false, not, ◌&&◌}
use native.Mathlib.Omega.{arith}
use mathlib.Core.List.{List}
use mathlib.Core.Logic.{◌⊎◌}
use Rattle.std.specs.Prelude.{Option}
use Rattle.std.proofs.lemmas.Bool.Decides.{nat_tests}
use Rattle.word.specs.First.{choose}
use Rattle.word.specs.Parts.{numbers_in}
use Rattle.word.specs.Special.{present_of}
use Rattle.word.specs.Reading as reading
use Rattle.word.specs.declared.reading.Reading.{Reading}
use Rattle.word.proofs.First.{one_outcome}
use Rattle.word.proofs.Told.{told_unreserved}
use Rattle.event.specs.declared.Kind.TheVariants as kind
use Rattle.event.specs.declared.Event.TheVariants.{Of}
use Rattle.pusher.specs.Loan.{PusherLoan}
use Rattle.pusher.specs.Record.{number, halts, with_run, with_ib}
use Rattle.pusher.specs.Entry.{parts, entry_of}
use Rattle.pusher.specs.Moving.{Role, counts, submits, commands, enters, word_role, role, act, push_of, advanced, counted, quietly, failed_by, parameter_of, used_up, rises, method_of, commanded, next_index, entered, prepared}
use Rattle.pusher.specs.Promises.{ReadsWord, ReadsCount, ReadsParameter, ReadsCommand, IsWord, Past, ParameterRead, CommandRead, Rises, less_one, IndexRises, EntryRead, address_in, size_in, at_entry}
use Rattle.pusher.specs.declared.record.Setup.{Setup}
use Rattle.pusher.specs.declared.record.Run.{Run}
use Rattle.pusher.specs.declared.record.PusherError.{PusherError}
use Rattle.pusher.specs.declared.record.PusherError.TheVariants as cause
use Rattle.pusher.specs.declared.record.Pusher.{Pusher}
use Rattle.pusher.specs.declared.moving.Did.TheVariants as did
use Rattle.pusher.proofs.PastWord.{advanced_only}
use Rattle.pusher.proofs.Roles.{awaits_count, inside_run, between_runs, when_words, when_entries, at_entry_lem}

-- an error's number says whether it halts
pub runs : (e : Option PusherError) → number e ≡ 0 → halts e ≡ false
unfolding halts
runs e h = grind (arith, nat_tests)

pub stands : (e : Option PusherError) → (number e ≡ 0 → ⊥) → halts e ≡ true
unfolding halts
stands e n = grind (arith, nat_tests)

-- the pusher past a word, by the definition and in plain terms
module _ (s : Setup) (p : Pusher) where
  pub past_is : (q : Pusher) → Past s p q → q ≡ advanced s p
  unfolding advanced choose
  past_is q h = grind (arith, nat_tests)

  pub past_of : Past s p (advanced s p)
  unfolding advanced choose
  past_of = record { nv04_style = λ n. grind (arith, nat_tests); not_main = λ f. grind (arith, nat_tests); main = λ m f. grind (arith, nat_tests) }

  -- it has the read address four higher, and the same run, subroutine and SLI
  pub record Keeps (q : Pusher) : Type 0 where
    pub get : q.get ≡ p.get + 4
    pub run : q.run ≡ p.run
    pub subroutine : q.subroutine ≡ p.subroutine
    pub sli : q.sli ≡ p.sli

  pub keeps : (q : Pusher) → Past s p q → Keeps q
  keeps q h =
      let only = past_is q h ∙ advanced_only s p in
      record {
        get = ap (λ (x : Pusher). x.get) only;
        run = ap (λ (x : Pusher). x.run) only;
        subroutine = ap (λ (x : Pusher). x.subroutine) only;
        sli = ap (λ (x : Pusher). x.sli) only;
      }

module _ (s : Setup) (p : Pusher) (l : PusherLoan) where
  pub by_role : (x : Role) → role s p l ≡ x → push_of s p l ≡ act s p l x
  unfolding push_of
  by_role x e = ap (λ (y : Role). act s p l y) e

  -- a word read: as a count, as a parameter, as a command
  word_role_lem : ReadsWord s p l → role s p l ≡ word_role s p l.words
  word_role_lem h = when_words s p l (runs p.error h.running) h.unequal

  pub count_role : ReadsCount s p l → role s p l ≡ counts
  count_role h = word_role_lem h.word ∙ awaits_count s p l.words h.word.limit h.word.lent h.awaited

  pub parameter_role : ReadsParameter s p l → role s p l ≡ submits
  parameter_role h = word_role_lem h.word ∙ inside_run s p l.words h.word.limit h.word.lent h.unawaited h.left

  pub command_role : ReadsCommand s p l → role s p l ≡ commands
  command_role h = word_role_lem h.word ∙ between_runs s p l.words h.word.limit h.word.lent h.unawaited h.none_left

  pub count_is : (q : Pusher) (w : ℕ) → ReadsCount s p l → IsWord p l w → Past s p q → push_of s p l ≡ counted q w
  unfolding act
  count_is q w h e past = by_role counts (count_role h) ∙ rw (past_is s p q past, e)

  pub parameter_is : (q : Pusher) (w : ℕ) → ParameterRead s p q l w → push_of s p l ≡ parameter_of s q w
  unfolding act
  parameter_is q w h = by_role submits (parameter_role h.read) ∙ rw (past_is s p q h.past, h.word)

  -- the command is the one that has its number and values
  pub reading_is : (q : Pusher) {k : ℕ} {ns : List ℕ} (h : CommandRead s p q l k ns) → push_of s p l ≡ commanded q h.command
  unfolding act
  reading_is q h = by_role commands (command_role h.read) ∙ rw (past_is s p q h.past, h.reads, h.is_word)

  pub command_is : (q : Pusher) (x : Reading) {k : ℕ} {ns : List ℕ} → CommandRead s p q l k ns → reading.number x ≡ k → reading.values x ≡ ns → (k ≡ 9 → ⊥) → push_of s p l ≡ commanded q x
  command_is q x h n v c =
      reading_is q h ∙ ap (commanded q) (sym (told_unreserved x h.command (one_outcome n h.number) (one_outcome v h.values) (λ e. c (sym h.number ∙ e))))

-- a parameter
module _ (s : Setup) (q : Pusher) (w : ℕ) where
  pub non_cache_is : present_of s.setting.level.number q.run.method ≡ false → parameter_of s q w ≡ failed_by q cause.NonCache
  unfolding parameter_of choose
  non_cache_is e = grind arith

  module _ (e : present_of s.setting.level.number q.run.method ≡ true) where
    pub discard_is : s.setting.sli ≡ true → q.sli.active ≡ false → parameter_of s q w ≡ record { pusher = used_up q; did = did.Event (Of kind.Discard (method_of q w)) }
    unfolding parameter_of choose
    discard_is on off = grind arith

    pub submit_is : (s.setting.sli && not q.sli.active) ≡ false → parameter_of s q w ≡ record { pusher = used_up q; did = did.Submit (method_of q w) }
    unfolding parameter_of choose
    submit_is f = grind arith

-- SLI off, or active
pub taken : (on active : Bool) → (on ≡ false) ⊎ (active ≡ true) → (on && not active) ≡ false
taken on active h = grind arith

-- the method after a parameter
rises_is : (q : Pusher) (n : ℕ) → Rises q.run n → rises q ≡ n
unfolding choose
rises_is q n h = grind arith

pub rises_of : (r : Run) → Rises r (choose r.increasing ((r.method + 1) % 2048) r.method)
unfolding choose
rises_of r = record { increasing = λ e. grind arith; other = λ e. grind arith }

pub used_up_is : (q : Pusher) (r : Run) (n : ℕ) → q.run ≡ r → Rises r n → used_up q ≡ with_run q (less_one r n)
used_up_is q r n e h = rw (rises_is q n (rw e h), e)

-- the ring of entries
pub rises_to : (s : Setup) (p : Pusher) (i : ℕ) → IndexRises s p i → next_index s.order p.ib.get ≡ i
unfolding next_index choose
rises_to s p i h = grind (arith, nat_tests)

-- an entry that is there
module _ (s : Setup) (p : Pusher) (l : PusherLoan) (e i : ℕ) (h : EntryRead s p l e i) where
  pub entry_is : push_of s p l ≡ entered (with_ib p i p.ib.put) (entry_of e)
  unfolding act
  entry_is =
      by_role s p l enters
      (when_entries s p l (runs p.error h.next.running) h.next.equal h.next.ib h.next.unequal ∙ at_entry_lem p l.entries h.lent)
      ∙ rw (rises_to s p i h.rises, h.entry)

module _ (p : Pusher) (e : ℕ) where
  pub empty_is : size_in e ≡ 0 → entered p (entry_of e) ≡ failed_by p cause.Ib
  unfolding entered entry_of parts numbers_in choose
  empty_is z = grind (arith, nat_tests)

  module _ (some : size_in e ≡ 0 → ⊥) where
    pub not_main_is : e / 2 ^ 41 % 2 ≡ 1 → entered p (entry_of e) ≡ quietly (at_entry p e true p.main.mget) kind.Entry
    unfolding entered prepared entry_of parts numbers_in choose
    not_main_is b = grind (arith, nat_tests)

    pub main_is : e / 2 ^ 41 % 2 ≡ 0 → entered p (entry_of e) ≡ quietly (at_entry p e false (address_in e)) kind.Entry
    unfolding entered prepared entry_of parts numbers_in choose
    main_is b = grind (arith, nat_tests)
