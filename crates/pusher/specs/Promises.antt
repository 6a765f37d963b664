-- The promises about a move of the pusher, each a statement that is proved under its own name in proofs/. They speak of `push`
-- through its contract (Outcomes.antt): of everything that it allows.
use Rattle.std.specs.Prelude as std
use Rattle.std.specs.Prelude.{ℕ, ◌+◌, ◌-◌, ◌*◌, ◌/◌, ◌%◌, ◌^◌, ◌≤◌, ◌<◌, ◌≡◌, Bool, true, false, List, [], ◌∷◌, map, ◌⊎◌, ◌↔◌, length, get_or, None, Some}
use Rattle.std.proofs.Math.Option.{Option, none, some}
use Rattle.word.specs.Outcomes.{Reads, Presents}
use Rattle.word.specs.Why.{why_number}
use Rattle.word.specs.Reading as reading
use Rattle.word.specs.declared.why.Why.{Why}
use Rattle.word.specs.declared.reading.Reading.{Reading}
use Rattle.event.specs.Event as event
use Rattle.event.specs.declared.Kind.{Kind}
use Rattle.event.specs.declared.Kind.TheVariants as kind
use Rattle.pusher.specs.Loan.{PusherLoan, to_pusher}
use Rattle.pusher.specs.Record.{number, why, with_get, with_put, with_run, with_count, with_method, with_awaited, with_subroutine, with_ib, with_main, with_active}
use Rattle.pusher.specs.Entry.{entry_of}
use Rattle.pusher.specs.Answers.{did_number, did_values, Tells}
use Rattle.pusher.specs.Outcomes.{Numbers, Halts, Moves}
use Rattle.pusher.specs.declared.record.Setup.{Setup}
use Rattle.pusher.specs.declared.record.Run.{Run}
use Rattle.pusher.specs.declared.record.Main.{Main}
use Rattle.pusher.specs.declared.record.PusherError.{PusherError}
use Rattle.pusher.specs.declared.record.PusherError.TheVariants as cause
use Rattle.pusher.specs.declared.record.Pusher.{Pusher}
use Rattle.pusher.specs.declared.moving.Did.{Did}
use Rattle.pusher.specs.declared.moving.Pushed.{Pushed}

-- no error has stopped the pusher
abbrev pub Running : Pusher → Type 0
Running p = number p.error ≡ 0

abbrev pub InIb : Setup → Type 0
InIb s = s.setting.mode.number ≡ 1

-- S10: there is no word to read: above the limit, which counts in NV04-style alone, or beyond the lent words
abbrev pub NoWord : Setup → Pusher → List ℕ → Type 0
NoWord s p ws = ((InIb s → ⊥) × (s.limit < p.get)) ⊎ (length ws ≤ p.get / 4)

-- S6, S9, S10: a word is read, the one at the read address, in NV04-style not above the limit, and in no mode beyond the lent words
pub record ReadsWord (s : Setup) (p : Pusher) (l : PusherLoan) : Type 0 where
  pub running : Running p
  pub unequal : p.get ≡ p.put → ⊥
  pub limit : (InIb s → ⊥) → p.get ≤ s.limit
  pub lent : p.get / 4 < length l.words

-- S14: it is read as a count
pub record ReadsCount (s : Setup) (p : Pusher) (l : PusherLoan) : Type 0 where
  pub word : ReadsWord s p l
  pub awaited : p.run.awaited ≡ true

-- S14: it is read as a parameter
pub record ReadsParameter (s : Setup) (p : Pusher) (l : PusherLoan) : Type 0 where
  pub word : ReadsWord s p l
  pub unawaited : p.run.awaited ≡ false
  pub left : p.run.count ≡ 0 → ⊥

-- S14: it is read as a command
pub record ReadsCommand (s : Setup) (p : Pusher) (l : PusherLoan) : Type 0 where
  pub word : ReadsWord s p l
  pub unawaited : p.run.awaited ≡ false
  pub none_left : p.run.count ≡ 0

-- S9: w is the word at the read address
abbrev pub IsWord : Pusher → PusherLoan → ℕ → Type 0
IsWord p l w = w ≡ get_or l.words (p.get / 4) 0

-- S11, S12: q is the pusher past the word
pub record Past (s : Setup) (p q : Pusher) : Type 0 where
  pub nv04_style : (InIb s → ⊥) → q ≡ with_get p (p.get + 4)
  pub not_main : p.main.nonmain ≡ true → q ≡ with_get p (p.get + 4)
  pub main : InIb s → p.main.nonmain ≡ false → q ≡ with_main (with_get p (p.get + 4)) (record { nonmain = false; mget = p.get + 4; valid = true })

-- the word w is read as a parameter, and q is the pusher past it
pub record ParameterRead (s : Setup) (p q : Pusher) (l : PusherLoan) (w : ℕ) : Type 0 where
  pub read : ReadsParameter s p l
  pub word : IsWord p l w
  pub past : Past s p q

-- S25: n is the method's number after a parameter
pub record Rises (r : Run) (n : ℕ) : Type 0 where
  pub increasing : r.increasing ≡ true → n ≡ (r.method + 1) % 2048
  pub other : r.increasing ≡ false → n ≡ r.method

-- S25: the run with one parameter less
abbrev pub less_one : Run → ℕ → Run
less_one r n = with_method (with_count r (r.count - 1)) n

-- a word is read as a command with the number k, its form's in the table of forms, and these values; q is the pusher past it
pub record CommandRead (s : Setup) (p q : Pusher) (l : PusherLoan) (k : ℕ) (ns : List ℕ) : Type 0 where
  pub read : ReadsCommand s p l
  pub past : Past s p q
  pub word : ℕ
  pub is_word : IsWord p l word
  pub command : Reading
  pub reads : Reads s.setting word 0 command
  pub number : reading.number command ≡ k
  pub values : reading.values command ≡ ns

-- two masks share a set bit
pub record Share (a b : ℕ) : Type 0 where
  pub bit : ℕ
  pub one : a / 2 ^ bit % 2 ≡ 1
  pub other : b / 2 ^ bit % 2 ≡ 1

-- S7: an entry is to be read
pub record EntryNext (s : Setup) (p : Pusher) : Type 0 where
  pub running : Running p
  pub equal : p.get ≡ p.put
  pub ib : InIb s
  pub unequal : p.ib.get ≡ p.ib.put → ⊥

-- E3, E8: ib_get rises to i
pub record IndexRises (s : Setup) (p : Pusher) (i : ℕ) : Type 0 where
  pub within : s.order ≤ 12 → i ≡ (p.ib.get + 1) % 2 ^ s.order
  pub over : 12 < s.order → i ≡ (p.ib.get + 1) % 2 ^ 12

-- E2, E3: the entry e, which is not past the lent ones, is read, and ib_get rises to i
pub record EntryRead (s : Setup) (p : Pusher) (l : PusherLoan) (e i : ℕ) : Type 0 where
  pub next : EntryNext s p
  pub lent : p.ib.get < length l.entries
  pub entry : e ≡ get_or l.entries p.ib.get 0
  pub rises : IndexRises s p i

-- E1: address and size of an entry
abbrev pub address_in : ℕ → ℕ
address_in e = e / 2 ^ 2 % 2 ^ 38 * 4

abbrev pub size_in : ℕ → ℕ
size_in e = e / 2 ^ 42 % 2 ^ 22

-- E5, E6: the pushbuffer that the entry e describes, with what becomes of NOT_MAIN and dma_mget
abbrev pub at_entry : Pusher → ℕ → Bool → ℕ → Pusher
at_entry p e nonmain mget =
    with_main (with_put (with_get p (address_in e)) ((address_in e + 4 * size_in e) % 2 ^ 40)) (record { nonmain = nonmain; mget = mget; valid = p.main.valid })

-- the move r leaves the pusher q, and did what has the number k and these values
pub record Leaves (q : Pusher) (k : ℕ) (said : List ℕ) (r : Pushed) : Type 0 where
  pub pusher : r.pusher ≡ q
  pub did : Tells r.did k said

-- S29: it says one kind alone; discards a method, or hands it to the puller: its subchannel, byte number and parameter
abbrev pub Says : Pusher → Kind → Pushed → Type 0
Says q k r = Leaves q 1 (event.number k ∷ []) r

-- S29: a discarded method, with its parameter as it was read
abbrev pub Discards : Pusher → ℕ → ℕ → ℕ → Pushed → Type 0
Discards q b m w r = Leaves q 1 (event.number kind.Discard ∷ b ∷ m ∷ w ∷ []) r

abbrev pub HandsOver : Pusher → ℕ → ℕ → ℕ → Pushed → Type 0
HandsOver q b m w r = Leaves q 2 (b ∷ m ∷ w ∷ []) r

-- S26, S27: q is p stopped by the error with the number n, all else as before
pub record Failed (p : Pusher) (n : ℕ) (q : Pusher) : Type 0 where
  pub get : q.get ≡ p.get
  pub put : q.put ≡ p.put
  pub run : q.run ≡ p.run
  pub subroutine : q.subroutine ≡ p.subroutine
  pub ib : q.ib ≡ p.ib
  pub main : q.main ≡ p.main
  pub sli : q.sli ≡ p.sli
  pub error : number q.error ≡ n

-- S27: the move r leaves p so stopped, and says error alone
pub record Fails (p : Pusher) (n : ℕ) (r : Pushed) : Type 0 where
  pub pusher : Failed p n r.pusher
  pub did : Tells r.did 1 (event.number kind.Error ∷ [])

-- S33: it does so by RESERVED_CMD, which has this why
pub record Reserves (p : Pusher) (y : Option ℕ) (r : Pushed) : Type 0 where
  pub fails : Fails p 4 r
  pub why : why r.pusher.error ≡ y

-- The rules as sentences, of any relation R between what a move is given and what it leaves: what changes, and nothing else does (S13).
pub record Sentences (R : Setup → Pusher → PusherLoan → Pushed → Type 0) : Type 0 where
  -- S4: stopped, and nothing changes
  pub stopped : (s : Setup) (p : Pusher) (l : PusherLoan) (r : Pushed) → R s p l r → (Running p → ⊥) → Says p kind.Stopped r
  -- S8: idle, and nothing changes
  pub idle :
      (s : Setup) (p : Pusher) (l : PusherLoan) (r : Pushed)
      → R s p l r
      → Running p
      → p.get ≡ p.put
      → ((InIb s → ⊥) ⊎ (p.ib.get ≡ p.ib.put))
      → Says p kind.Idle r
  -- S10: PROTECTION, where the read address stays
  pub protection :
      (s : Setup) (p : Pusher) (l : PusherLoan) (r : Pushed)
      → R s p l r
      → Running p
      → (p.get ≡ p.put → ⊥)
      → NoWord s p l.words
      → Fails p 6 r
  -- S15: the word becomes the count
  pub count :
      (s : Setup) (p q : Pusher) (l : PusherLoan) (w : ℕ) (r : Pushed)
      → R s p l r
      → ReadsCount s p l
      → IsWord p l w
      → Past s p q
      → Says (with_run q (with_awaited (with_count p.run (w % 2 ^ 24)) false)) kind.Count r
  -- S24: NON_CACHE, whatever SLI says; count and method stay
  pub non_cache :
      (s : Setup) (p q : Pusher) (l : PusherLoan) (w : ℕ) (r : Pushed)
      → R s p l r
      → ParameterRead s p q l w
      → Presents s.setting.level p.run.method false
      → Fails q 2 r
  -- S24, S25: the method is discarded, and the run goes on
  pub discard :
      (s : Setup) (p q : Pusher) (l : PusherLoan) (w n : ℕ) (r : Pushed)
      → R s p l r
      → ParameterRead s p q l w
      → Rises p.run n
      → Presents s.setting.level p.run.method true
      → s.setting.sli ≡ true
      → p.sli.active ≡ false
      → Discards (with_run q (less_one p.run n)) p.run.subchannel (4 * p.run.method) w r
  -- S24, S25: it is handed to the puller
  pub submit :
      (s : Setup) (p q : Pusher) (l : PusherLoan) (w n : ℕ) (r : Pushed)
      → R s p l r
      → ParameterRead s p q l w
      → Rises p.run n
      → Presents s.setting.level p.run.method true
      → ((s.setting.sli ≡ false) ⊎ (p.sli.active ≡ true))
      → HandsOver (with_run q (less_one p.run n)) p.run.subchannel (4 * p.run.method) w r
  -- S17: a run with count 0
  pub nothing :
      (s : Setup) (p q : Pusher) (l : PusherLoan) (k b m : ℕ) (r : Pushed)
      → R s p l r
      → CommandRead s p q l k (0 ∷ b ∷ m ∷ [])
      → ((k ≡ 1) ⊎ (k ≡ 2))
      → Says q kind.Command r
  -- S16: a run is open, with a method that rises
  pub increasing :
      (s : Setup) (p q : Pusher) (l : PusherLoan) (c b n : ℕ) (r : Pushed)
      → R s p l r
      → CommandRead s p q l 1 (c ∷ b ∷ 4 * n ∷ [])
      → (c ≡ 0 → ⊥)
      → Says (with_run q (record { count = c; method = n; subchannel = b; increasing = true; awaited = false })) kind.Command r
  -- S16: and with one that stays
  pub non_increasing :
      (s : Setup) (p q : Pusher) (l : PusherLoan) (c b n : ℕ) (r : Pushed)
      → R s p l r
      → CommandRead s p q l 2 (c ∷ b ∷ 4 * n ∷ [])
      → (c ≡ 0 → ⊥)
      → Says (with_run q (record { count = c; method = n; subchannel = b; increasing = false; awaited = false })) kind.Command r
  -- S18: a long form waits for its count
  pub long :
      (s : Setup) (p q : Pusher) (l : PusherLoan) (b n c : ℕ) (r : Pushed)
      → R s p l r
      → CommandRead s p q l 5 (b ∷ 4 * n ∷ c ∷ [])
      → Says (with_run q (record { count = 0; method = n; subchannel = b; increasing = false; awaited = true })) kind.Command r
  -- S19: whether the masks share a bit
  pub sli :
      (s : Setup) (p q : Pusher) (l : PusherLoan) (mask : ℕ) (active : Bool) (r : Pushed)
      → R s p l r
      → CommandRead s p q l 3 (mask ∷ [])
      → active ≡ true ↔ Share mask p.sli.mask
      → Says (with_active q active) kind.Command r
  -- S20: a jump goes to its target
  pub jump :
      (s : Setup) (p q : Pusher) (l : PusherLoan) (k t : ℕ) (r : Pushed)
      → R s p l r
      → CommandRead s p q l k (t ∷ [])
      → ((k ≡ 6) ⊎ (k ≡ 7))
      → Says (with_get q t) kind.Command r
  -- S21: a call too, and keeps the address behind its word
  pub call :
      (s : Setup) (p q : Pusher) (l : PusherLoan) (t : ℕ) (r : Pushed)
      → R s p l r
      → CommandRead s p q l 8 (t ∷ [])
      → p.subroutine.active ≡ false
      → Says (with_get (with_subroutine q true ((p.get + 4) % 2 ^ 32)) t) kind.Command r
  -- S21, S28: CALL, past the word
  pub call_inside :
      (s : Setup) (p q : Pusher) (l : PusherLoan) (t : ℕ) (r : Pushed)
      → R s p l r
      → CommandRead s p q l 8 (t ∷ [])
      → p.subroutine.active ≡ true
      → Fails q 1 r
  -- S22: a return goes there
  pub return :
      (s : Setup) (p q : Pusher) (l : PusherLoan) (r : Pushed)
      → R s p l r
      → CommandRead s p q l 4 []
      → p.subroutine.active ≡ true
      → Says (with_get (with_subroutine q false p.subroutine.back) p.subroutine.back) kind.Command r
  -- S22, S28: RETURN, past the word
  pub return_outside :
      (s : Setup) (p q : Pusher) (l : PusherLoan) (r : Pushed)
      → R s p l r
      → CommandRead s p q l 4 []
      → p.subroutine.active ≡ false
      → Fails q 3 r
  -- S23, S33: RESERVED_CMD of a reserved word, number 9, with its why
  pub reserved :
      (s : Setup) (p q : Pusher) (l : PusherLoan) (ns : List ℕ) (r : Pushed)
      → R s p l r
      → (c : CommandRead s p q l 9 ns)
      → Reserves q (reading.why c.command) r
  -- S23, S33: and of a reading at a setting that is refused, number 10, with 1, no such form
  pub refused :
      (s : Setup) (p q : Pusher) (l : PusherLoan) (ns : List ℕ) (r : Pushed)
      → R s p l r
      → CommandRead s p q l 10 ns
      → Reserves q (some 1) r
  -- E2: PROTECTION, where ib_get stays
  pub no_entry :
      (s : Setup) (p : Pusher) (l : PusherLoan) (r : Pushed)
      → R s p l r
      → EntryNext s p
      → length l.entries ≤ p.ib.get
      → Fails p 6 r
  -- E4: size 0, with ib_get risen
  pub empty_entry :
      (s : Setup) (p : Pusher) (l : PusherLoan) (e i : ℕ) (r : Pushed)
      → R s p l r
      → EntryRead s p l e i
      → size_in e ≡ 0
      → Fails (with_ib p i p.ib.put) 5 r
  -- E5, E6, E7: an entry outside the main pushbuffer
  pub entry_not_main :
      (s : Setup) (p : Pusher) (l : PusherLoan) (e i : ℕ) (r : Pushed)
      → R s p l r
      → EntryRead s p l e i
      → (size_in e ≡ 0 → ⊥)
      → e / 2 ^ 41 % 2 ≡ 1
      → Says (at_entry (with_ib p i p.ib.put) e true p.main.mget) kind.Entry r
  -- E5, E6, E7: and one in it, whose address dma_mget takes
  pub entry_main :
      (s : Setup) (p : Pusher) (l : PusherLoan) (e i : ℕ) (r : Pushed)
      → R s p l r
      → EntryRead s p l e i
      → (size_in e ≡ 0 → ⊥)
      → e / 2 ^ 41 % 2 ≡ 0
      → Says (at_entry (with_ib p i p.ib.put) e false (address_in e)) kind.Entry r

-- Promise 2, for the pusher: `push` does what the sentences say,
abbrev pub Pushes : Type 0
Pushes = Sentences Moves

-- and they leave no case open: whatever does what they say does what `push` does.
abbrev pub NoOther : Type 1
NoOther =
    (R : Setup → Pusher → PusherLoan → Pushed → Type 0)
    → Sentences R
    → (s : Setup) (p : Pusher) (l : PusherLoan) (r : Pushed)
    → R s p l r
    → Moves s p l r

-- What a move leaves of a running pusher where it leaves an error: no more changes than the advance of that move.
pub record Failing : Type 0 where
  -- S28: errors 1 to 4 leave the advance
  pub word :
      (s : Setup) (p q : Pusher) (l : PusherLoan) (r : Pushed)
      → Moves s p l r
      → Running p
      → 1 ≤ number r.pusher.error
      → number r.pusher.error ≤ 4
      → Past s p q
      → Fails q (number r.pusher.error) r
  -- S28: error 5 leaves the risen ib_get
  pub entry :
      (s : Setup) (p : Pusher) (l : PusherLoan) (i : ℕ) (r : Pushed)
      → Moves s p l r
      → Running p
      → number r.pusher.error ≡ 5
      → IndexRises s p i
      → Fails (with_ib p i p.ib.put) 5 r
  -- S28: error 6 leaves nothing
  pub protection : (s : Setup) (p : Pusher) (l : PusherLoan) (r : Pushed) → Moves s p l r → Running p → number r.pusher.error ≡ 6 → Fails p 6 r

-- S26: the errors in order, after none, RESERVED_CMD with a why.
abbrev pub error_list : Why → List (Option (std.Option PusherError))
error_list y =
    map some (None ∷ map Some (cause.Call ∷ cause.NonCache ∷ cause.Return ∷ cause.ReservedCmd y ∷ cause.Ib ∷ cause.Protection ∷ []))

-- S26, S33, S4: every error stands there, by its number, whatever the why if it has none, and else with its own; 4 has one, and no
-- other has; and `stopped` says so of each, and of none it does not
pub record Errors : Type 0 where
  pub numbers : (e : std.Option PusherError) (y : Why) → (why e ≡ none) ⊎ (why e ≡ some (why_number y)) → get_or (error_list y) (number e) none ≡ some e
  pub whys : (e : std.Option PusherError) → why e ≡ none ↔ (number e ≡ 4 → ⊥)
  pub stopped : (p : Pusher) (a : Bool) → Halts p a → a ≡ true ↔ (Running p → ⊥)

-- The pusher, or its run, with one thing changed, as the sentences say it: that and nothing else.
pub record Setters : Type 0 where
  pub get : (p : Pusher) (a : ℕ) → with_get p a ≡ record { get = a; put = p.put; run = p.run; subroutine = p.subroutine; ib = p.ib; main = p.main; sli = p.sli; error = p.error }
  pub put : (p : Pusher) (a : ℕ) → with_put p a ≡ record { get = p.get; put = a; run = p.run; subroutine = p.subroutine; ib = p.ib; main = p.main; sli = p.sli; error = p.error }
  pub run : (p : Pusher) (r : Run) → with_run p r ≡ record { get = p.get; put = p.put; run = r; subroutine = p.subroutine; ib = p.ib; main = p.main; sli = p.sli; error = p.error }
  pub count : (r : Run) (c : ℕ) → with_count r c ≡ record { count = c; method = r.method; subchannel = r.subchannel; increasing = r.increasing; awaited = r.awaited }
  pub method : (r : Run) (n : ℕ) → with_method r n ≡ record { count = r.count; method = n; subchannel = r.subchannel; increasing = r.increasing; awaited = r.awaited }
  pub awaited : (r : Run) (a : Bool) → with_awaited r a ≡ record { count = r.count; method = r.method; subchannel = r.subchannel; increasing = r.increasing; awaited = a }
  pub subroutine : (p : Pusher) (a : Bool) (b : ℕ) → with_subroutine p a b ≡ record { get = p.get; put = p.put; run = p.run; subroutine = record { active = a; back = b }; ib = p.ib; main = p.main; sli = p.sli; error = p.error }
  pub ib : (p : Pusher) (g q : ℕ) → with_ib p g q ≡ record { get = p.get; put = p.put; run = p.run; subroutine = p.subroutine; ib = record { get = g; put = q }; main = p.main; sli = p.sli; error = p.error }
  pub main : (p : Pusher) (m : Main) → with_main p m ≡ record { get = p.get; put = p.put; run = p.run; subroutine = p.subroutine; ib = p.ib; main = m; sli = p.sli; error = p.error }
  pub active : (p : Pusher) (a : Bool) → with_active p a ≡ record { get = p.get; put = p.put; run = p.run; subroutine = p.subroutine; ib = p.ib; main = p.main; sli = record { mask = p.sli.mask; active = a }; error = p.error }

-- What a move did is told by its number and values: what a promise says of it, it says of them.
abbrev pub Told : Type 0
Told = (x y : Did) → did_number x ≡ did_number y → did_values x ≡ did_values y → x ≡ y

-- What `push` is lent, by its own arguments, is what its contract speaks of, whole.
abbrev pub Lends : Type 0
Lends = (ws es : List ℕ) → to_pusher ws es ≡ record { words = ws; entries = es }

-- Each contract leaves one outcome.
pub record One : Type 0 where
  pub push : (s : Setup) (p : Pusher) (l : PusherLoan) (a b : Pushed) → Moves s p l a → Moves s p l b → a ≡ b
  pub number : (e : std.Option PusherError) (a b : ℕ) → Numbers e a → Numbers e b → a ≡ b
  pub stopped : (p : Pusher) (a b : Bool) → Halts p a → Halts p b → a ≡ b

-- E1: an entry to try.
abbrev pub EntryNumbers : Type 0
EntryNumbers = entry_of 0x00000e0000001000 ≡ record { address = 0x1000; size = 3; nonmain = true }
