-- One move of the pusher: the part of a step that reads a word (S6) or an IB entry (S7).
use Rattle.std.specs.Prelude.{ℕ, ◌+◌, ◌-◌, ◌*◌, ◌/◌, ◌%◌, ◌^◌, Bool, true, false, not, ◌&&◌, ◌||◌, List, eqb, leb, ltb, length, get_or}
use Rattle.std.specs.Int.Bits.{bit_and}
use Rattle.word.specs.First.{choose}
use Rattle.word.specs.Parts.{bits}
use Rattle.word.specs.Special.{present_of}
use Rattle.word.specs.Reading.{read_of}
use Rattle.word.specs.declared.why.Why.TheVariants as why
use Rattle.word.specs.declared.reading.Reading.{Reading}
use Rattle.word.specs.declared.reading.Reading.TheVariants.{Increasing, NonIncreasing, Sli, Return, Long, OldJump, Jump, Call, Reserved, Refused}
use Rattle.event.specs.declared.Kind.{Kind}
use Rattle.event.specs.declared.Kind.TheVariants as kind
use Rattle.event.specs.declared.Method.{Method}
use Rattle.event.specs.declared.Event.TheVariants.{Plain, Of}
use Rattle.pusher.specs.Loan.{PusherLoan}
use Rattle.pusher.specs.Record.{halts, with_error, with_get, with_put, with_run, with_count, with_method, with_awaited, with_subroutine, with_ib, with_main, with_active}
use Rattle.pusher.specs.Entry.{entry_of}
use Rattle.pusher.specs.declared.record.Setup.{Setup}
use Rattle.pusher.specs.declared.record.PusherError.{PusherError}
use Rattle.pusher.specs.declared.record.PusherError.TheVariants as cause
use Rattle.pusher.specs.declared.record.Pusher.{Pusher}
use Rattle.pusher.specs.declared.entry.Entry.{Entry}
use Rattle.pusher.specs.declared.moving.Did.TheVariants as did
use Rattle.pusher.specs.declared.moving.Pushed.{Pushed}

-- What a move is about to do: S4, S6, S7 and S8, the reading of a word or an entry taken apart. (An acquire that waits is the puller's.)
pub data Role : Type 0 where
  -- S4: an error has stopped it
  halted : Role
  -- S10, E2: the word or the entry to be read is not there
  faults : Role
  -- S14: the word is a count, a parameter or a command
  counts submits commands : Role
  -- S7: an IB entry is read
  enters : Role
  -- S8: there is nothing to read
  idles : Role

-- S10: the limit, in NV04-style alone, or the lent words, in either mode, end before the word
abbrev pub beyond : Setup → Pusher → List ℕ → Bool
beyond s p ws = (not (eqb s.setting.mode.number 1) && ltb s.limit p.get) || leb (length ws) (p.get / 4)

-- S14: what the word is, by what is open
unfoldable pub word_role : Setup → Pusher → List ℕ → Role
word_role s p ws = choose (beyond s p ws) faults (choose p.run.awaited counts (choose (not (eqb p.run.count 0)) submits commands))

-- E2: the lent entries end before the entry
unfoldable pub entry_role : Pusher → List ℕ → Role
entry_role p es = choose (leb (length es) p.ib.get) faults enters

-- S4, S6, S7, S8: the first that applies
unfoldable pub role : Setup → Pusher → PusherLoan → Role
role s p l =
    choose (halts p.error) halted
    (choose (not (eqb p.get p.put)) (word_role s p l.words)
    (choose (eqb s.setting.mode.number 1 && not (eqb p.ib.get p.ib.put)) (entry_role p l.entries)
    idles))

-- what a move says by itself
abbrev pub quietly : Pusher → Kind → Pushed
quietly p k = record { pusher = p; did = did.Event (Plain k) }

-- S27: it says error alone, and the error is stored
abbrev pub failed_by : Pusher → PusherError → Pushed
failed_by p e = quietly (with_error p e) kind.Error

-- S12: whether dma_mget follows the read address
abbrev pub follows : Setup → Pusher → Bool
follows s p = eqb s.setting.mode.number 1 && not p.main.nonmain

-- S11, S12: the pusher past a word
unfoldable pub advanced : Setup → Pusher → Pusher
advanced s p =
    choose (follows s p) (with_main (with_get p (p.get + 4)) (record { nonmain = p.main.nonmain; mget = p.get + 4; valid = true }))
    (with_get p (p.get + 4))

-- S15: a long form's count
unfoldable pub counted : Pusher → ℕ → Pushed
counted p w = quietly (with_run p (with_awaited (with_count p.run (bits 23 0 w)) false)) kind.Count

-- S24: the method that a parameter goes to, by its byte number
abbrev pub method_of : Pusher → ℕ → Method
method_of p w = record { subchannel = p.run.subchannel; method = 4 * p.run.method; parameter = w }

-- S25: the number of the next parameter's method
abbrev pub rises : Pusher → ℕ
rises p = choose p.run.increasing ((p.run.method + 1) % 2048) p.run.method

-- S25: the run past a parameter
abbrev pub used_up : Pusher → Pusher
used_up p = with_run p (with_method (with_count p.run (p.run.count - 1)) (rises p))

-- S24: NON_CACHE first, then the discard, else the method is submitted
unfoldable pub parameter_of : Setup → Pusher → ℕ → Pushed
parameter_of s p w =
    choose (not (present_of s.setting.level.number p.run.method)) (failed_by p cause.NonCache)
    (choose (s.setting.sli && not p.sli.active) (record { pusher = used_up p; did = did.Event (Of kind.Discard (method_of p w)) })
    (record { pusher = used_up p; did = did.Submit (method_of p w) }))

-- S16, S17: a run of parameters is open, or with count 0 nothing is done
unfoldable pub begun : Pusher → ℕ → ℕ → ℕ → Bool → Pushed
begun p c s m up =
    choose (eqb c 0) (quietly p kind.Command)
    (quietly (with_run p (record { count = c; method = m / 4; subchannel = s; increasing = up; awaited = p.run.awaited })) kind.Command)

-- S19: an SLI conditional
unfoldable pub conditional : Pusher → ℕ → Pushed
conditional p k = quietly (with_active p (not (eqb (bit_and k p.sli.mask) 0))) kind.Command

-- S20: a jump sets the read address to the target
abbrev pub jumped : Pusher → ℕ → Pushed
jumped p t = quietly (with_get p t) kind.Command

-- S21: a call stores the read address, which is behind the call, as the return address of 32 bits
unfoldable pub called : Pusher → ℕ → Pushed
called p t =
    choose p.subroutine.active (failed_by p cause.Call)
    (quietly (with_get (with_subroutine p true (p.get % 2 ^ 32)) t) kind.Command)

-- S22: a return goes back there, and leaves the return address
unfoldable pub returned : Pusher → Pushed
returned p =
    choose (not p.subroutine.active) (failed_by p cause.Return)
    (quietly (with_get (with_subroutine p false p.subroutine.back) p.subroutine.back) kind.Command)

-- S18: a long form stores its method and waits for its count
abbrev pub awaiting : Pusher → ℕ → ℕ → Pushed
awaiting p s m =
    quietly (with_run p (record { count = p.run.count; method = m / 4; subchannel = s; increasing = false; awaited = true })) kind.Command

-- S13, S23, S33: what a command does, by its form; methods are byte numbers, 4 times their number
unfoldable pub commanded : Pusher → Reading → Pushed
commanded p (Increasing c s m) = begun p c s m true
commanded p (NonIncreasing c s m) = begun p c s m false
commanded p (Sli k) = conditional p k
commanded p Return = returned p
commanded p (Long s m c) = awaiting p s m
commanded p (OldJump t) = jumped p t
commanded p (Jump t) = jumped p t
commanded p (Call t) = called p t
commanded p (Reserved y) = failed_by p (cause.ReservedCmd y)
commanded p (Refused n) = failed_by p (cause.ReservedCmd why.Form)

-- E3, E8: the index after another
unfoldable pub next_index : ℕ → ℕ → ℕ
next_index order i = (i + 1) % 2 ^ choose (ltb 12 order) 12 order

-- E5, E6: the stretch of words that an entry names, ready to be read
unfoldable pub prepared : Pusher → Entry → Pusher
prepared p e =
    with_main (with_put (with_get p e.address) ((e.address + 4 * e.size) % 2 ^ 40))
    (record { nonmain = e.nonmain; mget = choose e.nonmain p.main.mget e.address; valid = p.main.valid })

-- E4, E7: an entry that was read, ib_get having risen
unfoldable pub entered : Pusher → Entry → Pushed
entered p e = choose (eqb e.size 0) (failed_by p cause.Ib) (quietly (prepared p e) kind.Entry)

-- S9: the word at the read address
abbrev pub word_at : Pusher → List ℕ → ℕ
word_at p ws = get_or ws (p.get / 4) 0

-- S11, S13: what a move does in a role: what reads a word advances first. S28: a fault leaves the read address, and ib_get
unfoldable pub act : Setup → Pusher → PusherLoan → Role → Pushed
act s p l halted = quietly p kind.Stopped
act s p l faults = failed_by p cause.Protection
act s p l counts = counted (advanced s p) (word_at p l.words)
act s p l submits = parameter_of s (advanced s p) (word_at p l.words)
act s p l commands = commanded (advanced s p) (read_of s.setting (word_at p l.words) 0)
act s p l enters = entered (with_ib p (next_index s.order p.ib.get) p.ib.put) (entry_of (get_or l.entries p.ib.get 0))
act s p l idles = quietly p kind.Idle

-- one move
unfoldable pub push_of : Setup → Pusher → PusherLoan → Pushed
push_of s p l = act s p l (role s p l)
