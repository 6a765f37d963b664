-- The promises about the trace, each a statement that is proved under its own name in proofs/.
use Rattle.std.specs.Prelude.{ℕ, suc, ◌+◌, ◌-◌, ◌*◌, ◌/◌, ◌%◌, ◌^◌, ◌≤◌, ◌<◌, ◌≡◌, Bool, true, false, ◌↔◌, ◌⊎◌, length, get_or, take, drop, replicate}
use Prim.Native.Char.{Char, code}
use Prim.Native.String.{String, ◌∷◌ as ◌and◌}
use mathlib.Core.List.{List, [], ◌∷◌, ◌++◌, map, foldl}
use Rattle.std.proofs.Math.Option.{Option, none, some}
use Rattle.word.specs.First.{PlainCase, ◌if◌, FirstIs}
use Rattle.word.specs.Lent.{words_of}
use Rattle.word.specs.Answers.{check_refusal}
use Rattle.word.specs.declared.setting.Refusal.{Refusal}
use Rattle.event.specs.Event.{number, values}
use Rattle.event.specs.declared.Event.{Event}
use Rattle.event.specs.declared.Kind.{Kind}
use Rattle.event.specs.declared.Kind.TheVariants as kind
use Rattle.pusher.specs.Record as pusher
use Rattle.puller.specs.Record as puller
use Rattle.channel.specs.Answers.{opening_refusal, step_refusal, answer_values}
use Rattle.channel.specs.Loan.{Loan, to_step}
use Rattle.channel.specs.Outcomes.{Opens, Puts, StepsTo, Idles}
use Rattle.channel.specs.declared.record.Channel.{Channel}
use Rattle.channel.specs.declared.opening.Opened.{Opened}
use Rattle.channel.specs.declared.putting.Put.{Put}
use Rattle.channel.specs.declared.stepping.Stepped.{Stepped}
use Rattle.trace.specs.Text.{text, decimal}
use Rattle.trace.specs.Names.{kind_name, cause_name, why_name, refusal_name}
use Rattle.trace.specs.Printed.{printed}
use Rattle.trace.specs.Answers.{stage_number, stage_refusal, cause_number, cause_values, cause_why, end_number, end_values, end_why, ending_number, ending_values, ending_why}
use Rattle.trace.specs.Outcomes.{StepLine, EndLine, RefusedLine, Ends, Loads, Begins, Tells}
use Rattle.trace.specs.declared.line.Line.{Line}
use Rattle.trace.specs.declared.end.Cause.{Cause}
use Rattle.trace.specs.declared.end.End.{End}
use Rattle.trace.specs.End.{Ending}
use Rattle.trace.specs.declared.run.Trace.{Trace}
use Rattle.trace.specs.declared.run.Told.{Told}

-- Promise 1. R29: the program's order, in plain terms. R8, R9
abbrev pub program_plain : ℕ → List PlainCase
program_plain bytes = 8 if (32768 < bytes) ∷ 9 if (bytes % 4 ≡ 0 → ⊥) ∷ []

-- R21, R29: a run is refused exactly so
pub record Refused : Type 0 where
  pub begin : (bytes : ℕ) (t : Trace) → Begins bytes t → (n : ℕ) → stage_refusal t.stage ≡ some n ↔ FirstIs (program_plain bytes) n
  -- R31: what is told last, a refusal too, changes neither channel nor semaphore words
  pub unchanged :
      (t : Trace) (ws sems : List ℕ) (told : Told) (exit : List ℕ)
      → Tells t ws sems told exit
      → stage_number told.trace.stage ≡ 3
      → (told.trace.channel ≡ t.channel) × (exit ≡ sems)

-- Each contract leaves one outcome: any two that it allows are equal.
pub record One : Type 0 where
  pub step_line : (step get : ℕ) (e : Event) (a b : Line) → StepLine step get e a → StepLine step get e b → a ≡ b
  pub end_line : (e : End) (steps get ref : ℕ) (a b : Line) → EndLine e steps get ref a → EndLine e steps get ref b → a ≡ b
  pub refused_line : (n : Refusal) (a b : Line) → RefusedLine n a → RefusedLine n b → a ≡ b
  pub ended : (c : Channel) (steps : ℕ) (a b : Ending) → Ends c steps a → Ends c steps b → a ≡ b
  pub words_in : (bytes words : List ℕ) (a b : ℕ) (x y : List ℕ) → Loads bytes words a x → Loads bytes words b y → (a ≡ b) × (x ≡ y)
  pub begin : (bytes : ℕ) (a b : Trace) → Begins bytes a → Begins bytes b → a ≡ b
  pub next_line :
      (t : Trace) (ws sems : List ℕ) (a b : Told) (x y : List ℕ)
      → Tells t ws sems a x
      → Tells t ws sems b y
      → (a ≡ b) × (x ≡ y)

-- T1: a run begins at a channel, and no step is made.
pub record StartsAt (c : Channel) (n : ℕ) (t : Trace) : Type 0 where
  pub channel : t.channel ≡ c
  pub stage : stage_number t.stage ≡ n
  pub steps : t.steps ≡ 0

-- T1: which channel: opened so, whatever ib_order is asked for, with put at the number of bytes
pub record Begun : Type 0 where
  pub runs :
      (bytes order : ℕ) (t : Trace) (o : Opened) (q : Put)
      → Begins bytes t
      → stage_refusal t.stage ≡ none
      → Opens 3 0 order false 0 0xffffffff [] o
      → Puts o.channel bytes q
      → (opening_refusal o.answer ≡ none) × (check_refusal q.answer ≡ none) × StartsAt q.channel 2 t
  -- of a run that is refused, put is not set
  pub refused :
      (bytes order n : ℕ) (t : Trace) (o : Opened)
      → Begins bytes t
      → stage_refusal t.stage ≡ some n
      → Opens 3 0 order false 0 0xffffffff [] o
      → StartsAt o.channel 1 t

-- T6: how a run has ended, at every channel. A number 0 of the errors is none.
pub record Ended : Type 0 where
  -- T9, S33: 1 is error, with its cause: 1 the pusher's or 2 the puller's, and the error's number and why
  pub pusher_error :
      (c : Channel) (n : ℕ) (a : Ending)
      → Ends c n a
      → (pusher.number c.pusher.error ≡ 0 → ⊥)
      → (ending_number a ≡ 1) × (ending_values a ≡ 1 ∷ pusher.number c.pusher.error ∷ []) × (ending_why a ≡ pusher.why c.pusher.error)
  pub puller_error :
      (c : Channel) (n : ℕ) (a : Ending)
      → Ends c n a
      → pusher.number c.pusher.error ≡ 0
      → (puller.number c.puller.error ≡ 0 → ⊥)
      → (ending_number a ≡ 1) × (ending_values a ≡ 2 ∷ puller.number c.puller.error ∷ []) × (ending_why a ≡ none)
  -- 2 is idle, exactly if the channel's `idle` says so;
  pub idle : (c : Channel) (n : ℕ) (a : Ending) (b : Bool) → Ends c n a → Idles c b → ending_number a ≡ 2 ↔ b ≡ true
  -- exactly if a further step that is not refused says so, whatever is lent to it
  pub further_step :
      (c : Channel) (n : ℕ) (a : Ending) (l : Loan) (exit : List ℕ) (r : Stepped)
      → Ends c n a
      → StepsTo c l r exit
      → step_refusal r.answer ≡ none
      → ending_number a ≡ 2 ↔ (answer_values r.answer ≡ number kind.Idle ∷ [])
  -- 3 is budget, and 0 goes on: of a channel that is neither stopped nor idle
  pub budget :
      (c : Channel) (n : ℕ) (a : Ending) (b : Bool)
      → Ends c n a
      → pusher.number c.pusher.error ≡ 0
      → puller.number c.puller.error ≡ 0
      → Idles c b
      → b ≡ false
      → (ending_number a ≡ 3 ↔ 65536 ≤ n) × (ending_number a ≡ 0 ↔ n < 65536)

-- An ending is told by its number, values and why: what a promise says of an ending, it says of them.
abbrev pub Endings : Type 0
Endings = (a b : Ending) → ending_number a ≡ ending_number b → ending_values a ≡ ending_values b → ending_why a ≡ ending_why b → a ≡ b

-- Every line has room for its text: its length is the text's, and the bytes are the text's and then 0.
pub record Has (t : List ℕ) (l : Line) : Type 0 where
  pub length : l.length ≡ length t
  pub text : take l.length l.bytes ≡ t
  pub rest : drop l.length l.bytes ≡ replicate (160 - l.length) 0

-- What the lines say, field by field; what the texts, numbers and names in them are is said by `Texts` and `Names`.
pub record Whole : Type 0 where
  -- T3, T5: a step's line, of a kind alone
  pub step_line :
      (step get : ℕ) (e : Event) (k : Kind) (l : Line)
      → StepLine step get e l
      → values e ≡ number k ∷ []
      → Has (text "step=" ++ decimal step ++ text " get=" ++ decimal get ++ text " kind=" ++ text (kind_name k) ++ text "\n") l
  -- T4: and of a kind with subchannel, method and parameter
  pub method_line :
      (step get : ℕ) (e : Event) (k : Kind) (b m p : ℕ) (l : Line)
      → StepLine step get e l
      → values e ≡ number k ∷ b ∷ m ∷ p ∷ []
      → Has
      (text "step="
      ++ decimal step
      ++ text " get="
      ++ decimal get
      ++ text " kind="
      ++ text (kind_name k)
      ++ text " subc="
      ++ decimal b
      ++ text " mthd="
      ++ decimal m
      ++ text " param="
      ++ decimal p
      ++ text "\n")
      l
  -- T7: the end line: 2 is idle, 3 budget, and 1 error, with its cause
  pub idle_line :
      (e : End) (steps get ref : ℕ) (l : Line)
      → EndLine e steps get ref l
      → end_number e ≡ 2
      → Has (text "end=idle steps=" ++ decimal steps ++ text " get=" ++ decimal get ++ text " ref=" ++ decimal ref ++ text "\n") l
  pub budget_line :
      (e : End) (steps get ref : ℕ) (l : Line)
      → EndLine e steps get ref l
      → end_number e ≡ 3
      → Has (text "end=budget steps=" ++ decimal steps ++ text " get=" ++ decimal get ++ text " ref=" ++ decimal ref ++ text "\n") l
  pub error_line :
      (e : End) (c : Cause) (steps get ref : ℕ) (l : Line)
      → EndLine e steps get ref l
      → end_number e ≡ 1
      → end_values e ≡ cause_number c ∷ cause_values c
      → end_why e ≡ cause_why c
      → cause_why c ≡ none
      → Has
      (text "end=error cause="
      ++ text (cause_name c)
      ++ text " steps="
      ++ decimal steps
      ++ text " get="
      ++ decimal get
      ++ text " ref="
      ++ decimal ref
      ++ text "\n")
      l
  -- T7: and right behind it the why, where there is one
  pub why_line :
      (e : End) (c : Cause) (n steps get ref : ℕ) (l : Line)
      → EndLine e steps get ref l
      → end_number e ≡ 1
      → end_values e ≡ cause_number c ∷ cause_values c
      → end_why e ≡ cause_why c
      → cause_why c ≡ some n
      → Has
      (text "end=error cause="
      ++ text (cause_name c)
      ++ text " why="
      ++ text (why_name n)
      ++ text " steps="
      ++ decimal steps
      ++ text " get="
      ++ decimal get
      ++ text " ref="
      ++ decimal ref
      ++ text "\n")
      l
  -- T2: a refusal's line
  pub refused_line : (n : Refusal) (l : Line) → RefusedLine n l → Has (text "refused=" ++ text (refusal_name n.number) ++ text "\n") l

-- A number in decimal: digits, the most significant first, whose value it is, at least one and no 0 before others. '0' is byte 48.
abbrev pub value_of : List ℕ → ℕ
value_of ds = foldl (λ v d. 10 * v + (d - 48)) 0 ds

pub record Decimal (n : ℕ) (ds : List ℕ) : Type 0 where
  pub value : value_of ds ≡ n
  pub digits : (i : ℕ) → i < length ds → (48 ≤ get_or ds i 0) × (get_or ds i 0 ≤ 57)
  pub some : 1 ≤ length ds
  pub no_zero : 1 < length ds → get_or ds 0 0 ≡ 48 → ⊥

-- T10: a text is the codes of its characters; a number, which has at most 64 bits, is its decimal digits.
pub record Texts : Type 0 where
  pub nothing : text "" ≡ []
  pub character : (c : Char) (s : String) → text (c and s) ≡ code c ∷ text s
  pub number : (n : ℕ) → n < 2 ^ 64 → Decimal n (decimal n)

-- The names, each at the number of what it names, from 1; 0 has the empty name. T5: the kinds'
abbrev pub kinds_named : List (Option String)
kinds_named =
    map some
    ("" ∷ "command" ∷ "count" ∷ "bind" ∷ "ref" ∷ "event" ∷ "dma" ∷ "offset" ∷ "acquire" ∷ "release" ∷ "wait" ∷ "forward" ∷ "error" ∷ "entry" ∷ "discard" ∷ "idle" ∷ "stopped" ∷ [])

-- T8: the pusher's errors'
abbrev pub pusher_named : List (Option String)
pusher_named = map some ("" ∷ "CALL" ∷ "NON_CACHE" ∷ "RETURN" ∷ "RESERVED_CMD" ∷ "IB" ∷ "PROTECTION" ∷ [])

-- T8: the puller's
abbrev pub puller_named : List (Option String)
puller_named = map some ("" ∷ "NO_HASH" ∷ "EMPTY_SUBCHANNEL" ∷ "SEMAPHORE_1" ∷ "SEMAPHORE_2" ∷ "SEMAPHORE_3" ∷ "SEMAPHORE_4" ∷ [])

-- T5, T8: no kind and no error is left out. T2: of the refusals' numbers, 0 and those past the list have the empty name.
pub record Names : Type 0 where
  pub kinds : (k : Kind) → get_or kinds_named (number k) none ≡ some (kind_name k)
  pub pusher : (c : Cause) (n : ℕ) → cause_number c ≡ 1 → cause_values c ≡ n ∷ [] → get_or pusher_named n none ≡ some (cause_name c)
  pub puller : (c : Cause) (n : ℕ) → cause_number c ≡ 2 → cause_values c ≡ n ∷ [] → get_or puller_named n none ≡ some (cause_name c)
  -- T11: the whys'
  pub whys : map why_name (1 ∷ 2 ∷ 3 ∷ 4 ∷ []) ≡ "FORM" ∷ "LEVEL" ∷ "MODE" ∷ "SLI" ∷ []
  -- the refusals', R1 to R13
  pub refusals :
      map refusal_name (1 ∷ 2 ∷ 3 ∷ 4 ∷ 5 ∷ 6 ∷ 7 ∷ 8 ∷ 9 ∷ 10 ∷ 11 ∷ 12 ∷ 13 ∷ [])
      ≡ "LEVEL" ∷ "MODE" ∷ "ORDER" ∷ "SLI" ∷ "TABLE" ∷ "DUPLICATE" ∷ "PUT" ∷ "SIZE" ∷ "LENGTH" ∷ "FIELD" ∷ "ROOM" ∷ "FORM" ∷ "STATE" ∷ []
  pub none_else : (n : ℕ) → (n ≡ 0) ⊎ (13 < n) → refusal_name n ≡ ""

-- The next line of a run, and what it leaves.

-- of the run's last line: it is over, and nothing else changes
pub record Closes (t : Trace) (sems : List ℕ) (told : Told) (exit : List ℕ) : Type 0 where
  pub stage : stage_number told.trace.stage ≡ 3
  pub channel : told.trace.channel ≡ t.channel
  pub steps : told.trace.steps ≡ t.steps
  pub memory : exit ≡ sems

-- of a step's: channel and semaphore words are as the step leaves them, and it is counted
pub record Counts (t : Trace) (r : Stepped) (after : List ℕ) (told : Told) (exit : List ℕ) : Type 0 where
  pub stage : stage_number told.trace.stage ≡ 2
  pub channel : told.trace.channel ≡ r.channel
  pub steps : told.trace.steps ≡ t.steps + 1
  pub memory : exit ≡ after

pub record NextLine : Type 0 where
  -- T2: a run that is refused tells the refusal, and one that is over nothing more
  pub refused :
      (t : Trace) (ws sems : List ℕ) (told : Told) (exit : List ℕ) (n : Refusal)
      → Tells t ws sems told exit
      → stage_refusal t.stage ≡ some n.number
      → RefusedLine n told.line × Closes t sems told exit
  pub over :
      (t : Trace) (ws sems : List ℕ) (told : Told) (exit : List ℕ)
      → Tells t ws sems told exit
      → stage_number t.stage ≡ 3
      → Has [] told.line × Closes t sems told exit
  -- T6, T7: one that runs and has ended tells its end, with the steps, the read address and the reference counter,
  pub end :
      (t : Trace) (ws sems : List ℕ) (told : Told) (exit : List ℕ) (a : Ending) (e : End)
      → Tells t ws sems told exit
      → stage_number t.stage ≡ 2
      → Ends t.channel t.steps a
      → ending_number a ≡ end_number e
      → ending_values a ≡ end_values e
      → ending_why a ≡ end_why e
      → EndLine e t.steps t.channel.pusher.get t.channel.puller.reference told.line × Closes t sems told exit
  -- T1, T3: and one that goes on makes a step, to which the words, the semaphore words, no IB entries, an empty table and the clock 0
  -- are lent, and tells its event, with the read address before the step
  pub step :
      (t : Trace) (ws sems : List ℕ) (told : Told) (exit : List ℕ) (a : Ending) (r : Stepped) (after : List ℕ) (e : Event)
      → Tells t ws sems told exit
      → stage_number t.stage ≡ 2
      → Ends t.channel t.steps a
      → ending_number a ≡ 0
      → StepsTo t.channel (to_step ws [] [] sems 0) r after
      → answer_values r.answer ≡ values e
      → StepLine (t.steps + 1) t.channel.pusher.get e told.line × Counts t r after told exit
  -- or its refusal
  pub refused_step :
      (t : Trace) (ws sems : List ℕ) (told : Told) (exit : List ℕ) (a : Ending) (r : Stepped) (after : List ℕ) (n : Refusal)
      → Tells t ws sems told exit
      → stage_number t.stage ≡ 2
      → Ends t.channel t.steps a
      → ending_number a ≡ 0
      → StepsTo t.channel (to_step ws [] [] sems 0) r after
      → step_refusal r.answer ≡ some n.number
      → RefusedLine n told.line × Closes t sems told exit

-- W17: the words that the bytes are, read into lent ones.
pub record Loaded : Type 0 where
  -- where there is room, all of them stand in front, and the rest stays;
  pub all :
      (bytes words : List ℕ) (n : ℕ) (exit : List ℕ)
      → Loads bytes words n exit
      → length bytes / 4 ≤ length words
      → (n ≡ length bytes / 4) × (take n exit ≡ words_of bytes) × (drop n exit ≡ drop n words)
  -- else as many as there is room for
  pub some :
      (bytes words : List ℕ) (n : ℕ) (exit : List ℕ)
      → Loads bytes words n exit
      → length words ≤ length bytes / 4
      → (n ≡ length words) × (exit ≡ take n (words_of bytes))

-- The lines of a run, in turn, are what the program prints.

-- k lines of a run, from one of its moments to its end, have this text
pub data Tells-in-turn (ws : List ℕ) : ℕ → Trace → List ℕ → List ℕ → Type 0 where
  over : (t : Trace) (sems : List ℕ) → stage_number t.stage ≡ 3 → Tells-in-turn ws 0 t sems []
  line :
      (k : ℕ) (t : Trace) (sems : List ℕ) (told : Told) (exit rest : List ℕ)
      → Tells t ws sems told exit
      → Tells-in-turn ws k told.trace exit rest
      → Tells-in-turn ws (suc k) t sems (take told.line.length told.line.bytes ++ rest)

-- the channel and the semaphore words that steps lead to, from a channel and 1,024 zero semaphore words, where these words, no IB
-- entries, an empty table and the clock 0 are lent
pub data LeadsTo (ws : List ℕ) (c : Channel) : Channel → List ℕ → Type 0 where
  none_made : LeadsTo ws c c (replicate 1024 0)
  step_made :
      (d e : Channel) (sems exit : List ℕ) (r : Stepped)
      → LeadsTo ws c d sems
      → StepsTo d (to_step ws [] [] sems 0) r exit
      → e ≡ r.channel
      → LeadsTo ws c e exit

-- T1 to T11: all of it together
pub record Printed : Type 0 where
  -- from its beginning, over the words that the bytes are and 1,024 zero semaphore words, in at most 65,537 lines (T6)
  pub lines :
      (bytes : List ℕ) (t : Trace)
      → ((i : ℕ) → get_or bytes i 0 < 2 ^ 8)
      → Begins (length bytes) t
      → (k : ℕ) × (k ≤ 65537) × Tells-in-turn (words_of bytes) k t (replicate 1024 0) (printed bytes)
  -- and no step of it is refused
  pub none_refused :
      (bytes : List ℕ) (t : Trace) (d : Channel) (sems exit : List ℕ) (r : Stepped)
      → ((i : ℕ) → get_or bytes i 0 < 2 ^ 8)
      → Begins (length bytes) t
      → stage_refusal t.stage ≡ none
      → LeadsTo (words_of bytes) t.channel d sems
      → StepsTo d (to_step (words_of bytes) [] [] sems 0) r exit
      → step_refusal r.answer ≡ none

-- Texts to try: T3, T4, T7 with two words; no words; errors; and T2
pub record Cases : Type 0 where
  pub printed_case :
      printed (0x50 ∷ 0x00 ∷ 0x04 ∷ 0x00 ∷ 0x07 ∷ 0x00 ∷ 0x00 ∷ 0x00 ∷ [])
      ≡ text "step=1 get=0 kind=command\nstep=2 get=4 kind=ref subc=0 mthd=80 param=7\nend=idle steps=2 get=8 ref=7\n"
  pub no_words : printed [] ≡ text "end=idle steps=0 get=0 ref=0\n"
  -- a return without a call
  pub error : printed (0x00 ∷ 0x00 ∷ 0x02 ∷ 0x00 ∷ []) ≡ text "step=1 get=0 kind=error\nend=error cause=RETURN steps=1 get=4 ref=0\n"
  -- T11: no form; a long form, which is IB mode's; an SLI conditional
  pub formless : printed (0x03 ∷ 0x00 ∷ 0x00 ∷ 0x00 ∷ []) ≡ text "step=1 get=0 kind=error\nend=error cause=RESERVED_CMD why=FORM steps=1 get=4 ref=0\n"
  pub long : printed (0x00 ∷ 0x41 ∷ 0x03 ∷ 0x00 ∷ []) ≡ text "step=1 get=0 kind=error\nend=error cause=RESERVED_CMD why=MODE steps=1 get=4 ref=0\n"
  pub conditional : printed (0x50 ∷ 0x00 ∷ 0x01 ∷ 0x00 ∷ []) ≡ text "step=1 get=0 kind=error\nend=error cause=RESERVED_CMD why=SLI steps=1 get=4 ref=0\n"
  pub part_word : printed (0x50 ∷ []) ≡ text "refused=LENGTH\n"
