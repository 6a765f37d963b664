-- The three demands, in the inspector's own words, which are the ones that are signed; each with the statements that say it. A
-- statement stands in specs/ of the crate that it is about; it speaks of public functions through their contracts (that crate's
-- specs/Outcomes.antt), and that every function meets its contract at every input is what the check of its crate proves.
-- docs/PROMISES.md has each statement in plain words, the rules that each demand rests on, and what signing does not cover. 'The paper'
-- of the inspector's words is the scope that was agreed; docs/CARD.md says all of it, rule by rule.
use Rattle.word.specs.Numbers as numbers
use Rattle.word.specs.Promises as word
use Rattle.word.specs.Forms as word_forms
use Rattle.event.specs.Promises as event
use Rattle.puller.specs.Promises as puller
use Rattle.puller.specs.Widths as puller_widths
use Rattle.pusher.specs.Promises as pusher
use Rattle.pusher.specs.Widths as pusher_widths
use Rattle.channel.specs.Promises as channel
use Rattle.rules.specs.Promises as rules
use Rattle.rules.specs.Reasons as reasons
use Rattle.rules.specs.Examples as examples
use Rattle.search.specs.Promises as search
use Rattle.repair.specs.Promises as repair
use Rattle.upborliya.specs.Promises as upborliya
use Rattle.listing.specs.Promises as listing
use Rattle.trace.specs.Promises as trace

-- 1. "Any words, tables, maps and numbers at all get an answer. Nobody need check before calling. Each refusal to judge or act is one
-- of those in the paper's table, given exactly when the table says, and changes neither the channel nor any lent memory."
pub record First : Type 0 where
  pub word_refused : word.Refused
  pub channel_refused : channel.Refused
  pub channel_accepted : channel.Accepted
  pub gate_refused : rules.Refused
  pub gate_lengths : rules.Lengths
  pub search_refused : search.Refused
  pub repair_refused : repair.Refused
  pub listing_refused : listing.Refused
  pub trace_refused : trace.Refused
  -- and so is a reason of what is submitted, with its place and, of a reserved word, its why; of the first refused pair also its state, and
  -- of one pair each part of the list by itself
  pub gate_submitted : reasons.Submitted
  pub gate_reasons : reasons.Reasons
  pub gate_whys : reasons.Whys
  pub gate_first_pairs : reasons.FirstPairs
  pub gate_at_one_pair : reasons.AtOnePair
  -- the count of the answer is the number of permitted methods, and the numbers for C give the answers back
  pub counted : rules.Counted
  pub c_gives_back : upborliya.GivesBack
  pub c_reading_back : upborliya.ReadingBack
  pub c_repair_back : upborliya.RepairBack
  -- and no contract leaves two outcomes
  pub word_one : word.One
  pub event_one : event.One
  pub puller_one : puller.One
  pub pusher_one : pusher.One
  pub channel_one : channel.One
  pub gate_one : rules.One
  pub search_one : search.One
  pub repair_one : repair.One
  pub c_one : upborliya.One
  pub listing_one : listing.One
  pub trace_one : trace.One

-- 2. "Every step of the channel does what the public PFIFO description says, as the paper condenses it: the same event, error,
-- channel state and semaphore words. The writer of commands is exact too: what it writes reads back as the same command, and any
-- accepted command writes back to the same words, but for the eight unused bits of a long count."
pub record Second : Type 1 where
  -- what the channel, its pusher and its puller do, sentence by sentence, at every channel that is not refused
  pub steps : channel.Steps
  pub pusher_failing : pusher.Failing
  pub puller_failing : puller.Failing
  pub first_repeat : puller.FirstRepeat
  -- when a long acquire passes, in numbers; and what neither the clock nor the long semaphore has a part in
  pub signed : puller.Signed
  pub puller_apart : puller.Apart
  pub channel_apart : channel.Apart
  -- the limit, which counts in NV04-style alone, at one address in both modes
  pub limit : channel.Limit
  -- and the sentences leave no case open
  pub channel_no_other : channel.NoOther
  pub pusher_no_other : pusher.NoOther
  pub puller_no_other : puller.NoOther
  -- what is opened is never refused as ill-formed, whatever puts and steps come after, since neither half leaves its widths
  pub kept : channel.Kept
  pub pusher_widths : pusher_widths.KeepsWidths
  pub puller_widths : puller_widths.KeepsWidths
  -- whether a further step would be idle
  pub idle : channel.Idle
  -- by what the sentences name things: halves with one thing changed; what is lent as one thing; kinds, errors and whys by their numbers;
  -- events, readings and what a move did by their numbers and values, a reading also by its why
  pub pusher_setters : pusher.Setters
  pub puller_setters : puller.Setters
  pub pusher_lends : pusher.Lends
  pub puller_lends : puller.Lends
  pub channel_lends : channel.Lends
  pub kinds : event.Kinds
  pub pusher_errors : pusher.Errors
  pub puller_errors : puller.Errors
  pub events_told : event.Told
  pub readings_told : word.Told
  pub whys : word.Whys
  pub moves_told : pusher.Told
  -- reader and writer: which word reads as what, or why as nothing, and how many parameters a command has; why one may not be written
  pub forms : word_forms.Forms
  pub parameters : word.Parameters
  pub read_back : word.ReadBack
  pub write_back : word.WriteBack
  pub says_why : word.SaysWhy
  pub at_place : word.AtPlace
  pub widths : word.Widths
  pub specials : word.Specials
  pub one_form : word_forms.OneForm
  pub little_endian : word.LittleEndian
  -- the listing: where a reader begins, which item stands where, where it stays, how it goes on, and that it gives back what the
  -- writer wrote
  pub new : listing.New
  pub listed : listing.Items
  pub stays : listing.Stays
  pub next : listing.Next
  pub gives_back : listing.GivesBack
  -- the program: how a run begins and ends, what every line says, that every line has room for it, what each line of a run is, that
  -- every word is read, and what is printed of every input
  pub begun : trace.Begun
  pub ended : trace.Ended
  pub endings : trace.Endings
  pub whole : trace.Whole
  pub texts : trace.Texts
  pub names : trace.Names
  pub next_line : trace.NextLine
  pub loaded : trace.Loaded
  pub printed : trace.Printed
  pub printed_cases : trace.Cases
  -- words and an entry to try
  pub words : numbers.Numbers
  pub entry : pusher.EntryNumbers

-- 3. "The author supplies a map of where commands start; we don't trust it. If the gatekeeper accepts words and map, then a fresh
-- NV04-style channel of the same level and SLI setting, put set once, at the end of those unchanged words, and the limit not below
-- the last one, never raises a pusher error in any number of steps, submits only permitted methods, reads no word both as command
-- and as parameter, and when its read address reaches put has no command or subroutine open. And where the table refuses neither
-- level, SLI setting nor sizes, and no place reached by the paper's path rule is bad, the map that marks exactly the reached places
-- is accepted."
pub record Third : Type 0 where
  pub sound : rules.Sound
  -- of the pusher's moves alone, and how a step comes to one
  pub sound_moves : rules.SoundMoves
  pub at_most_one_move : channel.AtMostOneMove
  -- what 'reads as' is by event
  pub read_as : channel.ReadAs
  pub complete : rules.Complete
  pub exact_is_one : rules.ExactIsOne
  pub exact_map : rules.ExactMap
  -- what is accepted has no bad place, and no run past the last method
  pub none_bad : rules.NoneBad
  pub none_wraps : reasons.NoneWraps
  -- the pairs that are reached, as they are found one from another, and as the search's room tells them
  pub finds : rules.Finds
  pub search_tells : search.Tells
  -- the author's map put right: the exact one comes out, and is accepted where any is; what it leaves of an accepted one; what changed is
  -- listed, and the work room cleared; and by which names what is lent goes
  pub repair_mended : repair.Mended
  pub repair_accepted : repair.Accepted
  pub repair_again : repair.Again
  pub repair_none_lost : repair.NoneLost
  pub repair_listed : repair.Listed
  pub repair_cleared : repair.Cleared
  pub repair_lends : repair.Lends
  -- small submissions that the second half speaks of, and one with a bad place
  pub examples : examples.Examples

pub record Demands : Type 1 where
  pub first : First
  pub second : Second
  pub third : Third
