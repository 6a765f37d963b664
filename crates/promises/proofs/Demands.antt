-- The demands, each from the proofs of its statements. Assumes nothing.
use Rattle.word.proofs.Promises as word
use Rattle.word.proofs.Forms as word_forms
use Rattle.word.proofs.Told as word_told
use Rattle.event.proofs.Promises as event
use Rattle.puller.proofs.Apart as puller_apart
use Rattle.puller.proofs.Failing as puller_failing
use Rattle.puller.proofs.Promises as puller
use Rattle.puller.proofs.Widths as puller_widths
use Rattle.pusher.proofs.Failing as pusher_failing
use Rattle.pusher.proofs.Promises as pusher
use Rattle.pusher.proofs.Told as pusher_told
use Rattle.pusher.proofs.Widths as pusher_widths
use Rattle.channel.proofs.Apart as channel_apart
use Rattle.channel.proofs.Limit as channel_limit
use Rattle.channel.proofs.AtMostOneMove as channel_moves
use Rattle.channel.proofs.Idling as channel_idling
use Rattle.channel.proofs.Promises as channel
use Rattle.channel.proofs.ReadAs as channel_read
use Rattle.rules.proofs.ExactIsOne as Rules-Exact
use Rattle.rules.proofs.ExactMap as rules_exact_map
use Rattle.rules.proofs.Finds as rules_finds
use Rattle.rules.proofs.Examples as rules_examples
use Rattle.rules.proofs.NoneWraps as rules_none_wraps
use Rattle.rules.proofs.Promises as rules
use Rattle.rules.proofs.Reasons as rules_reasons
use Rattle.rules.proofs.Whys as rules_whys
use Rattle.rules.proofs.Sound as rules_sound
use Rattle.rules.proofs.SoundMoves as rules_moves
use Rattle.search.proofs.Promises as search
use Rattle.repair.proofs.Promises as repair
use Rattle.upborliya.proofs.GivesBack as upborliya_back
use Rattle.upborliya.proofs.Promises as upborliya
use Rattle.upborliya.proofs.ReadingBack as upborliya_reading
use Rattle.upborliya.proofs.RepairBack as upborliya_repair
use Rattle.listing.proofs.Promises as listing
use Rattle.trace.proofs.Promises as trace
use Rattle.promises.specs.Demands.{First, Second, Third, Demands}

first : First
first =
    record {
      word_refused = word.refused;
      channel_refused = channel.refused;
      channel_accepted = channel.accepted;
      gate_refused = rules.refused;
      gate_lengths = rules.lengths;
      search_refused = search.refused;
      repair_refused = repair.refused;
      listing_refused = listing.refused;
      trace_refused = trace.refused;
      gate_submitted = rules.submitted;
      gate_reasons = rules_reasons.reasons;
      gate_whys = rules_whys.whys;
      gate_first_pairs = rules_reasons.first_pairs;
      gate_at_one_pair = rules_reasons.at_one_pair;
      counted = rules.counted;
      c_gives_back = upborliya_back.gives_back;
      c_reading_back = upborliya_reading.reading_back;
      c_repair_back = upborliya_repair.repair_back;
      word_one = word.one;
      event_one = event.one;
      puller_one = puller.one;
      pusher_one = pusher.one;
      channel_one = channel.one;
      gate_one = rules.one;
      search_one = search.one;
      repair_one = repair.one;
      c_one = upborliya.one;
      listing_one = listing.one;
      trace_one = trace.one;
    }

second : Second
second =
    record {
      steps = channel.steps;
      pusher_failing = pusher_failing.failing;
      puller_failing = puller_failing.failing;
      first_repeat = puller.first_repeat;
      signed = puller.signed;
      puller_apart = puller_apart.apart;
      channel_apart = channel_apart.apart;
      limit = channel_limit.limit;
      channel_no_other = channel.no_other;
      pusher_no_other = pusher.no_other;
      puller_no_other = puller.no_other;
      kept = channel.kept;
      pusher_widths = pusher_widths.keeps_widths;
      puller_widths = puller_widths.keeps_widths;
      idle = channel_idling.idle;
      pusher_setters = pusher.setters;
      puller_setters = puller.setters;
      pusher_lends = pusher.lends;
      puller_lends = puller.lends;
      channel_lends = channel.lends;
      kinds = event.kinds;
      pusher_errors = pusher.errors;
      puller_errors = puller.errors;
      events_told = event.told;
      readings_told = word_told.told;
      whys = word_told.whys;
      moves_told = pusher_told.told;
      forms = word_forms.forms;
      parameters = word_told.parameters;
      read_back = word.read_back;
      write_back = word.write_back;
      says_why = word.says_why;
      at_place = word.at_place;
      widths = word.widths;
      specials = word.specials;
      one_form = word_forms.one_form;
      little_endian = word.little_endian;
      new = listing.new;
      listed = listing.items;
      stays = listing.stays;
      next = listing.next;
      gives_back = listing.gives_back;
      begun = trace.begun;
      ended = trace.ended;
      endings = trace.endings;
      whole = trace.whole;
      texts = trace.texts;
      names = trace.names;
      next_line = trace.next_line;
      loaded = trace.loaded;
      printed = trace.printed;
      printed_cases = trace.cases;
      words = word.numbers;
      entry = pusher.entry_numbers;
    }

third : Third
third =
    record {
      sound = rules_sound.sound;
      sound_moves = rules_moves.sound_moves;
      at_most_one_move = channel_moves.at_most_one_move;
      read_as = channel_read.read_as;
      complete = rules.complete;
      exact_is_one = Rules-Exact.exact_is_one;
      exact_map = rules_exact_map.exact_map_lem;
      none_bad = rules.none_bad;
      none_wraps = rules_none_wraps.none_wraps;
      finds = rules_finds.finds;
      search_tells = search.tells;
      repair_mended = repair.mended;
      repair_accepted = repair.accepted;
      repair_again = repair.again;
      repair_none_lost = repair.none_lost;
      repair_listed = repair.listed;
      repair_cleared = repair.cleared;
      repair_lends = repair.lends;
      examples = rules_examples.examples;
    }

pub demands : Demands
demands = record { first = first; second = second; third = third }
