-- `Cases`: what the program prints of seven inputs. Assumes nothing.
use Prim.Native.Nat.{ℕ, ◌<◌}
use mathlib.Core.Path.{◌≡◌, refl, ◌∙◌}
use mathlib.Core.Bool.{true}
use mathlib.Core.List.{List, ◌++◌}
use mathlib.Core.Option.{none, some}
use native.Mathlib.Omega.{arith}
use lib.ListN.{length}
use Rattle.word.specs.First.{choose, first}
use Rattle.word.specs.Lowest.{keep, lowest, found?}
use Rattle.word.specs.Lent.{words_of}
use Rattle.word.specs.Parts.{has_bits, numbers_in}
use Rattle.word.specs.Why.{why_number, why_of}
use Rattle.word.specs.Form.{nowhere?, in_mode, increasing, non_increasing, sli_conditional, returning, long, old_jump, jump, call, everything_else, forms, form_in, why_not, usable}
use Rattle.word.specs.Reading.{command_in, reading_of, read_of}
use Rattle.word.specs.Setting.{refused_or}
use Rattle.word.specs.Special.{specials, listed, present_of}
use Rattle.word.proofs.Lowest.{lowest_at}
use Rattle.word.proofs.Settings.{accepted}
use Rattle.event.specs.Event.{number}
use Rattle.puller.specs.Object.{repeat_at, repeat_of}
use Rattle.puller.specs.Record as puller_record
use Rattle.puller.specs.Taking as puller
use Rattle.pusher.specs.Record as pusher_record
use Rattle.pusher.specs.Moving as pusher
use Rattle.channel.specs.State.{setup_fits, within, address_bits, engines_fit, aligned, well_formed}
use Rattle.channel.specs.Opening.{duplicate_or, opening_of, held_order, opened, open_of}
use Rattle.channel.specs.Putting.{put_refused, with_put, put_of}
use Rattle.channel.specs.Idle.{idles}
use Rattle.channel.specs.Many.{after}
use Rattle.channel.specs.Stepping.{is_stopped, role, finished, act, step_of}
use Rattle.trace.specs.Text.{text, or_else, width, decimal}
use Rattle.trace.specs.Names.{kinds, kind_name, pusher_errors, pusher_name, cause_name, whys, why_name, refusals, refusal_name}
use Rattle.trace.specs.End.{cause_of, ending_of}
use Rattle.trace.specs.Lines.{field, fields, event_text, step_text, why_part, cause_part, end_part, end_text, refused_text}
use Rattle.trace.specs.LineByLine.{program_cases, begin_of}
use Rattle.trace.specs.Printed.{moment_after, ending_at, over?, steps_of, answer_text, lines_from, line_of_end, run_text, printed}
use Rattle.trace.specs.Promises.{Cases}

-- the text of a run of n steps: it goes on before them, and is over after them
run_of :
    (bytes : List ℕ) (n : ℕ)
    → first (program_cases (length bytes)) ≡ none
    → n < 65536
    → lowest (λ i. over? (ending_at bytes i)) n ≡ none
    → over? (ending_at bytes n) ≡ true
    → printed bytes ≡ lines_from bytes 0 n ++ line_of_end (ending_at bytes n) n (moment_after bytes n).channel
unfolding printed run_text steps_of or_else
run_of bytes n few low before at =
    accepted _ (run_text bytes) few ∙ rw (lowest_at (λ i. over? (ending_at bytes i)) 65536 n before low at)

refusal_of : (bytes : List ℕ) (n : ℕ) → first (program_cases (length bytes)) ≡ some n → printed bytes ≡ refused_text n
unfolding printed refused_or
refusal_of bytes n e = rw e

pub examples : Cases
unfolding why_number why_of choose first keep lowest found? words_of has_bits numbers_in in_mode increasing non_increasing sli_conditional returning long old_jump jump call everything_else forms form_in nowhere? why_not usable command_in reading_of read_of refused_or specials listed present_of number repeat_at repeat_of puller_record.number puller_record.halts puller.rows puller.deed_in puller.deed_of puller.act puller.take_of pusher_record.number pusher_record.why pusher_record.halts pusher.word_role pusher.role pusher.advanced pusher.parameter_of pusher.begun pusher.returned pusher.commanded pusher.act pusher.push_of setup_fits within address_bits engines_fit aligned well_formed duplicate_or opening_of held_order opened open_of put_refused with_put put_of is_stopped role finished act step_of text or_else width decimal kinds kind_name pusher_errors pusher_name cause_name whys why_name refusals refusal_name cause_of idles ending_of field fields event_text step_text why_part cause_part end_part end_text refused_text begin_of after over? answer_text lines_from line_of_end
examples =
    record {
      printed_case = run_of _ 2 refl (omega arith) refl refl;
      no_words = run_of _ 0 refl (omega arith) refl refl;
      error = run_of _ 1 refl (omega arith) refl refl;
      formless = run_of _ 1 refl (omega arith) refl refl;
      long = run_of _ 1 refl (omega arith) refl refl;
      conditional = run_of _ 1 refl (omega arith) refl refl;
      part_word = refusal_of _ 9 refl;
    }
