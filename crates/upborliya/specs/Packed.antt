-- The answers in one 64-bit number each, as include/upborliya.h has them.
use Rattle.std.specs.Prelude.{ℕ, ◌+◌, ◌*◌, ◌%◌, ◌^◌, Bool, not, eqb}
use Rattle.std.specs.declared.result.Result.{Result}
use Rattle.std.specs.declared.result.Result.TheVariants.{Ok, Err}
use Rattle.word.specs.Why.{why_number}
use Rattle.word.specs.declared.setting.Refusal.{Refusal}
use Rattle.word.specs.declared.reading.Reading.{Reading}
use Rattle.word.specs.declared.reading.Reading.TheVariants.{Increasing, NonIncreasing, Sli, Return, Long, OldJump, Jump, Call}
use Rattle.word.specs.declared.reading.Reading.TheVariants as reading
use Rattle.rules.specs.Reason.{RESERVED}
use Rattle.rules.specs.Judging.{Verdict}
use Rattle.rules.specs.declared.judging.Unfit.TheVariants.{Rejected, Refused, Reserved}
use Rattle.rules.specs.declared.judging.Judgement.{Judgement}

-- G32: the parts of the answer; 0 stands for none
unfoldable pub reason_in : Verdict → ℕ
reason_in (Ok u) = 0
reason_in (Err (Rejected r p)) = r.number
reason_in (Err (Refused n)) = 0
reason_in (Err (Reserved y p)) = RESERVED

unfoldable pub refusal_in : Verdict → ℕ
refusal_in (Ok u) = 0
refusal_in (Err (Rejected r p)) = 0
refusal_in (Err (Refused n)) = n.number
refusal_in (Err (Reserved y p)) = 0

unfoldable pub why_in : Verdict → ℕ
why_in (Ok u) = 0
why_in (Err (Rejected r p)) = 0
why_in (Err (Refused n)) = 0
why_in (Err (Reserved y p)) = why_number y

unfoldable pub place_in : Verdict → ℕ
place_in (Ok u) = 0
place_in (Err (Rejected r p)) = p
place_in (Err (Refused n)) = 0
place_in (Err (Reserved y p)) = p

-- G32: a byte of reason, a byte of refusal, a byte of why, 16 bits of count, 24 of place
unfoldable pub packed : Judgement → ℕ
packed j =
    place_in j.verdict % 2 ^ 24 * 2 ^ 40
    + (j.count % 2 ^ 16 * 2 ^ 24
    + (why_in j.verdict * 2 ^ 16
    + (refusal_in j.verdict * 2 ^ 8
    + reason_in j.verdict)))

-- W19: a reading: a byte of its number; of a run then a byte of 0 twice, 13 bits of method, 3 of subchannel, 24 of count; of one value that
-- in the upper half; of a refusal its number in the second byte, and of a reserved word its why in the third
unfoldable pub packed_run : ℕ → ℕ → ℕ → ℕ → ℕ
packed_run form count subchannel method = count % 2 ^ 24 * 2 ^ 40 + (subchannel % 2 ^ 3 * 2 ^ 37 + (method % 2 ^ 13 * 2 ^ 24 + form))

unfoldable pub packed_reading : Reading → ℕ
packed_reading (Increasing c b m) = packed_run 1 c b m
packed_reading (NonIncreasing c b m) = packed_run 2 c b m
packed_reading (Sli k) = k * 2 ^ 32 + 3
packed_reading Return = 4
packed_reading (Long b m c) = packed_run 5 c b m
packed_reading (OldJump t) = t * 2 ^ 32 + 6
packed_reading (Jump t) = t * 2 ^ 32 + 7
packed_reading (Call t) = t * 2 ^ 32 + 8
packed_reading (reading.Reserved y) = why_number y * 2 ^ 16 + 9
packed_reading (reading.Refused r) = r.number * 2 ^ 8 + 10

-- H18: the repair's answer: a byte of refusal and 16 bits of count, where the gatekeeper's has them
unfoldable pub packed_repair : Result ℕ Refusal → ℕ
packed_repair (Ok c) = c % 2 ^ 16 * 2 ^ 24
packed_repair (Err n) = n.number * 2 ^ 8

-- G32: the SLI setting as a number: 0 is off
abbrev pub on : ℕ → Bool
on sli = not (eqb sli 0)
