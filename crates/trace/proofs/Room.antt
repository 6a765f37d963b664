-- Every line has room for its text. Assumes nothing.
use Prim.Native.Nat.{ℕ, suc, ◌+◌, ◌-◌, ◌^◌, ◌≤◌, min}
use Prim.Native.String.{String}
use mathlib.Core.Path.{◌≡◌, refl, ap, ◌∙◌}
use mathlib.Core.Bool.{Bool}
use mathlib.Core.List.{List, [], ◌++◌}
use mathlib.Core.Option.{Option, none, some}
use native.Mathlib.Omega.{arith}
use lib.Dec.{ltb}
use lib.ListN.{length, take, replicate, length-append}
use lib.Seq.{take-append_seam, drop-append_seam, take-append-add}
use Rattle.std.proofs.lemmas.List.{take-replicate}
use Rattle.word.specs.Lowest.{lowest}
use Rattle.word.proofs.Lowest.{lowest_some}
use Rattle.event.specs.Event.{number}
use Rattle.event.specs.declared.Kind.{Kind}
use Rattle.event.specs.declared.Method.{Method}
use Rattle.event.specs.declared.Event.{Event}
use Rattle.event.specs.declared.Event.TheVariants.{Plain, Of}
use Rattle.pusher.specs.Record as pusher
use Rattle.puller.specs.Record as puller
use Rattle.trace.specs.Text.{text, or_else, width, decimal}
use Rattle.trace.specs.Line.{line_of}
use Rattle.trace.specs.Names.{kinds, kind_name, pusher_errors, puller_errors, pusher_name, puller_name, cause_name, whys, why_name, refusals, refusal_name}
use Rattle.trace.specs.Lines.{field, fields, event_text, step_text, why_part, cause_part, end_part, end_text, refused_text}
use Rattle.trace.specs.Promises.{Has}
use Rattle.trace.specs.declared.line.Line.{Line}
use Rattle.trace.specs.declared.end.Cause.{Cause}
use Rattle.trace.specs.declared.end.Cause.TheVariants.{Pusher, Puller}
use Rattle.trace.specs.declared.end.End.{End}
use Rattle.trace.specs.declared.end.End.TheVariants.{Error, Idle, Budget}
use Rattle.trace.proofs.Digits.{digits_many}
use Rattle.trace.proofs.Names.{short}

-- a number has at most 21 digits
width_low : (n : ℕ) → width n ≤ 21
unfolding width or_else
width_low n = go (lowest f 20) refl
  where
    f : ℕ → Bool
    f k = ltb n (10 ^ suc k)

    go : (o : Option ℕ) → lowest f 20 ≡ o → suc (or_else o 20) ≤ 21
    go none e = omega arith
    go (some k) e = omega (arith, ((lowest_some f 20 k).0 e).0)

decimal_short : (n : ℕ) → length (decimal n) ≤ 21
unfolding decimal
decimal_short n = omega (arith, digits_many (width n) n, width_low n)

field_short : (label : String) (n : ℕ) → length (field label n) ≤ length (text label) + 21
unfolding field
field_short label n = let digits = decimal_short n in simp (length-append {A = ℕ}) (omega arith)

-- a kind's name has at most 7 bytes, a cause's 16, a why's 5, and a refusal's 9
kind_short : (k : Kind) → length (text (kind_name k)) ≤ 7
unfolding text kinds kind_name
kind_short k = short 7 kinds refl (number k)

cause_short : (c : Cause) → length (text (cause_name c)) ≤ 16
unfolding text pusher_errors puller_errors pusher_name puller_name cause_name
cause_short (Pusher e) = short 16 pusher_errors refl (pusher.number e)
cause_short (Puller e) = short 16 puller_errors refl (puller.number e)

why_short : (o : Option ℕ) → length (why_part o) ≤ 10
unfolding text whys why_name why_part
why_short none = omega arith
why_short (some n) = let name = short 5 whys refl n in simp (length-append {A = ℕ}) (omega arith)

refusal_short : (n : ℕ) → length (text (refusal_name n)) ≤ 9
unfolding text refusals refusal_name
refusal_short n = short 9 refusals refl n

-- so the parts of a line are short, and every line: at most 148 bytes
fields_short : (m : Method) → length (fields m) ≤ 82
unfolding fields text
fields_short m =
    let subchannel = field_short " subc=" m.subchannel in
    let method = field_short " mthd=" m.method in
    let parameter = field_short " param=" m.parameter in
    simp (length-append {A = ℕ}) (omega arith)

event_short : (e : Event) → length (event_text e) ≤ 89
unfolding event_text
event_short (Plain k) = let kind = kind_short k in omega arith
event_short (Of k m) = let kind = kind_short k in let more = fields_short m in simp (length-append {A = ℕ}) (omega arith)

step_short : (step get : ℕ) (e : Event) → length (step_text step get e) ≤ 148
unfolding step_text text
step_short step get e =
    let a = field_short "step=" step in
    let b = field_short " get=" get in
    let event = event_short e in
    simp (length-append {A = ℕ}) (omega arith)

part_short : (e : End) → length (end_part e) ≤ 38
unfolding cause_part end_part text
part_short (Error (Pusher e)) = let cause = cause_short (Pusher e) in let why = why_short (pusher.why e) in simp (length-append {A = ℕ}) (omega arith)
part_short (Error (Puller e)) = let cause = cause_short (Puller e) in simp (length-append {A = ℕ}) (omega arith)
part_short Idle = omega arith
part_short Budget = omega arith

end_short : (e : End) (steps get ref : ℕ) → length (end_text e steps get ref) ≤ 123
unfolding end_text text
end_short e steps get ref =
    let part = part_short e in
    let a = field_short " steps=" steps in
    let b = field_short " get=" get in
    let c = field_short " ref=" ref in
    simp (length-append {A = ℕ}) (omega arith)

refused_short : (n : ℕ) → length (refused_text n) ≤ 18
unfolding refused_text text
refused_short n = let name = refusal_short n in simp (length-append {A = ℕ}) (omega arith)

-- a line's bytes are its text and then zeros, where the text is short
bytes_are : (t : List ℕ) → length t ≤ 160 → take 160 (t ++ replicate 160 0) ≡ t ++ replicate (160 - length t) 0
bytes_are t h =
    let left = 160 - length t in
    let sum : 160 ≡ length t + left = omega arith in
    ap (λ (n : ℕ). take n (t ++ replicate 160 0)) sum ∙ take-append-add t (replicate 160 0) left ∙ ap (λ (z : List ℕ). t ++ z) (take-replicate left 160 0 (omega arith))

has : (t : List ℕ) (l : Line) → length t ≤ 160 → l ≡ line_of t → Has t l
unfolding line_of
has t l h e =
    let whole : min (length t) 160 ≡ length t = omega arith in
    let rest : List ℕ = replicate (160 - length t) 0 in
    rw (e, whole, bytes_are t h) (record { length = refl; text = take-append_seam t rest; rest = drop-append_seam t rest })

-- so every line has its text whole
pub step_has : (step get : ℕ) (e : Event) (l : Line) → l ≡ line_of (step_text step get e) → Has (step_text step get e) l
step_has step get e l h = has _ l (omega (arith, step_short step get e)) h

pub end_has : (e : End) (steps get ref : ℕ) (l : Line) → l ≡ line_of (end_text e steps get ref) → Has (end_text e steps get ref) l
end_has e steps get ref l h = has _ l (omega (arith, end_short e steps get ref)) h

pub refused_has : (n : ℕ) (l : Line) → l ≡ line_of (refused_text n) → Has (refused_text n) l
refused_has n l h = has _ l (omega (arith, refused_short n)) h

-- and one without a text has none
pub none_has : (l : Line) → l ≡ line_of [] → Has [] l
none_has l h = has [] l (omega arith) h
