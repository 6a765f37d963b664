-- The lines that the program prints (docs/CARD.md, T), such as
--     step=2 get=4 kind=ref subc=0 mthd=80 param=7
--     end=idle steps=2 get=8 ref=7
use Rattle.std.specs.Prelude.{ℕ, List, [], ◌++◌}
use Prim.Native.String.{String}
use Rattle.std.proofs.Math.Option.{Option, none, some}
use Rattle.event.specs.declared.Method.{Method}
use Rattle.event.specs.declared.Event.{Event}
use Rattle.event.specs.declared.Event.TheVariants.{Plain, Of}
use Rattle.pusher.specs.Record.{why}
use Rattle.trace.specs.Text.{text, decimal}
use Rattle.trace.specs.Names.{kind_name, cause_name, why_name, refusal_name}
use Rattle.trace.specs.declared.end.Cause.{Cause}
use Rattle.trace.specs.declared.end.Cause.TheVariants.{Pusher, Puller}
use Rattle.trace.specs.declared.end.End.{End}
use Rattle.trace.specs.declared.end.End.TheVariants.{Error, Idle, Budget}

-- T10: a label, and a number in decimal
unfoldable pub field : String → ℕ → List ℕ
field label n = text label ++ decimal n

-- T4: the fields of a method
unfoldable pub fields : Method → List ℕ
fields m = field " subc=" m.subchannel ++ field " mthd=" m.method ++ field " param=" m.parameter

-- T4, T5: an event's kind, and its method where it has one
unfoldable pub event_text : Event → List ℕ
event_text (Plain k) = text (kind_name k)
event_text (Of k m) = text (kind_name k) ++ fields m

-- T3, T10: the line of a step
unfoldable pub step_text : ℕ → ℕ → Event → List ℕ
step_text step get e = field "step=" step ++ field " get=" get ++ text " kind=" ++ event_text e ++ text "\n"

-- T7, T11: the why, where there is one
unfoldable pub why_part : Option ℕ → List ℕ
why_part none = []
why_part (some n) = text " why=" ++ text (why_name n)

-- T7: the cause's name, and right behind it the why of an error of the pusher's
unfoldable pub cause_part : Cause → List ℕ
cause_part (Pusher e) = text (cause_name (Pusher e)) ++ why_part (why e)
cause_part (Puller e) = text (cause_name (Puller e))

-- T7: how it ended
unfoldable pub end_part : End → List ℕ
end_part (Error c) = text "error cause=" ++ cause_part c
end_part Idle = text "idle"
end_part Budget = text "budget"

-- T7, T10: the end line
unfoldable pub end_text : End → ℕ → ℕ → ℕ → List ℕ
end_text e steps get ref = text "end=" ++ end_part e ++ field " steps=" steps ++ field " get=" get ++ field " ref=" ref ++ text "\n"

-- T2: a refusal's line
unfoldable pub refused_text : ℕ → List ℕ
refused_text n = text "refused=" ++ text (refusal_name n) ++ text "\n"
