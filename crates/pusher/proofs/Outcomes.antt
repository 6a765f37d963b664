-- What a sentence says of a move, and the record that the definition leaves: each from the other. Assumes nothing.
use Prim.Native.Nat.{ℕ}
use mathlib.Core.Path.{◌≡◌, refl, sym, ap, ap₂, ◌∙◌}
use mathlib.Core.List.{List}
use mathlib.Core.Option.{Option, some}
use native.Mathlib.Omega.{arith}
use Rattle.std.specs.Prelude as std
use Rattle.std.specs.Prelude.{Some}
use Rattle.word.specs.Why.{why_number}
use Rattle.word.specs.Reading as reading
use Rattle.word.specs.declared.why.Why.{Why}
use Rattle.word.specs.declared.why.Why.TheVariants as why
use Rattle.word.specs.declared.reading.Reading.{Reading}
use Rattle.word.specs.declared.reading.Reading.TheVariants.{Increasing, NonIncreasing, Sli, Return, Long, OldJump, Jump, Call, Reserved, Refused}
use Rattle.word.proofs.First.{one_outcome}
use Rattle.event.specs.Event as event
use Rattle.event.specs.declared.Kind.{Kind}
use Rattle.event.specs.declared.Kind.TheVariants as kind
use Rattle.event.specs.declared.Method.{Method}
use Rattle.event.specs.declared.Event.TheVariants.{Plain, Of}
use Rattle.pusher.specs.Record.{number, why, with_error}
use Rattle.pusher.specs.Moving.{quietly, failed_by, commanded}
use Rattle.pusher.specs.Answers.{did_number, did_values, Tells}
use Rattle.pusher.specs.Promises.{Leaves, Says, Discards, HandsOver, Failed, Fails, Reserves}
use Rattle.pusher.specs.declared.record.PusherError.{PusherError}
use Rattle.pusher.specs.declared.record.PusherError.TheVariants as cause
use Rattle.pusher.specs.declared.record.Pusher.{Pusher}
use Rattle.pusher.specs.declared.moving.Did.{Did}
use Rattle.pusher.specs.declared.moving.Did.TheVariants as did
use Rattle.pusher.specs.declared.moving.Pushed.{Pushed}
use Rattle.pusher.proofs.Told.{told, error_told, other_told}

-- the record leaves what it holds
leaves_of : (q : Pusher) (d : Did) {r : Pushed} → r ≡ record { pusher = q; did = d } → Leaves q (did_number d) (did_values d) r
leaves_of q d e = rw e (record { pusher = refl; did = record { number = refl; values = refl } })

pub says_of : {q : Pusher} (k : Kind) {r : Pushed} → r ≡ quietly q k → Says q k r
unfolding did_number did_values event.values
says_of k e = leaves_of _ (did.Event (Plain k)) e

pub discards_of : {q : Pusher} {m : Method} {r : Pushed} → r ≡ record { pusher = q; did = did.Event (Of kind.Discard m) } → Discards q m.subchannel m.method m.parameter r
unfolding did_number did_values event.values
discards_of e = leaves_of _ _ e

pub hands_over_of : {q : Pusher} {m : Method} {r : Pushed} → r ≡ record { pusher = q; did = did.Submit m } → HandsOver q m.subchannel m.method m.parameter r
unfolding did_number did_values
hands_over_of e = leaves_of _ _ e

-- as a move leaves p that fails: what an error leaves of it, with e as the error, and saying error
abbrev pub ends_with : Pusher → std.Option PusherError → Pushed
ends_with p e = let q = with_error p cause.Ib in quietly (record { get = q.get; put = q.put; run = q.run; subroutine = q.subroutine; ib = q.ib; main = q.main; sli = q.sli; error = e }) kind.Error

pub fails_of : {p : Pusher} (e : std.Option PusherError) {r : Pushed} → r ≡ ends_with p e → Fails p (number e) r
fails_of {p} e h =
    rw h
    (record {
      pusher = record { get = refl; put = refl; run = refl; subroutine = refl; ib = refl; main = refl; sli = refl; error = refl };
      did = (says_of {q = p} kind.Error refl).did;
    })

reserves_of : {p : Pusher} (y : Why) {r : Pushed} → r ≡ failed_by p (cause.ReservedCmd y) → Reserves p (some (why_number y)) r
unfolding number why
reserves_of y h = record { fails = fails_of (Some (cause.ReservedCmd y)) h; why = ap (λ (x : Pushed). why x.pusher.error) h }

-- a reserved word, and a reading at a setting that is refused
pub reserved_is : (q : Pusher) (x : Reading) {r : Pushed} → r ≡ commanded q x → reading.number x ≡ 9 → Reserves q (reading.why x) r
unfolding commanded reading.number reading.why
reserved_is q (Increasing c s m) e h = absurd (omega arith)
reserved_is q (NonIncreasing c s m) e h = absurd (omega arith)
reserved_is q (Sli k) e h = absurd (omega arith)
reserved_is q Return e h = absurd (omega arith)
reserved_is q (Long s m c) e h = absurd (omega arith)
reserved_is q (OldJump t) e h = absurd (omega arith)
reserved_is q (Jump t) e h = absurd (omega arith)
reserved_is q (Call t) e h = absurd (omega arith)
reserved_is q (Reserved y) e h = reserves_of y e
reserved_is q (Refused n) e h = absurd (omega arith)

pub refused_is : (q : Pusher) (x : Reading) {r : Pushed} → r ≡ commanded q x → reading.number x ≡ 10 → Reserves q (some 1) r
unfolding commanded reading.number why_number
refused_is q (Increasing c s m) e h = absurd (omega arith)
refused_is q (NonIncreasing c s m) e h = absurd (omega arith)
refused_is q (Sli k) e h = absurd (omega arith)
refused_is q Return e h = absurd (omega arith)
refused_is q (Long s m c) e h = absurd (omega arith)
refused_is q (OldJump t) e h = absurd (omega arith)
refused_is q (Jump t) e h = absurd (omega arith)
refused_is q (Call t) e h = absurd (omega arith)
refused_is q (Reserved y) e h = absurd (omega arith)
refused_is q (Refused n) e h = reserves_of why.Form e

-- what is said of two moves alike makes them one
did_one : {k : ℕ} {said : List ℕ} (x y : Did) → Tells x k said → Tells y k said → x ≡ y
did_one x y a b = told x y (one_outcome a.number b.number) (one_outcome a.values b.values)

pub leaves_one : {q : Pusher} {k : ℕ} {said : List ℕ} (x y : Pushed) → Leaves q k said x → Leaves q k said y → x ≡ y
leaves_one x y a b = ap₂ (λ (p : Pusher) (d : Did). record { pusher = p; did = d }) (one_outcome a.pusher b.pusher) (did_one x.did y.did a.did b.did)

-- a stopped pusher is the other with its error
pub failed_is : (p : Pusher) (n : ℕ) (q : Pusher) → Failed p n q → q ≡ (ends_with p q.error).pusher
failed_is p n q f = rw (sym f.get, sym f.put, sym f.run, sym f.subroutine, sym f.ib, sym f.main, sym f.sli)

pub fails_is : (p : Pusher) (n : ℕ) (r : Pushed) → Fails p n r → r ≡ ends_with p r.pusher.error
fails_is p n r f = leaves_one r (ends_with p r.pusher.error) (record { pusher = failed_is p n r.pusher f.pusher; did = f.did }) (says_of kind.Error refl)

-- two that fail alike are one where their errors are
same_error : {p : Pusher} {n : ℕ} (x y : Pushed) → Fails p n x → Fails p n y → x.pusher.error ≡ y.pusher.error → x ≡ y
same_error {p} {n} x y a b e = fails_is p n x a ∙ ap (ends_with p) e ∙ sym (fails_is p n y b)

pub fails_one : {p : Pusher} {n : ℕ} (x y : Pushed) → (n ≡ 4 → ⊥) → Fails p n x → Fails p n y → x ≡ y
fails_one x y h a b =
    same_error x y a b (other_told x.pusher.error y.pusher.error (one_outcome a.pusher.error b.pusher.error) (λ e. h (sym b.pusher.error ∙ e)))

pub reserves_one : {p : Pusher} {k : Option ℕ} (x y : Pushed) → Reserves p k x → Reserves p k y → x ≡ y
reserves_one x y a b =
    same_error x y a.fails b.fails
    (error_told x.pusher.error y.pusher.error (one_outcome a.fails.pusher.error b.fails.pusher.error) (one_outcome a.why b.why))
