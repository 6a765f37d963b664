-- `SoundMoves`: an accepted map keeps the pusher safe. Assumes nothing.
use Prim.Native.Nat.{ℕ, ◌+◌, ◌*◌, ◌/◌, ◌≤◌, ◌<◌}
use mathlib.Core.Path.{◌≡◌, refl, sym, ap, ◌∙◌}
use mathlib.Core.Bool.{Bool, false≢true}
use mathlib.Core.List.{List}
use mathlib.Core.Logic.{inl, inr, ⊎_elim}
use native.Mathlib.Nat.{eq-or-lt_of_le}
use native.Mathlib.Omega.{arith}
use lib.ListN.{length}
use Rattle.pusher.specs.Loan.{PusherLoan, with_words}
use Rattle.pusher.specs.Many.{Moved, unmoved, move}
use Rattle.pusher.specs.Promises.{ReadsCommand, ReadsParameter}
use Rattle.pusher.specs.declared.record.Setup.{Setup}
use Rattle.pusher.specs.declared.record.Pusher.{Pusher}
use Rattle.pusher.proofs.ReadsAs.{unhalted}
use Rattle.pusher.proofs.Sentences.{runs}
use Rattle.word.specs.Lent.{words_of}
use Rattle.rules.specs.Reason.{Submission, submission, size}
use Rattle.rules.specs.Judging.{setting_of}
use Rattle.rules.specs.Promises.{SafePusher, FreshPusher, SoundMoves}
use Rattle.rules.proofs.Table.{passed}
use Rattle.rules.proofs.Clean.{Clean, clean, unstarted}
use Rattle.rules.proofs.Moving.{Inv, run_permitted, after, starts_at}

module _ (x : Submission) (map : List ℕ) (ok : Clean x map) (small : size x ≤ 1048576) where
  -- a loan of these words
  on_these : (l : PusherLoan) → l.words ≡ x.words → l ≡ with_words l x.words
  on_these l w = ap (with_words l) w

  module _ (s : Setup) (setting : s.setting ≡ x.setting) (style : x.setting.mode.number ≡ 0) (limit : (k : ℕ) → k < size x → 4 * k ≤ s.limit) where
    -- any number of moves keeps the invariant
    always : (p q : Pusher) → Inv x map p → Moved s x.words p q → Inv x map q
    always p q i unmoved = i
    always p q i (move {q = o} l r m w h e) =
        rw (e, h, on_these l w) (after x map ok small s setting style limit o (always p o i m) l).pusher

    safe : (p : Pusher) → Inv x map p → SafePusher s x.words x.permit p
    safe p i =
        record {
          no_error = unhalted p.error i.running;
          permitted = λ l r m w h v. (after x map ok small s setting style limit p i l).permitted m (rw (h, on_these l w) at v);
          parameter = λ l w h. run_permitted x map p i h.left;
          closed = λ e.
              let a = i.address in
              let b = i.end in
              let g = i.next in
              record {
                count = ⊎_elim (λ g. omega arith) (λ g. absurd (omega arith)) g;
                awaited = i.unawaited;
                subroutine = ⊎_elim (λ g. g.1) (λ g. absurd (omega arith)) g;
              };
        }

    apart :
        (p q : Pusher) (k l : PusherLoan)
        → k.words ≡ x.words
        → l.words ≡ x.words
        → Inv x map p
        → Inv x map q
        → ReadsCommand s p k
        → ReadsParameter s q l
        → p.get / 4 ≡ q.get / 4
        → ⊥
    apart p q k l v w i j c h e =
        let start = starts_at x map ok small s setting style limit p i (rw v at c.word.lent) c.none_left in
        let n = h.left in
        let a = i.address in
        let b = j.address in
        let same : j.place + 0 ≡ i.place = omega arith in
        unstarted x map i.place p.subroutine.active (rw same at (j.bare 0 (omega arith))) start.1

-- a pusher before its first move
begins :
    (level : ℕ) (sli : Bool) (bytes map list : List ℕ) (s : Setup) (p : Pusher)
    → Clean (submission (setting_of level sli) bytes list) map
    → FreshPusher level sli (words_of bytes) s p
    → Inv (submission (setting_of level sli) bytes list) map p
begins level sli bytes map list s p ok f =
    let none = f.closed.count in
    let out = f.closed.subroutine in
    record {
      place = 0;
      address = f.get;
      end = f.put;
      running = runs p.error f.no_error;
      unawaited = f.closed.awaited;
      next = rw (none, out) (⊎_elim (λ e. inl (e, refl)) (λ l. inr (l, ok.origin l)) (eq-or-lt_of_le {n = 0} {m = length (words_of bytes)} (omega arith)));
      home = λ e. absurd (false≢true (sym out ∙ e));
      narrow = λ n. absurd (n none);
      present = λ k l. absurd (omega arith);
      allowed = λ k l. absurd (omega arith);
      bare = λ k l. absurd (omega arith);
    }

pub sound_moves : SoundMoves
sound_moves level sli bytes map list r j a s p f =
    let x = submission (setting_of level sli) bytes list in
    let h = passed _ level sli bytes map list r j a in
    let ok = clean x map h.0.bytes_map h.1 in
    let i = begins level sli bytes map list s p ok f in
    let kept = always x map ok h.0.words s f.setting refl f.limit p in (
      λ q m. safe x map ok h.0.words s f.setting refl f.limit q (kept q i m),
      λ q t k l v w m n. apart x map ok h.0.words s f.setting refl f.limit q t k l v w (kept q i m) (kept t i n),
    )
