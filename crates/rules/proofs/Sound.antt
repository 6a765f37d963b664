-- `Sound`: an accepted map keeps the channel safe. Assumes nothing.
use Prim.Native.Nat.{ℕ, ◌*◌, ◌/◌, ◌≤◌}
use mathlib.Core.Path.{◌≡◌, refl, sym, ap, ◌∙◌}
use mathlib.Core.Bool.{Bool}
use mathlib.Core.List.{List, [], ◌∷◌}
use mathlib.Core.Logic.{⊎_elim}
use mathlib.Core.Option.{none}
use native.Mathlib.Omega.{arith}
use lib.ListN.{length}
use Rattle.word.specs.declared.setting.Setting.{Setting}
use Rattle.word.specs.Answers.{check_refusal}
use Rattle.event.proofs.Promises.{at}
use Rattle.pusher.specs.Record.{with_put}
use Rattle.pusher.specs.declared.record.Run as pusher_run
use Rattle.pusher.specs.declared.record.Subroutine.{Subroutine}
use Rattle.channel.specs.Loan.{Loan}
use Rattle.channel.specs.Answers.{opening_refusal, step_refusal, answer_values}
use Rattle.channel.specs.Outcomes.{StepsTo}
use Rattle.channel.specs.Promises as channel
use Rattle.channel.specs.declared.record.Channel.{Channel}
use Rattle.channel.specs.declared.stepping.Stepped.{Stepped}
use Rattle.channel.proofs.Answers.{says_taken}
use Rattle.channel.proofs.ByRole.{none_refused}
use Rattle.channel.proofs.Promises as proved
use Rattle.channel.proofs.ReadAs.{read_as}
use Rattle.word.specs.Lent.{words_of}
use Rattle.rules.specs.Judging.{setting_of}
use Rattle.rules.specs.Promises.{Bytes, FreshPusher, Started, AfterSteps, now, step, Sound}
use Rattle.word.proofs.Bytes.{words_narrow}
use Rattle.rules.proofs.Table.{Fits, none_told, passed}
use Rattle.rules.proofs.SoundMoves.{sound_moves}
use Rattle.rules.proofs.StepsAreMoves.{steps_moved}

-- a setting is told by its numbers
setting_is : (s : Setting) (level : ℕ) (sli : Bool) → s.level.number ≡ level → s.mode.number ≡ 0 → s.sli ≡ sli → s ≡ setting_of level sli
setting_is s level sli a b c = rw (← a, ← b, ← c)

module _ (level : ℕ) (sli : Bool) (bytes map list : List ℕ) (words : Bytes bytes) (h : Fits 1048576 level sli bytes map list) (s : Started level sli (words_of bytes)) where
  abbrev ws : List ℕ
  ws = words_of bytes

  opened_none : opening_refusal s.opened.answer ≡ none
  opened_none =
      none_told _ (channel.open_plain level 0 s.order sli s.mask s.table)
      ((proved.refused).opens level 0 s.order sli s.mask s.limit s.table s.opened s.opens) (
        λ l. omega (arith, h.level_fits),
        (
          λ m. ⊎_elim (λ e. omega arith) (λ e. omega arith) m,
          (
            λ m. omega arith,
            (λ e. let l = h.sli_fits e.0 in omega arith, (λ m. omega (arith, s.mask_fits), (s.table_fits, (s.handles_once, tt)))),
          ),
        ),
      )

  fresh : channel.Fresh level 0 s.order sli s.mask s.limit s.opened.channel
  fresh = ((proved.accepted).opens level 0 s.order sli s.mask s.limit s.table s.opened s.opens opened_none).1

  opened_formed : channel.WellFormed s.opened.channel
  opened_formed = (proved.kept).opened level 0 s.order sli s.mask s.limit s.table s.opened s.limit_fits s.opens

  put_none : check_refusal s.put.answer ≡ none
  put_none =
      let mode = fresh.mode_is in
      none_told _ (channel.put_plain s.opened.channel (4 * length ws)) ((proved.refused).put s.opened.channel (4 * length ws) s.put s.puts) (
        λ n. n opened_formed,
        (λ n. ⊎_elim (λ e. e.1 (omega arith)) (λ e. omega arith) n, tt),
      )

  put_is : channel.Halves s.opened.channel (with_put s.opened.channel.pusher (4 * length ws)) s.opened.channel.puller s.put.channel
  put_is = (proved.accepted).put s.opened.channel (4 * length ws) s.put s.puts put_none fresh.mode_is

  first_pusher : FreshPusher level sli ws s.put.channel.setup s.put.channel.pusher
  first_pusher =
      let rest = fresh.rest in
      rw (put_is.setup, put_is.pusher)
      (record {
        setting = setting_is s.opened.channel.setup.setting level sli fresh.level_is fresh.mode_is fresh.sli_is;
        limit = λ i l. rw fresh.limit_is (s.limit_not_below i l);
        get = rest.get;
        put = refl;
        closed = record {
          count = ap (λ (y : pusher_run.Run). y.count) rest.run;
          awaited = ap (λ (y : pusher_run.Run). y.awaited) rest.run;
          subroutine = ap (λ (y : Subroutine). y.active) rest.subroutine;
        };
        no_error = rest.pusher_error;
      })

  -- every channel that steps come to is well-formed
  steps_later : (c : Channel) → AfterSteps ws s.put.channel c → channel.Later s.opened.channel c
  steps_later c now = channel.put (4 * length ws) s.put channel.same (omega (arith, h.words)) s.puts refl
  steps_later c (step {d = b} l exit r a lent table m e) = channel.step l exit r (steps_later b a) (record { words = rw lent (words_narrow bytes words); table = table }) m e

  formed : (c : Channel) → AfterSteps ws s.put.channel c → channel.WellFormed c
  formed c l = (proved.kept).later s.opened.channel c opened_formed (steps_later c l)

  -- a step is not refused
  step_none :
      (c : Channel)
      → AfterSteps ws s.put.channel c
      → (l : Loan) (exit : List ℕ) (r : Stepped)
      → l.pusher.words ≡ ws
      → (channel.BadTable l.puller.table → ⊥)
      → length l.puller.semaphores ≤ 1048576
      → StepsTo c l r exit
      → step_refusal r.answer ≡ none
  step_none c a l exit r lent table semaphores m =
      let can : channel.Takable c l = record { well_formed = formed c a; sizes = record { words = rw lent h.words; semaphores = semaphores; table = table } } in
      ap (λ (y : Stepped). step_refusal y.answer) m.answer ∙ none_refused c l can

-- lists of values that are one have the same second and third
same_method : {j k b m n c o p : ℕ} → j ∷ b ∷ m ∷ n ∷ [] ≡ k ∷ c ∷ o ∷ p ∷ [] → (b ≡ c) × (m ≡ o)
same_method e = (at 1 e, at 2 e)

-- a method that a step tells is that of the parameter that it reads
told_method :
    (c : Channel) (l : Loan) (exit : List ℕ) (k b m n : ℕ) (r : Stepped)
    → StepsTo c l r exit
    → answer_values r.answer ≡ k ∷ b ∷ m ∷ n ∷ []
    → channel.ReadsParameter c l.pusher × (b ≡ c.pusher.run.subchannel) × (m ≡ 4 * c.pusher.run.method)
told_method c l exit k b m n r v says =
    let reads = read_as.tells_method c l exit k b m n r v says in
    ⊎_elim (λ e. let z : ◌≡◌ {A = ℕ} 4 1 = ap length (sym says ∙ e) in absurd (omega arith)) (λ e. let same = same_method (sym says ∙ e.2) in (reads, same.0, same.1))
    (read_as.parameter c l exit r v (says_taken r.answer _ _ says) reads)

pub sound : Sound
sound level sli bytes map list r words j a s =
    let h = (passed _ level sli bytes map list r j a).0 in
    let all = sound_moves level sli bytes map list r j a s.put.channel.setup s.put.channel.pusher (first_pusher level sli bytes map list words h s) in
    record {
      opens = opened_none level sli bytes map list words h s;
      puts = put_none level sli bytes map list words h s;
      safe = λ c a.
          let moved = steps_moved (words_of bytes) s.put.channel c a in
          let safe = all.0 c.pusher moved.1 in
          record {
            no_pusher_error = safe.no_error;
            taken = step_none level sli bytes map list words h s c a;
            permitted = λ l x m w v k. safe.permitted l x m w (rw moved.0 at v.move) k;
            told = λ l exit k b m n r lent v e.
                let at = told_method c l exit k b m n r v e in
                let same : 4 * c.pusher.run.method / 4 ≡ c.pusher.run.method = omega arith in
                rw (at.1, at.2, same) (safe.parameter l.pusher lent (rw moved.0 at at.0.reads));
            closed = safe.closed;
          };
      apart = λ c d k l u v m n y z e.
          let a = steps_moved (words_of bytes) s.put.channel c m in
          let b = steps_moved (words_of bytes) s.put.channel d n in
          all.1 c.pusher d.pusher k l u v a.1 b.1 (rw a.0 at y.reads) (rw b.0 at z.reads) e;
    }
