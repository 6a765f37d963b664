-- `Limit`: which of two lent words a step reads, with a limit of 0. Assumes nothing.
use Prim.Native.Nat.{ℕ, zero, suc, ◌+◌, ◌/◌, ◌≤◌, ◌<◌}
use mathlib.Core.Path.{◌≡◌, refl, ap, ◌∙◌}
use mathlib.Core.Bool.{true, false}
use mathlib.Core.List.{List, [], ◌∷◌}
use mathlib.Core.Logic.{◌⊎◌, inl, inr, ⊎_elim}
use native.Mathlib.Omega.{arith}
use lib.ListN.{length}
use Rattle.word.specs.First.{choose}
use Rattle.word.specs.Lowest.{keep, lowest, found?}
use Rattle.puller.specs.Record as puller_record
use Rattle.pusher.specs.Record as pusher_record
use Rattle.pusher.specs.Record.{with_get, with_put}
use Rattle.pusher.specs.Moving.{push_of}
use Rattle.pusher.specs.Promises.{InIb, NoWord}
use Rattle.pusher.specs.declared.moving.Pushed.{Pushed}
use Rattle.pusher.proofs.InIb.{read_on}
use Rattle.pusher.proofs.Promises.{pushes}
use Rattle.channel.specs.Loan.{Loan, to_step}
use Rattle.channel.specs.Opening.{resting_at, setup_with}
use Rattle.channel.specs.State.{setup_fits, within, address_bits, aligned, engines_fit, well_formed}
use Rattle.channel.specs.Outcomes.{StepsTo}
use Rattle.channel.specs.Promises.{PusherFails, TwoLent, Limit}
use Rattle.channel.specs.declared.record.Channel.{Channel}
use Rattle.channel.specs.declared.stepping.Stepped.{Stepped}
use Rattle.channel.proofs.Formed.{formed}
use Rattle.channel.proofs.ByRole.{moved_is}
use Rattle.channel.proofs.AtMostOneMove.{finished_carries}
use Rattle.channel.proofs.Promises.{steps}

module _ (mode get : ℕ) (c : Channel) (l : Loan) (exit : List ℕ) (r : Stepped) (h : StepsTo c l r exit) (t : TwoLent mode get c l) where
  abbrev move : Pushed
  move = push_of c.setup c.pusher l.pusher

  -- the step makes the pusher's move, and leaves the pusher of that
  carried : r.channel.pusher ≡ move.pusher
  carried =
      let made = moved_is c l exit r h t.takable move (record { running = t.running; no_acquire = t.no_acquire; move = refl }) in
      ap (λ (x : Stepped). x.channel.pusher) made.0 ∙ finished_carries _ move.pusher c.puller move.did l.puller

  -- where there is no word
  fails : NoWord c.setup c.pusher l.pusher.words → PusherFails c l c.pusher 6 r exit
  fails n =
      let f = pushes.protection c.setup c.pusher l.pusher move refl t.running.0 t.unequal n in
      steps.protection_error c l exit r h t.takable t.running (rw carried f.pusher.error)

  -- where one is lent, and the mode doesn't ask for the limit
  reads : InIb c.setup → c.pusher.get / 4 < length l.pusher.words → r.channel.pusher.get ≡ c.pusher.get + 4
  reads ib lent = rw carried (read_on c.setup c.pusher l.pusher ib (record { running = t.running.0; unequal = t.unequal; limit = λ n. absurd (n ib); lent = lent }))

-- a channel at level 4 that is about to read, and two words
abbrev reader : ℕ → ℕ → Channel
reader mode get =
    let c = resting_at (setup_with 4 mode false 0 0) 0 true in
    record { setup = c.setup; pusher = with_put (with_get c.pusher get) 12; puller = c.puller }

abbrev two_words : Loan
two_words = to_step (0 ∷ 0 ∷ []) [] [] [] 0

abbrev Shown : ℕ → ℕ → Type 0
Shown mode get = (c : Channel) × (l : Loan) × TwoLent mode get c l × (c.setup.setting.level.number ≡ 4)

reads_two : (mode get : ℕ) → well_formed (reader mode get) ≡ true → (get ≡ 12 → ⊥) → Shown mode get
unfolding pusher_record.number puller_record.number
reads_two mode get e n = (
  reader mode get,
  two_words,
  record {
    takable = record { well_formed = formed (reader mode get) e; sizes = record { words = omega arith; semaphores = omega arith; table = ⊎_elim (λ k. k refl) (λ k. omega arith) } };
    running = (refl, refl);
    no_acquire = refl;
    mode_is = refl;
    limit_is = refl;
    get_is = refl;
    unequal = n;
    two = refl;
  },
  refl,
)

shown : (mode get : ℕ) → mode ≤ 1 → ((get ≡ 4) ⊎ (get ≡ 8)) → Shown mode get
unfolding well_formed setup_fits within address_bits aligned engines_fit choose found? lowest keep
shown zero get m e = ⊎_elim (λ g. rw g (reads_two 0 4 refl (λ k. omega arith))) (λ g. rw g (reads_two 0 8 refl (λ k. omega arith))) e
shown (suc zero) get m e = ⊎_elim (λ g. rw g (reads_two 1 4 refl (λ k. omega arith))) (λ g. rw g (reads_two 1 8 refl (λ k. omega arith))) e
shown (suc (suc n)) get m e = absurd (omega arith)

pub limit : Limit
limit =
    record {
      nv04_style = λ c l exit r h t. fails 0 4 c l exit r h t (inl (λ ib. omega (arith, t.mode_is), omega (arith, t.limit_is, t.get_is)));
      ib = λ c l exit r h t.
          let get : r.channel.pusher.get ≡ 8 = reads 1 4 c l exit r h t t.mode_is (omega (arith, t.get_is, t.two)) ∙ omega (arith, t.get_is) in
          (get, λ e. let stays = (steps.protection_error c l exit r h t.takable t.running e).pusher.get in omega (arith, t.get_is));
      behind = λ mode c l exit r h t. fails mode 8 c l exit r h t (inr (omega (arith, t.get_is, t.two)));
      shown = shown;
    }
