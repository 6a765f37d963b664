-- `ReadAs`: what a step says by how it reads a word. Assumes nothing.
use Prim.Native.Nat.{ℕ}
use mathlib.Core.Path.{◌≡◌, ap, ◌∙◌}
use mathlib.Core.List.{List}
use mathlib.Core.Logic.{inl, inr, ⊎_elim}
use mathlib.Core.Option.{none}
use Rattle.event.specs.Event.{number}
use Rattle.event.specs.declared.Kind.TheVariants as kind
use Rattle.event.specs.declared.Event.TheVariants.{Plain, Of}
use Rattle.pusher.specs.Moving as pusher
use Rattle.pusher.specs.declared.moving.Pushed.{Pushed}
use Rattle.pusher.proofs.ReadsAs.{reads_command, reads_parameter}
use Rattle.channel.specs.Loan.{Loan}
use Rattle.channel.specs.Answers.{step_refusal}
use Rattle.channel.specs.Stepping.{acted_on}
use Rattle.channel.specs.Outcomes.{StepsTo}
use Rattle.channel.specs.Promises.{MakesMove, ReadAs}
use Rattle.channel.specs.declared.record.Channel.{Channel}
use Rattle.std.specs.declared.result.Result.TheVariants.{Ok}
use Rattle.channel.specs.declared.stepping.Stepped.{Stepped}
use Rattle.channel.proofs.Answers as told
use Rattle.channel.proofs.Answers.{kind_says, method_says}
use Rattle.channel.proofs.ByRole.{leaves, goes_on, makes}
use Rattle.channel.proofs.Says.{only_command, only_method, says_command, says_method, going, goes_as, said_by}

module _ (c : Channel) (l : Loan) (exit : List ℕ) (r : Stepped) (m : StepsTo c l r exit) where
  -- what a step leaves that makes a move, by the role of that move
  goes :
      {x : Pushed}
      → step_refusal r.answer ≡ none
      → MakesMove c l.pusher x
      → (y : pusher.Role)
      → pusher.role c.setup c.pusher l.pusher ≡ y
      → r ≡ (acted_on c (going c l y)).stepped
  goes h k y e = (leaves c l exit r m (goes_as c l (rw m.answer at h) (goes_on c l.pusher _ k) e)).0

pub read_as : ReadAs
read_as =
    record {
      command = λ c l exit r m h x.
          rw (goes c l exit r m h x.makes pusher.commands ((reads_command c.setup c.pusher l.pusher).1 x.reads))
          (⊎_elim (λ a. inl (kind_says (ap Ok a))) (λ a. inr a.1) (says_command c.setup c.pusher c.puller l));
      parameter = λ c l exit r m h x.
          let q = ap (λ (y : Stepped). y.answer) (goes c l exit r m h x.makes pusher.submits ((reads_parameter c.setup c.pusher l.pusher).1 x.reads)) in
          ⊎_elim (λ a. inl (kind_says (q ∙ ap Ok a)))
          (λ a. inr (number a.0, a.1, method_says (q ∙ ap Ok a.2)))
          (says_method c.setup c.pusher c.puller l);
      says_command = λ c l exit r m a.
          let s = said_by c l exit r m (Plain kind.Command) pusher.commands (told.says_kind r.answer kind.Command a) only_command in
          record { move = _; makes = makes c l.pusher s.0; reads = (reads_command c.setup c.pusher l.pusher).0 s.1 };
      tells_method = λ c l exit k b m n r h a.
          let x = told.says_method r.answer k b m n a in
          let s = said_by c l exit r h (Of x.0 x.1) pusher.submits x.2 (only_method x.0 x.1) in
          record { move = _; makes = makes c l.pusher s.0; reads = (reads_parameter c.setup c.pusher l.pusher).0 s.1 };
    }
