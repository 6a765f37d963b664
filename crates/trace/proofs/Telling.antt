-- What a line leaves, by what the step or the end was. Assumes nothing.
use Prim.Native.Nat.{ℕ, ◌<◌}
use mathlib.Core.Path.{◌≡◌}
use mathlib.Core.List.{List}
use borrow.Author.Tests.{leb-false}
use Rattle.word.proofs.First.{by_test}
use Rattle.channel.specs.Stepping.{Outcome}
use Rattle.word.specs.declared.setting.Refusal.{Refusal}
use Rattle.event.specs.declared.Event.{Event}
use Rattle.std.specs.declared.result.Result.{Result}
use Rattle.channel.specs.declared.stepping.Stepped.{Stepped}
use Rattle.trace.specs.End.{Ending, ending_of}
use Rattle.trace.specs.LineByLine.{answered, stepped_on}
use Rattle.std.specs.declared.option.Option.TheVariants.{None}
use Rattle.trace.specs.declared.run.Trace.{Trace}

-- a step, by its answer
module _ (t : Trace) (o : Outcome) (r : Stepped) (exit : List ℕ) (is : r ≡ o.stepped) (memory : exit ≡ o.memory) where
  pub by_answer : (a : Result Event Refusal) → r.answer ≡ a → stepped_on t o ≡ answered t r.channel exit a
  by_answer a e = rw (memory, ← is, e)

-- so many steps are not the whole budget where a run goes on
pub within_budget : (t : Trace) → ending_of t.channel t.steps ≡ None → t.steps < 65536
unfolding ending_of
within_budget t =
    let Few : Ending → Type 0 = λ x. x ≡ None → t.steps < 65536 in
    by_test Few (λ s e. cc) (λ s. by_test Few (λ i e. cc) (λ i. by_test Few (λ l e. cc) (λ l e. leb-false 65536 t.steps l)))
