use mathlib.Core.Path.{refl}
use native.Mathlib.Omega.{arith}
use Rattle.word.specs.First.{choose}
use Rattle.word.specs.Special.{present_of, listed, specials}
use Rattle.word.proofs.Masks.{mask_of}
use Rattle.word.proofs.Methods.{as_last, masked}
use Rattle.word.proofs.special.special_mask.Goals as goal

-- each mask of the code is the one that is computed from the table

pub returns-in-0 : goal.returns-in-0
unfolding choose mask_of present_of listed specials
returns-in-0 c = masked _ 0 (λ n. rw c.in-0.is) refl

pub returns-in-1 : goal.returns-in-1
unfolding choose mask_of present_of listed specials
returns-in-1 c = masked _ 1 (λ n. rw c.in-1.is) refl

pub returns-in-2 : goal.returns-in-2
unfolding choose mask_of present_of listed specials
returns-in-2 c = masked _ 2 (λ n. rw c.in-2.is) refl

pub returns-in-3 : goal.returns-in-3
unfolding choose mask_of present_of listed specials
returns-in-3 c = masked _ 3 (λ n. rw c.in-3.is) refl

pub returns-in-4 : goal.returns-in-4
unfolding choose mask_of present_of listed specials
returns-in-4 c = masked _ 4 (λ n. rw c.in-4.is) refl

pub returns-in_default : goal.returns-in_default
unfolding choose mask_of present_of listed specials
returns-in_default c = masked _ 5 (λ n. as_last c.args.level.number n (omega arith)) refl
