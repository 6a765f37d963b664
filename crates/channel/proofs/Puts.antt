-- What setting put answers, by the first test that decides it. Assumes nothing.
use Prim.Native.Nat.{ℕ}
use mathlib.Core.Path.{◌≡◌, ap, ◌∙◌}
use mathlib.Core.Bool.{true, false, not}
use mathlib.Core.List.{[]}
use Rattle.word.specs.Setting.{STATE, PUT}
use Rattle.std.specs.declared.result.Result.TheVariants.{Ok}
use Rattle.word.proofs.Settings.{hit, miss, no_more}
use Rattle.channel.specs.State.{well_formed}
use Rattle.channel.specs.Putting.{put_refused, with_put, unchanged, put_of}
use Rattle.channel.specs.declared.record.Channel.{Channel}

module _ (c : Channel) (n : ℕ) where
  pub by_state : well_formed c ≡ false → put_of c n ≡ unchanged c (record { number = STATE })
  unfolding put_of
  by_state e = hit STATE _ (unchanged c) _ (ap not e)

  module _ (well : well_formed c ≡ true) where
    pub by_put : put_refused c n ≡ true → put_of c n ≡ unchanged c (record { number = PUT })
    unfolding put_of
    by_put e = miss STATE _ (unchanged c) _ (ap not well) ∙ hit PUT [] (unchanged c) _ e

    pub puts : put_refused c n ≡ false → put_of c n ≡ record { answer = Ok tt; channel = with_put c n }
    unfolding put_of
    puts e = miss STATE _ (unchanged c) _ (ap not well) ∙ miss PUT [] (unchanged c) _ e ∙ no_more (unchanged c) _
