-- What a word's reading leaves as it is. Assumes nothing.
use Prim.Native.Nat.{◌+◌}
use mathlib.Core.Path.{◌≡◌, refl}
use Rattle.word.proofs.First.{by_test}
use Rattle.pusher.specs.Record.{with_get, with_main}
use Rattle.pusher.specs.Moving.{advanced}
use Rattle.pusher.specs.declared.record.Setup.{Setup}
use Rattle.pusher.specs.declared.record.Pusher.{Pusher}

-- past a word only the read address is another, and what is known of the main pushbuffer
pub advanced_only : (s : Setup) (p : Pusher) → advanced s p ≡ with_main (with_get p (p.get + 4)) (advanced s p).main
unfolding advanced
advanced_only s p = by_test (λ (q : Pusher). q ≡ with_main (with_get p (p.get + 4)) q.main) (λ e. refl) (λ e. refl)
