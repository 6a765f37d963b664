-- How wide the numbers of a set-up and of a pusher are, in plain terms; and the promise that a move keeps them so.
use Rattle.std.specs.Prelude.{ℕ, ◌%◌, ◌^◌, ◌≤◌, ◌<◌, ◌≡◌, true, [], ◌∷◌, length}
use Rattle.word.specs.Lent.{Words}
use Rattle.pusher.specs.Loan.{PusherLoan}
use Rattle.pusher.specs.Answers.{Tells}
use Rattle.pusher.specs.Outcomes.{Moves}
use Rattle.pusher.specs.declared.record.Setup.{Setup}
use Rattle.pusher.specs.declared.record.Run.{Run}
use Rattle.pusher.specs.declared.record.Pusher.{Pusher}
use Rattle.pusher.specs.declared.moving.Did.{Did}
use Rattle.pusher.specs.declared.moving.Pushed.{Pushed}

-- R34: a set-up that opening could have made; and the limit's width
pub record SetUp (s : Setup) : Type 0 where
  pub level : s.setting.level.number ≤ 5
  pub mode : s.setting.mode.number ≤ 1
  pub ib : s.setting.mode.number ≡ 1 → 4 ≤ s.setting.level.number
  pub order : s.setting.mode.number ≡ 1 → s.order ≤ 12
  pub sli : s.setting.sli ≡ true → 3 ≤ s.setting.level.number
  pub held : s.setting.mode.number ≡ 0 → s.order ≡ 0
  pub limit : s.limit < 2 ^ 32

-- R32: an address has 32 bits in NV04-style, 40 in IB mode
pub record Narrow (s : Setup) (address : ℕ) : Type 0 where
  pub nv04_style : s.setting.mode.number ≡ 0 → address < 2 ^ 32
  pub ib : s.setting.mode.number ≡ 1 → address < 2 ^ 40

-- R32, R33: the addresses are within their widths, and three of them multiples of 4
pub record Addresses (s : Setup) (get_is put_is mget_is back_is : ℕ) : Type 0 where
  pub get : Narrow s get_is × (get_is % 4 ≡ 0)
  pub put : Narrow s put_is × (put_is % 4 ≡ 0)
  pub mget : Narrow s mget_is
  pub back : (back_is < 2 ^ 32) × (back_is % 4 ≡ 0)

-- R32: the run under way
pub record RunFits (r : Run) : Type 0 where
  pub count : r.count < 2 ^ 24
  pub method : r.method < 2 ^ 11
  pub subchannel : r.subchannel < 2 ^ 3

-- R32: the pusher's numbers, with the indices into the ring and the SLI mask
pub record PusherFields (s : Setup) (get put mget back ib_get_is ib_put_is : ℕ) (run_is : Run) (mask_is : ℕ) : Type 0 where
  pub addresses : Addresses s get put mget back
  pub ib_get : ib_get_is < 2 ^ s.order
  pub ib_put : ib_put_is < 2 ^ s.order
  pub run : RunFits run_is
  pub mask : mask_is < 2 ^ 12

-- all of that, of a pusher
abbrev pub PusherFits : Setup → Pusher → Type 0
PusherFits s p = PusherFields s p.get p.put p.main.mget p.subroutine.back p.ib.get p.ib.put p.run p.sli.mask

-- what a move submits fits: one of the eight subchannels, a parameter of 32 bits
abbrev pub DidFits : Did → Type 0
DidFits d = (b m w : ℕ) → Tells d 2 (b ∷ m ∷ w ∷ []) → (b < 8) × (w < 2 ^ 32)

-- S31: of a pusher whose numbers fit, on no more words than a step takes, a move leaves one whose numbers fit.
abbrev pub KeepsWidths : Type 0
KeepsWidths =
    (s : Setup) (p : Pusher) (l : PusherLoan) (r : Pushed)
    → Moves s p l r
    → SetUp s
    → PusherFits s p
    → Words l.words
    → length l.words ≤ 1048576
    → PusherFits s r.pusher × DidFits r.did
