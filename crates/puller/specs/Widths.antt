-- The widths of the puller's numbers, and the promise that they are kept.
use Rattle.std.specs.Prelude.{◌≡◌, ℕ, ◌^◌, ◌<◌, List, length, slice_index}
use Rattle.word.specs.Lent.{Words}
use Rattle.word.specs.declared.setting.Level.{Level}
use Rattle.event.specs.declared.Method.{Method}
use Rattle.puller.specs.Loan.{PullerLoan}
use Rattle.puller.specs.Outcomes.{Takes, Retries}
use Rattle.puller.specs.declared.record.Puller.{Puller}
use Rattle.puller.specs.declared.taking.Taken.{Taken}

-- R32: the engines, the last one and the eight that are bound, the numbers of 32 bits, and the long semaphore's address
pub record PullerFields (engines_are : List ℕ) (last_is reference_is dma_is offset_is value_is address_is sequence_is : ℕ) : Type 0 where
  pub engines : (subchannel : ℕ) → subchannel < 8 → slice_index engines_are subchannel < 2 ^ 5
  pub last : last_is < 2 ^ 5
  pub reference : reference_is < 2 ^ 32
  pub dma : dma_is < 2 ^ 32
  pub offset : offset_is < 2 ^ 32
  pub value : value_is < 2 ^ 32
  pub address : address_is < 2 ^ 40
  pub sequence : sequence_is < 2 ^ 32

abbrev pub PullerFits : Puller → Type 0
PullerFits p = PullerFields p.engines p.last p.reference p.semaphore.dma p.semaphore.offset p.acquire.value p.long.address p.long.sequence

-- S31: neither a method taken nor a retry leaves these widths
pub record KeepsWidths : Type 0 where
  -- of a method with a subchannel and a parameter of their widths, and a table of words
  pub take :
      (level : Level) (p : Puller) (m : Method) (l : PullerLoan) (exit : List ℕ) (r : Taken)
      → Takes level p m l r exit
      → PullerFits p
      → m.subchannel < 8
      → m.parameter < 2 ^ 32
      → Words l.table
      → PullerFits r.puller
  pub retry : (level : Level) (p : Puller) (sems : List ℕ) (r : Taken) → Retries level p sems r → PullerFits p → PullerFits r.puller
  -- the semaphore memory stays as long as it was
  pub length :
      (level : Level) (p : Puller) (m : Method) (l : PullerLoan) (exit : List ℕ) (r : Taken)
      → Takes level p m l r exit
      → length exit ≡ length l.semaphores
