-- An IB entry by its shifts and masks, and how large its numbers are. Assumes nothing.
use Prim.Native.Nat.{ℕ, ◌-◌, ◌*◌, ◌/◌, ◌%◌, ◌^◌, ◌<◌}
use mathlib.Core.Path.{◌≡◌}
use native.Mathlib.Omega.{arith}
use lib.Bits.{bit_and}
use lib.Dec.{eqb}
use lib.Pow.{shr_mod}
use Rattle.word.specs.Parts.{bits, numbers_in}
use Rattle.word.proofs.Decode.{field}
use Rattle.pusher.specs.Entry.{parts, entry_of}

-- the shifts and masks are the bits; the size is the uppermost, which need no mask
pub entry_by_masks :
    (e : ℕ)
    → e < 2 ^ 64
    → record { address = bit_and (e / 2 ^ 2) (2 ^ 38 - 1) * 2 ^ 2 % 2 ^ 64; size = e / 2 ^ 42; nonmain = eqb (bit_and (e / 2 ^ 41) (2 ^ 1 - 1)) 1 } ≡ entry_of e
unfolding entry_of parts numbers_in
entry_by_masks e h =
    let address : bits 39 2 e * 2 ^ 2 % 2 ^ 64 ≡ bits 39 2 e * 2 ^ 2 = omega arith in
    rw (field e 39 2, field e 41 41, address, shr_mod 22 42 h)

pub address_below : (e : ℕ) → (entry_of e).address < 2 ^ 40
unfolding entry_of parts numbers_in
address_below e = omega arith

pub size_below : (e : ℕ) → (entry_of e).size < 2 ^ 22
unfolding entry_of parts numbers_in
size_below e = omega arith
