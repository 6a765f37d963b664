-- What the room holds of all that is found. Assumes nothing.
use Prim.Native.Nat.{ℕ, ◌*◌, ◌/◌, ◌%◌, ◌^◌, ◌≤◌, ◌<◌}
use mathlib.Core.Path.{◌≡◌, refl, sym, ap}
use mathlib.Core.Bool.{true, false}
use mathlib.Core.Logic.{⊎_elim}
use native.Mathlib.Nat.{eq-or-lt_of_le}
use native.Mathlib.Omega.{arith}
use lib.ListN.{length, get_or}
use Rattle.rules.specs.Reason.{Submission, size}
use Rattle.rules.specs.Search.{is_found, found, list_of}
use Rattle.rules.specs.Promises.{nth}
use Rattle.rules.proofs.Complete.{reached_within}
use Rattle.rules.proofs.Growing.{nth_found}
use Rattle.rules.proofs.ExactMap.{list_length, found_well}
use Rattle.rules.proofs.Finds.{finds}
use Rattle.search.specs.Room.{from_of, pair_of, entry_of, room_of, Holds}
use Rattle.search.proofs.Rooms.{lower, upper, found_by_entry, unfound_by_entry}

module _ (x : Submission) where
  -- two entries a word
  pub room_length : length (room_of x) ≡ 2 * size x
  unfolding room_of
  room_length = list_length (entry_of (found x)) (2 * size x)

  pub pair_there : (i : ℕ) → i < length (found x) → (nth x i).pair < 2 * size x
  unfolding found
  pair_there i l =
      let within = reached_within x ((found_well x (2 * size x)).reached (nth x i).pair (nth_found (found x) i l)) in
      omega arith

  from_there : (i : ℕ) → i < length (found x) → (nth x i).from < 2 * size x
  from_there i l =
      ⊎_elim
      (λ (e : 0 ≡ i). let first = (finds x).first (omega arith) in let there = pair_there 0 (omega arith) in rw (sym e) (omega (arith, first.1)))
      (λ later. let way = (finds x).from i later l in let there = pair_there way.0 (omega (arith, way.1)) in omega (arith, way.2))
      (eq-or-lt_of_le {n = 0} {m = i} (omega arith))

  pub found_held : Holds (found x) (room_of x) (length (found x))
  unfolding found room_of
  found_held =
      record {
        entries = ap (list_of (entry_of (found x))) (sym room_length);
        counted = refl;
        pair_within = λ i l. rw room_length (pair_there i l);
        from_within = λ i l. rw room_length (from_there i l);
        each_once = rw room_length (found_well x (2 * size x)).counts;
      }

  -- so whether a pair was found is seen by its entry
  module _ (few : size x ≤ 1048576) (k : ℕ) (l : k < 2 * size x) where
    small : length (room_of x) < 2 ^ 31
    small = rw room_length (omega arith)

    there : k < length (room_of x)
    there = rw room_length l

    pub entry_found : (get_or (room_of x) k 0 % 2 ^ 32 ≡ 0 → ⊥) → is_found (found x) k ≡ true
    entry_found = found_by_entry (found x) (room_of x) (length (found x)) found_held small k there

    pub entry_unfound : get_or (room_of x) k 0 % 2 ^ 32 ≡ 0 → is_found (found x) k ≡ false
    entry_unfound = unfound_by_entry (found x) (room_of x) (length (found x)) found_held small k there

    -- and what it tells
    pub entry_from : get_or (room_of x) k 0 % 2 ^ 32 ≡ from_of (found x) k
    entry_from = lower (found x) (room_of x) (length (found x)) found_held small k there

    pub entry_pair : get_or (room_of x) k 0 / 2 ^ 32 ≡ pair_of (found x) k
    entry_pair = upper (found x) (room_of x) (length (found x)) found_held small k there
