use Prim.Native.Nat.{ℕ, ◌+◌, ◌*◌, ◌%◌, ◌^◌, ◌<◌}
use mathlib.Core.Path.{◌≡◌, refl, sym, ap, ◌∙◌}
use mathlib.Core.List.{List, [], ◌∷◌, ◌++◌}
use mathlib.Core.Logic.{∥∥₁_elim, ∥∥₁_map}
use native.Mathlib.Omega.{arith}
use lib.ListN.{length, get_or, set, length-set}
use Rattle.std.specs.Coded.{le_prop}
use Rattle.rules.specs.Search.{number_of, Found, ◌found_from◌, is_found, find}
use Rattle.rules.specs.declared.pair.Pair.{Pair}
use Rattle.search.specs.Room.{Holds}
use Rattle.search.specs.declared.room.Room.{Room}
use Rattle.search.proofs.Rooms.{number_within, find_end, find_old, find_new, found_by_entry, unfound_by_entry, free, room_left_next, added}
use Rattle.search.proofs.room.Room.find.Goals as goal

few : (room : Room) → length room.entries.now < 2 ^ 31
few room = omega (arith, room.sized.0, room.sized.1)

-- a pair that is not the end has an entry
module _ (room : Room) (q : Pair) {k : ℕ} (is : k ≡ number_of q) (within : q.place < room.end) where
  there : k < length room.entries.now
  there = let before = number_within q room.end within in omega (arith, is, room.sized.1)

  small : k < 2 ^ 31
  small = omega (arith, there, few room)

  -- and if that says that it was not found, it is added
  module _ (j : ℕ) (from : j < 2 * room.end) (unset : get_or room.entries.now k 0 % 2 ^ 32 ≡ 0) where
    from_there : j < length room.entries.now
    from_there = omega (arith, from, room.sized.1)

    one_more : (fs : List Found) → Holds fs room.entries.now room.count → find room.end j fs q ≡ fs ++ (k found_from j ∷ [])
    one_more fs h =
        find_new room.end j fs q (λ e. omega (arith, within)) (ap (is_found fs) (sym is) ∙ unfound_by_entry fs room.entries.now room.count h (few room) k there unset)
        ∙ ap (λ (i : ℕ). fs ++ (i found_from j ∷ [])) (sym is)

    abbrev once : List ℕ
    once = set room.entries.now k (get_or room.entries.now k 0 + (j + 1))

    held_more : (fs : List Found) → Holds fs room.entries.now room.count → Holds (find room.end j fs q) (set once room.count (get_or once room.count 0 + k * 2 ^ 32)) (room.count + 1)
    held_more fs h = rw (one_more fs h) (added fs room.entries.now room.count h (few room) k there j from_there unset)

    place_left : room.count < length room.entries.now
    place_left = ∥∥₁_elim room.filled le_prop (λ x. free x.0 room.entries.now room.count x.1 (few room) k there j from_there unset)

    entry_left : room.count < length once
    entry_left = rw (length-set room.entries.now k (get_or room.entries.now k 0 + (j + 1))) place_left

    small_count : room.count < 2 ^ 31
    small_count = omega (arith, place_left, few room)

    next_low : get_or (set room.entries.now k (get_or room.entries.now k 0 + (j + 1))) room.count 0 < 2 ^ 32
    next_low = ∥∥₁_elim room.filled le_prop (λ x. room_left_next x.0 room.entries.now room.count x.1 (few room) k there j from_there unset)

pub returns-then-pair-self : goal.returns-then-pair-self
returns-then-pair-self c =
    let a = c.args in (refl, refl, λ fs h. rw (find_end a.self.now.end a.from fs a.pair (omega arith)) h)

pub offset_bounds-self-number : goal.offset_bounds-self-number
offset_bounds-self-number c = omega (arith, small c.args.self.now c.args.pair c.number_of-number.ensures (omega arith))

pub bounds-self-number : goal.bounds-self-number
bounds-self-number c = there c.args.self.now c.args.pair c.number_of-number.ensures (omega arith)

pub returns-then-self-number-ne0 : goal.returns-then-self-number-ne0
returns-then-self-number-ne0 c =
    let a = c.args in
    let room = a.self.now in
    let is = c.number_of-number.ensures in
    let at = there room a.pair is (omega arith) in (
      refl,
      refl,
      λ fs h.
          let old = found_by_entry fs room.entries.now room.count h (few room) c.number_of-number.result at c.if-self-number-ne0.true in
          rw (find_old room.end a.from fs a.pair (ap (is_found fs) (sym is) ∙ old)) h,
    )

pub offset_bounds-entries-number : goal.offset_bounds-entries-number
offset_bounds-entries-number c = omega (arith, small c.args.self.now c.args.pair c.number_of-number.ensures (omega arith))

pub bounds-entries-number : goal.bounds-entries-number
bounds-entries-number c = there c.args.self.now c.args.pair c.number_of-number.ensures (omega arith)

pub bounds-entries-number-2 : goal.bounds-entries-number-2
bounds-entries-number-2 c = there c.args.self.now c.args.pair c.number_of-number.ensures (omega arith)

pub overflow_mul-entries : goal.overflow_mul-entries
overflow_mul-entries c = omega (arith, small c.args.self.now c.args.pair c.number_of-number.ensures (omega arith))

pub offset_bounds-entries-self : goal.offset_bounds-entries-self
offset_bounds-entries-self c =
    omega (arith, small_count c.args.self.now c.args.pair c.number_of-number.ensures (omega arith) c.args.from c.requires.0 c.if-self-number-ne0.false)

pub bounds-entries-self : goal.bounds-entries-self
bounds-entries-self c =
    entry_left c.args.self.now c.args.pair c.number_of-number.ensures (omega arith) c.args.from c.requires.0 c.if-self-number-ne0.false

pub overflow_add-entries-3 : goal.overflow_add-entries-3
overflow_add-entries-3 c =
    let room = c.args.self.now in
    let at = there room c.args.pair c.number_of-number.ensures (omega arith) in
    let low = next_low room c.args.pair c.number_of-number.ensures (omega arith) c.args.from c.requires.0 c.if-self-number-ne0.false in
    omega (arith, few room)

pub bounds-entries-self-2 : goal.bounds-entries-self-2
bounds-entries-self-2 c =
    entry_left c.args.self.now c.args.pair c.number_of-number.ensures (omega arith) c.args.from c.requires.0 c.if-self-number-ne0.false

pub overflow_add-self : goal.overflow_add-self
overflow_add-self c =
    omega (arith, small_count c.args.self.now c.args.pair c.number_of-number.ensures (omega arith) c.args.from c.requires.0 c.if-self-number-ne0.false)

pub invariant_of-self-clause-filled : goal.invariant_of-self-clause-filled
invariant_of-self-clause-filled c =
    let room = c.args.self.now in
    ∥∥₁_map room.filled
    (λ x. (_, held_more room c.args.pair c.number_of-number.ensures (omega arith) c.args.from c.requires.0 c.if-self-number-ne0.false x.0 x.1))

pub returns : goal.returns
returns c =
    (refl, refl, held_more c.args.self.now c.args.pair c.number_of-number.ensures (omega arith) c.args.from c.requires.0 c.if-self-number-ne0.false)
