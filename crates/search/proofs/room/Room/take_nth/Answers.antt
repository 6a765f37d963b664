use Prim.Native.Nat.{ℕ, ◌/◌, ◌^◌, ◌≤◌, ◌<◌}
use mathlib.Core.Path.{◌≡◌, refl, sym, ◌∙◌}
use mathlib.Core.List.{List}
use mathlib.Core.Logic.{∥∥₁_elim}
use native.Mathlib.Omega.{arith}
use lib.ListN.{length, get_or}
use Rattle.std.specs.Coded.{le_prop}
use Rattle.rules.specs.Reason.{submitted}
use Rattle.rules.specs.Judging.{place_of, state_of}
use Rattle.rules.specs.Search.{Found, ◌found_from◌}
use Rattle.rules.proofs.ExactMap.{counts_most}
use Rattle.search.specs.Room.{Holds, Filled}
use Rattle.search.proofs.Rooms.{pair_at}
use Rattle.search.proofs.Taking.{handed, flawed, flawless, first_there, second_there, take_past, take_flawed, take_sound}
use Rattle.search.proofs.room.Room.take_nth.Goals as goal

-- a room holds no more pairs than it has entries
few : (room : List ℕ) (count : ℕ) → Filled room count → count ≤ length room
few room count held =
    ∥∥₁_elim held le_prop (λ x. let most = counts_most (length room) x.0 (x.1).each_once in omega (arith, (x.1).counted))

-- the pair that is taken
taken : (room : List ℕ) (fs : List Found) (count turn : ℕ) → length room < 2 ^ 31 → turn < count → Holds fs room count → get_or room turn 0 / 2 ^ 32 ≡ (get_or fs turn (0 found_from 0)).pair
taken room fs count turn small there h = (pair_at fs room count h small turn there).0

number_there : (room : List ℕ) (count turn : ℕ) → length room < 2 ^ 31 → turn < count → Filled room count → get_or room turn 0 / 2 ^ 32 < length room
number_there room count turn small there held =
    ∥∥₁_elim held le_prop (λ x. let at = pair_at x.0 room count x.1 small turn there in omega (arith, at.0, at.1))

pub returns-then-self-turn : goal.returns-then-self-turn
returns-then-self-turn c =
    let x = submitted c.args.submission.now in
    (refl, refl, λ fs h. rw (take_past x fs c.args.turn (omega (arith, h.counted, c.if-self-turn.true))) h)

pub offset_bounds-self-turn : goal.offset_bounds-self-turn
offset_bounds-self-turn c = let room = c.args.self.now in let held = few _ _ room.filled in omega (arith, room.sized.0, room.sized.1)

pub bounds-self-turn : goal.bounds-self-turn
bounds-self-turn c = let held = few _ _ c.args.self.now.filled in omega arith

pub returns-then-is_some : goal.returns-then-is_some
returns-then-is_some c =
    let a = c.args in
    let room = a.self.now in
    let x = submitted a.submission.now in
    let j = get_or room.entries.now a.turn 0 / 2 ^ 32 in
    let bad = flawed x (place_of j) (state_of j) c.command_at-command.ensures c.nexts-next.ensures c.command_reason.ensures (sym c.is_some.ensures ∙ c.if-is_some.true) in
    let small : length room.entries.now < 2 ^ 31 = omega (arith, room.sized.0, room.sized.1) in (
      refl,
      refl,
      λ fs h.
          rw (take_flawed x fs a.turn (omega (arith, h.counted, c.if-self-turn.false)) (taken room.entries.now fs room.count a.turn small (omega arith) h) bad) h,
    )

pub find_each-requires : goal.find_each-requires
find_each-requires c =
    let a = c.args in
    let room = a.self.now in
    let x = submitted a.submission.now in
    let j = get_or room.entries.now a.turn 0 / 2 ^ 32 in
    let quiet = sym c.is_some.ensures ∙ c.if-is_some.false in
    let within = number_there room.entries.now room.count a.turn (omega (arith, room.sized.0, room.sized.1)) (omega arith) room.filled in (
      omega (arith, within, room.sized.1),
      rw c.requires (first_there x (place_of j) (state_of j) c.command_at-command.ensures c.nexts-next.ensures c.command_reason.ensures quiet),
      rw c.requires (second_there x (place_of j) (state_of j) c.command_at-command.ensures c.nexts-next.ensures c.command_reason.ensures quiet),
    )

pub returns : goal.returns
returns c =
    let a = c.args in
    let room = a.self.now in
    let x = submitted a.submission.now in
    let j = get_or room.entries.now a.turn 0 / 2 ^ 32 in
    let small : length room.entries.now < 2 ^ 31 = omega (arith, room.sized.0, room.sized.1) in
    let sound = flawless x (place_of j) (state_of j) c.command_at-command.ensures c.nexts-next.ensures c.command_reason.ensures (sym c.is_some.ensures ∙ c.if-is_some.false) in
    let next = handed x (place_of j) (state_of j) c.command_at-command.ensures c.nexts-next.ensures c.command_reason.ensures in
    let more = rw (next, c.requires, c.command_at-command.ensures) at (c.find_each.ensures.2) in (
      c.find_each.ensures.0,
      c.find_each.ensures.1,
      λ fs h.
          rw (take_sound x fs a.turn (omega (arith, h.counted, c.if-self-turn.false)) (taken room.entries.now fs room.count a.turn small (omega arith) h) sound)
          (more fs h),
    )
