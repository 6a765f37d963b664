-- The outcomes of the search: its answers in order, and the room that goes with each. Assumes nothing.
use Prim.Native.Nat.{ℕ, ◌*◌, ◌/◌, ◌≤◌, ◌<◌}
use mathlib.Core.Path.{◌≡◌, refl, sym, ap, ◌∙◌}
use mathlib.Core.List.{List, ◌++◌}
use native.Mathlib.Omega.{arith}
use lib.ListN.{length, drop}
use borrow.Author.Tests.{lt-ltb, le-ltb}
use Rattle.std.specs.declared.result.Result.{Result}
use Rattle.std.specs.declared.result.Result.TheVariants.{Ok, Err}
use Rattle.word.specs.First.{choose, first}
use Rattle.word.specs.Setting.{SIZE, ROOM, refused_or}
use Rattle.word.specs.declared.setting.Setting.{Setting}
use Rattle.word.specs.declared.setting.Refusal.{Refusal}
use Rattle.word.proofs.Bytes.{words_length}
use Rattle.rules.specs.Reason.{Submission, submission, size}
use Rattle.rules.specs.Search.{found, list_of}
use Rattle.search.specs.Room.{entry_of, room_of, search_of, room_after, Holds}
use Rattle.search.specs.Outcomes.{Searches}

module _ (setting : Setting) (bytes list room : List ℕ) where
  abbrev given : Submission
  given = submission setting bytes list

  pub too_many : 4 * 1048576 < length bytes → Searches setting bytes list room (Err (record { number = SIZE })) room
  unfolding search_of room_after refused_or first choose
  too_many l = record { answer = rw (lt-ltb (4 * 1048576) (length bytes) l); memory = refl }

  module _ (few : length bytes ≤ 4 * 1048576) where
    pub too_short : length room < 2 * (length bytes / 4) → Searches setting bytes list room (Err (record { number = ROOM })) room
    unfolding search_of room_after refused_or first choose
    too_short l = record { answer = rw (le-ltb (4 * 1048576) (length bytes) few, lt-ltb (length room) (2 * (length bytes / 4)) l); memory = refl }

    -- the front of the room holds all that is found
    pub searched :
        2 * (length bytes / 4) ≤ length room
        → (front : List ℕ) {count : ℕ}
        → length front ≡ 2 * (length bytes / 4)
        → Holds (found given) front count
        → Searches setting bytes list room (Ok count) (front ++ drop (2 * (length bytes / 4)) room)
    unfolding search_of room_after room_of refused_or first choose
    searched enough front long held =
        let many : 2 * (length bytes / 4) ≡ 2 * size given = ap (λ (n : ℕ). 2 * n) (sym (words_length bytes)) in
        record {
          answer = rw (le-ltb (4 * 1048576) (length bytes) few, le-ltb (length room) (2 * (length bytes / 4)) enough) (ap Ok held.counted);
          memory =
              let same : front ≡ room_of given = held.entries ∙ ap (list_of (entry_of (found given))) (long ∙ many) in
              ap (λ (f : List ℕ). f ++ drop (2 * (length bytes / 4)) room) same ∙ ap (λ (n : ℕ). room_of given ++ drop n room) many;
        }

    -- and so it is where neither refuses
    pub acted : 2 * size given ≤ length room → {a : Result ℕ Refusal} {exit : List ℕ} → Searches setting bytes list room a exit → exit ≡ room_of given ++ drop (2 * size given) room
    unfolding search_of room_after refused_or first choose
    acted enough {a = a} h =
        let many = words_length bytes in
        let is : a ≡ Ok (length (found given)) = h.answer ∙ rw (le-ltb (4 * 1048576) (length bytes) few, le-ltb (length room) (2 * (length bytes / 4)) (omega arith)) in
        h.memory ∙ rw is
