-- The outcomes of the repair: what is done where nothing is refused, and the refusals in order. Assumes nothing.
use Prim.Native.Nat.{ℕ, ◌+◌, ◌*◌, ◌/◌, ◌%◌, ◌^◌, ◌≤◌, ◌<◌}
use mathlib.Core.Path.{◌≡◌, refl, sym, ap, ◌∙◌}
use mathlib.Core.Bool.{Bool, true, false, ◌||◌, false≢true}
use mathlib.Core.List.{List, [], ◌∷◌, ◌++◌}
use mathlib.Core.Option.{none, some}
use native.Mathlib.Omega.{arith}
use lib.Dec.{eqb, ltb}
use lib.ListN.{length, get_or, take, drop}
use lib.Seq.{take_at, drop_at, ext_get_or}
use borrow.Author.Tests.{eqb-true, eqb-false, ltb-false}
use Rattle.std.specs.declared.result.Result.{Result}
use Rattle.std.specs.declared.result.Result.TheVariants.{Ok, Err}
use Rattle.word.specs.First.{choose, Case, first, ◌when◌}
use Rattle.word.specs.Setting.{ROOM, refused_or}
use Rattle.word.specs.declared.setting.Refusal.{Refusal}
use Rattle.word.proofs.First.{or_else, first_append}
use Rattle.word.proofs.Settings.{hit, miss, no_more}
use Rattle.rules.specs.Next.{◌in_state◌}
use Rattle.rules.specs.Map.{main, inside}
use Rattle.rules.specs.Reason.{Submission, size}
use Rattle.rules.specs.Judging.{judge_cases}
use Rattle.rules.specs.Search.{number_of, is_found, found, list_of, exact_byte, exact_map}
use Rattle.rules.proofs.ExactMap.{list_length, list_element}
use Rattle.search.specs.Room.{room_of}
use Rattle.search.proofs.Found.{room_length, entry_found, entry_unfound}
use Rattle.repair.specs.Changes.{changes, at_front, byte_by, Rewrites}
use Rattle.repair.specs.Repairing.{Mends, room_refused, repair_of, map_after, list_after, work_after}
use Rattle.repair.specs.Outcomes.{RepairLoan, submitted, Repairs}

-- a mark where a pair was found
mark_is : (t b : Bool) (n : ℕ) → (t ≡ false → b ≡ true) → (t ≡ true → b ≡ false) → choose t 0 n ≡ choose b n 0
unfolding choose
mark_is true b n f g = rw (g refl)
mark_is false b n f g = rw (f refl)

-- the numbers of a place's two pairs
number_main : (p : ℕ) → number_of (p in_state main) ≡ 2 * p
unfolding number_of choose
number_main p = omega arith

number_inside : (p : ℕ) → number_of (p in_state inside) ≡ 2 * p + 1
unfolding number_of choose
number_inside p = refl

module _ (x : Submission) (few : size x ≤ 1048576) where
  mark_at : (k n : ℕ) → k < 2 * size x → choose (eqb (get_or (room_of x) k 0 % 2 ^ 32) 0) 0 n ≡ choose (is_found (found x) k) n 0
  mark_at k n l = mark_is _ _ n (λ e. entry_found x few k l (eqb-false _ _ e)) (λ e. entry_unfound x few k l (eqb-true _ _ e))

  -- by the search's room, each byte is the exact one, and so is the map
  byte_is : (p : ℕ) → p < size x → byte_by (room_of x) p ≡ exact_byte (found x) p
  unfolding byte_by exact_byte
  byte_is p l = rw (number_main p, number_inside p, mark_at (2 * p) 1 (omega arith), mark_at (2 * p + 1) 2 (omega arith))

  map_is : list_of (byte_by (room_of x)) (size x) ≡ exact_map x
  unfolding exact_map
  map_is =
      ext_get_or 0 (list_of (byte_by (room_of x)) (size x)) (list_of (exact_byte (found x)) (size x)) (list_length (byte_by (room_of x)) (size x) ∙ sym (list_length (exact_byte (found x)) (size x)))
      (λ i l.
      let here : i < size x = rw (list_length (byte_by (room_of x)) (size x)) at l in
      list_element (byte_by (room_of x)) (size x) i here ∙ byte_is i here ∙ sym (list_element (exact_byte (found x)) (size x) i here))

  -- so what is rewritten by it is mended
  module _ (map list work room : List ℕ) (many : length map ≡ size x) (searched : room ≡ room_of x ++ drop (2 * size x) work) where
    pairs : length (room_of x) ≡ 2 * length map
    pairs = room_length x ∙ ap (λ (n : ℕ). 2 * n) (sym many)

    front_is : take (2 * length map) room ≡ room_of x
    front_is = rw searched (take_at (room_of x) (drop (2 * size x) work) (2 * length map) pairs)

    rest_is : drop (2 * length map) room ≡ drop (2 * size x) work
    rest_is = rw searched (drop_at (room_of x) (drop (2 * size x) work) (2 * length map) pairs)

    pub mends :
        {map' list' front : List ℕ} {r : ℕ}
        → Rewrites map list (take (2 * length map) room) map' list' front r
        → Mends x map list work map' list' (front ++ drop (2 * length map) room) r
    unfolding at_front
    mends {map' = map'} {front = front} h =
        let g = rw front_is at h in
        let marks : map' ≡ exact_map x = g.marks ∙ ap (list_of (byte_by (room_of x))) many ∙ map_is in
        let zeros : front ≡ list_of (λ k. 0) (2 * size x) = g.cleared ∙ ap (list_of (λ k. 0)) (room_length x) in
        record {
          marks = marks;
          listed = rw (sym marks) g.listed;
          counted = rw (sym marks) g.counted;
          cleared = rw (rest_is, zeros, list_length (λ k. 0) (2 * size x));
        }

-- rooms that are not refused
pub rooms_fit : (bytes list work : ℕ) → room_refused bytes list work ≡ false → (bytes / 4 ≤ list) × (2 * (bytes / 4) ≤ work)
rooms_fit bytes list work e = go (ltb list (bytes / 4)) refl e
  where
    go : (a : Bool) → ltb list (bytes / 4) ≡ a → a || ltb work (2 * (bytes / 4)) ≡ false → (bytes / 4 ≤ list) × (2 * (bytes / 4) ≤ work)
    go true h e = absurd (false≢true (sym e))
    go false h e = (ltb-false list (bytes / 4) h, ltb-false work (2 * (bytes / 4)) e)

-- The refusals in order, and what is done where there is none.
module _ (level : ℕ) (sli : Bool) (l : RepairLoan) where
  abbrev table : List Case
  table = judge_cases 8192 level sli l.bytes l.map l.permit

  abbrev rooms : List Case
  rooms = ROOM when room_refused (length l.bytes) (length l.list) (length l.work) ∷ []

  abbrev done : Result ℕ Refusal
  done = Ok (length (changes l.map (exact_map (submitted level sli l))))

  abbrev asked : Result ℕ Refusal
  asked = repair_of level sli l.bytes l.map l.permit (length l.list) (length l.work)

  refusing : (n : Refusal) → Err n ≡ asked → Repairs level sli l (Err n) l.map l.list l.work
  unfolding map_after list_after work_after
  refusing n e = record { answer = e; map_after = refl; list_after = refl; work_after = refl }

  pub table_refused : (n : Refusal) → first table ≡ some n.number → Repairs level sli l (Err n) l.map l.list l.work
  unfolding repair_of refused_or or_else
  table_refused n e = refusing n (rw (first_append table rooms, e))

  module _ (fine : first table ≡ none) where
    past : refused_or Err (first rooms) done ≡ asked
    unfolding repair_of or_else
    past = rw (first_append table rooms, fine)

    pub room_refused_lem : room_refused (length l.bytes) (length l.list) (length l.work) ≡ true → Repairs level sli l (Err (record { number = ROOM })) l.map l.list l.work
    room_refused_lem h = refusing _ (sym (hit ROOM [] Err done h) ∙ past)

    pub mended :
        room_refused (length l.bytes) (length l.list) (length l.work) ≡ false
        → {map list work : List ℕ} {r : ℕ}
        → Mends (submitted level sli l) l.map l.list l.work map list work r
        → Repairs level sli l (Ok r) map list work
    unfolding map_after list_after work_after
    mended h m =
        record {
          answer = ap Ok m.counted ∙ sym (miss ROOM [] Err done h ∙ no_more Err done) ∙ past;
          map_after = m.marks;
          list_after = m.listed;
          work_after = m.cleared;
        }
