-- The search for what is reached: the pairs in the order in which they are found, each with the one that it is found from; and the map
-- that marks them.
use Rattle.std.specs.Prelude.{ℕ, zero, suc, ◌+◌, ◌*◌, Bool, false, ◌||◌, List, [], ◌∷◌, ◌++◌, eqb, ltb, length, get_or}
use Rattle.word.specs.First.{choose}
use Rattle.word.specs.Lowest.{found?}
use Rattle.rules.specs.Map.{main, inside}
use Rattle.rules.specs.Next.{◌in_state◌, nexts}
use Rattle.rules.specs.Reason.{Submission, size, command_at, flaw_at}
use Rattle.rules.specs.Judging.{place_of, state_of}
use Rattle.rules.specs.declared.pair.Pair.{Pair}

-- H9: the number of a pair, of which place_of and state_of give its place and its state
unfoldable pub number_of : Pair → ℕ
number_of q = 2 * q.place + choose q.inside 1 0

-- H9: a pair that was found, and the one that it was found from, by their numbers
pub record Found : Type 0 where
  pub pair : ℕ
  pub from : ℕ

infix 70 ◌found_from◌
abbrev pub ◌found_from◌ : ℕ → ℕ → Found
k found_from j = record { pair = k; from = j }

-- whether the pair with number k was found
unfoldable pub is_found : List Found → ℕ → Bool
is_found [] k = false
is_found (f ∷ fs) k = eqb f.pair k || is_found fs k

-- how many of the numbers below m are those of pairs that were found: by this it is counted that the turns are enough
unfoldable pub found_below : List Found → ℕ → ℕ
found_below fs zero = 0
found_below fs (suc m) = found_below fs m + choose (is_found fs m) 1 0

-- H9: a next pair of the pair j is found, unless it is the end, behind n words, or was found before; and next pairs are, in turn
unfoldable pub find : ℕ → ℕ → List Found → Pair → List Found
find n j fs q = choose (eqb q.place n || is_found fs (number_of q)) fs (fs ++ (number_of q found_from j ∷ []))

unfoldable pub find_each : ℕ → ℕ → List Found → List Pair → List Found
find_each n j fs [] = fs
find_each n j fs (q ∷ qs) = find_each n j (find n j fs q) qs

-- H9: a pair is taken: if it has none of the path rule's reasons, its next pairs are found
unfoldable pub taking : Submission → ℕ → List Found → List Found
taking x j fs =
    choose (found? (flaw_at x (place_of j) (state_of j))) fs
    (find_each (size x) j fs (nexts (command_at x (place_of j)) (place_of j) (state_of j)))

-- H9: the one that was found as the i-th, from 0, is taken, if there are so many
unfoldable pub take_nth : Submission → ℕ → List Found → List Found
take_nth x i fs = choose (ltb i (length fs)) (taking x (get_or fs i (0 found_from 0)).pair fs) fs

-- H9: what is found once so many were taken: place 0 in main, where there are words, and what was found from those taken
unfoldable pub found_after : Submission → ℕ → List Found
found_after x zero = choose (eqb (size x) 0) [] (0 found_from 0 ∷ [])
found_after x (suc i) = take_nth x i (found_after x i)

-- H9: once all are taken, of which there are at most two a word
unfoldable pub found : Submission → List Found
found x = found_after x (2 * size x)

-- a list by its elements, of which there are n
unfoldable pub list_of : (ℕ → ℕ) → ℕ → List ℕ
list_of f zero = []
list_of f (suc n) = list_of f n ++ (f n ∷ [])

-- H5: the byte of a place: 1 where it was found in main, plus 2 where it was found inside
unfoldable pub exact_byte : List Found → ℕ → ℕ
exact_byte fs p = choose (is_found fs (number_of (p in_state main))) 1 0 + choose (is_found fs (number_of (p in_state inside))) 2 0

-- H5, H12: the exact map, by what is found
unfoldable pub exact_map : Submission → List ℕ
exact_map x = list_of (exact_byte (found x)) (size x)
