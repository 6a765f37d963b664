-- The list of what changed in a map, and how map, list and work room are rewritten.
use Rattle.std.specs.Prelude.{ℕ, zero, suc, ◌+◌, ◌*◌, ◌%◌, ◌^◌, ◌≡◌, List, [], ◌∷◌, ◌++◌, eqb, length, get_or, drop, set}
use Rattle.word.specs.First.{choose}
use Rattle.rules.specs.Search.{list_of}

-- H13: an entry: 32 bits of place, a byte that was there before, and one that is there now
unfoldable pub change : ℕ → ℕ → ℕ → ℕ
change p old new = new * 2 ^ 40 + (old * 2 ^ 32 + p)

-- H13: the entries of the first n places, rising: one for each whose byte changed
unfoldable pub changes_below : List ℕ → List ℕ → ℕ → List ℕ
changes_below old new zero = []
changes_below old new (suc p) =
    choose (eqb (get_or old p 0) (get_or new p 0)) (changes_below old new p)
    (changes_below old new p ++ (change p (get_or old p 0) (get_or new p 0) ∷ []))

-- H13: and of all places
unfoldable pub changes : List ℕ → List ℕ → List ℕ
changes old new = changes_below old new (length old)

-- a list with others at its front, as many as they are
unfoldable pub at_front : List ℕ → List ℕ → List ℕ
at_front front list = front ++ drop (length front) list

-- H5, H11: the byte of a place by the two entries of its pairs: 1 and 2 where their lower halves are not 0
unfoldable pub byte_by : List ℕ → ℕ → ℕ
byte_by work p = choose (eqb (get_or work (2 * p) 0 % 2 ^ 32) 0) 0 1 + choose (eqb (get_or work (2 * p + 1) 0 % 2 ^ 32) 0) 0 2

-- While the map is rewritten: what becomes of place p, where so many changed before it
pub record Puts (map list work : List ℕ) (p count : ℕ) (map_exit list_exit work_exit : List ℕ) (r : ℕ) : Type 0 where
  pub mark : map_exit ≡ set map p (byte_by work p)
  pub listed : list_exit ≡ choose (eqb (get_or map p 0) (byte_by work p)) list (set list count (change p (get_or map p 0) (byte_by work p)))
  pub counted : r ≡ choose (eqb (get_or map p 0) (byte_by work p)) count (count + 1)
  pub cleared : work_exit ≡ set (set work (2 * p) 0) (2 * p + 1) 0

-- and what becomes of all
pub record Rewrites (map list work map_exit list_exit work_exit : List ℕ) (r : ℕ) : Type 0 where
  pub marks : map_exit ≡ list_of (byte_by work) (length map)
  pub listed : list_exit ≡ at_front (changes map map_exit) list
  pub counted : r ≡ length (changes map map_exit)
  pub cleared : work_exit ≡ list_of (λ k. 0) (length work)
