-- The room while it is searched: what an entry tells, and how a pair that is found is added. Assumes nothing.
use Prim.Native.Nat.{ℕ, zero, suc, ◌+◌, ◌*◌, ◌/◌, ◌%◌, ◌^◌, ◌≤◌, ◌<◌}
use mathlib.Core.Path.{◌≡◌, refl, sym, ap, ◌∙◌}
use mathlib.Core.Bool.{Bool, true, false, ◌||◌, or-true, false≢true}
use mathlib.Core.List.{List, [], ◌∷◌, ◌++◌}
use mathlib.Core.Logic.{⊎_elim}
use native.Mathlib.Nat.{eq-or-lt_of_le}
use native.Mathlib.Omega.{arith}
use lib.Dec.{eqb}
use Rattle.std.proofs.lemmas.List.{get_or-replicate}
use lib.ListN.{length, get_or, set, replicate, length-replicate, length-append, length-set, get_or-append, get_or-eq_default}
use lib.Seq.{get_or-append_seam, get_or-set_same, get_or-set_other, set-set, ext_get_or}
use borrow.Author.Tests.{eqb-true, eqb-false, eq-eqb, ne_eqb}
use Rattle.word.specs.First.{choose}
use Rattle.word.proofs.First.{by_test, choose_true, choose_false}
use Rattle.rules.specs.Search.{number_of, Found, ◌found_from◌, is_found, find, find_each, list_of}
use Rattle.rules.specs.declared.pair.Pair.{Pair}
use Rattle.rules.proofs.ExactMap.{list_length, list_element, counts_none, counts_more, counts_most}
use Rattle.search.specs.Room.{from_of, pair_of, entry_of, Holds}

-- the i-th of a list
abbrev ith : List Found → ℕ → Found
ith fs i = get_or fs i (0 found_from 0)

-- a pair that was not found has 0 as the one that it was found from, one that was found doesn't
from_none : (fs : List Found) (k : ℕ) → is_found fs k ≡ false → from_of fs k ≡ 0
unfolding is_found from_of choose
from_none [] k e = refl
from_none (f ∷ fs) k e = go (eqb f.pair k) e (from_none fs k)
  where
    go : (b : Bool) → b || is_found fs k ≡ false → (is_found fs k ≡ false → from_of fs k ≡ 0) → choose b (f.from + 1) (from_of fs k) ≡ 0
    go true e later = absurd (false≢true (sym e))
    go false e later = later e

from_some : (fs : List Found) (k : ℕ) → is_found fs k ≡ true → 0 < from_of fs k
unfolding is_found from_of choose
from_some [] k e = absurd (false≢true e)
from_some (f ∷ fs) k e = go (eqb f.pair k) e (from_some fs k)
  where
    go : (b : Bool) → b || is_found fs k ≡ true → (is_found fs k ≡ true → 0 < from_of fs k) → 0 < choose b (f.from + 1) (from_of fs k)
    go true e later = omega arith
    go false e later = later e

-- it is at most the number of entries, where each pair is below that
from_most : (fs : List Found) (m k : ℕ) → ((i : ℕ) → i < length fs → (ith fs i).from < m) → from_of fs k ≤ m
unfolding from_of choose
from_most [] m k l = omega arith
from_most (f ∷ fs) m k l = go (eqb f.pair k) (l 0 (omega arith)) (from_most fs m k (λ i h. l (suc i) (omega arith)))
  where
    go : (b : Bool) → f.from < m → from_of fs k ≤ m → choose b (f.from + 1) (from_of fs k) ≤ m
    go true here later = omega arith
    go false here later = later

-- with one more, each is as it was but for that one's
from_more : (fs : List Found) (k j i : ℕ) → is_found fs k ≡ false → from_of (fs ++ (k found_from j ∷ [])) i ≡ from_of fs i + choose (eqb i k) (j + 1) 0
unfolding is_found from_of choose
from_more [] k j i e = go (eqb i k) refl
  where
    go : (b : Bool) → eqb i k ≡ b → choose (eqb k i) (j + 1) 0 ≡ 0 + choose b (j + 1) 0
    go true h = rw (eq-eqb k i (sym (eqb-true i k h))) (omega arith)
    go false h = rw (ne_eqb k i (λ z. eqb-false i k h (sym z))) (omega arith)
from_more (f ∷ fs) k j i e = go (eqb f.pair k) refl e (from_more fs k j i)
  where
    go :
        (a : Bool)
        → eqb f.pair k ≡ a
        → a || is_found fs k ≡ false
        → (is_found fs k ≡ false → from_of (fs ++ (k found_from j ∷ [])) i ≡ from_of fs i + choose (eqb i k) (j + 1) 0)
        → from_of (f ∷ fs ++ (k found_from j ∷ [])) i ≡ from_of (f ∷ fs) i + choose (eqb i k) (j + 1) 0
    go true h e later = absurd (false≢true (sym e))
    go false h e later = at (eqb f.pair i) refl
      where
        at :
            (b : Bool)
            → eqb f.pair i ≡ b
            → choose b (f.from + 1) (from_of (fs ++ (k found_from j ∷ [])) i) ≡ choose b (f.from + 1) (from_of fs i) + choose (eqb i k) (j + 1) 0
        at true g = let other = eqb-false f.pair k h in let here = eqb-true f.pair i g in rw (ne_eqb i k (λ z. other (here ∙ z))) (omega arith)
        at false g = later e

-- the pairs in their order, with one more
pair_more : (fs : List Found) (f : Found) (i : ℕ) → pair_of (fs ++ (f ∷ [])) i ≡ pair_of fs i + choose (eqb i (length fs)) f.pair 0
unfolding pair_of choose
pair_more [] f zero = omega arith
pair_more [] f (suc i) = rw (ne_eqb (suc i) 0 (λ z. omega arith))
pair_more (g ∷ fs) f zero = rw (ne_eqb 0 (suc (length fs)) (λ z. omega arith)) (omega arith)
pair_more (g ∷ fs) f (suc i) = go (eqb i (length fs)) refl (pair_more fs f i)
  where
    go :
        (b : Bool)
        → eqb i (length fs) ≡ b
        → (get_or (fs ++ (f ∷ [])) i (0 found_from 0)).pair ≡ (ith fs i).pair + choose (eqb i (length fs)) f.pair 0
        → (get_or (fs ++ (f ∷ [])) i (0 found_from 0)).pair ≡ (ith fs i).pair + choose (eqb (suc i) (suc (length fs))) f.pair 0
    go true e h = rw (eq-eqb (suc i) (suc (length fs)) (ap suc (eqb-true i (length fs) e))) (rw e at h)
    go false e h = rw (ne_eqb (suc i) (suc (length fs)) (λ z. eqb-false i (length fs) e (omega arith))) (rw e at h)

pub pair_past : (fs : List Found) (i : ℕ) → length fs ≤ i → pair_of fs i ≡ 0
unfolding pair_of
pair_past fs i l = ap (λ (f : Found). f.pair) (get_or-eq_default fs (0 found_from 0) {n = i} l)

-- a number added to one element of a list
element_more : (l : List ℕ) (k a i : ℕ) → k < length l → get_or (set l k (get_or l k 0 + a)) i 0 ≡ get_or l i 0 + choose (eqb i k) a 0
unfolding choose
element_more l k a i h = go (eqb i k) refl
  where
    go : (b : Bool) → eqb i k ≡ b → get_or (set l k (get_or l k 0 + a)) i 0 ≡ get_or l i 0 + choose b a 0
    go true e = rw (eqb-true i k e) (get_or-set_same l k (get_or l k 0 + a) 0 h)
    go false e = get_or-set_other l k i (get_or l k 0 + a) 0 (eqb-false i k e) ∙ omega arith

choose_times : (b : Bool) (k : ℕ) → choose b (k * 2 ^ 32) 0 ≡ choose b k 0 * 2 ^ 32
unfolding choose
choose_times true k = refl
choose_times false k = refl

-- of a room that holds a list
module _ (fs : List Found) (room : List ℕ) (count : ℕ) (h : Holds fs room count) (small : length room < 2 ^ 31) where
  entry : (k : ℕ) → k < length room → get_or room k 0 ≡ entry_of fs k
  entry k l = ap (λ (r : List ℕ). get_or r k 0) h.entries ∙ list_element (entry_of fs) (length room) k l

  pub lower : (k : ℕ) → k < length room → get_or room k 0 % 2 ^ 32 ≡ from_of fs k
  unfolding entry_of
  lower k l = let e = entry k l in let m = from_most fs (length room) k h.from_within in omega arith

  pub upper : (k : ℕ) → k < length room → get_or room k 0 / 2 ^ 32 ≡ pair_of fs k
  unfolding entry_of
  upper k l = let e = entry k l in let m = from_most fs (length room) k h.from_within in omega arith

  -- the pair that was found as the i-th, and its entry
  pub pair_at : (i : ℕ) → i < count → (get_or room i 0 / 2 ^ 32 ≡ (ith fs i).pair) × ((ith fs i).pair < length room)
  unfolding pair_of
  pair_at i l =
      let is = h.counted in
      let few = counts_most (length room) fs h.each_once in
      (upper i (omega arith), h.pair_within i (omega arith))

  -- whether a pair was found, by its entry
  module _ (k : ℕ) (l : k < length room) where
    pub found_by_entry : (get_or room k 0 % 2 ^ 32 ≡ 0 → ⊥) → is_found fs k ≡ true
    found_by_entry ne = go (is_found fs k) refl
      where
        go : (b : Bool) → is_found fs k ≡ b → b ≡ true
        go true e = refl
        go false e = absurd (ne (lower k l ∙ from_none fs k e))

    pub unfound_by_entry : get_or room k 0 % 2 ^ 32 ≡ 0 → is_found fs k ≡ false
    unfound_by_entry z = go (is_found fs k) refl
      where
        go : (b : Bool) → is_found fs k ≡ b → b ≡ false
        go true e = let positive = from_some fs k e in let same = lower k l in absurd (omega arith)
        go false e = refl

    -- and how one is added that was not, found from j
    module _ (j : ℕ) (from_there : j < length room) (unset : get_or room k 0 % 2 ^ 32 ≡ 0) where
      unfound : is_found fs k ≡ false
      unfound = unfound_by_entry unset

      abbrev more : List Found
      more = fs ++ (k found_from j ∷ [])

      pub free : count < length room
      free =
          let most = counts_most (length room) (fs ++ (k found_from j ∷ [])) (counts_more (length room) fs k j l unfound h.each_once) in
          let long = length-append fs (k found_from j ∷ []) in
          let is = h.counted in
          omega arith

      pub room_left_next : get_or (set room k (get_or room k 0 + (j + 1))) count 0 < 2 ^ 32
      unfolding entry_of
      room_left_next =
          let step = element_more room k (j + 1) count l in
          let e = entry count free in
          let is = h.counted in
          let none = pair_past fs count (omega arith) in
          let most = from_most fs (length room) count h.from_within in
          let less : choose (eqb count k) (j + 1) 0 ≤ j + 1 = by_test (λ (n : ℕ). n ≤ j + 1) (λ t. omega arith) (λ t. omega arith) in
          omega arith

      abbrev once : List ℕ
      once = set room k (get_or room k 0 + (j + 1))

      abbrev twice : List ℕ
      twice = set once count (get_or once count 0 + k * 2 ^ 32)

      same_length : length twice ≡ length room
      same_length = length-set once count (get_or once count 0 + k * 2 ^ 32) ∙ length-set room k (get_or room k 0 + (j + 1))

      new_entry : (i : ℕ) → i < length room → get_or twice i 0 ≡ entry_of more i
      unfolding entry_of
      new_entry i m =
          let long : length once ≡ length room = length-set room k (get_or room k 0 + (j + 1)) in
          let there = free in
          let second = element_more once count (k * 2 ^ 32) i (omega arith) in
          let first = element_more room k (j + 1) i l in
          let before = entry i m in
          let from = from_more fs k j i unfound in
          let order = pair_more fs (k found_from j) i in
          let at : choose (eqb i count) (k * 2 ^ 32) 0 ≡ choose (eqb i (length fs)) k 0 * 2 ^ 32 = rw h.counted (choose_times (eqb i (length fs)) k) in
          omega arith

      within_more : (f : Found → ℕ) → f (k found_from j) < length room → ((i : ℕ) → i < length fs → f (ith fs i) < length room) → (i : ℕ) → i < length more → f (ith more i) < length twice
      within_more f here before i m =
          let long = length-append fs (k found_from j ∷ []) in
          rw same_length
          (⊎_elim
          (λ (e : i ≡ length fs). rw (e, get_or-append_seam fs (k found_from j) [] (0 found_from 0)) here)
          (λ less. rw (get_or-append fs (k found_from j ∷ []) (0 found_from 0) i less) (before i less))
          (eq-or-lt_of_le {n = i} {m = length fs} (omega arith)))

      pub added : Holds more twice (count + 1)
      added =
          record {
            entries =
                ext_get_or 0 twice (list_of (entry_of more) (length twice)) (sym (list_length (entry_of more) (length twice)))
                (λ i m. new_entry i (rw same_length at m) ∙ sym (list_element (entry_of more) (length twice) i m));
            counted = let long = length-append fs (k found_from j ∷ []) in let is = h.counted in omega arith;
            pair_within = within_more (λ f. f.pair) l h.pair_within;
            from_within = within_more (λ f. f.from) from_there h.from_within;
            each_once = rw same_length (counts_more (length room) fs k j l unfound h.each_once);
          }

-- a room whose entries are 0 holds nothing
pub cleared : (n : ℕ) → replicate n 0 ≡ list_of (entry_of []) n
unfolding entry_of pair_of from_of
cleared n =
    ext_get_or 0 (replicate n 0) (list_of (entry_of []) n) (length-replicate {A = ℕ} n 0 ∙ sym (list_length (entry_of []) n))
    (λ i l. let here : i < n = rw (length-replicate {A = ℕ} n 0) at l in get_or-replicate n i 0 0 here ∙ sym (list_element (entry_of []) n i here))

-- it holds no pair, and with place 0 in main, from itself, it holds that
pub holds_none : (room : List ℕ) → room ≡ list_of (entry_of []) (length room) → Holds [] room 0
holds_none room e =
    record {
      entries = e;
      counted = refl;
      pair_within = λ i l. absurd (omega arith);
      from_within = λ i l. absurd (omega arith);
      each_once = counts_none (length room);
    }

pub holds_first : (room : List ℕ) → room ≡ list_of (entry_of []) (length room) → length room < 2 ^ 31 → 0 < length room → Holds (0 found_from 0 ∷ []) (set room 0 1) 1
unfolding entry_of pair_of from_of
holds_first room e small some =
    let zero : get_or room 0 0 ≡ 0 = ap (λ (r : List ℕ). get_or r 0 0) e ∙ list_element (entry_of []) (length room) 0 some in
    let unset : get_or room 0 0 % 2 ^ 32 ≡ 0 = rw zero in
    let held = added [] room 0 (holds_none room e) small 0 some 0 some unset in
    rw (zero, get_or-set_same room 0 1 0 some, set-set room 0 1 1) at held

-- a pair within the words has an entry
pub number_within : (q : Pair) (n : ℕ) → q.place < n → number_of q < 2 * n
unfolding number_of
number_within q n l = by_test (λ (s : ℕ). 2 * q.place + s < 2 * n) (λ e. omega arith) (λ e. omega arith)

-- which next pairs are found: not the end, nor one that was found before
module _ (n j : ℕ) (fs : List Found) (q : Pair) where
  pub find_end : q.place ≡ n → find n j fs q ≡ fs
  unfolding find
  find_end e = choose_true (rw (eq-eqb q.place n e)) fs (fs ++ (number_of q found_from j ∷ []))

  pub find_old : is_found fs (number_of q) ≡ true → find n j fs q ≡ fs
  unfolding find
  find_old e = choose_true (rw (e, or-true (eqb q.place n))) fs (fs ++ (number_of q found_from j ∷ []))

  pub find_new : (q.place ≡ n → ⊥) → is_found fs (number_of q) ≡ false → find n j fs q ≡ fs ++ (number_of q found_from j ∷ [])
  unfolding find
  find_new ne e = choose_false (rw (ne_eqb q.place n ne) e) fs (fs ++ (number_of q found_from j ∷ []))

-- next pairs, as they are handed over, are found one after another
pub each_append : (n j : ℕ) (fs : List Found) (qs rs : List Pair) → find_each n j fs (qs ++ rs) ≡ find_each n j (find_each n j fs qs) rs
unfolding find_each
each_append n j fs [] rs = refl
each_append n j fs (q ∷ qs) rs = each_append n j (find n j fs q) qs rs
