-- The promises, each proved under its name. Assumes nothing.
use Prim.Native.Nat.{ℕ, zero, suc, ◌+◌, ◌-◌, ◌*◌, ◌/◌, ◌%◌, ◌^◌, ◌≤◌, ◌<◌}
use mathlib.Core.Path.{◌≡◌, refl, sym, ap, ◌∙◌}
use mathlib.Core.Bool.{Bool, true, false, false≢true}
use mathlib.Core.List.{List, [], ◌∷◌, ◌++◌}
use mathlib.Core.Logic.{◌↔◌}
use mathlib.Core.Option.{Option, none, some}
use native.Mathlib.Omega.{arith}
use lib.ListN.{length, get_or, drop, length-append, length-drop, get_or-append}
use lib.Seq.{get_or-append-add, get_or-drop}
use borrow.Author.Tests.{eq-eqb, ne_eqb, ltb-false}
use Rattle.std.specs.declared.result.Result.{Result}
use Rattle.std.specs.declared.result.Result.TheVariants.{Ok, Err}
use Rattle.word.specs.First.{choose, first}
use Rattle.word.specs.Setting.{refused_or}
use Rattle.word.specs.declared.setting.Refusal.{Refusal}
use Rattle.word.proofs.First.{Agree, none_fails, one_outcome}
use Rattle.word.proofs.Tests.{less_plain}
use Rattle.word.proofs.Settings.{told_plain}
use Rattle.word.proofs.Bytes.{words_length}
use Rattle.rules.specs.Reason.{Submission, submission, size}
use Rattle.rules.specs.Next.{◌in_state◌}
use Rattle.rules.specs.Path.{Reached}
use Rattle.rules.specs.Search.{number_of, Found, ◌found_from◌, is_found, found}
use Rattle.rules.specs.Promises.{Numbers, nth}
use Rattle.rules.proofs.ExactMap.{counts_most, found_reached, reached_found}
use Rattle.rules.proofs.Finds.{number_plain, finds}
use Rattle.search.specs.Room.{from_of, pair_of, room_of, search_cases, search_of, room_after}
use Rattle.search.specs.Answers.{searched_refusal, searched_values}
use Rattle.search.specs.Promises.{search_plain, Refused, One, Told, Tells}
use Rattle.search.proofs.Rooms.{pair_past}
use Rattle.search.proofs.Found.{room_length, pair_there, found_held, entry_found, entry_unfound, entry_from, entry_pair}

search_agree : (bytes space : ℕ) → Agree (search_cases bytes space) (search_plain bytes space)
search_agree bytes space = (refl, less_plain (4 * 1048576) bytes, (refl, less_plain space (2 * (bytes / 4)), tt))

refusal_tells : (n : Refusal) → searched_refusal (Err n) ≡ some n.number
unfolding searched_refusal
refusal_tells n = refl

pairs_tell : (c : ℕ) → searched_refusal (Ok c) ≡ none
unfolding searched_refusal
pairs_tell c = refl

unwritten : (a : Result ℕ Refusal) (x : Submission) (room : List ℕ) (n : ℕ) → searched_refusal a ≡ some n → room_after a x room ≡ room
unfolding searched_refusal room_after
unwritten (Ok c) x room n e = let z : ◌≡◌ {A = ℕ} 0 1 = cc in absurd (omega arith)
unwritten (Err m) x room n e = refl

pub refused : Refused
unfolding search_of
refused =
    record {
      exactly = λ setting bytes list room a exit h. told_plain Err searched_refusal refusal_tells (search_cases (length bytes) (length room)) (search_plain (length bytes) (length room)) (Ok (length (found (submission setting bytes list)))) a (search_agree (length bytes) (length room)) (pairs_tell _) h.answer;
      unwritten = λ setting bytes list room a exit h n e. h.memory ∙ unwritten a (submission setting bytes list) room n e;
    }

pub one : One
one setting bytes list room a b x y h k =
    let same = one_outcome h.answer k.answer in
    (same, h.memory ∙ ap (λ (c : Result ℕ Refusal). room_after c (submission setting bytes list) room) same ∙ sym k.memory)

-- an answer that is no refusal has passed both tests
answered : (o : Option ℕ) (c count : ℕ) (a : Result ℕ Refusal) → a ≡ refused_or Err o (Ok c) → searched_values a ≡ count ∷ [] → (o ≡ none) × (count ≡ c) × (a ≡ Ok c)
unfolding refused_or searched_values
answered none c count a is e = (refl, (let v = rw is at e in cc), is)
answered (some n) c count a is e = let v = rw is at e in let z : ◌≡◌ {A = ℕ} 0 1 = cc in absurd (omega arith)

-- of pairs that are found each once, the entry of the i-th tells from where it was found
from_nth : (fs : List Found) → ((i j : ℕ) → i < j → j < length fs → (get_or fs i (0 found_from 0)).pair ≡ (get_or fs j (0 found_from 0)).pair → ⊥) → (i : ℕ) → i < length fs → from_of fs (get_or fs i (0 found_from 0)).pair ≡ (get_or fs i (0 found_from 0)).from + 1
unfolding from_of choose
from_nth [] once i l = absurd (omega arith)
from_nth (f ∷ fs) once zero l = rw (eq-eqb f.pair f.pair refl)
from_nth (f ∷ fs) once (suc i) l =
    rw (ne_eqb f.pair (get_or fs i (0 found_from 0)).pair (λ e. once 0 (suc i) (omega arith) l e))
    (from_nth fs (λ j k less m e. once (suc j) (suc k) (omega arith) (omega arith) e) i (omega arith))

module _ (x : Submission) (room : List ℕ) (few : size x ≤ 1048576) (enough : 2 * size x ≤ length room) where
  abbrev exit : List ℕ
  exit = room_of x ++ drop (2 * size x) room

  front : (k : ℕ) → k < 2 * size x → get_or exit k 0 ≡ get_or (room_of x) k 0
  front k l = let long = room_length x in get_or-append (room_of x) (drop (2 * size x) room) 0 k (omega arith)

  from_there : (k : ℕ) → k < 2 * size x → get_or exit k 0 % 2 ^ 32 ≡ from_of (found x) k
  from_there k l = rw (front k l) (entry_from x few k l)

  pair_there_is : (k : ℕ) → k < 2 * size x → get_or exit k 0 / 2 ^ 32 ≡ pair_of (found x) k
  pair_there_is k l = rw (front k l) (entry_pair x few k l)

  many : length (found x) ≤ 2 * size x
  many = let m = found_held x in let n = counts_most (length (room_of x)) (found x) m.each_once in let long = room_length x in omega arith

  number_there : (k p : ℕ) (s : Bool) → Numbers k p s → p < size x → (k < 2 * size x) × (k ≡ number_of (p in_state s))
  number_there k p false n l = (omega arith, (number_plain p false k).1 n)
  number_there k p true n l = (omega arith, (number_plain p true k).1 n)

  reached_there : (k p : ℕ) (s : Bool) → Numbers k p s → p < size x → (get_or exit k 0 % 2 ^ 32 ≡ 0 → ⊥) ↔ Reached x p s
  reached_there k p s n l =
      let at = number_there k p s n l in
      let same = front k at.0 in (
        λ ne. found_reached x p s (ap (is_found (found x)) (sym at.1) ∙ entry_found x few k at.0 (λ z. ne (same_rest same z))),
        λ r z. false≢true (sym (entry_unfound x few k at.0 (sym (ap (λ (v : ℕ). v % 2 ^ 32) same) ∙ z)) ∙ ap (is_found (found x)) at.1 ∙ reached_found x r),
      )
    where
      same_rest : {a b : ℕ} → a ≡ b → b % 2 ^ 32 ≡ 0 → a % 2 ^ 32 ≡ 0
      same_rest e z = ap (λ (v : ℕ). v % 2 ^ 32) e ∙ z

  told : Told x room exit (length (found x))
  unfolding pair_of
  told =
      record {
        counted = refl;
        order = λ i l. pair_there_is i (omega (arith, many));
        behind = λ i l m. pair_there_is i m ∙ pair_past (found x) i l;
        from = λ i l. from_there (nth x i).pair (pair_there x i l) ∙ from_nth (found x) (finds x).once i l;
        reached = reached_there;
        long = let a = length-append (room_of x) (drop (2 * size x) room) in let b = length-drop (2 * size x) room in let c = room_length x in omega arith;
        rest = λ k l. behind k l;
      }
    where
      behind : (k : ℕ) → 2 * size x ≤ k → get_or exit k 0 ≡ get_or room k 0
      behind k l =
          let long = room_length x in
          let here : length (room_of x) + (k - 2 * size x) ≡ k = omega arith in
          let there : 2 * size x + (k - 2 * size x) ≡ k = omega arith in
          ap (λ (n : ℕ). get_or exit n 0) (sym here)
          ∙ get_or-append-add (room_of x) (drop (2 * size x) room) (k - 2 * size x) 0
          ∙ get_or-drop (2 * size x) room (k - 2 * size x) 0
          ∙ ap (λ (n : ℕ). get_or room n 0) there

pub tells : Tells
unfolding search_of room_after
tells setting bytes list room a exit count h e =
    let x = submission setting bytes list in
    let w = answered (first (search_cases (length bytes) (length room))) (length (found x)) count a h.answer e in
    let fails = none_fails (search_cases (length bytes) (length room)) w.0 in
    let whole = words_length bytes in
    let few : size x ≤ 1048576 = omega (arith, ltb-false (4 * 1048576) (length bytes) fails.0) in
    let enough : 2 * size x ≤ length room = omega (arith, ltb-false (length room) (2 * (length bytes / 4)) fails.1.0) in
    let is : exit ≡ room_of x ++ drop (2 * size x) room = h.memory ∙ rw w.2 in
    rw (is, w.1) (told x room few enough)
