-- The promises, each proved under its name; what `Listed` rests on stands in the file of its name. Assumes nothing.
use Prim.Native.Nat.{ℕ, zero, suc, ◌*◌, ◌/◌, ◌^◌, ◌≤◌, ◌<◌}
use mathlib.Core.Path.{◌≡◌, refl, sym, ap, ◌∙◌}
use mathlib.Core.Bool.{Bool, true, false}
use mathlib.Core.List.{List, [], ◌∷◌}
use mathlib.Core.Logic.{◌⊎◌, inl, inr}
use mathlib.Core.Option.{none, some}
use native.Mathlib.Omega.{arith}
use lib.Dec.{ltb}
use lib.ListN.{length, get_or, get_or-eq_default}
use borrow.Author.Tests.{eq-eqb, ltb-true, ltb-false}
use Rattle.std.specs.declared.result.Result.{Result}
use Rattle.std.specs.declared.result.Result.TheVariants.{Ok, Err}
use Rattle.word.specs.First.{Case, PlainCase, ◌when◌, ◌if◌, FirstIs}
use Rattle.word.specs.Setting.{ROOM, refused_or}
use Rattle.word.specs.declared.setting.Refusal.{Refusal}
use Rattle.word.proofs.First.{choose_true, Agree, append_none, none_fails, one_outcome}
use Rattle.word.proofs.Tests.{or_plain, less_plain}
use Rattle.word.proofs.Settings.{told_first, told_plain}
use Rattle.word.proofs.Bytes.{words_length}
use Rattle.rules.specs.Reason.{Submission, size}
use Rattle.rules.specs.Judging.{judge_cases}
use Rattle.rules.specs.Path.{Exact, Reached}
use Rattle.rules.specs.Search.{list_of, exact_map}
use Rattle.rules.specs.Promises.{judge_plain, Sized}
use Rattle.rules.specs.Reasons.{Marks}
use Rattle.rules.proofs.Table.{judge_agree, Fits, fits, passed}
use Rattle.rules.proofs.Parts.{mark_within}
use Rattle.rules.proofs.Clean.{clean}
use Rattle.rules.proofs.Complete.{reached_marked}
use Rattle.rules.proofs.Reasons.{agree_append, marked_plain}
use Rattle.rules.proofs.ExactMap.{list_length, list_element, exact_map_lem}
use Rattle.rules.proofs.Promises.{complete, none_bad}
use Rattle.repair.specs.Changes.{changes_below, changes, at_front}
use Rattle.repair.specs.Repairing.{room_refused, repair_cases, repair_of, map_after, list_after, work_after}
use Rattle.repair.specs.Answers.{repaired_refusal, repaired_values}
use Rattle.repair.specs.Outcomes.{RepairLoan, to_repair, submitted, Repairs}
use Rattle.repair.specs.Promises.{repair_plain, Refused, One, Lends, Mended, Accepted, Again, NoneLost, Listed, Cleared}
use Rattle.repair.proofs.Rewriting.{below_most, front_length, front_first, front_rest}
use Rattle.repair.proofs.Outcomes.{rooms_fit}
use Rattle.repair.proofs.Listed.{says}

refusal_tells : (n : Refusal) → repaired_refusal (Err n) ≡ some n.number
unfolding repaired_refusal
refusal_tells n = refl

changes_tell : (c : ℕ) → repaired_refusal (Ok c) ≡ none
unfolding repaired_refusal
changes_tell c = refl

pub lends : Lends
lends bytes map permit list work = (refl, refl, refl, refl, refl)

module _ (level : ℕ) (sli : Bool) (l : RepairLoan) where
  abbrev given : Submission
  given = submitted level sli l

  abbrev cases : List Case
  cases = repair_cases level sli l.bytes l.map l.permit (length l.list) (length l.work)

  abbrev done : Result ℕ Refusal
  done = Ok (length (changes l.map (exact_map given)))

  abbrev rooms : List Case
  rooms = ROOM when room_refused (length l.bytes) (length l.list) (length l.work) ∷ []

  abbrev rooms_plain : List PlainCase
  rooms_plain = 11 if ((length l.list < length l.bytes / 4) ⊎ (length l.work < 2 * (length l.bytes / 4))) ∷ []

  rooms_agree : Agree rooms rooms_plain
  rooms_agree = (refl, or_plain _ _ (less_plain (length l.list) (length l.bytes / 4)) (less_plain (length l.work) (2 * (length l.bytes / 4))), tt)

  repair_agree : Agree cases (repair_plain level sli l)
  repair_agree =
      agree_append (judge_cases 8192 level sli l.bytes l.map l.permit) rooms (judge_plain 8192 level sli l.bytes l.map l.permit) rooms_plain
      (judge_agree 8192 level sli l.bytes l.map l.permit)
      rooms_agree

  -- an answer is a refusal, which leaves everything, or it is what is done
  refused_leaves :
      (a : Result ℕ Refusal) (map list work : List ℕ)
      → Repairs level sli l a map list work
      → (n : ℕ)
      → repaired_refusal a ≡ some n
      → (map ≡ l.map) × (list ≡ l.list) × (work ≡ l.work)
  unfolding repaired_refusal map_after list_after work_after
  refused_leaves (Ok c) map list work h n e = let z : ◌≡◌ {A = ℕ} 0 1 = cc in absurd (omega arith)
  refused_leaves (Err m) map list work h n e = (h.map_after, h.list_after, h.work_after)

  pub record Did (a : Result ℕ Refusal) (map list work : List ℕ) : Type 0 where
    pub values : repaired_values a ≡ length (changes l.map (exact_map given)) ∷ []
    pub marks : map ≡ exact_map given
    pub listed : list ≡ at_front (changes l.map (exact_map given)) l.list
    pub cleared : work ≡ at_front (list_of (λ k. 0) (2 * size given)) l.work
    pub fit : Fits 8192 level sli l.bytes l.map l.permit
    pub spacious : (length l.bytes / 4 ≤ length l.list) × (2 * (length l.bytes / 4) ≤ length l.work)

  did : (a : Result ℕ Refusal) (map list work : List ℕ) → Repairs level sli l a map list work → repaired_refusal a ≡ none → Did a map list work
  unfolding repair_of refused_or repaired_values map_after list_after work_after
  did a map list work h e =
      let None-first = sym (told_first Err repaired_refusal refusal_tells cases done a (changes_tell _) h.answer) ∙ e in
      let two = append_none (judge_cases 8192 level sli l.bytes l.map l.permit) rooms None-first in
      let is : a ≡ done = h.answer ∙ rw None-first in
      record {
        values = rw is;
        marks = h.map_after ∙ rw is;
        listed = h.list_after ∙ rw is;
        cleared = h.work_after ∙ rw is;
        fit = fits 8192 level sli l.bytes l.map l.permit two.0;
        spacious = rooms_fit (length l.bytes) (length l.list) (length l.work) (none_fails rooms two.1).0;
      }

-- where there are values nothing is refused
valued : (a : Result ℕ Refusal) (c : ℕ) → repaired_values a ≡ c ∷ [] → repaired_refusal a ≡ none
unfolding repaired_values repaired_refusal
valued (Ok d) c e = refl
valued (Err n) c e = let z : ◌≡◌ {A = ℕ} 0 1 = cc in absurd (omega arith)

pub refused : Refused
unfolding repair_of
refused =
    record {
      exactly = λ level sli l a map list work h. told_plain Err repaired_refusal refusal_tells (cases level sli l) (repair_plain level sli l) (done level sli l) a (repair_agree level sli l) (changes_tell _) h.answer;
      unwritten = λ level sli l a map list work. refused_leaves level sli l a map list work;
    }

pub one : One
one level sli l a b map map' list list' work work' h k =
    let x = submitted level sli l in
    let same = one_outcome h.answer k.answer in (
      same,
      h.map_after ∙ ap (λ (r : Result ℕ Refusal). map_after r x l.map) same ∙ sym k.map_after,
      h.list_after ∙ ap (λ (r : Result ℕ Refusal). list_after r x l.map l.list) same ∙ sym k.list_after,
      h.work_after ∙ ap (λ (r : Result ℕ Refusal). work_after r x l.work) same ∙ sym k.work_after,
    )

pub mended : Mended
mended level sli l a map list work h e = rw (did level sli l a map list work h e).marks (exact_map_lem (submitted level sli l))

pub accepted : Accepted
accepted level sli l a map list work r bytes h e j =
    let f = (did level sli l a map list work h e).fit in
    let whole = words_length l.bytes in
    let few : length l.bytes ≤ 4 * 1048576 = omega (arith, f.words, f.whole) in
    let sized : Sized level sli l.bytes l.permit = record { level_fits = f.level_fits; sli_fits = f.sli_fits; words = few; whole = f.whole; permit = f.permit } in (
      none_bad level sli l.bytes map l.permit r j,
      λ fair. (complete level sli l.bytes map l.permit r bytes j sized fair (mended level sli l a map list work h e)).0,
    )

-- nothing changes from a map to itself
none_changed : (map : List ℕ) (n : ℕ) → changes_below map map n ≡ []
unfolding changes_below
none_changed map zero = refl
none_changed map (suc n) = choose_true (eq-eqb (get_or map n 0) (get_or map n 0) refl) (changes_below map map n) _ ∙ none_changed map n

pub again : Again
unfolding changes at_front
again level sli l a b map list work map' list' work' list_room work_room h e k f =
    let first = (did level sli l a map list work h e).marks in
    let second = did level sli (to_repair l.bytes map l.permit list_room work_room) b map' list' work' k f in
    let none = ap (λ (m : List ℕ). changes map m) (sym first) ∙ none_changed map (length map) in
    (second.marks ∙ sym first, second.values ∙ rw none, second.listed ∙ rw none)

-- an exact map marks only what is reached
module _ (x : Submission) (map : List ℕ) (exact : Exact x map) where
  within : (p : ℕ) (s : Bool) → Marks map p s → p < size x
  within p s m = let here = mark_within map p s ((marked_plain x map p s).1 m) in omega (arith, exact.bytes)

  marks_reached : (p : ℕ) (s : Bool) → Marks map p s → Reached x p s
  marks_reached p false m = (exact.in_main p (within p false m)).0 m
  marks_reached p true m = let n = exact.narrow p (within p true m) in (exact.in_subroutine p (within p true m)).0 (omega arith)

pub none_lost : NoneLost
none_lost level sli l a map list work r h e j ok p s m =
    let x = submitted level sli l in
    let reached = marks_reached x map (mended level sli l a map list work h e) p s m in
    let table = passed _ level sli l.bytes l.map l.permit r j ok in
    (marked_plain x l.map p s).0 (reached_marked x l.map (clean x l.map table.0.bytes_map table.1) reached).1

-- and its bytes are narrow
narrow_byte : (x : Submission) (map : List ℕ) → Exact x map → (p : ℕ) → get_or map p 0 < 2 ^ 8
narrow_byte x map exact p = go (ltb p (size x)) refl
  where
    go : (t : Bool) → ltb p (size x) ≡ t → get_or map p 0 < 2 ^ 8
    go true e = let n = exact.narrow p (ltb-true _ _ e) in omega arith
    go false e = let z = get_or-eq_default map 0 {n = p} (rw exact.bytes (ltb-false p (size x) e)) in omega arith

pub listed : Listed
listed level sli l a map list work count bytes h e =
    let quiet = valued a count e in
    let d = did level sli l a map list work h quiet in
    let whole = words_length l.bytes in
    let few : length l.map < 2 ^ 32 = omega (arith, d.fit.bytes_map, d.fit.words) in
    let enough : length l.map ≤ length l.list = omega (arith, d.fit.bytes_map, d.spacious.0) in
    let counted : count ≡ length (changes l.map (exact_map (submitted level sli l))) = let v = sym e ∙ d.values in cc in
    let new = d.marks in
    rw (counted, d.listed, sym new) (says l.map map few bytes (narrow_byte (submitted level sli l) map (mended level sli l a map list work h quiet)) l.list enough)

pub cleared : Cleared
cleared level sli l a map list work h e =
    let d = did level sli l a map list work h e in
    let m = 2 * size (submitted level sli l) in
    let whole = words_length l.bytes in
    let zeros = list_length (λ k. 0) m in
    let enough : length (list_of (λ k. 0) m) ≤ length l.work = omega (arith, d.spacious.1) in
    rw d.cleared
    (record {
      long = front_length (list_of (λ k. 0) m) l.work enough;
      zero = λ k less. front_first (list_of (λ k. 0) m) l.work k (omega arith) ∙ list_element (λ k. 0) m k less;
      rest = λ k more. front_rest (list_of (λ k. 0) m) l.work k (omega arith);
    })

-- how large the numbers of an answer are
pub few_changes : (level : ℕ) (sli : Bool) (l : RepairLoan) (a : Result ℕ Refusal) (map list work : List ℕ) → Repairs level sli l a map list work → (c : ℕ) → repaired_values a ≡ c ∷ [] → c ≤ 8192
unfolding changes
few_changes level sli l a map list work h c e =
    let d = did level sli l a map list work h (valued a c e) in
    let counted : c ≡ length (changes l.map (exact_map (submitted level sli l))) = let v = sym e ∙ d.values in cc in
    let most = below_most l.map (exact_map (submitted level sli l)) (length l.map) in
    omega (arith, d.fit.bytes_map, d.fit.words)

abbrev AllSmall : List PlainCase → Type 0
AllSmall [] = Unit {0}
AllSmall (p ∷ ps) = (p.number < 2 ^ 8) × AllSmall ps

first_small : (ps : List PlainCase) (n : ℕ) → AllSmall ps → FirstIs ps n → n < 2 ^ 8
first_small [] n s f = absurd f
first_small (p ∷ ps) n s (inl f) = omega (arith, s.0, f.1)
first_small (p ∷ ps) n s (inr f) = first_small ps n s.1 f.1

pub small_refusal : (level : ℕ) (sli : Bool) (l : RepairLoan) (a : Result ℕ Refusal) (map list work : List ℕ) → Repairs level sli l a map list work → (k : ℕ) → repaired_refusal a ≡ some k → k < 2 ^ 8
small_refusal level sli l a map list work h k e =
    first_small (repair_plain level sli l) k (omega arith, (omega arith, (omega arith, (omega arith, (omega arith, tt))))) ((refused.exactly level sli l a map list work h k).0 e)
