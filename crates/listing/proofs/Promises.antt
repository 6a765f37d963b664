-- The promises about the listing, each under the name of its statement. Assumes nothing.
use Prim.Native.Nat.{ℕ, ◌+◌, ◌≤◌, ◌<◌}
use mathlib.Core.Path.{◌≡◌, refl, sym, ap, subst, ◌∙◌}
use mathlib.Core.List.{List, [], ◌++◌, append-nil, append_assoc}
use mathlib.Core.Logic.{◌↔◌}
use mathlib.Core.Option.{Option, none, some}
use native.Mathlib.Nat.{add-zero}
use native.Mathlib.Omega.{arith}
use lib.ListN.{length, get_or, length-append, get_or-append}
use lib.Seq.{get_or-append-add}
use borrow.Author.Tests.{lt-ltb, le-ltb, le-leb, lt-leb, eq-eqb, ne_eqb, leb-true, eqb-true, eqb-false}
use Rattle.word.specs.First.{FirstIs}
use Rattle.word.specs.Setting.{setting_cases, size_cases, refused_or, check_of, SIZE}
use Rattle.word.specs.Reading.{parameter_count, read_of}
use Rattle.word.specs.Reading as reading
use Rattle.word.specs.Outcomes.{Reads}
use Rattle.word.specs.Promises.{setting_plain, size_plain, size}
use Rattle.word.specs.declared.setting.Refusal.{Refusal}
use Rattle.word.specs.declared.setting.Setting.{Setting}
use Rattle.std.specs.declared.result.Result.{Result}
use Rattle.std.specs.declared.result.Result.TheVariants.{Ok}
use Rattle.word.specs.declared.reading.Reading.{Reading}
use Rattle.word.specs.declared.reading.Reading.TheVariants as reads
use Rattle.word.proofs.Told.{no_why_of, why_back}
use Rattle.word.proofs.First.{by_test, choose_true, choose_false, one_outcome, append_none}
use Rattle.word.proofs.Settings.{accepted, told_first, told_plain, none_fine, passed_by, miss, no_more}
use Rattle.word.proofs.Plainly.{form_plain, size_is, setting_agree, none_plain, size_agree}
use Rattle.word.proofs.Promises.{passed as written_passed, is_command, read_back}
use Rattle.listing.specs.Listing.{span, ends_at, item_of, list_of}
use Rattle.listing.specs.Answers.{number, values, item_why, item_refusal}
use Rattle.listing.specs.Outcomes.{ListsAt, moved_to}
use Rattle.listing.specs.Promises.{Refused, One, New, IsCommand, Stays, Items, Next, Made, nothing, more, InTurn, over, on, GivesBack}
use Rattle.listing.specs.declared.command.End.{End}
use Rattle.listing.specs.declared.command.End.TheVariants as end
use Rattle.listing.specs.declared.command.Listed.{Listed}
use Rattle.listing.specs.declared.listing.Listing.{Listing}
use Rattle.listing.proofs.Items.{refusals, word, here}

-- a command's words are its own and its parameters
span_is : (r : Reading) → span r ≡ size r + parameter_count r
unfolding span
span_is r = ap (λ (n : ℕ). n + parameter_count r) (size_is r)

module _ (s : Setting) (ws : List ℕ) (p : ℕ) where
  -- where nothing is refused, nothing says that something is
  plain : item_refusal (here s ws p).item ≡ none
  unfolding item_of item_refusal
  plain = by_test Plain (λ t. refl) (λ t. by_test Plain (λ t. refl) (λ t. by_test Plain (λ t. refl) (λ t. refl)))
    where
      Plain : Listed → Type 0
      Plain x = item_refusal x.item ≡ none

  -- which refusal, for `list_at` and `next` alike
  refused_at : (a : Listed) → ListsAt s ws p a → (n : ℕ) → item_refusal a.item ≡ some n ↔ FirstIs (setting_plain s ++ size_plain ws) n
  unfolding list_of item_refusal
  refused_at a c n =
      told_plain (λ x. ends_at p (end.Refused x)) (λ (x : Listed). item_refusal x.item) (λ x. refl)
      (setting_cases s ++ size_cases (length ws)) (setting_plain s ++ size_plain ws) _ a
      (setting_agree s (size_cases (length ws)) (size_plain ws) (size_agree ws)) plain c n

  -- an item that is no refusal passed the refusals
  passed : (a : Listed) → ListsAt s ws p a → item_refusal a.item ≡ none → refusals s ws p ≡ none
  unfolding list_of item_refusal
  passed a c e = sym (told_first (λ x. ends_at p (end.Refused x)) (λ (x : Listed). item_refusal x.item) (λ x. refl) (setting_cases s ++ size_cases (length ws)) _ a plain c) ∙ e

  -- so that it is what is listed there
  accepts : (a : Listed) → ListsAt s ws p a → item_refusal a.item ≡ none → a ≡ here s ws p
  unfolding list_of
  accepts a c e = c ∙ accepted (λ x. ends_at p (end.Refused x)) _ (passed a c e)

  -- what is no command leaves the place as it was
  stays_at : 2 ≤ number (list_of s ws p).item → (list_of s ws p).place ≡ p
  unfolding item_of list_of refused_or number
  stays_at = by_cases (refusals s ws p)
    where
      Still : Listed → Type 0
      Still x = 2 ≤ number x.item → x.place ≡ p

      by_cases : (o : Option ℕ) → Still (refused_or (λ x. ends_at p (end.Refused x)) o (here s ws p))
      by_cases none = by_test Still (λ t h. refl) (λ t. by_test Still (λ t h. refl) (λ t. by_test Still (λ t h. refl) (λ t h. absurd (omega arith))))
      by_cases (some n) = λ h. refl

pub refused : Refused
refused =
    record {
      list_at = refused_at;
      next = λ s l a exit g n.
          let ws = l.words.now in
          subst (λ (x : Result Reading End). item_refusal x ≡ some n ↔ FirstIs (setting_plain s ++ size_plain ws) n) (sym g.item) (refused_at s ws l.place _ refl n);
    }

pub one : One
one =
    record {
      list_at = λ s ws p a b c d. one_outcome c d;
      new = λ words a b c d. one_outcome c d;
      next = λ s l a b x y c d. (one_outcome c.item d.item, one_outcome c.reader d.reader);
    }

pub new : New
new words l b = (ap (λ (x : Listing). x.words) b, ap (λ (x : Listing). x.place) b)

pub stays : Stays
stays s l a exit g h = g.reader ∙ ap (moved_to l) (stays_at s l.words.now l.place (subst (λ (x : Result Reading End). 2 ≤ number x) g.item h))

-- a word is not past the last
not_past : (r : Reading) (n p : ℕ) → number (item_of r n p).item ≡ 2 → ⊥
unfolding item_of number
not_past r n p = by_test Not (λ t d. omega arith) (λ t. by_test Not (λ t d. omega arith) (λ t d. omega arith))
  where
    Not : Listed → Type 0
    Not x = number x.item ≡ 2 → ⊥

-- an item that is no refusal: past the last word, and only there,
module _ (s : Setting) (ws : List ℕ) (p : ℕ) (a : Listed) (c : ListsAt s ws p a) (e : item_refusal a.item ≡ none) where
  at_end : number a.item ≡ 2 → length ws ≤ p
  unfolding number
  at_end d =
      by_test (λ (x : Listed). number x.item ≡ 2 → length ws ≤ p) (λ t k. leb-true _ _ t) (λ t k. absurd (not_past (word s ws p) (length ws) p k))
      (ap (λ (x : Listed). number x.item) (sym (accepts s ws p a c e)) ∙ d)

  past_end : length ws ≤ p → number a.item ≡ 2
  unfolding number
  past_end h = ap (λ (x : Listed). number x.item) (accepts s ws p a c e ∙ choose_true (le-leb _ _ h) _ _)

  -- and before it the item that the reading there is
  module _ (r : Reading) (h : p < length ws) (d : Reads s (get_or ws p 0) (get_or ws (p + 1) 0) r) where
    at_word : a ≡ item_of r (length ws) p
    unfolding read_of
    at_word =
        accepts s ws p a c e ∙ choose_false (lt-leb _ _ h) _ _
        ∙ ap (λ (x : Reading). item_of x (length ws) p)
        (sym (d ∙ accepted reads.Refused _ (append_none (setting_cases s) (size_cases (length ws)) (passed s ws p a c e)).0))

    reserved_only : number a.item ≡ 3 → reading.number r ≡ 9
    unfolding item_of number
    reserved_only k =
        by_test Only (λ t i. eqb-true _ _ t) (λ t. by_test Only (λ t i. absurd (omega arith)) (λ t i. absurd (omega arith)))
        (ap (λ (x : Listed). number x.item) (sym at_word) ∙ k)
      where
        Only : Listed → Type 0
        Only x = number x.item ≡ 3 → reading.number r ≡ 9

    reserved_there : reading.number r ≡ 9 → number a.item ≡ 3
    unfolding item_of number
    reserved_there k = ap (λ (x : Listed). number x.item) (at_word ∙ choose_true (eq-eqb _ _ k) _ _)

    item_why_lem : item_why a.item ≡ reading.why r
    unfolding item_of item_why
    item_why_lem =
        ap (λ (x : Listed). item_why x.item) at_word
        ∙ by_test Why (λ t. why_back r (eqb-true _ _ t)) (λ t. let none_there = sym (no_why_of r (eqb-false _ _ t)) in by_test Why (λ u. none_there) (λ u. none_there))
      where
        Why : Listed → Type 0
        Why x = item_why x.item ≡ reading.why r

    module _ (k : reading.number r ≤ 8) where
      other : reading.number r ≡ 9 → ⊥
      other q = omega arith

      commands : p + size r + parameter_count r ≤ length ws → IsCommand r a.item × (a.place ≡ p + size r + parameter_count r)
      unfolding item_of number values
      commands l =
          let all = span_is r in
          let whole : p + span r ≤ length ws = omega arith in
          let there : a ≡ record { item = Ok r; place = p + span r } = at_word ∙ choose_false (ne_eqb _ _ other) _ _ ∙ choose_false (le-ltb _ _ whole) _ _ in
          let after : p + span r ≡ p + size r + parameter_count r = omega arith in
          ((ap (λ (x : Listed). number x.item) there, ap (λ (x : Listed). values x.item) there), ap (λ (x : Listed). x.place) there ∙ after)

      runs_short : length ws < p + size r + parameter_count r → number a.item ≡ 4
      unfolding item_of number
      runs_short l =
          let all = span_is r in
          let short : length ws < p + span r = omega arith in
          ap (λ (x : Listed). number x.item) (at_word ∙ choose_false (ne_eqb _ _ other) _ _ ∙ choose_true (lt-ltb _ _ short) _ _)

pub items : Items
items =
    record {
      past = λ s ws p a c e. (at_end s ws p a c e, past_end s ws p a c e);
      reserved = λ s ws p a r c e h d. (reserved_only s ws p a c e r h d, reserved_there s ws p a c e r h d);
      why = λ s ws p a r c e h d. item_why_lem s ws p a c e r h d;
      short = λ s ws p a r c e h d. runs_short s ws p a c e r h d;
      command = λ s ws p a r c e h d. commands s ws p a c e r h d;
    }

pub next : Next
next s l a exit x g e =
    let same : a ≡ x.item = one_outcome g.item (ap (λ (y : Listed). y.item) e) in
    (ap number same, ap values same, ap item_why same, ap (λ (y : Listing). y.words) g.reader, ap (λ (y : Listing). y.place) g.reader ∙ ap (λ (y : Listed). y.place) (sym e))

-- a command has a word
a_word : (r : Reading) → 1 ≤ size r
a_word r = by_test (λ (n : ℕ). 1 ≤ n) (λ t. omega arith) (λ t. omega arith)

-- a word of a part of a list, by what stands before and after it
within : (front own after : List ℕ) (i : ℕ) → i < length own → get_or (front ++ (own ++ after)) (length front + i) 0 ≡ get_or own i 0
within front own after i h = get_or-append-add front (own ++ after) i 0 ∙ get_or-append own after 0 i h

module _ (s : Setting) (fine : check_of s ≡ Ok tt) (ws : List ℕ) (few : length ws ≤ 1048576) where
  -- nothing is refused, at no place
  unrefused : (p : ℕ) → item_refusal (list_of s ws p).item ≡ none
  unfolding list_of
  unrefused p =
      let refuse : Refusal → Listed = λ x. ends_at p (end.Refused x) in
      ap (λ (x : Listed). item_refusal x.item) (passed_by s (size_cases (length ws)) refuse _ fine ∙ miss SIZE [] refuse _ (le-ltb _ _ few) ∙ no_more refuse _)
      ∙ plain s ws p

  -- from where words made of commands begin, whatever stands before them
  from_here : (front : List ℕ) {rs : List Reading} {rest : List ℕ} → Made s rs rest → ws ≡ front ++ rest → InTurn s ws (length front) rs
  from_here front nothing e =
      let p = length front in
      let many : length ws ≡ p = ap length (e ∙ append-nil front) in
      over p (list_of s ws p) refl ((items.past s ws p _ refl (unrefused p)).1 (omega arith))
  from_here front (more r out own ps a rs later w n room count m) e =
      let p = length front in
      let echo = read_back s r out a own w n in
      let next = get_or ws (p + 1) 0 in
      let own_many : length own ≡ size r = echo.length_stays ∙ room in
      let both_many = length-append own ps in
      let front_many = length-append front (own ++ ps) in
      let again : ws ≡ front ++ (own ++ ps) ++ later = e ∙ sym (append_assoc front (own ++ ps) later) in
      let many : length ws ≡ p + length (own ++ ps) + length later = rw (again, length-append (front ++ (own ++ ps)) later, front_many) in
      let some_word = a_word r in
      let one_of_eight = is_command s r ((form_plain s r).0 (written_passed s r out a w.answer n).there) in
      let at : (i : ℕ) → i < length own → get_or ws (p + i) 0 ≡ get_or own i 0 = λ i h. ap (λ (l : List ℕ). get_or l (p + i) 0) (e ∙ ap (λ (l : List ℕ). front ++ l) (append_assoc own ps later)) ∙ within front own (ps ++ later) i h in
      let first_word : get_or ws p 0 ≡ get_or own 0 0 = ap (λ (k : ℕ). get_or ws k 0) (sym (add-zero p)) ∙ at 0 (omega arith) in
      let reads_back : r ≡ read_of s (get_or ws p 0) next = sym (ap (λ (v : ℕ). read_of s v next) first_word ∙ echo.same next (λ t. at 1 (omega arith)) _ refl) in
      let listed = items.command s ws p (list_of s ws p) r refl (unrefused p) (omega arith) reads_back (omega arith) (omega arith) in
      let place : length (front ++ (own ++ ps)) ≡ (list_of s ws p).place = omega arith in
      on p r rs (list_of s ws p) refl listed.0 (subst (λ (k : ℕ). InTurn s ws k rs) place (from_here (front ++ (own ++ ps)) m again))

pub gives_back : GivesBack
gives_back s rs ws fine few m = from_here s (none_fine s ((none_plain s).1 fine)) ws few [] m refl
