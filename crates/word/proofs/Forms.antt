-- A word reads as the rows of the plain table say. Assumes nothing.
use Prim.Native.Nat.{ℕ, ◌-◌, ◌≤◌, ◌<◌}
use mathlib.Core.Path.{◌≡◌, refl, sym, ap, subst, ◌∙◌}
use mathlib.Core.Bool.{true}
use mathlib.Core.List.{List, [], ◌∷◌}
use mathlib.Core.Logic.{◌↔◌}
use mathlib.Core.Option.{Option, none, some, none-ne-some}
use native.Mathlib.Omega.{arith}
use lib.Dec.{eqb}
use lib.ListN.{get_or}
use Rattle.word.specs.First.{choose, first, FirstIs, SomeHolds}
use Rattle.word.specs.Setting.{setting_cases, refused_or}
use Rattle.word.specs.Parts.{bits, Part, is, carries, address, spare, has_bits}
use Rattle.word.specs.Form.{Form, nowhere?, everything_else, forms as table, form_of, why_not, usable}
use Rattle.word.specs.Reading.{number, form, values, why, command_in, reading_of, read_of}
use Rattle.word.specs.Promises.{Available, setting_plain, why_plain}
use Rattle.word.specs.Forms.{Row, rows, Each, Stands, ReadsAs, Forms, OneForm}
use Rattle.word.specs.declared.setting.Setting.{Setting}
use Rattle.word.specs.declared.reading.Reading.{Reading}
use Rattle.word.specs.declared.reading.Reading.TheVariants.{Refused}
use Rattle.word.proofs.Alike.{Has, Same, AllSame, all_same}
use Rattle.word.proofs.First.{by_test}
use Rattle.word.proofs.Told.{no_why_of, why_back}
use Rattle.word.proofs.Tests.{and_plain, equal_plain}
use Rattle.word.proofs.Table.{In, here, there, the_form, by_form}
use Rattle.word.proofs.Usable.{no_why, why_number_lem}
use Rattle.word.proofs.RoundTrip.{read_by, form_of_command}
use Rattle.word.proofs.Plainly.{form_plain, why_plain_lem, first_plain, some_plain, none_plain}
use Rattle.word.proofs.Promises.{by_reading, is_command, read_plain, read_usable}

-- whether a word's bits are what the parts say, in plain terms
has_plain : (ps : List Part) (w : ℕ) → has_bits ps w ≡ true ↔ Has ps w
unfolding has_bits
has_plain [] w = (λ e. tt, λ h. refl)
has_plain (is hi lo v ∷ ps) w = and_plain (eqb (bits hi lo w) v) (has_bits ps w) (equal_plain (bits hi lo w) v) (has_plain ps w)
has_plain (carries hi lo ∷ ps) w = has_plain ps w
has_plain (address hi lo ∷ ps) w = has_plain ps w
has_plain (spare hi lo ∷ ps) w = has_plain ps w

-- W24: the why of a word's reading is what was found of its form
why_is : (s : Setting) (w n : ℕ) → why (reading_of s w n) ≡ why_not s (form_of w)
unfolding reading_of why
why_is s w n =
    by_test (λ r. why r ≡ why_not s (form_of w))
    (λ u. no_why_of command (λ e. omega (arith, is_command s command ((form_plain s command).0 (ap (usable s) (form_of_command w n) ∙ u)))) ∙ sym (no_why s (form_of w) u))
    (λ u. why_number_lem s (form_of w) u)
  where
    command : Reading
    command = command_in (form_of w) w n

-- at a setting that has been checked
module _ (s : Setting) (w n : ℕ) where
  module _ (f : Form) (i : In f table) (x : Row) (same : Same s w n f x) where
    -- a row stands exactly if its form has the word's bits and may be used
    stands : Stands x ↔ ((has_bits f.word w ≡ true) × (usable s f ≡ true))
    stands =
        let b = has_plain f.word w in
        let a : usable s f ≡ true ↔ Available s (command_in f w n) = subst (λ (g : Form). usable s g ≡ true ↔ Available s (command_in f w n)) (read_by w n i).same (form_plain s (command_in f w n)) in (
          λ h. (b.1 (same.bits_same.1 h.0), a.1 (same.available_same.1 h.1)),
          λ h. (same.bits_same.0 (b.0 h.0), same.available_same.0 (a.0 h.1)),
        )

    -- a word with the row's bits has its form
    form_of_lem : x.bits → form_of w ≡ f
    form_of_lem b = the_form f i w ((has_plain f.word w).1 (same.bits_same.1 b))

    -- and where the row stands the reading is that form's command
    reads : Stands x → reading_of s w n ≡ command_in f w n
    reads h = read_usable s w n f (form_of_lem h.0) (stands.0 h).1

    -- a command with the row's number has its form
    same_form : (g : Form) → In g table → number (command_in g w n) ≡ x.number → g ≡ f
    unfolding form
    same_form g j e =
        sym (read_by w n j).same
        ∙ ap (λ (k : ℕ). get_or table (k - 1) everything_else) (e ∙ sym same.number_same)
        ∙ (read_by w n i).same

    below_nine : x.number < 9
    below_nine = subst (λ (k : ℕ). k < 9) same.number_same (read_by w n i).command

    only : number (reading_of s w n) ≡ x.number → Stands x
    unfolding number
    only =
        by_reading (λ r. number r ≡ x.number → Stands x) s w n
        (λ g j e u k. stands.1 (subst (λ (h : Form). (has_bits h.word w ≡ true) × (usable s h ≡ true)) (same_form g j k) (e, u)))
        (λ y k. absurd (omega (arith, below_nine)))

    reads_as : ReadsAs (reading_of s w n) x
    reads_as =
        record {
          exactly = (only, λ h. ap number (reads h) ∙ same.number_same);
          holds = λ e. ap values (reads (only e)) ∙ same.numbers_same;
        }

    -- W20 to W24: of a word with the row's bits, the first why that applies to its form
    row_why : x.bits → (k : ℕ) → why (reading_of s w n) ≡ some k ↔ FirstIs (why_plain s x.number) k
    row_why b k = rw (why_is s w n, form_of_lem b, sym same.number_same) (rw (read_by w n i).same at (why_plain_lem s k (command_in f w n)))

    not_reserved : number (reading_of s w n) ≡ 9 → Stands x → ⊥
    not_reserved e h = omega (arith, below_nine, sym e ∙ reads_as.exactly.1 h)

  -- to show something of each row, show it of each that says what a form of the table says
  each_in : (P : Row → Type 0) (fs : List Form) (xs : List Row) → AllSame s w n fs xs → ((f : Form) → In f fs → (x : Row) → Same s w n f x → P x) → Each P xs
  each_in P [] [] a k = tt
  each_in P [] (x ∷ xs) a k = absurd a
  each_in P (f ∷ fs) [] a k = absurd a
  each_in P (f ∷ fs) (x ∷ xs) a k = (k f here x a.0, each_in P fs xs a.1 (λ g i. k g (there i)))

  by_row : (P : Row → Type 0) → ((f : Form) → In f table → (x : Row) → Same s w n f x → P x) → Each P (rows s w n)
  by_row P k = each_in P table (rows s w n) (all_same s w n) k

  -- the row that says what a form says
  row_of : {C : Type 0} (P : Row → Type 0) (f : Form) {fs : List Form} (xs : List Row) → In f fs → AllSame s w n fs xs → Each P xs → ((x : Row) → Same s w n f x → P x → C) → C
  row_of P f [] here a k c = absurd a
  row_of P f (x ∷ xs) here a k c = c x a.0 k.0
  row_of P f [] (there i) a k c = absurd a
  row_of P f (x ∷ xs) (there i) a k c = row_of P f xs i a.1 k.1 c

  -- W12
  else_reserved : Each (λ x. Stands x → ⊥) (rows s w n) → number (reading_of s w n) ≡ 9
  unfolding number
  else_reserved k =
      by_reading (λ r. number r ≡ 9) s w n
      (λ f i e u. absurd (row_of (λ x. Stands x → ⊥) f (rows s w n) i (all_same s w n) k (λ x same none. none ((stands f i x same).1 (e, u)))))
      (λ y. refl)

  -- W20
  formless_why : Each (λ x. x.bits → ⊥) (rows s w n) → why (reading_of s w n) ≡ some 1
  unfolding why_not first choose nowhere? everything_else
  formless_why k =
      why_is s w n
      ∙ by_form (λ f. why_not s f ≡ some 1) w
      (λ f i e. absurd (row_of (λ x. x.bits → ⊥) f (rows s w n) i (all_same s w n) k (λ x same none. none (same.bits_same.0 ((has_plain f.word w).0 e)))))
      refl

  no_values : number (reading_of s w n) ≡ 9 → values (reading_of s w n) ≡ []
  unfolding number values
  no_values =
      by_reading (λ r. number r ≡ 9 → values r ≡ []) s w n
      (λ f i e u k. absurd (omega (arith, (read_by w n i).command)))
      (λ y k. refl)

  -- no reading has the number of a refusal
  pub at_most_nine : number (reading_of s w n) ≤ 9
  unfolding number
  at_most_nine = by_reading (λ r. number r ≤ 9) s w n (λ f i e u. omega (arith, (read_by w n i).command)) (λ y. omega arith)

-- at a setting that is refused
module _ (s : Setting) (w n : ℕ) where
  refusing : number (read_of s w n) ≡ 10 ↔ SomeHolds (setting_plain s)
  unfolding read_of refused_or number
  refusing = go (first (setting_cases s)) refl
    where
      go : (o : Option ℕ) → first (setting_cases s) ≡ o → number (refused_or Refused o (reading_of s w n)) ≡ 10 ↔ SomeHolds (setting_plain s)
      go none e = (λ k. absurd (omega (arith, at_most_nine s w n)), λ h. absurd ((none_plain s).0 e h))
      go (some m) e = (λ k. some_plain s m e, λ h. refl)

  refusal : (m : ℕ) → FirstIs (setting_plain s) m → values (read_of s w n) ≡ m ∷ []
  unfolding read_of refused_or values
  refusal m h = rw ((first_plain s m).1 h)

  -- and at one that is not
  pub accepted : (r : Reading) → r ≡ read_of s w n → (SomeHolds (setting_plain s) → ⊥) → r ≡ reading_of s w n
  accepted r e k = e ∙ read_plain s w n ((none_plain s).1 k)

pub forms : Forms
forms =
    record {
      each = λ s w next r e k.
          subst (λ (x : Reading). Each (ReadsAs x) (rows s w next)) (sym (accepted s w next r e k)) (by_row s w next (ReadsAs (reading_of s w next)) (reads_as s w next));
      reserved = λ s w next r e k.
          rw (accepted s w next r e k) (
            (λ h. by_row s w next (λ x. Stands x → ⊥) (λ f i x same. not_reserved s w next f i x same h), else_reserved s w next),
            no_values s w next,
          );
      whys = λ s w next r e k.
          subst (λ (y : Reading). Each (λ x. x.bits → (n : ℕ) → why y ≡ some n ↔ FirstIs (why_plain s x.number) n) (rows s w next)) (sym (accepted s w next r e k))
          (by_row s w next (λ x. x.bits → (n : ℕ) → why (reading_of s w next) ≡ some n ↔ FirstIs (why_plain s x.number) n) (row_why s w next));
      formless = λ s w next r e k none. ap why (accepted s w next r e k) ∙ formless_why s w next none;
      unreserved = λ s w next r e. (λ none_there nine. none-ne-some _ (sym none_there ∙ sym (why_back r nine)), no_why_of r);
      refused = λ s w next r e. rw e (refusing s w next, refusal s w next);
    }

-- two rows that have the word's bits are rows of one form
pub one_form : OneForm
one_form s w n =
    by_row s w n (λ x. x.bits → Each (λ y. y.bits → x.number ≡ y.number) (rows s w n))
    (λ f i x same b.
    by_row s w n (λ y. y.bits → x.number ≡ y.number)
    (λ g j y alike c.
    let one : f ≡ g = sym (form_of_lem s w n f i x same b) ∙ form_of_lem s w n g j y alike c in
    sym same.number_same ∙ ap (λ (h : Form). number (command_in h w n)) one ∙ alike.number_same))
