-- The promises about words, each under the name of its statement. Assumes nothing.
use Prim.Native.Nat.{ℕ, suc, ◌^◌, ◌≤◌, ◌<◌}
use mathlib.Core.Path.{◌≡◌, refl, sym, ap, subst, ◌∙◌}
use mathlib.Core.Bool.{Bool, true, false, not, false≢true}
use mathlib.Core.List.{List, [], ◌∷◌, ◌++◌}
use mathlib.Core.Logic.{◌↔◌}
use mathlib.Core.Option.{Option, none, some, none-ne-some}
use native.Mathlib.Nat.{zero-add, div-one}
use native.Mathlib.Omega.{arith}
use lib.Dec.{ltb}
use lib.ListN.{length, get_or, drop}
use lib.Seq.{sets, sets-eq, length-sets, drop_at}
use borrow.Author.Tests.{lt-ltb, le-ltb, eq-eqb, not-false, ltb-false, eqb-true}
use Rattle.word.specs.Lowest.{found?}
use Rattle.word.specs.First.{choose, Case, ◌when◌, first, FirstIs}
use Rattle.word.specs.Setting.{LEVEL, MODE, SLI, FIELD, FORM, ROOM, level_refused, mode_refused, sli_refused, refused_or, check_of, setting_cases, size_cases}
use Rattle.word.specs.Parts.{Part, has_bits, numbers_in, numbers_fit, word_with}
use Rattle.word.specs.Why.{why_of}
use Rattle.word.specs.Form.{Form, nowhere?, in_mode, why_not, usable, increasing, non_increasing, sli_conditional, returning, long, old_jump, jump, call, everything_else, forms, form_in, form_of}
use Rattle.word.specs.Reading.{number, form, values, why, command_in, reading_of, read_of, read_at_of}
use Rattle.word.specs.Writing.{next_word, own_words, write_cases, refusing, write_of, out_after}
use Rattle.word.specs.Answers.{check_refusal, reading_refusal, place_refusal, written_refusal, place_values, place_why, written_values, written_why}
use Rattle.word.specs.Outcomes.{Writes}
use Rattle.word.specs.Numbers.{Numbers}
use Rattle.word.specs.Promises.{setting_plain, why_plain, size_plain, write_plain, Within, Available, size, same_words, Refused, One, SaysWhy, AtPlace, ReadBack, WriteBack, Widths, Specials, LittleEndian}
use Rattle.word.specs.declared.setting.Refusal.{Refusal}
use Rattle.word.specs.declared.setting.Setting.{Setting}
use Rattle.std.specs.declared.option.Option as Option
use Rattle.std.specs.declared.option.Option.TheVariants.{None}
use Rattle.std.specs.declared.result.Result.{Result}
use Rattle.std.specs.declared.result.Result.TheVariants.{Ok, Err}
use Rattle.word.specs.declared.why.Why.{Why}
use Rattle.word.specs.declared.why.Why.TheVariants as why
use Rattle.word.specs.declared.reading.Reading.{Reading}
use Rattle.word.specs.declared.reading.Reading.TheVariants.{Increasing, NonIncreasing, Sli, Return, Long, OldJump, Jump, Call, Reserved, Refused as Refusing}
use Rattle.word.specs.declared.writing.Unwritten.{Unwritten}
use Rattle.word.proofs.First.{one_outcome, by_test, choose_true, choose_false, first_none, append_none}
use Rattle.word.proofs.Settings.{accepted, told_first, told_plain, none_fine}
use Rattle.word.proofs.Usable.{why_number_lem}
use Rattle.word.proofs.Table.{In, by_form}
use Rattle.word.proofs.RoundTrip.{read_by, left, next_is, form_back, command_back, numbers_fit_lem, words_back}
use Rattle.word.proofs.Plainly.{field_plain, form_plain, why_plain_lem, size_is, setting_agree, size_agree, write_agree}
use Rattle.word.proofs.Writer.{Past, by_words}
use Rattle.word.proofs.Masks.{same_bits}
use Rattle.word.proofs.Methods.{specials_plain}
use Rattle.word.proofs.Bytes.{words_length, word_is, word_past}

-- a command is no refusal
not_refused : (r : Reading) → number r < 9 → reading_refusal r ≡ none
unfolding number reading_refusal
not_refused (Increasing c s m) h = refl
not_refused (NonIncreasing c s m) h = refl
not_refused (Sli k) h = refl
not_refused Return h = refl
not_refused (Long s m c) h = refl
not_refused (OldJump t) h = refl
not_refused (Jump t) h = refl
not_refused (Call t) h = refl
not_refused (Reserved y) h = refl
not_refused (Refusing r) h = absurd (omega arith)

-- to show something of a reading, show it of each command that a form of the table reads where it may be used, and of 'reserved', whatever the why
pub by_reading : (P : Reading → Type 0) (s : Setting) (w n : ℕ)
    → ((f : Form) → In f forms → has_bits f.word w ≡ true → usable s f ≡ true → P (command_in f w n))
    → ((y : Why) → P (Reserved y))
    → P (reading_of s w n)
unfolding reading_of command_in everything_else
by_reading P s w n k reserved = by_test P (λ t. by_form (λ f. usable s f ≡ true → P (command_in f w n)) w k (λ u. reserved why.Form) t) (λ t. reserved _)

plain : (s : Setting) (w n : ℕ) → reading_refusal (reading_of s w n) ≡ none
unfolding reading_refusal
plain s w n = by_reading (λ r. reading_refusal r ≡ none) s w n (λ f i e u. not_refused (command_in f w n) (read_by w n i).command) (λ y. refl)

-- R31
untouched : (a : Result ℕ Unwritten) (r : Reading) (out exit : List ℕ) (n : ℕ) → exit ≡ out_after a r out → written_refusal a ≡ some n → exit ≡ out
unfolding out_after written_refusal
untouched (Ok k) r out exit n e h = let z : ◌≡◌ {A = ℕ} 0 1 = cc in absurd (omega arith)
untouched (Err y) r out exit n e h = e

-- a refusal of the writer's tells its number, FORM's too
tells_refusal : (s : Setting) (r : Reading) (x : Refusal) → written_refusal (refusing s r x) ≡ some x.number
unfolding refusing written_refusal
tells_refusal s r x = by_test (λ a. written_refusal a ≡ some x.number) (λ t. ap some (sym (eqb-true _ _ t))) (λ t. refl)

pub refused : Refused
unfolding check_of read_of read_at_of write_of check_refusal reading_refusal place_refusal written_refusal
refused =
    record {
      check = λ s a c n. told_plain Err check_refusal (λ x. refl) (setting_cases s) (setting_plain s) (Ok tt) a (setting_agree s [] [] tt) refl c n;
      read = λ s w next a c n. told_plain Refusing reading_refusal (λ x. refl) (setting_cases s) (setting_plain s) (reading_of s w next) a (setting_agree s [] [] tt) (plain s w next) c n;
      read_at = λ s ws p a c n. told_plain Err place_refusal (λ x. refl) (setting_cases s ++ size_cases (length ws)) (setting_plain s ++ size_plain ws) _ a
          (setting_agree s (size_cases (length ws)) (size_plain ws) (size_agree ws)) refl c n;
      write = λ s r out a exit c n. told_plain (refusing s r) written_refusal (tells_refusal s r) (setting_cases s ++ write_cases s r (length out)) (setting_plain s ++ write_plain s r out) _ a
          (setting_agree s (write_cases s r (length out)) (write_plain s r out) (write_agree s r out)) refl c.answer n;
      unwritten = λ s r out a exit c n e. untouched a r out exit n c.memory e;
    }

-- FORM is given of a command that may not be used
form_given : (s : Setting) (r : Reading) (space n : ℕ) → n ≡ FORM → first (setting_cases s ++ write_cases s r space) ≡ some n → usable s (form r) ≡ false
unfolding first choose
form_given s r space n f =
    go (level_refused l) (mode_refused l s.mode.number) (sli_refused l s.sli) (numbers_fit ((form r).word ++ (form r).next) (values r)) (usable s (form r)) (ltb space (length (own_words r)))
  where
    l : ℕ
    l = s.level.number

    other : {m : ℕ} {A : Type 0} → (m ≡ FORM → ⊥) → some m ≡ some n → A
    other {m} h e = let z : m ≡ n = cc in absurd (h (z ∙ f))

    go : (a b c d u v : Bool)
        → first (LEVEL when a ∷ MODE when b ∷ SLI when c ∷ FIELD when not d ∷ FORM when not u ∷ ROOM when v ∷ []) ≡ some n → u ≡ false
    go true b c d u v e = other (λ h. omega arith) e
    go false true c d u v e = other (λ h. omega arith) e
    go false false true d u v e = other (λ h. omega arith) e
    go false false false false u v e = other (λ h. omega arith) e
    go false false false true false v e = refl
    go false false false true true true e = other (λ h. omega arith) e
    go false false false true true false e = absurd (none-ne-some n e)

-- X6
pub says_why : SaysWhy
unfolding write_of refused_or refusing written_why written_refusal
says_why s r out a exit c n = subst Says (sym c.answer) (go (first cases) refl)
  where
    cases : List Case
    cases = setting_cases s ++ write_cases s r (length out)

    Says : Result ℕ Unwritten → Type 0
    Says x = written_why x ≡ some n ↔ ((written_refusal x ≡ some 12) × FirstIs (why_plain s (number r)) n)

    go : (o : Option ℕ) → first cases ≡ o → Says (refused_or (refusing s r) o (Ok (length (own_words r))))
    go none e = (λ h. absurd (none-ne-some n h), λ h. absurd (none-ne-some 12 h.0))
    go (some m) e =
        by_test Says
        (λ t.
        let p = why_plain_lem s n r in
        rw (why_number_lem s (form r) (form_given s r (length out) m (eqb-true m FORM t) e)) (λ h. (refl, p.0 h), λ h. p.1 h.1))
        (λ t. (λ h. absurd (none-ne-some n h), λ h. let z : m ≡ 12 = cc in absurd (false≢true (sym t ∙ eq-eqb m FORM z))))

pub one : One
one =
    record {
      check = λ s a b p q. one_outcome p q;
      number = λ y a b p q. one_outcome p q;
      read = λ s w next a b p q. one_outcome p q;
      read_at = λ s ws i a b p q. one_outcome p q;
      write = λ s r out a b x y p q.
          let e = one_outcome p.answer q.answer in
          (e, one_outcome (p.memory ∙ ap (λ (z : Result ℕ Unwritten). out_after z r out) e) q.memory);
      present = λ level m a b p q. one_outcome p q;
      special_mask = λ level a b p q. same_bits 64 a b p.wide q.wide (λ n l. one_outcome (p.bit n l) (q.bit n l));
      word_at = λ bytes i a b p q. one_outcome p q;
    }

pub numbers : Numbers
unfolding why_of read_of refused_or first choose found? reading_of command_in form_in forms has_bits numbers_in usable why_not nowhere? in_mode increasing non_increasing sli_conditional returning long old_jump jump call everything_else
numbers next = rw (div-one next)

-- a refusal has no number to be held within a width
kept : (o : Option ℕ) (r : Reading) → Within r → Within (refused_or Refusing o r)
unfolding refused_or
kept none r h = h
kept (some n) r h = tt

pub widths : Widths
unfolding read_of
widths s w next r e =
    subst Within (sym e)
    (kept (first (setting_cases s)) (reading_of s w next)
    (by_reading Within s w next (λ f i t u. (field_plain (command_in f w next)).0 (numbers_fit_lem f i w next)) (λ y. tt)))

-- what an accepted command has passed
pub record Passed (s : Setting) (r : Reading) (out : List ℕ) (a : Result ℕ Unwritten) : Type 0 where
  pub setting : first (setting_cases s) ≡ none
  pub fields : numbers_fit ((form r).word ++ (form r).next) (values r) ≡ true
  pub there : usable s (form r) ≡ true
  pub room : length (own_words r) ≤ length out
  pub words : a ≡ Ok (length (own_words r))

pub passed : (s : Setting) (r : Reading) (out : List ℕ) (a : Result ℕ Unwritten) → a ≡ write_of s r (length out) → written_refusal a ≡ none → Passed s r out a
unfolding write_of written_refusal
passed s r out a e h =
    let cases = setting_cases s ++ write_cases s r (length out) in
    let all : first cases ≡ none = sym (told_first (refusing s r) written_refusal (tells_refusal s r) cases _ a refl e) ∙ h in
    let two = append_none (setting_cases s) (write_cases s r (length out)) all in
    let field = first_none _ _ two.1 in
    let available = first_none _ _ field.1 in
    let room = first_none _ _ available.1 in
    record {
      setting = two.0;
      fields = not-false _ field.0;
      there = not-false _ available.0;
      room = ltb-false _ _ room.0;
      words = e ∙ accepted (refusing s r) _ all;
    }

-- a command that may be used somewhere is one of the eight
pub is_command : (s : Setting) (r : Reading) → Available s r → number r < 9
unfolding number
is_command s (Increasing c b m) h = omega arith
is_command s (NonIncreasing c b m) h = omega arith
is_command s (Sli k) h = omega arith
is_command s Return h = omega arith
is_command s (Long b m c) h = omega arith
is_command s (OldJump t) h = omega arith
is_command s (Jump t) h = omega arith
is_command s (Call t) h = omega arith
is_command s (Reserved y) h = absurd h
is_command s (Refusing r) h = absurd h

-- what stands in the output: the words, and then what stood there
written_over : (r : Reading) (out : List ℕ) → length (own_words r) ≤ length out → sets out 0 (own_words r) ≡ own_words r ++ drop (length (own_words r)) out
written_over r out h = sets-eq (own_words r) out 0 (omega arith) ∙ ap (λ (k : ℕ). own_words r ++ drop k out) (zero-add (length (own_words r)))

-- the first word, and the second where there is one
word_0 : (r : Reading) (tail : List ℕ) → get_or (own_words r ++ tail) 0 0 ≡ word_with (form r).word (values r)
unfolding own_words
word_0 r tail = refl

word_1 : (ps : List Part) (w : ℕ) (ns tail : List ℕ) → suc (length (next_word ps ns)) ≡ 2 → get_or ((w ∷ next_word ps ns) ++ tail) 1 0 ≡ word_with ps ns
unfolding next_word
word_1 [] w ns tail h = absurd (omega arith)
word_1 (p ∷ ps) w ns tail h = refl

-- the reading of a word at a setting that is not refused
pub read_plain : (s : Setting) (w n : ℕ) → first (setting_cases s) ≡ none → read_of s w n ≡ reading_of s w n
unfolding read_of
read_plain s w n e = accepted Refusing (reading_of s w n) e

pub read_usable : (s : Setting) (w n : ℕ) (f : Form) → form_of w ≡ f → usable s f ≡ true → reading_of s w n ≡ command_in f w n
unfolding reading_of
read_usable s w n f e u = choose_true (ap (usable s) e ∙ u) _ _ ∙ ap (λ (g : Form). command_in g w n) e

pub read_back : ReadBack
unfolding out_after written_values own_words
read_back s r out a exit c h =
    let p = passed s r out a c.answer h in
    let k = is_command s r ((form_plain s r).0 p.there) in
    let k_words = length (own_words r) in
    let front : exit ≡ sets out 0 (own_words r) = c.memory ∙ ap (λ (z : Result ℕ Unwritten). out_after z r out) p.words in
    let over : exit ≡ own_words r ++ drop k_words out = front ∙ written_over r out p.room in
    record {
      count = ap written_values p.words ∙ ap (λ (n : ℕ). n ∷ []) (size_is r);
      same = λ next second x e.
          let w = word_with (form r).word (values r) in
          let w_0 : get_or exit 0 0 ≡ w = ap (λ (l : List ℕ). get_or l 0 0) over ∙ word_0 r (drop k_words out) in
          let rest = left r k p.fields in
          let n_1 : k_words ≡ 2 → next ≡ word_with (form r).next rest =
          λ t. second (sym (size_is r) ∙ t) ∙ ap (λ (l : List ℕ). get_or l 1 0) over ∙ word_1 (form r).next w rest (drop k_words out) t in
          e ∙ ap (λ (v : ℕ). read_of s v next) w_0
          ∙ read_plain s w next p.setting
          ∙ read_usable s w next (form r) (form_back r k p.fields) p.there
          ∙ command_back r k p.fields next (next_is r k p.fields next n_1);
      length_stays = ap length front ∙ length-sets out 0 (own_words r);
      tail_stays = subst (λ (n : ℕ). drop n exit ≡ drop n out) (size_is r) (ap (drop k_words) over ∙ drop_at (own_words r) (drop k_words out) k_words refl);
    }

-- what a word that reads as a command has
pub record Commands (s : Setting) (w n : ℕ) (r : Reading) : Type 0 where
  pub setting : first (setting_cases s) ≡ none
  pub there : usable s (form_of w) ≡ true
  pub member : In (form_of w) forms
  pub bits_fit : has_bits (form_of w).word w ≡ true
  pub is : r ≡ command_in (form_of w) w n

of_table : (w n : ℕ) → number (command_in (form_of w) w n) ≤ 8 → (In (form_of w) forms) × (has_bits (form_of w).word w ≡ true)
unfolding command_in everything_else number
of_table w n = by_form (λ f. number (command_in f w n) ≤ 8 → (In f forms) × (has_bits f.word w ≡ true)) w (λ f i t h. (i, t)) (λ h. absurd (omega arith))

commands : (s : Setting) (w n : ℕ) (r : Reading) → r ≡ read_of s w n → number r ≤ 8 → Commands s w n r
unfolding read_of reading_of refused_or choose number
commands s w n r e h = at_setting (first (setting_cases s)) refl e
  where
    at_form : (u : Bool) → usable s (form_of w) ≡ u → first (setting_cases s) ≡ none → r ≡ choose u (command_in (form_of w) w n) (Reserved (why_of (why_not s (form_of w)))) → Commands s w n r
    at_form true u d e =
        let t = of_table w n (subst (λ (x : Reading). number x ≤ 8) e h) in
        record { setting = d; there = u; member = t.0; bits_fit = t.1; is = e }
    at_form false u d e = absurd (let z : 9 ≤ 8 = subst (λ (x : Reading). number x ≤ 8) e h in omega arith)

    at_setting : (o : Option ℕ) → first (setting_cases s) ≡ o → r ≡ refused_or Refusing o (choose (usable s (form_of w)) (command_in (form_of w) w n) (Reserved (why_of (why_not s (form_of w))))) → Commands s w n r
    at_setting none d e = at_form (usable s (form_of w)) refl d e
    at_setting (some m) d e = absurd (let z : 10 ≤ 8 = subst (λ (x : Reading). number x ≤ 8) e h in omega arith)

-- such a word is accepted by the writer, and its words are those that were read
back_again : (s : Setting) (w n : ℕ) (out : List ℕ) → w < 2 ^ 32 → (f : Form) → In f forms → has_bits f.word w ≡ true → usable s f ≡ true → first (setting_cases s) ≡ none
    → (a : Result ℕ Unwritten) (exit : List ℕ) → size (command_in f w n) ≤ length out → Writes s (command_in f w n) out a exit
    → (written_refusal a ≡ none) × (exit ≡ same_words (command_in f w n) w n ++ drop (size (command_in f w n)) out)
unfolding out_after written_refusal
back_again s w n out h f i t u d a exit space c =
    let r = command_in f w n in
    let room : length (own_words r) ≤ length out = rw size_is space in
    let same : form r ≡ f = (read_by w n i).same in
    let past : Past s r = record { fine = none_fine s d; fields = numbers_fit_lem f i w n; there = ap (usable s) same ∙ u } in
    let words : a ≡ Ok (length (own_words r)) = c.answer ∙ by_words s r (length out) past refl room in (
      ap written_refusal words,
      c.memory ∙ ap (λ (z : Result ℕ Unwritten). out_after z r out) words ∙ written_over r out room
          ∙ rw size_is (ap (λ (l : List ℕ). l ++ drop (size r) out) (words_back f i w n h t)),
    )

pub write_back : WriteBack
write_back s w next r h e k out a exit space c =
    let q = commands s w next r e k in
    subst
    (λ (x : Reading). size x ≤ length out → Writes s x out a exit → (written_refusal a ≡ none) × (exit ≡ same_words x w next ++ drop (size x) out))
    (sym q.is)
    (back_again s w next out h (form_of w) q.member q.bits_fit q.there q.setting a exit) space c

-- neither a refusal nor a place past the last word has a reading
nothing : (o : Option ℕ) → place_values (refused_or Err o (Ok None)) ≡ []
unfolding refused_or place_values
nothing none = refl
nothing (some n) = refl

-- where no case of `read_at` holds, none of `read` does, and the answer is what stands at the place
pub at_place : AtPlace
unfolding read_of read_at_of place_refusal place_values place_why
at_place =
    record {
      inside = λ s ws p a r c e h d.
          let cases = setting_cases s ++ size_cases (length ws) in
          let all : first cases ≡ none = sym (told_first Err place_refusal (λ x. refl) cases _ a refl c) ∙ e in
          let two = append_none (setting_cases s) (size_cases (length ws)) all in
          let there = c ∙ accepted Err _ all ∙ ap Ok (choose_true (lt-ltb _ _ h) _ _) in
          let same = sym (d ∙ accepted Refusing _ two.0) in
          (ap place_values there ∙ ap (λ (x : Reading). number x ∷ values x) same, ap place_why there ∙ ap why same);
      past = λ s ws p a c h.
          let o = first (setting_cases s ++ size_cases (length ws)) in
          ap place_values (c ∙ ap (λ (x : Option.Option Reading). refused_or Err o (Ok x)) (choose_false (le-ltb _ _ h) _ _)) ∙ nothing o;
    }

pub specials : Specials
specials level m a e =
    let p = specials_plain m level.number in
    (λ h. p.0 (sym e ∙ h), λ x. e ∙ p.1 x)

pub little_endian : LittleEndian
little_endian = record { inside = λ bytes p a c h. c ∙ word_is bytes p h; past = λ bytes p a c h. c ∙ word_past bytes p h; whole = words_length }
