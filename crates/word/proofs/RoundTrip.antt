-- What the writer writes reads back as the same command, and what reads as a command is written back as it was. Assumes nothing.
use Prim.Native.Nat.{ℕ, suc, ◌+◌, ◌%◌, ◌^◌, ◌<◌}
use mathlib.Core.Path.{◌≡◌, refl, sym, ap, ◌∙◌}
use mathlib.Core.Bool.{Bool, true, ◌&&◌}
use mathlib.Core.List.{List, [], ◌∷◌, ◌++◌, append-nil}
use native.Mathlib.Nat.{mod-eq_of_lt}
use native.Mathlib.Omega.{arith}
use lib.Dec.{eqb, ltb}
use borrow.Author.Tests.{ltb-true}
use lib.ListN.{length, drop, take-append-drop, length-drop}
use lib.Seq.{take_all, drop_at}
use Rattle.word.specs.First.{choose}
use Rattle.word.specs.Parts.{Part, has_bits, numbers_in, numbers_fit, word_with, room}
use Rattle.word.specs.Form.{Form, increasing, non_increasing, sli_conditional, returning, long, old_jump, jump, call, everything_else, forms, form_of}
use Rattle.word.specs.Reading.{number, form, values, command_in}
use Rattle.word.specs.Writing.{next_word, own_words}
use Rattle.word.specs.declared.reading.Reading.{Reading}
use Rattle.word.specs.declared.reading.Reading.TheVariants.{Increasing, NonIncreasing, Sli, Return, Long, OldJump, Jump, Call, Reserved, Refused}
use Rattle.word.proofs.Tests.{both}
use Rattle.word.proofs.Parts.{hi, tiled, fixed, whole, Held, held, again, as_many, within, fit_apart}
use Rattle.word.proofs.Table.{In, here, there, eight, by_form, the_form}

-- how many bits a list of parts takes
abbrev top : List Part → ℕ
top [] = 0
top (p ∷ ps) = hi p + 1

-- Of every form of the table: its parts lie side by side from bit 31 down, and none of its first word is spare.
unfoldable laid_out : Form → Bool
laid_out f = tiled 32 f.word && (fixed f.word && (whole f.word && (tiled (top f.next) f.next && fixed f.next)))

pub record Laid (f : Form) : Type 0 where
  pub tiles : tiled 32 f.word ≡ true
  pub right : fixed f.word ≡ true
  pub full : whole f.word ≡ true
  pub next_tiles : tiled (top f.next) f.next ≡ true
  pub next_right : fixed f.next ≡ true

all_laid : {f : Form} → In f forms → laid_out f ≡ true
unfolding increasing non_increasing sli_conditional returning long old_jump jump call laid_out tiled fixed whole
all_laid i = eight (λ f. laid_out f ≡ true) refl refl refl refl refl refl refl refl i

pub laid : {f : Form} → In f forms → Laid f
unfolding laid_out
laid {f} i =
    let a = both (tiled 32 f.word) _ (all_laid i) in
    let b = both (fixed f.word) _ a.1 in
    let c = both (whole f.word) _ b.1 in
    let d = both (tiled (top f.next) f.next) _ c.1 in
    record { tiles = a.0; right = b.0; full = c.0; next_tiles = d.0; next_right = d.1 }

-- Of every command: its form is in the table, has room for just its numbers, and makes it of them.
pub record Made (r : Reading) : Type 0 where
  pub member : In (form r) forms
  pub count : length (values r) ≡ room (form r).word + room (form r).next
  pub again : (form r).command (values r) ≡ r

pub made : (r : Reading) → number r < 9 → Made r
unfolding forms increasing non_increasing sli_conditional returning long old_jump jump call number form values room
made (Increasing c s m) h = record { member = here; count = refl; again = refl }
made (NonIncreasing c s m) h = record { member = there here; count = refl; again = refl }
made (Sli k) h = record { member = there (there here); count = refl; again = refl }
made Return h = record { member = there (there (there here)); count = refl; again = refl }
made (Long s m c) h = record { member = there (there (there (there here))); count = refl; again = refl }
made (OldJump t) h = record { member = there (there (there (there (there here)))); count = refl; again = refl }
made (Jump t) h = record { member = there (there (there (there (there (there here))))); count = refl; again = refl }
made (Call t) h = record { member = there (there (there (there (there (there (there here)))))); count = refl; again = refl }
made (Reserved y) h = absurd (omega arith)
made (Refused r) h = absurd (omega arith)

-- Of every form of the table: the command that it reads from a word has that form and just the numbers in the words.
pub record Read (w n : ℕ) (f : Form) : Type 0 where
  pub command : number (command_in f w n) < 9
  pub same : form (command_in f w n) ≡ f
  pub numbers : values (command_in f w n) ≡ numbers_in f.word w ++ numbers_in f.next n

pub read_by : (w n : ℕ) {f : Form} → In f forms → Read w n f
unfolding forms increasing non_increasing sli_conditional returning long old_jump jump call number form values command_in numbers_in
read_by w n i =
    record {
      command = ltb-true _ _ (eight (λ f. ltb (number (command_in f w n)) 9 ≡ true) refl refl refl refl refl refl refl refl i);
      same = eight (λ f. form (command_in f w n) ≡ f) refl refl refl refl refl refl refl refl i;
      numbers = eight (λ f. values (command_in f w n) ≡ numbers_in f.word w ++ numbers_in f.next n) refl refl refl refl refl refl refl refl i;
    }

-- a command has the form of the word that it is read from, and 'reserved' that of everything else
pub form_of_command : (w n : ℕ) → form (command_in (form_of w) w n) ≡ form_of w
unfolding everything_else command_in form number forms
form_of_command w n = by_form (λ f. form (command_in f w n) ≡ f) w (λ f i e. (read_by w n i).same) refl

empty : {l : List ℕ} → length l ≡ 0 → l ≡ []
empty {l = []} e = refl
empty {l = x ∷ l} e = absurd (omega arith)

-- a command whose numbers fit
module _ (r : Reading) (k : number r < 9) (f : numbers_fit ((form r).word ++ (form r).next) (values r) ≡ true) where
  -- the numbers that its first word leaves to the next
  abbrev pub left : List ℕ
  left = drop (room (form r).word) (values r)

  left_count : length left ≡ room (form r).next
  left_count = rw (length-drop, (made r k).count) (omega arith)

  word_held : Held 32 (form r).word (values r) (word_with (form r).word (values r))
  word_held =
      let l = laid (made r k).member in
      held 32 (form r).word (values r) l.tiles l.right (fit_apart (form r).word (form r).next (values r) f).0

  next_back : numbers_in (form r).next (word_with (form r).next left) ≡ left
  next_back =
      let l = laid (made r k).member in
      (held (top (form r).next) (form r).next left l.next_tiles l.next_right (fit_apart (form r).word (form r).next (values r) f).1).back
      ∙ take_all (room (form r).next) left (omega (arith, left_count))

  -- the next word: the one that is written where the form has two, else any
  pub next_is : (n : ℕ) → (length (own_words r) ≡ 2 → n ≡ word_with (form r).next left) → numbers_in (form r).next n ≡ left
  unfolding own_words next_word numbers_in room
  next_is n h = go (form r).next left_count h next_back
    where
      go : (ps : List Part) → length left ≡ room ps → (suc (length (next_word ps left)) ≡ 2 → n ≡ word_with ps left)
          → numbers_in ps (word_with ps left) ≡ left → numbers_in ps n ≡ left
      go [] c h b = sym (empty c)
      go (p ∷ ps) c h b = ap (numbers_in (p ∷ ps)) (h refl) ∙ b

  pub form_back : form_of (word_with (form r).word (values r)) ≡ form r
  form_back = the_form (form r) (made r k).member (word_with (form r).word (values r)) word_held.right

  pub command_back : (n : ℕ) → numbers_in (form r).next n ≡ left → command_in (form r) (word_with (form r).word (values r)) n ≡ r
  unfolding command_in
  command_back n e =
      let whole : numbers_in (form r).word (word_with (form r).word (values r)) ++ numbers_in (form r).next n ≡ values r = rw (word_held.back, e) (take-append-drop (room (form r).word) (values r)) in
      ap (form r).command whole ∙ (made r k).again

-- a word that has a form's bits, written back
module _ (f : Form) (i : In f forms) (w n : ℕ) where
  pub numbers_fit_lem : numbers_fit ((form (command_in f w n)).word ++ (form (command_in f w n)).next) (values (command_in f w n)) ≡ true
  unfolding numbers_fit
  numbers_fit_lem =
      let q = read_by w n i in
      let l = laid i in
      let next : numbers_fit f.next (numbers_in f.next n) ≡ true = rw (append-nil, append-nil) at (within (top f.next) f.next [] [] l.next_tiles n) in
      rw (q.same, q.numbers) (within 32 f.word f.next (numbers_in f.next n) l.tiles w ∙ next)

  -- the second word is the next word but for its upper eight bits, in the long form alone
  second : next_word f.next (numbers_in f.next n) ≡ choose (eqb (number (command_in f w n)) 5) (n % 2 ^ 24 ∷ []) []
  unfolding forms increasing non_increasing sli_conditional returning long old_jump jump call number command_in numbers_in next_word word_with choose
  second =
      eight (λ g. next_word g.next (numbers_in g.next n) ≡ choose (eqb (number (command_in g w n)) 5) (n % 2 ^ 24 ∷ []) [])
      refl refl refl refl (ap (λ (x : ℕ). x ∷ []) (omega arith)) refl refl refl i

  pub words_back : w < 2 ^ 32 → has_bits f.word w ≡ true → own_words (command_in f w n) ≡ w ∷ choose (eqb (number (command_in f w n)) 5) (n % 2 ^ 24 ∷ []) []
  unfolding own_words
  words_back h e =
      let q = read_by w n i in
      let l = laid i in
      let one : word_with f.word (numbers_in f.word w ++ numbers_in f.next n) ≡ w = again 32 f.word l.tiles l.full w (numbers_in f.next n) e ∙ mod-eq_of_lt h in
      let two : drop (room f.word) (numbers_in f.word w ++ numbers_in f.next n) ≡ numbers_in f.next n = drop_at (numbers_in f.word w) (numbers_in f.next n) (room f.word) (as_many f.word w) in
      rw (q.same, q.numbers, one, two, second)
