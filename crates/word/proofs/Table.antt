-- Laws of the table of forms: no word has the bits of two, so a word that has a form's bits has that form. Assumes nothing.
use Prim.Native.Nat.{ℕ, zero, suc, ◌+◌, ◌-◌, ◌/◌, ◌%◌, ◌^◌, ◌≤◌}
use mathlib.Core.Path.{◌≡◌, refl, sym, ap, ◌∙◌}
use mathlib.Core.Bool.{Bool, true, false, not, ◌&&◌, ◌||◌, false≢true}
use mathlib.Core.List.{List, [], ◌∷◌}
use mathlib.Core.Option.{Option, none, some}
use native.Mathlib.Omega.{arith}
use lib.Dec.{eqb, leb}
use lib.Pow.{mod-mod-pow, shr-shr, field}
use borrow.Author.Tests.{eq-eqb, leb-true, eqb-true}
use Rattle.word.specs.First.{choose}
use Rattle.word.specs.Parts.{bits, Part, is, carries, address, spare, has_bits}
use Rattle.word.specs.Form.{Form, increasing, non_increasing, sli_conditional, returning, long, old_jump, jump, call, everything_else, forms, form_in, form_of}
use Rattle.word.proofs.First.{by_test, choose_true, choose_false, or_else}
use Rattle.word.proofs.Tests.{both}

-- what a part says of bit i, if anything
unfoldable bit_of : Part → ℕ → Option ℕ
bit_of (is h l v) i = choose (leb l i && leb i h) (some (v / 2 ^ (i - l) % 2)) none
bit_of (carries h l) i = none
bit_of (address h l) i = none
bit_of (spare h l) i = none

unfoldable bit_in : List Part → ℕ → Option ℕ
bit_in [] i = none
bit_in (p ∷ ps) i = or_else (bit_of p i) (bit_in ps i)

-- whether two lists of parts differ in a bit below n that both fix
unfoldable differ : Option ℕ → Option ℕ → Bool
differ none none = false
differ none (some b) = false
differ (some a) none = false
differ (some a) (some b) = not (eqb a b)

unfoldable clash : ℕ → List Part → List Part → Bool
clash zero ps qs = false
clash (suc i) ps qs = differ (bit_in ps i) (bit_in qs i) || clash i ps qs

-- a bit of a field is that bit of the word
bit_of_lem : (w h l i : ℕ) → l ≤ i → i ≤ h → bits h l w / 2 ^ (i - l) % 2 ≡ w / 2 ^ i % 2
bit_of_lem w h l i a b =
    let width : h + 1 - l ≡ (h - i + 1) + (i - l) = omega arith in
    let place : l + (i - l) ≡ i = omega arith in
    ap (λ (k : ℕ). w / 2 ^ l % 2 ^ k / 2 ^ (i - l) % 2) width
    ∙ ap (λ (x : ℕ). x % 2) (field (w / 2 ^ l) (h - i + 1) (i - l))
    ∙ mod-mod-pow (w / 2 ^ l / 2 ^ (i - l)) (h - i) 1
    ∙ ap (λ (x : ℕ). x % 2) (shr-shr w l (i - l))
    ∙ ap (λ (k : ℕ). w / 2 ^ k % 2) place

-- a word that fits has the bits that are fixed
has_bit : (ps : List Part) (w i b : ℕ) → has_bits ps w ≡ true → bit_in ps i ≡ some b → w / 2 ^ i % 2 ≡ b
unfolding has_bits bit_in bit_of or_else choose
has_bit [] w i b f e = let z : ◌≡◌ {A = ℕ} 0 1 = cc in absurd (omega arith)
has_bit (is h l v ∷ ps) w i b f e =
    let y = both (eqb (bits h l w) v) (has_bits ps w) f in
    go (leb l i && leb i h) refl y.0 (λ k. has_bit ps w i b y.1 k) e
  where
    go : (t : Bool) → (leb l i && leb i h) ≡ t → eqb (bits h l w) v ≡ true → (bit_in ps i ≡ some b → w / 2 ^ i % 2 ≡ b)
        → or_else (choose t (some (v / 2 ^ (i - l) % 2)) none) (bit_in ps i) ≡ some b → w / 2 ^ i % 2 ≡ b
    go true t y rest k =
        let x = both (leb l i) (leb i h) t in
        let z : v / 2 ^ (i - l) % 2 ≡ b = cc in
        sym (bit_of_lem w h l i (leb-true _ _ x.0) (leb-true _ _ x.1)) ∙ ap (λ (n : ℕ). n / 2 ^ (i - l) % 2) (eqb-true _ _ y) ∙ z
    go false t y rest k = rest k
has_bit (carries h l ∷ ps) w i b f e = has_bit ps w i b f e
has_bit (address h l ∷ ps) w i b f e = has_bit ps w i b f e
has_bit (spare h l ∷ ps) w i b f e = has_bit ps w i b f e

-- parts that both fit a word do not differ
no_clash : (n : ℕ) (ps qs : List Part) (w : ℕ) → has_bits ps w ≡ true → has_bits qs w ≡ true → clash n ps qs ≡ false
unfolding clash differ
no_clash zero ps qs w f g = refl
no_clash (suc i) ps qs w f g = rw (go (bit_in ps i) (bit_in qs i) refl refl) (no_clash i ps qs w f g)
  where
    go : (x y : Option ℕ) → bit_in ps i ≡ x → bit_in qs i ≡ y → differ x y ≡ false
    go none none d e = refl
    go none (some b) d e = refl
    go (some a) none d e = refl
    go (some a) (some b) d e = rw (eq-eqb a b (sym (has_bit ps w i a f d) ∙ has_bit qs w i b g e))

-- A form of a table.
pub data In (f : Form) : List Form → Type 0 where
  here : {fs : List Form} → In f (f ∷ fs)
  there : {g : Form} {fs : List Form} → In f fs → In f (g ∷ fs)

-- whether a form differs from each of the others, and each from each
unfoldable against : Form → List Form → Bool
against f [] = true
against f (g ∷ gs) = clash 32 f.word g.word && against f gs

unfoldable exclusive : List Form → Bool
exclusive [] = true
exclusive (f ∷ fs) = against f fs && exclusive fs

clashes : (f g : Form) {gs : List Form} → In g gs → against f gs ≡ true → clash 32 f.word g.word ≡ true
unfolding against
clashes f g (here {fs = gs}) a = (both (clash 32 f.word g.word) (against f gs) a).0
clashes f g (there {g = k} {fs = gs} i) a = clashes f g i (both (clash 32 f.word k.word) (against f gs) a).1

form_in_lem : {g : Form} {fs : List Form} → exclusive fs ≡ true → In g fs → (w : ℕ) → has_bits g.word w ≡ true → form_in fs w ≡ g
unfolding form_in exclusive
form_in_lem {g = g} x (here {fs = fs}) w e = choose_true e g (form_in fs w)
form_in_lem {g = g} x (there {g = f} {fs = fs} i) w e = go (has_bits f.word w) refl (λ y. form_in_lem {g = g} {fs = fs} y i w e)
  where
    go : (b : Bool) → has_bits f.word w ≡ b → (exclusive fs ≡ true → form_in fs w ≡ g) → choose b f (form_in fs w) ≡ g
    go true t rest =
        let y = both (against f fs) (exclusive fs) x in
        absurd (false≢true (sym (no_clash 32 f.word g.word w t e) ∙ clashes f g i y.0))
    go false t rest = choose_false refl f (form_in fs w) ∙ rest (both (against f fs) (exclusive fs) x).1

-- a word that fits a form of the table has that form
pub the_form : (f : Form) → In f forms → (w : ℕ) → has_bits f.word w ≡ true → form_of w ≡ f
unfolding forms exclusive against clash differ bit_in bit_of or_else choose increasing non_increasing sli_conditional returning long old_jump jump call
the_form f i w e = form_in_lem {g = f} {fs = forms} refl i w e

-- to show something of a form of the table, show it of each of the eight
abbrev All : (Form → Type 0) → List Form → Type 0
All P [] = Unit {0}
All P (f ∷ fs) = P f × All P fs

each : (P : Form → Type 0) {f : Form} {fs : List Form} → All P fs → In f fs → P f
each P {f = f} a (here {fs = fs}) = a.0
each P {f = f} a (there {fs = fs} i) = each P {f = f} {fs = fs} a.1 i

pub eight :
    (P : Form → Type 0)
    → P increasing
    → P non_increasing
    → P sli_conditional
    → P returning
    → P long
    → P old_jump
    → P jump
    → P call
    → {f : Form}
    → In f forms
    → P f
unfolding forms
eight P a b c d e f g h i = each P {fs = forms} (a, (b, (c, (d, (e, (f, (g, (h, tt)))))))) i

-- to show something of a word's form, show it of each form that the word fits, and of everything else
by_form_in : (P : Form → Type 0) (w : ℕ) (fs : List Form) → ((f : Form) → In f fs → has_bits f.word w ≡ true → P f) → P everything_else → P (form_in fs w)
unfolding form_in
by_form_in P w [] k e = e
by_form_in P w (f ∷ fs) k e = by_test P (λ t. k f here t) (λ t. by_form_in P w fs (λ g i. k g (there i)) e)

pub by_form : (P : Form → Type 0) (w : ℕ) → ((f : Form) → In f forms → has_bits f.word w ≡ true → P f) → P everything_else → P (form_of w)
by_form P w k e = by_form_in P w forms k e
