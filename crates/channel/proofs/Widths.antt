-- Laws of the widths and alignments, and how a channel is well-formed where its parts are. Assumes nothing.
use Prim.Native.Nat.{ℕ, ◌^◌, ◌≤◌, ◌<◌}
use mathlib.Core.Path.{◌≡◌, refl, sym, ap, ◌∙◌}
use mathlib.Core.Bool.{Bool, true, false, not, ◌&&◌, and_assoc, and-false}
use mathlib.Core.Logic.{◌↔◌}
use native.Mathlib.Omega.{arith}
use mathlib.Core.List.{List, [], ◌∷◌, ◌++◌}
use lib.Dec.{ltb}
use lib.ListN.{length}
use Rattle.std.specs.Bool.{MatchBool}
use Rattle.std.specs.List.{AllWithin, HoldsAt}
use mir.Val.{Val}
use denote.Laws.{Is}
use denote.Struct.Declared.{row}
use borrow.Author.Tests.{lt-ltb, lt-leb, leb-false, not-true}
use Rattle.word.proofs.Tests.{both}
use Rattle.puller.specs.Record.{engine_of}
use Rattle.puller.specs.declared.record.Puller.{Puller}
use Rattle.word.proofs.Lowest.{found_none, none_found}
use Rattle.channel.specs.State.{setup_fits, Width, ◌in_bits◌, within, address_widths, run_widths, puller_widths, engine_too_wide, engines_fit, other_widths, addresses, aligned, well_formed}
use Rattle.channel.specs.declared.record.Channel.{Channel}
use Rattle.channel.specs.contracts.record.Channel.{the_type}

-- two lists of widths together
pub within_append : (a b : List Width) → within (a ++ b) ≡ (within a && within b)
unfolding within
within_append [] b = refl
within_append (w ∷ a) b = rw (within_append a b) (sym (and_assoc (ltb w.value (2 ^ w.bits)) (within a) (within b)))

-- a number that is not too wide is passed over
narrow : (v b : ℕ) (more : List Width) → v < 2 ^ b → within (v in_bits b ∷ more) ≡ within more
unfolding within
narrow v b more h = rw (lt-ltb v (2 ^ b) h)

-- the eight engines,
pub engines_plain : (p : Puller) → engines_fit p ≡ true ↔ ((subchannel : ℕ) → subchannel < 8 → engine_of p subchannel < 2 ^ 5)
unfolding engines_fit
engines_plain p = (
  λ e i l. leb-false _ _ (found_none (engine_too_wide p) 8 (not-true _ e) i l),
  λ h. ap not (none_found (engine_too_wide p) 8 (λ i l. lt-leb _ _ (h i l))),
)

-- and what a search of them for one that is too wide says
pub engines_by :
    (p : Puller) (r : Bool)
    → length p.engines ≡ 8
    → MatchBool r (AllWithin (λ e. e < 32) p.engines 0 (length p.engines)) ((k : ℕ) × (k < length p.engines) × HoldsAt (λ e. 32 ≤ e) p.engines k)
    → r ≡ engines_fit p
engines_by p true eight all = sym ((engines_plain p).1 (λ k l. all k 0 (omega arith) (omega arith)))
engines_by p false eight wide = go (engines_fit p) refl
  where
    go : (t : Bool) → engines_fit p ≡ t → false ≡ engines_fit p
    go true e = let narrow = (engines_plain p).0 e wide.0 (omega (arith, wide.1)) in absurd (omega (arith, narrow, wide.2 0))
    go false e = sym e

-- the other numbers of a channel that is handed to a function have 32 bits, as their types say
pub others : (c : Channel) (vs : List Val) → Is (row the_type) c vs → within (other_widths c) ≡ true
others c vs h =
    let subroutine = h.1.1.1.0.1.1.1.1.1.0 in
    let puller = h.1.1.1.1.0.1.1.1.1 in
    let semaphore = puller.1.0 in
    narrow _ 32 _ h.1.1.0.1.1.1.1.0.1
    ∙ narrow _ 32 _ subroutine.1.1.1.0.1
    ∙ narrow _ 32 _ puller.0.1
    ∙ narrow _ 32 _ semaphore.1.1.0.1
    ∙ narrow _ 32 _ semaphore.1.1.1.0.1
    ∙ narrow _ 32 _ puller.1.1.0.1.1.1.0.1
    ∙ narrow _ 32 _ puller.1.1.1.1.0.1.1.1.0.1
    ∙ (unfold within in refl)

-- it is then well-formed where its parts are, in the order of the tests
shuffle : (a r e l f : Bool) → ((a && (r && (e && true))) && (l && f)) ≡ ((a && l) && (r && (e && f)))
shuffle false r e l f = refl
shuffle true r e false f = and-false (r && (e && true))
shuffle true false e true f = refl
shuffle true true false true f = refl
shuffle true true true true f = refl

pub well_formed_lem :
    (c : Channel)
    → within (other_widths c) ≡ true
    → well_formed c
    ≡ (setup_fits c.setup
    && ((within (address_widths c.setup c.pusher) && aligned (addresses c.pusher))
    && (within (run_widths c.pusher) && (within (puller_widths c.puller) && engines_fit c.puller))))
unfolding well_formed
well_formed_lem c h =
    let a = address_widths c.setup c.pusher in
    let r = run_widths c.pusher in
    let e = puller_widths c.puller in
    rw (within_append a (r ++ (e ++ other_widths c)), within_append r (e ++ other_widths c), within_append e (other_widths c), h)
    (ap (λ (b : Bool). setup_fits c.setup && b) (shuffle (within a) (within r) (within e) (aligned (addresses c.pusher)) (engines_fit c.puller)))

pub set_up_fits : (c : Channel) → well_formed c ≡ true → setup_fits c.setup ≡ true
unfolding well_formed
set_up_fits c h = (both (setup_fits c.setup) _ h).0
