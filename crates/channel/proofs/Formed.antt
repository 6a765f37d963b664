-- The test of a channel's record says what a well-formed channel is in plain terms. Assumes nothing.
use Prim.Native.Nat.{ℕ, ◌%◌, ◌^◌, ◌≤◌, ◌<◌}
use mathlib.Core.Path.{◌≡◌, refl}
use mathlib.Core.Bool.{Bool, true, false, not, ◌&&◌, ◌||◌}
use mathlib.Core.List.{List, [], ◌∷◌}
use mathlib.Core.Logic.{◌⊎◌, inl, inr, ⊎_elim, ◌↔◌}
use native.Mathlib.Omega.{arith}
use lib.Dec.{eqb, ltb}
use borrow.Author.Tests.{eq-eqb, eqb-true, eqb-false, ne_eqb}
use Rattle.word.specs.Setting.{level_refused, mode_refused, sli_refused}
use Rattle.word.proofs.First.{choose_true, choose_false}
use Rattle.word.proofs.Tests.{both, not_plain, or_plain, and_plain, less_plain, equal_plain}
use Rattle.channel.proofs.Widths.{engines_plain}
use Rattle.pusher.specs.Widths.{SetUp, Narrow}
use Rattle.pusher.specs.declared.record.Setup.{Setup}
use Rattle.channel.specs.State.{order_refused, setup_fits, Width, within, address_bits, widths, addresses, aligned, engines_fit, well_formed}
use Rattle.channel.specs.Promises.{WellFormed}
use Rattle.channel.specs.declared.record.Channel.{Channel}

-- every number of a list within its width
abbrev Fit : List Width → Type 0
Fit [] = Unit {0}
Fit (w ∷ ws) = (w.value < 2 ^ w.bits) × Fit ws

fit_plain : (ws : List Width) → within ws ≡ true ↔ Fit ws
unfolding within
fit_plain [] = (λ e. tt, λ f. refl)
fit_plain (w ∷ ws) = and_plain (ltb w.value (2 ^ w.bits)) (within ws) (less_plain w.value (2 ^ w.bits)) (fit_plain ws)

-- every address of a list a multiple of 4
abbrev Aligned : List ℕ → Type 0
Aligned [] = Unit {0}
Aligned (a ∷ more) = (a % 4 ≡ 0) × Aligned more

aligned_plain : (l : List ℕ) → aligned l ≡ true ↔ Aligned l
unfolding aligned
aligned_plain [] = (λ e. tt, λ f. refl)
aligned_plain (a ∷ more) = and_plain (eqb (a % 4) 0) (aligned more) (equal_plain (a % 4) 0) (aligned_plain more)

-- a combination that is not refused
module _ (s : Setup) where
  abbrev level : ℕ
  level = s.setting.level.number

  abbrev mode : ℕ
  mode = s.setting.mode.number

  abbrev Combined : Type 0
  Combined =
      (((((5 < level) → ⊥) × (((1 < mode) ⊎ ((mode ≡ 1) × (level < 4))) → ⊥)) × (((mode ≡ 1) × (12 < s.order)) → ⊥)) × (((s.setting.sli ≡ true) × (level < 3)) → ⊥))
      × ((mode ≡ 1) ⊎ (s.order ≡ 0))

  combined : setup_fits s ≡ true ↔ Combined
  unfolding setup_fits
  combined =
      let l = not_plain (level_refused level) (less_plain 5 level) in
      let m = not_plain (mode_refused level mode) (or_plain (ltb 1 mode) (eqb mode 1 && ltb level 4) (less_plain 1 mode) (and_plain (eqb mode 1) (ltb level 4) (equal_plain mode 1) (less_plain level 4))) in
      let o = not_plain (order_refused mode s.order) (and_plain (eqb mode 1) (ltb 12 s.order) (equal_plain mode 1) (less_plain 12 s.order)) in
      let on = not_plain (sli_refused level s.setting.sli) (and_plain s.setting.sli (ltb level 3) (λ e. e, λ e. e) (less_plain level 3)) in
      let held = or_plain (eqb mode 1) (eqb s.order 0) (equal_plain mode 1) (equal_plain s.order 0) in
      and_plain _ (eqb mode 1 || eqb s.order 0)
      (and_plain _ (not (sli_refused level s.setting.sli))
      (and_plain _ (not (order_refused mode s.order))
      (and_plain (not (level_refused level)) (not (mode_refused level mode)) l m)
      o)
      on)
      held

  set_up : Combined → s.limit < 2 ^ 32 → SetUp s
  set_up h limit =
      let over = h.0.0.0.0 in
      let modes = h.0.0.0.1 in
      record {
        level = omega arith;
        mode = let n : (1 < mode → ⊥) = λ l. modes (inl l) in omega arith;
        ib = λ m. let n : (level < 4 → ⊥) = λ l. modes (inr (m, l)) in omega arith;
        order = λ m. let n : (12 < s.order → ⊥) = λ l. h.0.0.1 (m, l) in omega arith;
        sli = λ e. let n : (level < 3 → ⊥) = λ l. h.0.1 (e, l) in omega arith;
        held = λ m. ⊎_elim (λ e. absurd (omega arith)) (λ e. e) h.1;
        limit = limit;
      }

  combination : SetUp s → Combined
  combination u = (
    (
      (
        (λ l. omega (arith, u.level), λ x. ⊎_elim (λ l. omega (arith, u.mode)) (λ y. omega (arith, u.ib y.0, y.1)) x),
        λ x. omega (arith, u.order x.0, x.1),
      ),
      λ x. omega (arith, u.sli x.0, x.1),
    ),
    go (eqb mode 1) refl,
  )
    where
      go : (b : Bool) → eqb mode 1 ≡ b → (mode ≡ 1) ⊎ (s.order ≡ 0)
      go true e = inl (eqb-true mode 1 e)
      go false e = let n = eqb-false mode 1 e in inr (u.held (omega (arith, u.mode)))

  -- an address within its bits
  pub ib_bits : mode ≡ 1 → address_bits s ≡ 40
  unfolding address_bits
  ib_bits e = choose_true (eq-eqb _ _ e) _ _

  pub nv04_bits : mode ≡ 0 → address_bits s ≡ 32
  unfolding address_bits
  nv04_bits e = choose_false (ne_eqb mode 1 (λ f. omega arith)) _ _

  narrow : (a : ℕ) → a < 2 ^ address_bits s → Narrow s a
  narrow a h = record { nv04_style = λ m. rw (nv04_bits m) at h; ib = λ m. rw (ib_bits m) at h }

  wide : (a : ℕ) → mode ≤ 1 → Narrow s a → a < 2 ^ address_bits s
  wide a low h = go (eqb mode 1) refl
    where
      go : (b : Bool) → eqb mode 1 ≡ b → a < 2 ^ address_bits s
      go true e = let m = eqb-true mode 1 e in rw (ib_bits m) (h.ib m)
      go false e = let n = eqb-false mode 1 e in let m : mode ≡ 0 = omega arith in rw (nv04_bits m) (h.nv04_style m)

module _ (c : Channel) where
  pub formed : well_formed c ≡ true → WellFormed c
  unfolding well_formed
  formed e =
      let x = both (setup_fits c.setup) (within (widths c) && (aligned (addresses c.pusher) && engines_fit c.puller)) e in
      let y = both (within (widths c)) (aligned (addresses c.pusher) && engines_fit c.puller) x.1 in
      let z = both (aligned (addresses c.pusher)) (engines_fit c.puller) y.1 in
      let a = (aligned_plain (addresses c.pusher)).0 z.0 in
      let f = (fit_plain (widths c)).0 y.0 in
      let index = f.1.1.1 in
      let run = index.1.1 in
      let engine = run.1.1.1.1 in
      let word = engine.1.1 in
      record {
        setup = set_up c.setup ((combined c.setup).0 x.0) word.0;
        pusher =
            record {
              addresses =
                  record {
                    get = (narrow c.setup c.pusher.get f.0, a.0);
                    put = (narrow c.setup c.pusher.put f.1.0, a.1.0);
                    mget = narrow c.setup c.pusher.main.mget f.1.1.0;
                    back = (word.1.0, a.1.1.0);
                  };
              ib_get = index.0;
              ib_put = index.1.0;
              run = record { count = run.0; method = run.1.1.0; subchannel = run.1.1.1.0 };
              mask = run.1.0;
            };
        puller =
            record {
              engines = (engines_plain c.puller).0 z.1;
              last = engine.0;
              reference = word.1.1.0;
              dma = word.1.1.1.0;
              offset = word.1.1.1.1.0;
              value = word.1.1.1.1.1.0;
              address = engine.1.0;
              sequence = word.1.1.1.1.1.1.0;
            };
      }

  pub unformed : WellFormed c → well_formed c ≡ true
  unfolding well_formed
  unformed w =
      let s = w.setup in
      let p = w.pusher in
      let a = p.addresses in
      let q = w.puller in
      let low = s.mode in
      rw (
        (combined c.setup).1 (combination c.setup s),
        (fit_plain (widths c)).1 (
          wide c.setup c.pusher.get low a.get.0,
          (
            wide c.setup c.pusher.put low a.put.0,
            (
              wide c.setup c.pusher.main.mget low a.mget,
              (
                p.ib_get,
                (p.ib_put, (p.run.count, (p.mask, (p.run.method, (p.run.subchannel, (q.last, (q.address, (s.limit, (a.back.0, (q.reference, (q.dma, (q.offset, (q.value, (q.sequence, tt)))))))))))))),
              ),
            ),
          ),
        ),
        (aligned_plain (addresses c.pusher)).1 (a.get.1, (a.put.1, (a.back.1, tt))),
        (engines_plain c.puller).1 q.engines,
      )

  pub formed_plain : well_formed c ≡ true ↔ WellFormed c
  formed_plain = (formed, unformed)
