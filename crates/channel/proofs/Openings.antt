-- What opening answers, by the first test that decides it. Assumes nothing.
use Prim.Native.Nat.{ℕ}
use mathlib.Core.Path.{◌≡◌, sym, ap, ◌∙◌}
use mathlib.Core.Bool.{Bool, true, false}
use mathlib.Core.List.{List, [], ◌∷◌}
use lib.Dec.{ltb}
use lib.ListN.{length}
use Rattle.word.specs.First.{Case, first, choose, ◌when◌}
use Rattle.word.specs.Setting.{LEVEL, MODE, ORDER, SLI, FIELD, TABLE, level_refused, mode_refused, sli_refused, refused_or, check_of}
use Rattle.word.specs.declared.setting.Refusal.{Refusal}
use Rattle.word.specs.declared.setting.Setting.{Setting}
use Rattle.std.specs.declared.result.Result.TheVariants.{Ok, Err}
use Rattle.word.proofs.Settings.{hit, miss, no_more, refused_by, passed_by}
use Rattle.puller.specs.Object.{repeat_of}
use Rattle.std.specs.Prelude.{Option}
use Rattle.channel.specs.State.{order_refused}
use Rattle.channel.specs.Opening.{table_refused, duplicate_or, opening_of, fresh_channel, opened, open_of}
use Rattle.std.specs.declared.result.Result.{Result}
use Rattle.channel.specs.declared.opening.Unopened.{Unopened}
use Rattle.channel.specs.declared.opening.Unopened.TheVariants.{Refused}

-- a refusal as opening answers it
abbrev pub refuse : Refusal → Result Unit Unopened
refuse n = Err (Refused n)

-- a setting of a level and a mode
abbrev pub setting_at : ℕ → ℕ → Bool → Setting
setting_at level mode sli = record { level = record { number = level }; mode = record { number = mode }; sli = sli }

module _ (level mode order : ℕ) (sli : Bool) (mask : ℕ) (table : List ℕ) where
  -- the cases from FIELD, from SLI, and from ORDER
  abbrev field_cases : List Case
  field_cases = FIELD when ltb 4095 mask ∷ TABLE when table_refused (length table) ∷ []

  abbrev sli_cases : List Case
  sli_cases = SLI when sli_refused level sli ∷ field_cases

  abbrev order_cases : List Case
  order_cases = ORDER when order_refused mode order ∷ sli_cases

  -- what is answered where no case holds
  abbrev after : Result Unit Unopened
  after = duplicate_or (repeat_of table)

  abbrev answering : List Case → Result Unit Unopened
  answering cs = refused_or refuse (first cs) after

  -- a setting without SLI has the cases of its level and mode alone: where they refuse it, they refuse opening
  pub by_setting : (x : Refusal) → check_of (setting_at level mode false) ≡ Err x → opening_of level mode order sli mask table ≡ Err (Refused x)
  unfolding opening_of first choose
  by_setting x e = refused_by (setting_at level mode false) order_cases refuse after x e

  module _ (fine : check_of (setting_at level mode false) ≡ Ok tt) where
    -- LEVEL and MODE are passed, whatever comes after them
    past : (more : List Case) → answering (LEVEL when level_refused level ∷ MODE when mode_refused level mode ∷ more) ≡ answering more
    unfolding first choose
    past more = passed_by (setting_at level mode false) more refuse after fine

    past_mode : opening_of level mode order sli mask table ≡ answering order_cases
    unfolding opening_of
    past_mode = past order_cases

    pub by_order : order_refused mode order ≡ true → opening_of level mode order sli mask table ≡ refuse (record { number = ORDER })
    by_order e = past_mode ∙ hit ORDER sli_cases refuse after e

    module _ (ordered : order_refused mode order ≡ false) where
      past_order : opening_of level mode order sli mask table ≡ answering sli_cases
      past_order = past_mode ∙ miss ORDER sli_cases refuse after ordered

      -- so the whole setting can meet SLI only
      pub by_sli : (x : Refusal) → check_of (setting_at level mode sli) ≡ Err x → opening_of level mode order sli mask table ≡ Err (Refused x)
      by_sli x e = past_order ∙ sym (past sli_cases) ∙ refused_by (setting_at level mode sli) field_cases refuse after x e

      module _ (whole : check_of (setting_at level mode sli) ≡ Ok tt) where
        past_sli : opening_of level mode order sli mask table ≡ answering field_cases
        past_sli = past_order ∙ sym (past sli_cases) ∙ passed_by (setting_at level mode sli) field_cases refuse after whole

        pub by_mask : ltb 4095 mask ≡ true → opening_of level mode order sli mask table ≡ refuse (record { number = FIELD })
        by_mask e = past_sli ∙ hit FIELD _ refuse after e

        module _ (narrow : ltb 4095 mask ≡ false) where
          past_mask : opening_of level mode order sli mask table ≡ answering (TABLE when table_refused (length table) ∷ [])
          past_mask = past_sli ∙ miss FIELD _ refuse after narrow

          pub by_table : table_refused (length table) ≡ true → opening_of level mode order sli mask table ≡ refuse (record { number = TABLE })
          by_table e = past_mask ∙ hit TABLE [] refuse after e

          -- an entry that repeats an earlier one, or none
          pub by_repeat : table_refused (length table) ≡ false → {r : Option ℕ} → repeat_of table ≡ r → opening_of level mode order sli mask table ≡ duplicate_or r
          by_repeat sized e = past_mask ∙ miss TABLE [] refuse after sized ∙ no_more refuse after ∙ ap duplicate_or e

  -- the answer with its channel
  pub answers :
      (limit : ℕ) {o : Result Unit Unopened}
      → opening_of level mode order sli mask table ≡ o
      → open_of level mode order sli mask limit table ≡ opened o (fresh_channel level mode order sli mask limit)
  unfolding open_of
  answers limit e = rw e
