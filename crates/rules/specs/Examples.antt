-- Small submissions, each with the map that is exact (H5): so it is seen that `Complete` speaks of something, and that nothing goes on
-- from a pair that has one of the path rule's reasons.
use Rattle.std.specs.Prelude.{ℕ, ◌-◌, Bool, true, false, List, [], ◌∷◌, ◌++◌, replicate}
use Rattle.rules.specs.Reason.{submission}
use Rattle.rules.specs.Judging.{setting_of}
use Rattle.rules.specs.Path.{Bad, Exact}
use Rattle.rules.specs.Promises.{Sized}

-- a submission that `Complete` speaks of
pub record Example (level : ℕ) (sli : Bool) (bytes map list : List ℕ) : Type 0 where
  pub sized : Sized level sli bytes list
  pub fair : (p : ℕ) → Bad (submission (setting_of level sli) bytes list) p → ⊥
  pub exact : Exact (submission (setting_of level sli) bytes list) map

-- a submission with a bad place, and its exact map: what only that place leads to is not reached
pub record BadExample (level : ℕ) (sli : Bool) (bytes map list : List ℕ) (p : ℕ) : Type 0 where
  pub sized : Sized level sli bytes list
  pub bad : Bad (submission (setting_of level sli) bytes list) p
  pub exact : Exact (submission (setting_of level sli) bytes list) map

-- the list that permits nothing, the one that permits everything, and the one that permits what the bits of one byte say and nothing else
abbrev pub nothing : List ℕ
nothing = replicate 2048 0x00

abbrev pub everything : List ℕ
everything = replicate 2048 0xff

abbrev pub byte_alone : ℕ → ℕ → List ℕ
byte_alone i byte = replicate i 0x00 ++ (byte ∷ replicate (2047 - i) 0x00)

-- the printed case of docs/CARD.md (T): 0x00040050, 0x00000007, where the list permits 0x50 of subchannel 0 alone
abbrev pub printed : List ℕ
printed = 0x50 ∷ 0x00 ∷ 0x04 ∷ 0x00 ∷ 0x07 ∷ 0x00 ∷ 0x00 ∷ 0x00 ∷ []

-- a subroutine: a call of place 2, a jump to the end, and the return
abbrev pub subroutine : List ℕ
subroutine = 0x0a ∷ 0x00 ∷ 0x00 ∷ 0x00 ∷ 0x0d ∷ 0x00 ∷ 0x00 ∷ 0x00 ∷ 0x00 ∷ 0x00 ∷ 0x02 ∷ 0x00 ∷ []

-- a jump to place 2, over a word that is no command, and an old jump to it
abbrev pub over : List ℕ
over = 0x09 ∷ 0x00 ∷ 0x00 ∷ 0x00 ∷ 0xff ∷ 0xff ∷ 0xff ∷ 0xff ∷ 0x00 ∷ 0x00 ∷ 0x00 ∷ 0x00 ∷ []

abbrev pub old_over : List ℕ
old_over = 0x08 ∷ 0x00 ∷ 0x00 ∷ 0x20 ∷ 0xff ∷ 0xff ∷ 0xff ∷ 0xff ∷ 0x00 ∷ 0x00 ∷ 0x00 ∷ 0x00 ∷ []

-- an SLI conditional, 0x00010050, and a command after it
abbrev pub conditional : List ℕ
conditional = 0x50 ∷ 0x00 ∷ 0x01 ∷ 0x00 ∷ 0x00 ∷ 0x00 ∷ 0x00 ∷ 0x00 ∷ []

-- 0x00002010, a command with count 0: no parameter goes to its method, which the level lacks and the list does not permit
abbrev pub countless : List ℕ
countless = 0x10 ∷ 0x20 ∷ 0x00 ∷ 0x00 ∷ []

-- 0x00042180, one parameter for 0x0180 of subchannel 1, which the list permits alone
abbrev pub subchannel_one : List ℕ
subchannel_one = 0x80 ∷ 0x21 ∷ 0x04 ∷ 0x00 ∷ 0x07 ∷ 0x00 ∷ 0x00 ∷ 0x00 ∷ []

-- 0x400cfffc, three parameters for 0x1ffc of subchannel 7, which the list permits alone
abbrev pub three_parameters : List ℕ
three_parameters = 0xfc ∷ 0xff ∷ 0x0c ∷ 0x40 ∷ 0x07 ∷ 0x00 ∷ 0x00 ∷ 0x00 ∷ 0x08 ∷ 0x00 ∷ 0x00 ∷ 0x00 ∷ 0x09 ∷ 0x00 ∷ 0x00 ∷ 0x00 ∷ []

-- 0x00081ff8, two parameters for 0x1ff8 and 0x1ffc of subchannel 0, which the list permits alone
abbrev pub up_to_the_last : List ℕ
up_to_the_last = 0xf8 ∷ 0x1f ∷ 0x08 ∷ 0x00 ∷ 0x07 ∷ 0x00 ∷ 0x00 ∷ 0x00 ∷ 0x08 ∷ 0x00 ∷ 0x00 ∷ 0x00 ∷ []

-- 0x00081ffc, two parameters for 0x1ffc and then 0, and a command after them
abbrev pub past_the_last : List ℕ
past_the_last = 0xfc ∷ 0x1f ∷ 0x08 ∷ 0x00 ∷ 0x07 ∷ 0x00 ∷ 0x00 ∷ 0x00 ∷ 0x08 ∷ 0x00 ∷ 0x00 ∷ 0x00 ∷ 0x00 ∷ 0x00 ∷ 0x00 ∷ 0x00 ∷ []

-- a call of place 3, past the end, and a command after it
abbrev pub call_past : List ℕ
call_past = 0x0e ∷ 0x00 ∷ 0x00 ∷ 0x00 ∷ 0x00 ∷ 0x00 ∷ 0x00 ∷ 0x00 ∷ []

-- H1 to H5: the exact map of each, and that no place is bad, but for the last two, which have one
pub record Examples : Type 0 where
  pub printed_case : Example 3 false printed (1 ∷ 0 ∷ []) (byte_alone 2 0x10)
  pub with_subroutine : Example 2 false subroutine (1 ∷ 1 ∷ 2 ∷ []) nothing
  pub jump_over : Example 2 false over (1 ∷ 0 ∷ 1 ∷ []) nothing
  pub old_jump_over : Example 0 false old_over (1 ∷ 0 ∷ 1 ∷ []) nothing
  pub sli_conditional : Example 3 true conditional (1 ∷ 1 ∷ []) nothing
  pub count_zero : Example 0 false countless (1 ∷ []) nothing
  pub other_subchannel : Example 0 false subchannel_one (1 ∷ 0 ∷ []) (byte_alone 268 0x01)
  pub non_increasing_run : Example 1 false three_parameters (1 ∷ 0 ∷ 0 ∷ 0 ∷ []) (byte_alone 2047 0x80)
  -- G13: a run that ends at 0x1ffc, and one that goes past it
  pub run_up_to_the_last : Example 0 false up_to_the_last (1 ∷ 0 ∷ 0 ∷ []) (byte_alone 255 0xc0)
  pub run_past_the_last : BadExample 0 false past_the_last (1 ∷ 0 ∷ 0 ∷ 0 ∷ []) everything 0
  pub call_past_the_end : BadExample 2 false call_past (1 ∷ 0 ∷ []) nothing 0
