-- Laws of what a listing gives: which commands take one word, and the item as what stands at the place decides it. Assumes nothing.
use Prim.Native.Nat.{ℕ, ◌+◌, ◌≤◌, ◌<◌}
use mathlib.Core.Path.{◌≡◌, refl}
use mathlib.Core.List.{List, ◌++◌}
use mathlib.Core.Option.{Option, none, some}
use native.Mathlib.Omega.{arith}
use lib.Dec.{leb, ltb}
use lib.ListN.{length, get_or}
use Rattle.std.specs.declared.option.Option as rust
use Rattle.std.specs.declared.option.Option.TheVariants.{Some, None}
use Rattle.std.specs.declared.result.Result.{Result}
use Rattle.std.specs.declared.result.Result.TheVariants.{Ok, Err}
use borrow.Author.Tests.{lt-leb, le-leb, ltb-true, ltb-false}
use Rattle.word.specs.First.{choose, first}
use Rattle.word.specs.Setting.{setting_cases, size_cases, refused_or}
use Rattle.word.specs.Form.{sli_conditional, returning, old_jump, jump, call, everything_else, forms}
use Rattle.word.specs.Reading.{number, form, parameter_count, reading_of, read_at_of}
use Rattle.word.specs.Writing.{next_word, own_words}
use Rattle.word.specs.declared.setting.Setting.{Setting}
use Rattle.word.specs.declared.reading.Reading.{Reading}
use Rattle.word.specs.declared.reading.Reading.TheVariants.{Increasing, NonIncreasing, Sli, Return, Long, OldJump, Jump, Call, Reserved, Refused}
use Rattle.word.specs.declared.setting.Refusal.{Refusal}
use Rattle.word.specs.declared.why.Why.{Why}
use Rattle.word.proofs.First.{by_test, choose_true, choose_false, append_none, first_none}
use Rattle.listing.specs.Listing.{span, ends_at, item_of, list_of}
use Rattle.listing.specs.declared.command.End.TheVariants as end
use Rattle.listing.specs.declared.command.Listed.{Listed}

-- what has no count takes its one word
pub span_bare : (r : Reading)
    → ((c s m : ℕ) → r ≡ Increasing c s m → ⊥)
    → ((c s m : ℕ) → r ≡ NonIncreasing c s m → ⊥)
    → ((s m c : ℕ) → r ≡ Long s m c → ⊥)
    → 1 ≡ span r
unfolding span parameter_count own_words next_word form number forms sli_conditional returning old_jump jump call everything_else
span_bare (Increasing c s m) i n l = absurd (i c s m refl)
span_bare (NonIncreasing c s m) i n l = absurd (n c s m refl)
span_bare (Sli k) i n l = refl
span_bare Return i n l = refl
span_bare (Long s m c) i n l = absurd (l s m c refl)
span_bare (OldJump t) i n l = refl
span_bare (Jump t) i n l = refl
span_bare (Call t) i n l = refl
span_bare (Reserved y) i n l = refl
span_bare (Refused r) i n l = refl

-- what an `if let` on `Reserved` leaves: another number
pub not_reserved : (r : Reading) → ((y : Why) → r ≡ Reserved y → ⊥) → number r ≡ 9 → ⊥
unfolding number
not_reserved (Increasing c s m) h e = omega arith
not_reserved (NonIncreasing c s m) h e = omega arith
not_reserved (Sli k) h e = omega arith
not_reserved Return h e = omega arith
not_reserved (Long s m c) h e = omega arith
not_reserved (OldJump t) h e = omega arith
not_reserved (Jump t) h e = omega arith
not_reserved (Call t) h e = omega arith
not_reserved (Reserved y) h e = h y refl
not_reserved (Refused r) h e = omega arith

-- the item of what stands at place p of n words
unfoldable pub listed : ℕ → ℕ → Result (rust.Option Reading) Refusal → Listed
listed n p (Ok (Some r)) = item_of r n p
listed n p (Ok None) = ends_at p end.Past
listed n p (Err x) = ends_at p (end.Refused x)

module _ (s : Setting) (ws : List ℕ) (p : ℕ) where
  -- the refusals, what the word at the place reads as, what `read_at` finds there, and the item that it is
  abbrev pub refusals : Option ℕ
  refusals = first (setting_cases s ++ size_cases (length ws))

  abbrev pub word : Reading
  word = reading_of s (get_or ws p 0) (get_or ws (p + 1) 0)

  abbrev found : rust.Option Reading
  found = choose (ltb p (length ws)) (Some word) None

  abbrev pub here : Listed
  here = choose (leb (length ws) p) (ends_at p end.Past) (item_of word (length ws) p)

  -- a listing's refusals are those of `read_at`, and its item that of what `read_at` finds
  pub by_place : list_of s ws p ≡ listed (length ws) p (read_at_of s ws p)
  unfolding list_of read_at_of refused_or listed
  by_place = by_cases refusals
    where
      by_end : here ≡ listed (length ws) p (Ok found)
      by_end =
          by_test (λ (x : rust.Option Reading). here ≡ listed (length ws) p (Ok x))
          (λ e. choose_false (lt-leb _ _ (ltb-true p (length ws) e)) _ _)
          (λ e. choose_true (le-leb _ _ (ltb-false p (length ws) e)) _ _)

      by_cases : (o : Option ℕ) → refused_or (λ n. ends_at p (end.Refused n)) o here ≡ listed (length ws) p (refused_or Err o (Ok found))
      by_cases none = by_end
      by_cases (some n) = refl

  -- where `read_at` finds a word, the place is within the words, and they are not too many
  pub inside : (r : Reading) → read_at_of s ws p ≡ Ok (Some r) → (p < length ws) × (length ws ≤ 1048576)
  unfolding read_at_of refused_or
  inside r = by_cases refusals refl
    where
      by_cases : (o : Option ℕ) → refusals ≡ o → refused_or Err o (Ok found) ≡ Ok (Some r) → (p < length ws) × (length ws ≤ 1048576)
      by_cases none d e = (
        by_test (λ (x : rust.Option Reading). ◌≡◌ {A = Result (rust.Option Reading) Refusal} (Ok x) (Ok (Some r)) → p < length ws) (λ t e. ltb-true _ _ t) (λ t e. let z : ◌≡◌ {A = ℕ} 0 1 = cc in absurd (omega arith)) e,
        ltb-false _ _ (first_none _ _ (append_none (setting_cases s) (size_cases (length ws)) d).1).0,
      )
      by_cases (some n) d e = let z : ◌≡◌ {A = ℕ} 0 1 = cc in absurd (omega arith)
