-- `Texts`, `Names` and `Whole`: what the lines say. Assumes nothing.
use Prim.Native.Nat.{ℕ, zero, suc, ◌<◌}
use Prim.Native.String.{String}
use mathlib.Core.Path.{◌≡◌, refl, sym, subst}
use mathlib.Core.List.{List, [], ◌∷◌, ◌++◌, map, append_assoc, append-nil}
use mathlib.Core.Logic.{◌⊎◌, ⊎_elim}
use mathlib.Core.Option.{none, some}
use native.Mathlib.Omega.{arith}
use lib.ListN.{length, get_or, get_or-eq_default}
use Rattle.word.specs.Why.{why_of}
use Rattle.event.specs.Event.{number, values}
use Rattle.event.specs.Promises.{kind_list}
use Rattle.event.specs.declared.Method.{Method}
use Rattle.event.specs.declared.Event.TheVariants.{Plain, Of}
use Rattle.event.proofs.Promises.{at, within, told, kinds as kind_numbered}
use Rattle.pusher.specs.Record as pusher
use Rattle.pusher.specs.Promises.{error_list as pusher_list}
use Rattle.pusher.proofs.Told.{error_numbered as pusher_numbered}
use Rattle.puller.specs.Record as puller
use Rattle.puller.specs.Promises.{error_list as puller_list}
use Rattle.puller.proofs.Causes.{error_numbered as puller_numbered}
use Rattle.trace.specs.Text.{text}
use Rattle.trace.specs.Names.{kinds, kind_name, pusher_errors, puller_errors, pusher_name, puller_name, cause_name, whys, why_name, refusals, refusal_name}
use Rattle.trace.specs.Lines.{field, fields, event_text, step_text, why_part, cause_part, end_part, end_text, refused_text}
use Rattle.trace.specs.Answers.{cause_number, cause_values, cause_why}
use Rattle.trace.specs.Promises.{pusher_named, puller_named, Has, Texts, Names, Whole}
use Rattle.trace.specs.declared.line.Line.{Line}
use Rattle.trace.specs.declared.end.Cause.{Cause}
use Rattle.trace.specs.declared.end.Cause.TheVariants as cause
use Rattle.trace.specs.declared.end.End.TheVariants.{Error, Idle, Budget}
use Rattle.trace.proofs.Digits.{decimal_plain}
use Rattle.trace.proofs.ToldLaws.{is_idle, is_budget, is_error}
use Rattle.trace.proofs.Room.{step_has, end_has, refused_has}

pub texts : Texts
unfolding text
texts = record { nothing = refl; character = λ c s. refl; number = decimal_plain }

-- at a place within a list stands the same, wrapped or plain
some_at : (l : List String) (n : ℕ) → n < length l → get_or (map some l) n none ≡ some (get_or l n "")
some_at [] n h = absurd (omega arith)
some_at (x ∷ l) zero h = refl
some_at (x ∷ l) (suc n) h = some_at l n (omega arith)

-- an error's name is at its number, in the list of its half
pusher_is : (c : Cause) (n : ℕ) → cause_number c ≡ 1 → cause_values c ≡ n ∷ [] → get_or pusher_named n none ≡ some (cause_name c)
unfolding cause_number cause_values pusher_errors pusher_name cause_name
pusher_is (cause.Pusher e) n k v =
    let same : pusher.number e ≡ n = at 0 v in
    rw (← same) (some_at ("" ∷ pusher_errors) (pusher.number e) (within (pusher_list (why_of (pusher.why e))) (pusher.number e) e (pusher_numbered e)))
pusher_is (cause.Puller e) n k v = absurd (omega arith)

puller_is : (c : Cause) (n : ℕ) → cause_number c ≡ 2 → cause_values c ≡ n ∷ [] → get_or puller_named n none ≡ some (cause_name c)
unfolding cause_number cause_values puller_errors puller_name cause_name
puller_is (cause.Pusher e) n k v = absurd (omega arith)
puller_is (cause.Puller e) n k v =
    let same : puller.number e ≡ n = at 0 v in
    rw (← same) (some_at ("" ∷ puller_errors) (puller.number e) (within puller_list (puller.number e) e (puller_numbered e)))

-- a number that the table doesn't have
no_refusal : (n : ℕ) → (n ≡ 0) ⊎ (13 < n) → refusal_name n ≡ ""
unfolding refusals refusal_name
no_refusal n h = ⊎_elim (λ z. rw z) (λ past. get_or-eq_default ("" ∷ refusals) "" past) h

pub names : Names
unfolding kinds kind_name whys why_name refusals refusal_name
names = record { kinds = λ k. some_at ("" ∷ kinds) (number k) (within kind_list (number k) k (kind_numbered k)); pusher = pusher_is; puller = puller_is; whys = refl; refusals = refl; none_else = no_refusal }

-- the ends' words with the labels beside them
idle_words : (more : List ℕ) → text "end=idle steps=" ++ more ≡ text "end=" ++ (text "idle" ++ (text " steps=" ++ more))
unfolding text
idle_words more = refl

budget_words : (more : List ℕ) → text "end=budget steps=" ++ more ≡ text "end=" ++ (text "budget" ++ (text " steps=" ++ more))
unfolding text
budget_words more = refl

error_words : (more : List ℕ) → text "end=error cause=" ++ more ≡ text "end=" ++ (text "error cause=" ++ more)
unfolding text
error_words more = refl

-- a cause's text is its name, and behind it its why
cause_words : (c : Cause) → cause_part c ≡ text (cause_name c) ++ why_part (cause_why c)
unfolding cause_part cause_why why_part
cause_words (cause.Pusher e) = refl
cause_words (cause.Puller e) = sym (append-nil (text (cause_name (cause.Puller e))))

-- a line that has a text has it however its parts are put together
regrouped : {s t : List ℕ} {l : Line} → s ≡ t → Has s l → Has t l
regrouped {l = l} e h = subst (λ (x : List ℕ). Has x l) e h

pub whole : Whole
unfolding values field fields event_text step_text why_part end_part end_text refused_text
whole =
    record {
      step_line = λ step get e k l h v. let is = told e (Plain k) v in regrouped (simp (append_assoc {A = ℕ})) (step_has step get (Plain k) l (rw is at h));
      method_line = λ step get e k b m p l h v.
          let method : Method = record { subchannel = b; method = m; parameter = p } in
          let is = told e (Of k method) v in
          regrouped (simp (append_assoc {A = ℕ})) (step_has step get (Of k method) l (rw is at h));
      idle_line = λ e steps get ref l h n. let is = is_idle e n in regrouped (simp (append_assoc {A = ℕ}, idle_words)) (end_has Idle steps get ref l (rw is at h));
      budget_line = λ e steps get ref l h n. let is = is_budget e n in regrouped (simp (append_assoc {A = ℕ}, budget_words)) (end_has Budget steps get ref l (rw is at h));
      error_line = λ e c steps get ref l h n v w none. let is = is_error e c n v w in regrouped (simp (append_assoc {A = ℕ}, error_words, cause_words c, none)) (end_has (Error c) steps get ref l (rw is at h));
      why_line = λ e c k steps get ref l h n v w one. let is = is_error e c n v w in regrouped (simp (append_assoc {A = ℕ}, error_words, cause_words c, one)) (end_has (Error c) steps get ref l (rw is at h));
      refused_line = λ n l h. refused_has n.number l h;
    }
