-- The parameters of a command, and the methods that they go to.
use Rattle.std.specs.Prelude.{ℕ, ◌+◌, ◌/◌, ◌%◌, Bool, true, false, not, ◌&&◌, List, ltb}
use Rattle.word.specs.First.{choose}
use Rattle.word.specs.Lowest.{lowest, found?}
use Rattle.word.specs.Reading.{parameter_count}
use Rattle.word.specs.Special.{present_of}
use Rattle.word.specs.declared.setting.Setting.{Setting}
use Rattle.word.specs.declared.reading.Reading.{Reading}
use Rattle.word.specs.declared.reading.Reading.TheVariants.{Increasing, NonIncreasing, Sli, Return, Long, OldJump, Jump, Call, Reserved, Refused}
use Rattle.rules.specs.Permit.{permits}
use Rattle.rules.specs.declared.parameters.Methods.{Methods}

-- G6, G27: the place behind a command's parameters, p being its own
abbrev pub place_after : Reading → ℕ → ℕ
place_after d p = p + 1 + parameter_count d

abbrev pub no_methods : Methods
no_methods = record { subchannel = 0; method = 0; increasing = false }

-- G29: subchannel and first method; a method's number is its byte number divided by 4
unfoldable pub methods_of : Reading → Methods
methods_of (Increasing c b m) = record { subchannel = b; method = m / 4; increasing = true }
methods_of (NonIncreasing c b m) = record { subchannel = b; method = m / 4; increasing = false }
methods_of (Sli k) = no_methods
methods_of Return = no_methods
methods_of (Long b m c) = record { subchannel = b; method = m / 4; increasing = false }
methods_of (OldJump t) = no_methods
methods_of (Jump t) = no_methods
methods_of (Call t) = no_methods
methods_of (Reserved y) = no_methods
methods_of (Refused r) = no_methods

-- G29: the method of parameter k, from 0
unfoldable pub method_for : Methods → ℕ → ℕ
method_for ms k = choose ms.increasing ((ms.method + k) % 2048) ms.method

-- G13: it is increasing and has a parameter, and the number of its first method and its count make more than 2,048
unfoldable pub wraps : Reading → Bool
wraps d = (methods_of d).increasing && (ltb 0 (parameter_count d) && ltb 2048 ((methods_of d).method + parameter_count d))

-- whether a test fails at the method of any of n parameters
unfoldable pub any_fails : (ℕ → Bool) → Methods → ℕ → Bool
any_fails test ms n = found? (lowest (λ k. not (test (method_for ms k))) n)

-- G7: any parameter's method that the level lacks
unfoldable pub lacking : Setting → Reading → Bool
lacking setting d = any_fails (present_of setting.level.number) (methods_of d) (parameter_count d)

-- G8: any parameter's method that is not permitted
unfoldable pub denied : List ℕ → Reading → Bool
denied list d = any_fails (permits list (methods_of d).subchannel) (methods_of d) (parameter_count d)
