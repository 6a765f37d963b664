-- The contract of the public function.
use Rattle.std.specs.Prelude.{ℕ, ◌≡◌}
use Rattle.event.specs.Event.{number}
use Rattle.event.specs.declared.Kind.{Kind}

-- `Kind::number`
abbrev pub Numbers : Kind → ℕ → Type 0
Numbers k r = r ≡ number k
