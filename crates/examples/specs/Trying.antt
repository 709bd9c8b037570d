-- How a tally grows.
use Rattle.std.specs.Prelude.{ℕ, ◌+◌, ◌≤◌, min}
use Rattle.examples.specs.declared.report.Tally.{Tally}

-- with at least so many tries more, as far as there is place, and no difference is forgotten
abbrev pub Grew : ℕ → Tally → Tally → Type 0
Grew by old new = (min (old.tried + by) 18446744073709551615 ≤ new.tried) × (min old.differences 18446744073709551615 ≤ new.differences)
