-- What a sign between a clock and a number means, and the tests that it stands for.
use Rattle.std.specs.Prelude.{ℕ, List, [], ◌∷◌, Some, None, Option}
use Rattle.rows.specs.declared.constraints.Relation.TheVariants.{AtMost, Below, AtLeast, Above}
use Rattle.rows.specs.declared.constraints.Clock.{Clock}
use Rattle.rows.specs.declared.constraints.Constraint.{Constraint as Test}
use Rattle.rows.specs.declared.constraints.Owner.{Owner}
use Rattle.rows.specs.declared.constraints.Owner.TheVariants.{Location, Edge}
use Rattle.drawing.specs.declared.errors.Sign.{Sign}
use Rattle.drawing.specs.declared.errors.Sign.TheVariants as sign
use Rattle.drawing.specs.declared.reader.Comparison.{Comparison}
use Rattle.drawing.specs.declared.reader.Comparison.TheVariants.{One, Equal}

-- `=` stands for at most and then at least
abbrev pub tests_of : Clock → Comparison → ℕ → List Test
tests_of x (One r) m = record { clock = x; relation = r; bound = m } ∷ []
tests_of x Equal m = record { clock = x; relation = AtMost; bound = m } ∷ record { clock = x; relation = AtLeast; bound = m } ∷ []

-- what bounds a clock from below may stand in a step only
abbrev pub in_step : Owner → Comparison → Option Comparison
in_step Location k = None
in_step Edge k = Some k

abbrev pub comparison_of : Owner → Sign → Option Comparison
comparison_of o sign.Colon = None
comparison_of o sign.Comma = None
comparison_of o sign.Arrow = None
comparison_of o (sign.Relation AtMost) = Some (One AtMost)
comparison_of o (sign.Relation Below) = Some (One Below)
comparison_of o (sign.Relation AtLeast) = in_step o (One AtLeast)
comparison_of o (sign.Relation Above) = in_step o (One Above)
comparison_of o sign.Equal = in_step o Equal

abbrev pub comparison_at : Owner → Option Sign → Option Comparison
comparison_at o None = None
comparison_at o (Some s) = comparison_of o s
