-- What the iterators of a row give, one element after the other.
use Rattle.std.proofs.Common.{List, Option, length, ap}
use Rattle.std.proofs.lemmas.Iterator.{YieldsList}
use Rattle.std.proofs.lemmas.Iterator.Consumers.{YieldsList-from_shown}
use Rattle.automata.specs.Automata as automata
use Rattle.rows.specs.declared.constraints.Conjunction.{Conjunction}
use Rattle.rows.specs.declared.constraints.Constraint.{Constraint}
use Rattle.rows.specs.declared.constraints.Constraints.{Constraints}
use Rattle.rows.specs.declared.edges.Edge.{Edge}
use Rattle.rows.specs.declared.views.Edges.{Edges}
use Rattle.rows.specs.declared.views.Invariants.{Invariants}
use Rattle.rows.specs.Parts.{constraint_value}
use Rattle.rows.specs.Values.{constraints_value, NextConstraint}
use Rattle.rows.specs.Views.{InvariantsAre, NextInvariant, EdgesAre, NextEdge}

-- one call of `next` for the constraints of a conjunction, for the invariants and for the edges
abbrev ConstraintStep : Constraints → Option Constraint → Constraints → Type 0
ConstraintStep s r t = NextConstraint (constraints_value s.words.now) r (constraints_value t.words.now)

abbrev pub InvariantStep : Invariants → Option Conjunction → Invariants → Type 0
InvariantStep s r t = (css : List (List automata.Constraint)) → InvariantsAre css s → NextInvariant css r t

abbrev pub EdgeStep : Edges → Option Edge → Edges → Type 0
EdgeStep s r t = (es : List automata.Edge) → EdgesAre es s → NextEdge es r t

pub constraints_yield : (s : Constraints) → YieldsList ConstraintStep constraint_value s (constraints_value s.words.now)
constraints_yield =
    YieldsList-from_shown ConstraintStep constraint_value (λ s. constraints_value s.words.now) (λ s t e. ap length e) (λ s x t e. e)
