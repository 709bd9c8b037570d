-- What words and views stand for.
use Rattle.std.specs.Prelude.{◌≡◌, ℕ, List, [], ◌∷◌, Some, None, Option}
use Rattle.automata.specs.Automata as automata
use Rattle.rows.specs.declared.constraints.Constraint.{Constraint}
use Rattle.rows.specs.declared.constraints.Conjunction.{Conjunction}
use Rattle.rows.specs.declared.edges.Edge.{Edge}
use Rattle.rows.specs.Parse.{constraint}
use Rattle.rows.specs.Parts.{constraint_value}

-- three words for each constraint
abbrev pub constraints_value : List ℕ → List automata.Constraint
constraints_value [] = []
constraints_value (c ∷ []) = []
constraints_value (c ∷ r ∷ []) = []
constraints_value (c ∷ r ∷ b ∷ ws) = constraint c r b ∷ constraints_value ws

abbrev pub conjunction_value : Conjunction → List automata.Constraint
conjunction_value c = constraints_value c.words.now

abbrev pub edge_value : Edge → automata.Edge
edge_value e =
    record { source = e.source.0; target = e.target.0; guard = conjunction_value e.guard; resets = e.resets.now }

-- the first of the constraints, and the others behind it
abbrev pub NextConstraint : List automata.Constraint → Option Constraint → List automata.Constraint → Type 0
NextConstraint cs None rest = cs ≡ []
NextConstraint cs (Some c) rest = cs ≡ constraint_value c ∷ rest
