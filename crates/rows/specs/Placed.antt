-- When iterators that tell where parts begin go over the invariants or the edges of a row.
use Rattle.std.specs.Prelude.{◌≡◌, ℕ, List, [], ◌∷◌, ◌++◌, length, drop, Some, None, Option}
use Rattle.automata.specs.Automata as automata
use Rattle.automata.specs.Rows.{write_constraints, write_invariants, write_edges}
use Rattle.rows.specs.declared.constraints.Conjunction.{Conjunction}
use Rattle.rows.specs.declared.edges.Edge.{Edge}
use Rattle.rows.specs.declared.placed.PlacedInvariants.{PlacedInvariants}
use Rattle.rows.specs.declared.placed.PlacedEdges.{PlacedEdges}
use Rattle.rows.specs.EdgeParts.{EdgeIs}

-- the words of the row from there on are the writing of the invariants, with the rest behind them
pub record PlacedInvariantsAre (row : List ℕ) (css : List (List automata.Constraint)) (rest : List ℕ) (v : PlacedInvariants) : Type 0 where
  pub row_is : v.row.now ≡ row
  pub words : drop v.at row ≡ write_invariants css ++ rest
  pub left : v.left ≡ length css

-- the word at which the first of the invariants begins, and this one; the others stand behind it
abbrev pub NextPlacedInvariant : List ℕ → List (List automata.Constraint) → List ℕ → Option (ℕ × Conjunction) → PlacedInvariants → Type 0
NextPlacedInvariant row [] rest None t = Unit {0}
NextPlacedInvariant row [] rest (Some c) t = ⊥
NextPlacedInvariant row (cs ∷ css) rest None t = ⊥
NextPlacedInvariant row (cs ∷ css) rest (Some c) t =
    (drop c.0 row ≡ write_invariants (cs ∷ css) ++ rest)
    × (c.1.words.now ≡ write_constraints cs)
    × PlacedInvariantsAre row css rest t

-- the words of the row from there on are the writing of the edges
pub record PlacedEdgesAre (row : List ℕ) (es : List automata.Edge) (v : PlacedEdges) : Type 0 where
  pub row_is : v.row.now ≡ row
  pub words : drop v.at row ≡ write_edges es

-- the word at which the first of the edges begins, and this one; the others stand behind it
abbrev pub NextPlacedEdge : List ℕ → List automata.Edge → Option (ℕ × Edge) → PlacedEdges → Type 0
NextPlacedEdge row [] None t = Unit {0}
NextPlacedEdge row [] (Some v) t = ⊥
NextPlacedEdge row (e ∷ es) None t = ⊥
NextPlacedEdge row (e ∷ es) (Some v) t =
    (drop v.0 row ≡ write_edges (e ∷ es)) × EdgeIs v.1 e × PlacedEdgesAre row es t
