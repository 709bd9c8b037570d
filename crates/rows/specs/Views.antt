-- When a value of the code is a view of an automaton.
use Rattle.std.specs.Prelude.{◌≡◌, ℕ, List, [], ◌∷◌, ◌++◌, length, drop, Some, None, Option}
use Rattle.automata.specs.Automata as automata
use Rattle.automata.specs.Rows.{Reads, write_invariants, write_edges}
use Rattle.std.proofs.Math.Option as option
use Rattle.automata.specs.Rows.{write_constraints}
use Rattle.rows.specs.declared.constraints.Conjunction.{Conjunction}
use Rattle.rows.specs.declared.edges.Edge.{Edge}
use Rattle.rows.specs.declared.views.Automaton.{Automaton}
use Rattle.rows.specs.declared.views.Invariants.{Invariants}
use Rattle.rows.specs.declared.views.Edges.{Edges}
use Rattle.rows.specs.EdgeParts.{EdgeIs}
use Rattle.rows.specs.Values.{conjunction_value}
use Rattle.rows.specs.Viewed.{value_of}

-- a view with these parts
pub record Made (row : List ℕ) (clocks locations edges : ℕ) (v : Automaton) : Type 0 where
  pub row_is : v.row.now ≡ row
  pub clocks_are : v.clocks ≡ clocks
  pub locations_are : v.locations ≡ locations
  pub edges_at : v.edges ≡ edges

-- the value is the automaton, read from its row
pub record Views (v : Automaton) (a : automata.Automaton) : Type 0 where
  pub reads : Reads v.row.now a
  pub clocks : v.clocks ≡ a.clocks
  pub locations : v.locations ≡ length a.invariants
  pub edges : drop v.edges v.row.now ≡ write_edges a.edges

-- the automaton that the row of the view is the writing of
abbrev pub automaton_value : Automaton → automata.Automaton
automaton_value v = value_of v.row.now

-- the answer is the invariant of a location, or there is none
abbrev pub InvariantIs : option.Option (List automata.Constraint) → Option Conjunction → Type 0
InvariantIs o None = o ≡ option.none
InvariantIs o (Some c) = (o ≡ option.some (conjunction_value c)) × (c.words.now ≡ write_constraints (conjunction_value c))

-- the words from there on are the writing of the invariants, with others behind them
pub record InvariantsAre (css : List (List automata.Constraint)) (v : Invariants) : Type 0 where
  pub rest : List ℕ
  pub words : drop v.placed.at v.placed.row.now ≡ write_invariants css ++ rest
  pub left : v.placed.left ≡ length css

-- the first of the invariants, and the others behind it
abbrev pub NextInvariant : List (List automata.Constraint) → Option Conjunction → Invariants → Type 0
NextInvariant [] None t = Unit {0}
NextInvariant [] (Some c) t = ⊥
NextInvariant (cs ∷ css) None t = ⊥
NextInvariant (cs ∷ css) (Some c) t = (c.words.now ≡ write_constraints cs) × InvariantsAre css t

-- the words from there on are the writing of the edges
abbrev pub EdgesAre : List automata.Edge → Edges → Type 0
EdgesAre es v = drop v.placed.at v.placed.row.now ≡ write_edges es

-- the first of the edges, and the others behind it
abbrev pub NextEdge : List automata.Edge → Option Edge → Edges → Type 0
NextEdge [] None t = Unit {0}
NextEdge [] (Some v) t = ⊥
NextEdge (e ∷ es) None t = ⊥
NextEdge (e ∷ es) (Some v) t = EdgeIs v e × EdgesAre es t
