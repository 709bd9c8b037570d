-- Views, words and parts that are those of an automaton stand for it.
use Rattle.std.specs.Prelude.{◌≡◌, ℕ, List}
use Rattle.automata.specs.Automata as automata
use Rattle.automata.specs.Rows.{write_constraints}
use Rattle.rows.specs.declared.edges.Edge.{Edge}
use Rattle.rows.specs.declared.views.Automaton.{Automaton}
use Rattle.rows.specs.EdgeParts.{EdgeIs}
use Rattle.rows.specs.Values.{constraints_value, edge_value}
use Rattle.rows.specs.Views.{Views, automaton_value}

-- a view is one of the automaton that it stands for, and of no other; so are words and edges
pub record ValuesStand : Type 0 where
  pub views : (v : Automaton) → Views v (automaton_value v)
  pub automaton : (v : Automaton) (a : automata.Automaton) → Views v a → a ≡ automaton_value v
  pub constraints : (ws : List ℕ) (cs : List automata.Constraint) → ws ≡ write_constraints cs → constraints_value ws ≡ cs
  pub edge : (v : Edge) (e : automata.Edge) → EdgeIs v e → edge_value v ≡ e
