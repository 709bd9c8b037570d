-- The automaton that a row is the writing of, and where its parts stand.
use Rattle.std.specs.Prelude.{◌≡◌, ℕ, List, [], length, drop}
use Rattle.std.proofs.Math.Option.{Option, some, none}
use Rattle.automata.specs.Automata.{Automaton}
use Rattle.automata.specs.Rows.{Reads, write_edges}
use Rattle.rows.specs.Parse.{parse}

-- what was read, or an automaton with nothing in it
abbrev pub or_nothing : Option Automaton → Automaton
or_nothing none = record { clocks = 0; invariants = []; edges = [] }
or_nothing (some a) = a

unfoldable pub value_of : List ℕ → Automaton
value_of row = or_nothing (parse row)

-- the row is the writing of the automaton, with so many clocks and locations, and its edges from that word on
pub record Viewed (row : List ℕ) (clocks locations edges : ℕ) (a : Automaton) : Type 0 where
  pub reads : Reads row a
  pub clocks_are : clocks ≡ a.clocks
  pub locations_are : locations ≡ length a.invariants
  pub edges_are : drop edges row ≡ write_edges a.edges
