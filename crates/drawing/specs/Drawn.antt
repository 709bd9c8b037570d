-- What a drawing that was read gives, and what a row is drawn as.
use Rattle.std.specs.Prelude.{◌≡◌, ℕ, List, length}
use Rattle.automata.specs.Automata.{Automaton}
use Rattle.automata.specs.Rows.{Reads}
use Rattle.drawing.specs.Sheets.{sheet_of}

-- the row is the writing of an automaton, and there is a name for each of its clocks and locations
pub record Draws (row : List ℕ) (clocks positions : ℕ) : Type 0 where
  pub drawn : Automaton
  pub reads : Reads row drawn
  pub clock-names : clocks ≡ drawn.clocks
  pub names_of_positions : positions ≡ length drawn.invariants

-- the row is the writing of an automaton, and the text is its drawing
pub record DrawnAs (row text : List ℕ) : Type 0 where
  pub drawn : Automaton
  pub reads : Reads row drawn
  pub spelt : text ≡ sheet_of drawn
