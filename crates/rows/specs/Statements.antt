-- The theorems about reading rows.
use Rattle.std.specs.Prelude.{◌≡◌, ℕ, List}
use Rattle.std.proofs.Math.Option.{some}
use Rattle.automata.specs.Automata.{Automaton}
use Rattle.automata.specs.Rows.{Reads}
use Rattle.automata.specs.Statements.{OneAutomaton}
use Rattle.rows.specs.Parse.{parse}

-- what is read is what was written; what was written is read; and so a row is the writing of at most one automaton
pub record RowsRound : Type 0 where
  pub sound : (row : List ℕ) (a : Automaton) → parse row ≡ some a → Reads row a
  pub complete : (row : List ℕ) (a : Automaton) → Reads row a → parse row ≡ some a
  pub one : OneAutomaton
