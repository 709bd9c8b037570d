-- What is read of a text.
use Rattle.automata.specs.Automata as automata
use Rattle.automata.specs.Rows.{Reads}
use Rattle.drawing.specs.declared.Drawing.{Drawing}

-- the row is a clockwork's
abbrev pub IsClockwork : Drawing → Type 0
IsClockwork d = (a : automata.Automaton) × Reads d.row.items a
