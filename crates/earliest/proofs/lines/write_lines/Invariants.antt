use Rattle.std.proofs.Common.{ℕ, List, map, string_bytes}
use Rattle.earliest.specs.Explored.{ExploredIn, ToldBy}
use Rattle.earliest.specs.Listed.{Listed}
use Rattle.earliest.proofs.lines.write_lines.Given as goal

abbrev pub invariant-loop-position : goal.invariant-loop-position
invariant-loop-position l =
    (row : List ℕ) (lent : ℕ)
    → ExploredIn row l.kinds lent l.explored
    → Listed (ToldBy row l.kinds lent l.explored) l.kinds l.width (map string_bytes l.names) l.position (string_bytes l.text)
