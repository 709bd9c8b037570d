use Rattle.std.proofs.Common.{◌≡◌, map, string_bytes}
use Rattle.earliest.specs.Listed.{widest}
use Rattle.earliest.proofs.lines.column_width.Given as goal

abbrev pub invariant-loop-position : goal.invariant-loop-position
invariant-loop-position l = l.width ≡ widest (map string_bytes l.names) l.position
