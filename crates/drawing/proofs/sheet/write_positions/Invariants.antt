use Rattle.std.proofs.Common.{string_bytes}
use Rattle.drawing.proofs.Lines.{Left}
use Rattle.drawing.proofs.sheet.write_positions.Given as goal

abbrev pub invariant-loop-number : goal.invariant-loop-number
invariant-loop-number l = Left (string_bytes l.initial.sheet) l.positions l.number-counter (string_bytes l.sheet)
