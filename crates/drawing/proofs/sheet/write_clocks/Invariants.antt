use Rattle.std.proofs.Common.{string_bytes}
use Rattle.clockworks.specs.Meaning.{Adds}
use Rattle.drawing.specs.Sheets.{first_clocks}
use Rattle.drawing.proofs.sheet.write_clocks.Given as goal

abbrev pub invariant-loop-clock : goal.invariant-loop-clock
invariant-loop-clock l = Adds (string_bytes l.initial.sheet) (first_clocks l.clock-counter) (string_bytes l.sheet)
