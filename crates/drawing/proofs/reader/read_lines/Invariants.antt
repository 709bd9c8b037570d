use Rattle.std.proofs.Common.{◌≡◌, ◌+◌}
use Rattle.drawing.specs.Sizes.{parts_size}
use Rattle.drawing.proofs.reader.read_lines.Given as goal

abbrev pub invariant-loop-index : goal.invariant-loop-index
invariant-loop-index l = 2 + l.room.left + parts_size l.clockwork ≡ 16384
