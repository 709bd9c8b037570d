use Rattle.std.proofs.Common.{arith}
use Rattle.drawing.proofs.Sizes.{row_size}
use Rattle.drawing.proofs.reader.read_lines.Goals as goal

pub returns : goal.returns
returns c = omega (arith, row_size c.loop-index.clockwork, c.loop-index.invariant)
