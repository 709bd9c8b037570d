use Rattle.std.proofs.Common.{◌≤◌, vec_len}
use Rattle.drawing.proofs.names.declare_all.Given as goal

abbrev pub invariant-loop-index : goal.invariant-loop-index
invariant-loop-index l = (vec_len l.clocks ≤ 8) × (vec_len l.positions ≤ 256)
