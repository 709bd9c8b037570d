use Rattle.std.proofs.Common.{◌-◌, vec_len}
use Rattle.drawing.proofs.names.declare_clocks.Given as goal

abbrev pub decreases-loop-cursor : goal.decreases-loop-cursor
decreases-loop-cursor l = 9 - vec_len l.clocks
