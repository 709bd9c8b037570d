use Rattle.drawing.proofs.Cuts.{left}
use Rattle.drawing.proofs.explain.found_in_line.Given as goal

abbrev pub decreases-loop-cursor : goal.decreases-loop-cursor
decreases-loop-cursor l = left l.cursor.word l.cursor.rest.now
