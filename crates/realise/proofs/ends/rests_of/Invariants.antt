use Rattle.realise.specs.Ends.{point_at, RestsOf}
use Rattle.realise.proofs.ends.rests_of.Given as goal

abbrev pub invariant-loop-value : goal.invariant-loop-value
invariant-loop-value l = RestsOf l.value-index l.frame.top (point_at l.denominator l.end) l.rests.items
