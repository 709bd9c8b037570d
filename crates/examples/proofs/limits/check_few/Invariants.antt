-- What is tried so far is counted.
use Rattle.examples.specs.Trying.{Grew}
use Rattle.examples.proofs.limits.check_few.Given as goal

abbrev pub invariant-loop-position : goal.invariant-loop-position
invariant-loop-position l = Grew l.position-index l.initial.report.tally l.report.tally
