-- What is tried so far is counted.
use Rattle.examples.specs.Trying.{Grew}
use Rattle.examples.proofs.limits.check_damage.Given as goal

abbrev pub invariant-loop-position : goal.invariant-loop-position
invariant-loop-position g l = Grew l.position-index l.initial.tester.report.tally l.tester.report.tally
