-- What is tried so far is counted.
use Rattle.std.proofs.Common.{◌*◌}
use Rattle.examples.specs.Trying.{Grew}
use Rattle.examples.proofs.limits.check_places.Given as goal

abbrev pub invariant-loop-position : goal.invariant-loop-position
invariant-loop-position l = Grew (3 * l.position-index) l.initial.tester.report.tally l.tester.report.tally

abbrev pub invariant-loop-kinds : goal.invariant-loop-kinds
invariant-loop-kinds l = Grew l.kinds-index l.initial.tester.report.tally l.tester.report.tally
