-- What is tried so far is counted.
use Rattle.std.proofs.Common.{◌*◌}
use Rattle.examples.specs.Trying.{Grew}
use Rattle.examples.proofs.limits.check_twice.Given as goal

abbrev pub invariant-loop-position : goal.invariant-loop-position
invariant-loop-position l = Grew (2 * l.position) l.initial.tester.report.tally l.tester.report.tally

abbrev pub invariant-loop-what : goal.invariant-loop-what
invariant-loop-what l = Grew l.what-index l.initial.tester.report.tally l.tester.report.tally
