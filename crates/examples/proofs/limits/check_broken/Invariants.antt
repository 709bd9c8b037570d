-- What is tried so far is counted.
use Rattle.examples.specs.Trying.{Grew}
use Rattle.examples.proofs.limits.check_broken.Given as goal

abbrev pub invariant-loop-place : goal.invariant-loop-place
invariant-loop-place l = Grew l.place-counter l.initial.tester.report.tally l.tester.report.tally
