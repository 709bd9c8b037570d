-- Each answer so far is tried.
use Rattle.examples.specs.Trying.{Grew}
use Rattle.examples.proofs.cases.expect_each.Given as goal

abbrev pub invariant-loop-position : goal.invariant-loop-position
invariant-loop-position g l =
    goal.F-IsAlwaysCallable g l.answer × Grew l.position l.initial.report.tally l.report.tally
