-- So far as many calls as turns gave an end.
use Rattle.rows.specs.Reading.{Repeats}
use Rattle.rows.proofs.reader.check_each.Given as goal

abbrev pub invariant-loop : goal.invariant-loop
invariant-loop g l = Repeats (goal.F-post g l.check) l.counter l.fn.from l.next
