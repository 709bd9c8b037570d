use Rattle.std.proofs.Common.{sym, rules}
use Rattle.clockworks.proofs.Writing.{adds_more, adds_same}
use Rattle.drawing.proofs.Lines.{tests_first}
use Rattle.drawing.proofs.sheet.write_tests.Goals as goal

pub returns : goal.returns
returns c = adds_same (sym (tests_first _ _ _ _ (search rules))) (adds_more c.in_ok-write_test.ensures c.in_ok-write_all.ensures)
