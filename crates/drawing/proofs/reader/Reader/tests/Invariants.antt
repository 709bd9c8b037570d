use Rattle.std.proofs.Common.{◌≡◌, ◌+◌, ◌*◌, vec_len}
use Rattle.drawing.proofs.reader.Reader.tests.Given as goal

abbrev pub invariant-loop-tests : goal.invariant-loop-tests
invariant-loop-tests l = l.self.room.left + 3 * vec_len l.tests ≡ l.initial.self.room.left

abbrev pub decreases-loop-tests : goal.decreases-loop-tests
decreases-loop-tests l = l.self.room.left
