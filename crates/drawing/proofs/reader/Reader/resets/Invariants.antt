use Rattle.std.proofs.Common.{◌≡◌, ◌+◌, vec_len}
use Rattle.drawing.proofs.reader.Reader.resets.Given as goal

abbrev pub invariant-loop-resets : goal.invariant-loop-resets
invariant-loop-resets l = l.self.room.left + vec_len l.resets ≡ l.fn.self.room.left

abbrev pub decreases-loop-resets : goal.decreases-loop-resets
decreases-loop-resets l = l.self.room.left
