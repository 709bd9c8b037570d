-- The clocks before the turn have gone on, and the others have not.
use Rattle.std.proofs.Common.{◌≡◌, ℕ, ◌+◌, ◌<◌, ◌≤◌, length, get_or}
use Rattle.replay.proofs.changes.waited.Given as goal

abbrev pub invariant-loop-clock : goal.invariant-loop-clock
invariant-loop-clock l =
    (length l.clock-items ≡ 8)
    × ((i : ℕ) → i < l.clock-index → get_or l.clock-items i 0 ≡ get_or l.moment.clocks i 0 + l.delay)
    × ((i : ℕ) → l.clock-index ≤ i → get_or l.clock-items i 0 ≡ get_or l.moment.clocks i 0)
