-- Each word so far is the one for its place.
use Rattle.std.proofs.Common.{◌≡◌, ◌<◌, ℕ, get_or, length}
use Rattle.examples.proofs.limits.fill.Given as goal

abbrev pub invariant-loop-place : goal.invariant-loop-place
invariant-loop-place g l =
    (length l.work ≡ length l.initial.work)
    × ((j : ℕ) → j < l.place → goal.F-post g l.word j (get_or l.work j 0))
