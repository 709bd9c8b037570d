-- The bell's row, its run to two and a half, and the whole part of that time.
use mathlib.Core.Path.{refl}
use mathlib.Core.List.{[], ◌∷◌}
use Prim.Native.Nat.{◌*◌, ◌≤◌, ◌<◌}
use native.Mathlib.Omega.{arith}
use Rattle.automata.specs.Times.{zero_time}
use Rattle.automata.specs.Runs.{Reached, start, next, delay, take}
use Rattle.automata.specs.Bell.{bell, two_and_a_half, BellStruck}

waited : Reached bell (record { location = 0; valuation = two_and_a_half ∷ []; time = two_and_a_half })
waited =
    next (start (omega arith, tt)) (delay two_and_a_half (let h : 5 ≤ 3 * 2 = omega arith in h, tt))

struck : Reached bell (record { location = 1; valuation = zero_time ∷ []; time = two_and_a_half })
struck = next waited (take 0 _ refl refl (let h : 2 * 2 < 5 = omega arith in h, tt) tt)

pub bell-struck : BellStruck
bell-struck = record { row = record { written = refl; sound = tt; short = omega arith }; struck = struck; whole_part = refl }
