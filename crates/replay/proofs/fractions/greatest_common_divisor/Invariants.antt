-- What divides both is what divides both numbers at the start.
use Rattle.std.proofs.Common.{ℕ, ◌↔◌}
use Rattle.replay.proofs.Divisors.{Common}
use Rattle.replay.proofs.fractions.greatest_common_divisor.Given as goal

abbrev pub invariant-loop-other : goal.invariant-loop-other
invariant-loop-other l = (k : ℕ) → Common k l.divisor l.other ↔ Common k l.a l.b

abbrev pub decreases-loop-other : goal.decreases-loop-other
decreases-loop-other l = l.other
