-- Once nothing is left over, the divisor is the greatest.
use Rattle.std.proofs.Common.{◌≡◌, ℕ, ◌↔◌, subst, arith}
use Rattle.replay.proofs.Divisors.{Common, euclid, greatest}
use Rattle.replay.proofs.fractions.greatest_common_divisor.Goals as goal

pub loop-other-preserved : goal.loop-other-preserved
loop-other-preserved c =
    λ k.
    let step = euclid k c.loop-other.divisor c.loop-other.other in
    let so_far = c.loop-other.invariant k in
    (λ h. so_far.0 (step.0 h), λ h. step.1 (so_far.1 h))

pub returns : goal.returns
returns c =
    let none : c.loop-other.other ≡ 0 = omega arith in
    greatest c.args.a c.args.b c.loop-other.divisor
    (subst
    (λ (z : ℕ). (k : ℕ) → Common k c.loop-other.divisor z ↔ Common k c.args.a c.args.b)
    none
    c.loop-other.invariant)
