-- Dividing by the greatest common divisor leaves none.
use Rattle.std.proofs.Common.{arith}
use Rattle.replay.proofs.Divisors.{in_lowest_terms}
use Rattle.replay.proofs.fractions.Fraction.lowest.Goals as goal

pub returns : goal.returns
returns c =
    in_lowest_terms c.args.numerator c.args.denominator c.greatest_common_divisor-divisor.result
    (omega arith) c.greatest_common_divisor-divisor.ensures
