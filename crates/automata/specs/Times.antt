-- Times: fractions from 0 up, kept as they come and not reduced.
use Rattle.std.specs.Prelude.{◌≡◌, ℕ, suc, ◌+◌, ◌*◌, ◌/◌, ◌%◌, ◌≤◌, ◌<◌}

-- the denominator is one more than the second number, so that it is never 0
pub record Time : Type 0 where
  pub numerator : ℕ
  pub denominator-1 : ℕ

abbrev pub denominator : Time → ℕ
denominator t = suc t.denominator-1

abbrev pub zero_time : Time
zero_time = record { numerator = 0; denominator-1 = 0 }

abbrev pub add : Time → Time → Time
add a b =
    record {
      numerator = a.numerator * denominator b + b.numerator * denominator a;
      denominator-1 = a.denominator-1 * b.denominator-1 + (a.denominator-1 + b.denominator-1);
    }

-- a time against a whole number
abbrev pub AtMost : Time → ℕ → Type 0
AtMost t n = t.numerator ≤ n * denominator t

abbrev pub Below : Time → ℕ → Type 0
Below t n = t.numerator < n * denominator t

abbrev pub AtLeast : Time → ℕ → Type 0
AtLeast t n = n * denominator t ≤ t.numerator

abbrev pub Above : Time → ℕ → Type 0
Above t n = n * denominator t < t.numerator

-- two times, by cross-multiplication
abbrev pub Same : Time → Time → Type 0
Same a b = a.numerator * denominator b ≡ b.numerator * denominator a

abbrev pub Less : Time → Time → Type 0
Less a b = a.numerator * denominator b < b.numerator * denominator a

-- the whole part, and what is left over
abbrev pub whole : Time → ℕ
whole t = t.numerator / denominator t

abbrev pub fraction : Time → Time
fraction t = record { numerator = t.numerator % denominator t; denominator-1 = t.denominator-1 }
