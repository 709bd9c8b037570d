-- Numbers by their places among some numbers.
use Rattle.std.specs.Prelude.{ℕ, ◌≤◌, ◌↔◌, List, length, nat_lt}
use Rattle.std.specs.List.{Contains, count_by}

-- the place of a number: how many are less
abbrev pub place_among : List ℕ → ℕ → ℕ
place_among ns x = count_by (λ y. nat_lt y x) ns

-- the same numbers, and no more of them
pub record SameNumbers (given ns : List ℕ) : Type 0 where
  pub same : (x : ℕ) → Contains given x ↔ Contains ns x
  pub size : length ns ≤ length given
