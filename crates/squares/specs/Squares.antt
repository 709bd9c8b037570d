-- Squares of bounds: the bound on each difference, and when none follows more sharply from two others.
use Rattle.std.specs.Prelude.{ℕ, ◌+◌, ◌*◌, ◌≤◌, slice_index_or}
use Rattle.squares.specs.declared.bounds.Bound.{Bound}
use Rattle.squares.specs.declared.bounds.Bound.TheVariants.{Unbounded}
use Rattle.squares.specs.declared.squares.Square.{Square}
use Rattle.squares.specs.Bounds.{sum, Sharper}

-- the bound on the value at index i less that at index j
abbrev pub entry : Square → ℕ → ℕ → Bound
entry q i j = slice_index_or q.bounds (9 * i + j) Unbounded

-- the bound on i less j follows more sharply by way of no index; none of a row does
abbrev pub SharpestAt : ℕ → Square → ℕ → ℕ → Type 0
SharpestAt n q i j = (k : ℕ) → k ≤ n → Sharper (sum (entry q i k) (entry q k j)) (entry q i j) → ⊥

abbrev pub SharpestRow : ℕ → Square → ℕ → Type 0
SharpestRow n q i = (j : ℕ) → j ≤ n → SharpestAt n q i j

-- the square has room for n clocks, and no bound on them follows more sharply from two others
pub record Tight (n : ℕ) (q : Square) : Type 0 where
  pub room : n ≤ 8
  pub sharpest : (i j k : ℕ) → i ≤ n → j ≤ n → k ≤ n → Sharper (sum (entry q i k) (entry q k j)) (entry q i j) → ⊥
