-- When a state shows a region, and what is promised of the square of a region.
use Rattle.std.specs.Prelude.{◌≡◌, ℕ, ◌*◌, ◌<◌, ◌≤◌, ◌↔◌, length, Some, None, Option}
use Rattle.automata.specs.Times.{whole, fraction, Less}
use Rattle.automata.specs.Runs.{State}
use Rattle.automata.specs.Regions.{clock}
use Rattle.regions.specs.Cells.{Region}
use Rattle.regions.specs.Points.{Point, On, point_height, Shows}
use Rattle.squares.specs.declared.squares.Square.{Square}
use Rattle.squares.specs.Squares.{Tight}
use Rattle.squares.specs.Differences.{Within, WithinOver}

-- each clock has the height of its value, capped just above the top; and of the clocks that are not beyond it, what is left
-- over is nothing just where the rank is 0, and is in the order of the ranks
pub record ShowsRegion (n top : ℕ) (s : State) (K : Region) : Type 0 where
  pub location : s.location ≡ K.location
  pub height : (i : ℕ) → i < n → K.height i ≡ point_height top (whole (clock s i)) (fraction (clock s i)).numerator
  pub zero_rank : (i : ℕ) → i < n → K.height i ≤ 2 * top → (K.rank i ≡ 0) ↔ ((fraction (clock s i)).numerator ≡ 0)
  pub order : (i j : ℕ)
      → i < n
      → j < n
      → K.height i ≤ 2 * top
      → K.height j ≤ 2 * top
      → (K.rank i < K.rank j) ↔ Less (fraction (clock s i)) (fraction (clock s j))

-- a state at the region's location is within all bounds exactly if it shows the region, and so is a point of a grid; and no
-- bound follows more sharply from two others
pub record SquareOf (n top : ℕ) (K : Region) (q : Square) : Type 0 where
  pub states : (s : State)
      → length s.valuation ≡ n
      → s.location ≡ K.location
      → Within n s q ↔ ShowsRegion n top s K
  pub points : (d : ℕ) (p : Point)
      → 0 < d
      → On n d p
      → p.location ≡ K.location
      → WithinOver n d p q ↔ Shows n top p K
  pub tight : Tight n q

-- a square is refused only where there are too many clocks, the top is too high, or no state shows the region
abbrev pub Squared : ℕ → ℕ → Region → Option Square → Type 0
Squared n top K (Some q) = SquareOf n top K q
Squared n top K None =
    n ≤ 8 → top ≤ 10000 → (s : State) → length s.valuation ≡ n → ShowsRegion n top s K → ⊥
