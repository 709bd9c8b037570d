-- A square that is filled in with the bounds between a region's cells is the square of the region.
use Rattle.std.proofs.Common.{ℕ, ◌<◌, ◌≤◌, List, arith}
use Rattle.cells.specs.declared.values.Region.{Region}
use Rattle.cells.specs.Meaning.{cell_of, region_value}
use Rattle.squares.specs.declared.bounds.Bound.{Bound}
use Rattle.squares.specs.declared.squares.Square.{Square}
use Rattle.squares.specs.Entries.{Consistent}
use Rattle.squares.specs.Shown.{SquareOf}
use Rattle.squares.proofs.Filling.{Filled}
use Rattle.squares.proofs.PointsWithin.{Of, point_within}
use Rattle.squares.proofs.Sharpest.{square_tight}
use Rattle.squares.proofs.StatesWithin.{states_by_points}

pub square_of : (n top : ℕ) (K : Region) (bounds : List Bound)
    → n ≤ 8
    → ((i : ℕ) → i < n → Consistent top (cell_of K i))
    → ((i j : ℕ) → i < 9 → j < 9 → Filled top K bounds i j)
    → SquareOf n top (region_value K) (record { bounds = bounds })
square_of n top K bounds room consistent filled =
    let q : Square = record { bounds = bounds } in
    let of : Of n top K q =
    record { consistent = consistent; bounds = λ i j h g. filled i j (omega arith) (omega arith) } in
    record {
      states = states_by_points n top (region_value K) q (λ d p positive on. point_within n d top p K q of positive on);
      points = λ d p positive on. point_within n d top p K q of positive on;
      tight = square_tight n top K q room of;
    }
