-- A square is filled in place by place, row by row.
use Rattle.std.proofs.Common.{◌≡◌, ℕ, ◌+◌, ◌*◌, ◌/◌, ◌%◌, ◌<◌, List, get_or, ◌∙◌, ap₂, arith}
use Rattle.cells.specs.declared.values.Region.{Region}
use Rattle.squares.specs.declared.bounds.Bound.{Bound}
use Rattle.squares.specs.declared.bounds.Bound.TheVariants.{Unbounded}
use Rattle.squares.specs.Entries.{bound_at}

-- the entry in row i and column j
abbrev pub Filled : ℕ → Region → List Bound → ℕ → ℕ → Type 0
Filled top K bounds i j = get_or bounds (9 * i + j) Unbounded ≡ bound_at top K i j

-- the place of an entry tells its row and its column
pub filled_by_places : (top : ℕ) (K : Region) (bounds : List Bound)
    → ((place : ℕ) → place < 81 → get_or bounds place Unbounded ≡ bound_at top K (place / 9) (place % 9))
    → (i j : ℕ)
    → i < 9
    → j < 9
    → Filled top K bounds i j
filled_by_places top K bounds places i j h g =
    let row : (9 * i + j) / 9 ≡ i = omega arith in
    let column : (9 * i + j) % 9 ≡ j = omega arith in
    places (9 * i + j) (omega arith) ∙ ap₂ (bound_at top K) row column
