-- The bounds that follow from two cells.
use Rattle.std.specs.Prelude.{◌≡◌, ℕ, zero, suc, ◌+◌, ◌*◌, ◌/◌, ◌%◌, ◌≤◌, true, false, cond, not, ◌↔◌, pos, ◌-ℤ◌, ◌==◌, nat_lt}
use Rattle.cells.specs.declared.values.Cell.{Cell}
use Rattle.cells.specs.declared.values.Region.{Region}
use Rattle.cells.specs.Meaning.{cell_of}
use Rattle.squares.specs.declared.bounds.Bound.{Bound}
use Rattle.squares.specs.declared.bounds.Bound.TheVariants.{Unbounded, UpTo}

-- a clock can have the cell: it is no higher than just above the top; and where it is not beyond, its rank is 0 just where
-- nothing is left over
abbrev pub Consistent : ℕ → Cell → Type 0
Consistent top c = (c.height ≤ 2 * top + 1) × (c.height ≤ 2 * top → (c.rank ≡ 0) ↔ (c.height % 2 ≡ 0))

-- the cell at an index; nought has the cell of a clock that is 0
abbrev pub cell_at : Region → ℕ → Cell
cell_at K zero = record { height = 0; rank = 0 }
cell_at K (suc i) = cell_of K i

-- 1 where m is less than n, and 0 where it is not
abbrev pub one_if : ℕ → ℕ → ℕ
one_if m n = cond (nat_lt m n) 1 0

-- a clock of the first cell less one of the second
abbrev pub between : ℕ → Cell → Cell → Bound
between top c e =
    cond
    (nat_lt (2 * top) c.height)
    Unbounded
    (cond
    (nat_lt (2 * top) e.height)
    (UpTo (pos (c.height / 2 + one_if 0 c.rank) -ℤ pos top) true)
    (UpTo (pos (c.height / 2 + one_if e.rank c.rank) -ℤ pos (e.height / 2)) (not (c.rank == e.rank))))

-- a clock less itself is 0
abbrev pub bound_at : ℕ → Region → ℕ → ℕ → Bound
bound_at top K i j = cond (i == j) (UpTo (pos 0) false) (between top (cell_at K i) (cell_at K j))
