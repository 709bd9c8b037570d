-- The region in which a run ends.
use Rattle.std.specs.Prelude.{◌≡◌, ℕ, suc, ◌*◌, ◌/◌, ◌%◌, ◌<◌, ◌≤◌, cond, List, length, nat_le}
use Rattle.std.specs.List.{Contains}
use Rattle.regions.specs.Cells as theory
use Rattle.regions.specs.Points.{Point, point_height, Shows}
use Rattle.cells.specs.declared.values.Cell.{Cell}
use Rattle.replay.specs.declared.moments.Moment.{Moment}
use Rattle.replay.specs.Meaning.{clock_of}
use Rattle.realise.specs.Places.{place_among}

-- the moment as a point, over the denominator d
abbrev pub point_at : ℕ → Moment → Point
point_at d m =
    record {
      location = m.location.0;
      age = λ i. clock_of m i / d;
      rest = λ i. clock_of m i % d;
      whole = m.time / d;
      part = m.time % d;
    }

-- the height of a clock of v d-ths
abbrev pub height_of : ℕ → ℕ → ℕ → ℕ
height_of top d v = point_height top (v / d) (v % d)

-- the cell of a clock of v d-ths, by what is left over of all clocks that are not beyond the top
abbrev pub told_cell : ℕ → ℕ → List ℕ → ℕ → Cell
told_cell top d rests v =
    record {
      height = height_of top d v;
      rank = cond (nat_le (height_of top d v) (2 * top)) (place_among rests (v % d)) 0;
    }

-- what is left over of the first k clocks where they are not beyond the top, and 0
pub record RestsOf (k top : ℕ) (p : Point) (rests : List ℕ) : Type 0 where
  pub none : Contains rests 0
  pub all : (i : ℕ) → i < k → point_height top (p.age i) (p.rest i) ≤ 2 * top → Contains rests (p.rest i)
  pub only : (x : ℕ)
      → Contains rests x
      → 0 < x
      → (i : ℕ) × (i < k) × (point_height top (p.age i) (p.rest i) ≤ 2 * top) × (p.rest i ≡ x)
  pub size : length rests ≤ suc k

-- the point shows the region, whose ranks leave out none
pub record ShownBy (n top : ℕ) (p : Point) (K : theory.Region) : Type 0 where
  pub shows : Shows n top p K
  pub normal : theory.Normal n top K
