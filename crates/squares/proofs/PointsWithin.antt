-- A point is within the square of a region just where it shows the region.
use Rattle.std.proofs.Common.{◌≡◌, ℕ, zero, suc, ◌+◌, ◌*◌, ◌<◌, ◌≤◌, ◌↔◌, refl, inl, inr, arith, ne_eqb}
use Rattle.std.proofs.lemmas.Bool.Decides.{eqb_tells}
use Rattle.regions.specs.Points.{Point, On, Shows}
use Rattle.cells.specs.declared.values.Region.{Region}
use Rattle.cells.specs.Meaning.{cell_of, region_value}
use Rattle.squares.specs.declared.squares.Square.{Square}
use Rattle.squares.specs.Squares.{entry}
use Rattle.squares.specs.Differences.{KeepsOver, age_at, rest_at, WithinOver}
use Rattle.squares.specs.Entries.{Consistent, cell_at, between, bound_at}
use Rattle.squares.proofs.Seen.{Seen, Ordered, nought_seen, seen_keeps, keeps_order, keeps_seen}

positive_by : {x y : ℕ} → (y ≡ 0 → x ≡ 0) → 0 < x → 0 < y
positive_by {y = zero} f l = absurd (omega (arith, f refl))
positive_by {y = suc y} f l = omega arith

-- the square has the bounds of the region's cells, each of which a clock can have
pub record Of (n top : ℕ) (K : Region) (q : Square) : Type 0 where
  pub consistent : (i : ℕ) → i < n → Consistent top (cell_of K i)
  pub bounds : (i j : ℕ) → i ≤ n → j ≤ n → entry q i j ≡ bound_at top K i j

pub off_diagonal : (n top : ℕ) (K : Region) (q : Square) (i j : ℕ)
    → Of n top K q
    → i ≤ n
    → j ≤ n
    → (i ≡ j → ⊥)
    → entry q i j ≡ between top (cell_at K i) (cell_at K j)
off_diagonal n top K q i j of h g ne = rw (of.bounds i j h g, ne_eqb i j ne) refl

module _ (n d top : ℕ) (p : Point) (K : Region) (q : Square) (of : Of n top K q) (positive : 0 < d) (on : On n d p) where
  rest_below : (i : ℕ) → i ≤ n → rest_at p i < d
  rest_below zero h = positive
  rest_below (suc i) h = on.rest_below i h

  -- within the bounds
  module _ (within : WithinOver n d p q) where
    kept : (i j : ℕ)
        → i ≤ n
        → j ≤ n
        → (i ≡ j → ⊥)
        → KeepsOver
        d
        (d * age_at p i + rest_at p i)
        (d * age_at p j + rest_at p j)
        (between top (cell_at K i) (cell_at K j))
    kept i j h g ne = rw (off_diagonal n top K q i j of h g ne) at (within i j h g)

    seen : (i : ℕ) → i < n → Seen top (cell_of K i) (p.age i) (p.rest i)
    seen i h =
        keeps_seen
        top
        d
        (cell_of K i)
        (p.age i)
        (p.rest i)
        (on.rest_below i h)
        (of.consistent i h)
        (kept (suc i) 0 h (omega arith) (λ e. omega arith))
        (kept 0 (suc i) (omega arith) h (λ e. omega arith))

    ordered : (i j : ℕ) → i < n → j < n → Ordered top (cell_of K i) (cell_of K j) (p.rest i) (p.rest j)
    ordered i j h g =
        elim (eqb_tells i j) [
          | inl same ↦ rw same.1 (λ a b. (λ l. absurd (omega arith), λ l. absurd (omega arith)))
          | inr other ↦
              keeps_order
              top
              d
              (cell_of K i)
              (cell_of K j)
              (p.age i)
              (p.rest i)
              (p.age j)
              (p.rest j)
              (on.rest_below i h)
              (on.rest_below j g)
              (seen i h)
              (seen j g)
              (kept (suc i) (suc j) h g (λ e. other.1 (omega arith)))
              (kept (suc j) (suc i) g h (λ e. other.1 (omega arith)))
        ]

  within_shows : p.location ≡ (region_value K).location → WithinOver n d p q → Shows n top p (region_value K)
  within_shows located within =
      record {
        location = located;
        height = λ i h. (seen within i h).height;
        zero_rank = λ i h. (seen within i h).zero_rank;
        order = ordered within;
      }

  -- and the reverse, by indices
  module _ (shows : Shows n top p (region_value K)) where
    seen_at : (i : ℕ) → i ≤ n → Seen top (cell_at K i) (age_at p i) (rest_at p i)
    seen_at zero h = nought_seen top
    seen_at (suc i) h = record { height = shows.height i h; zero_rank = shows.zero_rank i h }

    ordered_at : (i j : ℕ) → i ≤ n → j ≤ n → Ordered top (cell_at K i) (cell_at K j) (rest_at p i) (rest_at p j)
    ordered_at zero zero h g = λ a b. (λ l. l, λ l. l)
    ordered_at zero (suc j) h g = λ a b. let z = shows.zero_rank j g b in (
      λ l. positive_by z.1 l,
      λ l. positive_by z.0 l,
    )
    ordered_at (suc i) zero h g = λ a b. (λ l. absurd (omega arith), λ l. absurd (omega arith))
    ordered_at (suc i) (suc j) h g = shows.order i j h g

    shows_within : WithinOver n d p q
    shows_within i j h g =
        elim (eqb_tells i j) [
          | inl same ↦ rw (of.bounds i j h g, same.0, same.1) (omega arith)
          | inr other ↦
              rw
              (off_diagonal n top K q i j of h g other.1)
              (seen_keeps
              top
              d
              (cell_at K i)
              (cell_at K j)
              (age_at p i)
              (rest_at p i)
              (age_at p j)
              (rest_at p j)
              (rest_below i h)
              (rest_below j g)
              (seen_at i h)
              (seen_at j g)
              (ordered_at i j h g)
              (ordered_at j i g h))
        ]

  pub point_within : p.location ≡ (region_value K).location → WithinOver n d p q ↔ Shows n top p (region_value K)
  point_within located = (within_shows located, shows_within)
