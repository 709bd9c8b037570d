-- What the bound between two cells says of the differences of points, case by case.
use Rattle.std.proofs.Common.{◌≡◌, ℕ, suc, ◌+◌, ◌*◌, ◌/◌, ◌<◌, ◌≤◌, true, false, not, eqb, ◌⊎◌, ◌↔◌, ℤ, pos, negsuc, ◌+ℤ◌, ◌-ℤ◌, refl, ap, inl, inr, arith, le-ltb, lt-ltb, eq-eqb, ne_eqb}
use Rattle.std.proofs.lemmas.Int.{ints}
use Rattle.regions.proofs.Tests.{ltb_cases}
use Rattle.cells.specs.declared.values.Cell.{Cell}
use Rattle.squares.specs.declared.bounds.Bound.TheVariants.{Unbounded, UpTo}
use Rattle.squares.specs.Differences.{KeepsOver}
use Rattle.squares.specs.Entries.{one_if, between}

-- a bound by a difference of naturals
pub at_most_by : (d x y a b : ℕ) (z : ℤ)
    → z +ℤ pos b ≡ pos a
    → KeepsOver d x y (UpTo z false) ↔ (x + d * b ≤ y + d * a)
at_most_by d x y a b (pos m) e =
    let f : m + b ≡ a = omega (arith, ints) in
    let g : d * (m + b) ≡ d * a = ap (λ (k : ℕ). d * k) f in (λ h. omega arith, λ h. omega arith)
at_most_by d x y a b (negsuc m) e =
    let f : a + suc m ≡ b = omega (arith, ints) in
    let g : d * (a + suc m) ≡ d * b = ap (λ (k : ℕ). d * k) f in (λ h. omega arith, λ h. omega arith)

pub below_by : (d x y a b : ℕ) (z : ℤ)
    → z +ℤ pos b ≡ pos a
    → KeepsOver d x y (UpTo z true) ↔ (x + d * b < y + d * a)
below_by d x y a b (pos m) e =
    let f : m + b ≡ a = omega (arith, ints) in
    let g : d * (m + b) ≡ d * a = ap (λ (k : ℕ). d * k) f in (λ h. omega arith, λ h. omega arith)
below_by d x y a b (negsuc m) e =
    let f : a + suc m ≡ b = omega (arith, ints) in
    let g : d * (a + suc m) ≡ d * b = ap (λ (k : ℕ). d * k) f in (λ h. omega arith, λ h. omega arith)

pub at_most_over : (d x y a b : ℕ) → KeepsOver d x y (UpTo (pos a -ℤ pos b) false) ↔ (x + d * b ≤ y + d * a)
at_most_over d x y a b = at_most_by d x y a b (pos a -ℤ pos b) (omega (arith, ints))

pub below_over : (d x y a b : ℕ) → KeepsOver d x y (UpTo (pos a -ℤ pos b) true) ↔ (x + d * b < y + d * a)
below_over d x y a b = below_by d x y a b (pos a -ℤ pos b) (omega (arith, ints))

-- one more, or not
pub one_if-cases : (m n : ℕ) → ((m < n) × (one_if m n ≡ 1)) ⊎ ((n ≤ m) × (one_if m n ≡ 0))
one_if-cases m n = elim (ltb_cases m n) [ inl h ↦ inl (h.1, rw h.0 refl) | inr h ↦ inr (h.1, rw h.0 refl) ]

-- the bound, by where the clocks are
module _ (top : ℕ) (c e : Cell) where
  pub first_beyond : 2 * top < c.height → between top c e ≡ Unbounded
  first_beyond h = rw (lt-ltb (2 * top) c.height h) refl

  pub second_beyond : c.height ≤ 2 * top
      → 2 * top < e.height
      → between top c e ≡ UpTo (pos (c.height / 2 + one_if 0 c.rank) -ℤ pos top) true
  second_beyond h g = rw (le-ltb (2 * top) c.height h, lt-ltb (2 * top) e.height g) refl

  pub none_beyond : c.height ≤ 2 * top
      → e.height ≤ 2 * top
      → between top c e
      ≡ UpTo (pos (c.height / 2 + one_if e.rank c.rank) -ℤ pos (e.height / 2)) (not (eqb c.rank e.rank))
  none_beyond h g = rw (le-ltb (2 * top) c.height h, le-ltb (2 * top) e.height g) refl

-- and what it says of x d-ths less y d-ths
module _ (top d x y : ℕ) (c e : Cell) where
  pub keeps_first_beyond : 2 * top < c.height → KeepsOver d x y (between top c e)
  keeps_first_beyond h = rw (first_beyond top c e h) tt

  pub keeps_second_beyond : c.height ≤ 2 * top
      → 2 * top < e.height
      → KeepsOver d x y (between top c e) ↔ (x + d * top < y + d * (c.height / 2 + one_if 0 c.rank))
  keeps_second_beyond h g = rw (second_beyond top c e h g) (below_over d x y (c.height / 2 + one_if 0 c.rank) top)

  module _ (inside : c.height ≤ 2 * top) (inside' : e.height ≤ 2 * top) where
    pub keeps_equal : c.rank ≡ e.rank
        → KeepsOver d x y (between top c e) ↔ (x + d * (e.height / 2) ≤ y + d * (c.height / 2))
    keeps_equal s =
        rw
        (none_beyond top c e inside inside', eq-eqb c.rank e.rank s, le-ltb e.rank c.rank (omega arith))
        (let iff = at_most_over d x y (c.height / 2 + 0) (e.height / 2) in (
          (λ h. omega (arith, iff.0 h)),
          (λ h. iff.1 (omega arith)),
        ))

    pub keeps_less : c.rank < e.rank
        → KeepsOver d x y (between top c e) ↔ (x + d * (e.height / 2) < y + d * (c.height / 2))
    keeps_less s =
        rw (
          none_beyond top c e inside inside',
          ne_eqb c.rank e.rank (λ f. omega arith),
          le-ltb e.rank c.rank (omega arith),
        )
        (let iff = below_over d x y (c.height / 2 + 0) (e.height / 2) in (
          (λ h. omega (arith, iff.0 h)),
          (λ h. iff.1 (omega arith)),
        ))

    pub keeps_greater : e.rank < c.rank
        → KeepsOver d x y (between top c e) ↔ (x + d * (e.height / 2) < y + d * (c.height / 2) + d)
    keeps_greater s =
        rw (
          none_beyond top c e inside inside',
          ne_eqb c.rank e.rank (λ f. omega arith),
          lt-ltb e.rank c.rank s,
        )
        (let iff = below_over d x y (c.height / 2 + 1) (e.height / 2) in (
          (λ h. omega (arith, iff.0 h)),
          (λ h. iff.1 (omega arith)),
        ))
