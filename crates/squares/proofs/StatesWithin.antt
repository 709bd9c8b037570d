-- A state is within the square of a region just where it shows the region: by the point of a grid that it is.
use Rattle.std.proofs.Common.{◌≡◌, ℕ, zero, suc, ◌+◌, ◌*◌, ◌<◌, ◌≤◌, true, false, ◌↔◌, length, pos, negsuc, sym, ap, ◌∙◌, inl, inr, mul-le-mul_right, lt_of_mul-lt-mul_right, mul-lt-mul_of_pos_right, mul-pos, le_of_mul-le-mul_right, arith}
use Rattle.automata.specs.Times.{Time, denominator, zero_time, add, whole, fraction, Same, Less}
use Rattle.automata.specs.Runs.{State}
use Rattle.automata.specs.Regions.{clock}
use Rattle.regions.specs.Cells.{Region}
use Rattle.regions.specs.Points.{Point, On, Is, Reads, point_height, Shows}
use Rattle.regions.proofs.Heights.{height_cases}
use Rattle.regions.proofs.Grid.{point_of_state}
use Rattle.regions.proofs.Likeness.{whole-is_age, no_fraction, less_fraction}
use Rattle.squares.specs.declared.bounds.Bound.{Bound}
use Rattle.squares.specs.declared.bounds.Bound.TheVariants.{Unbounded, UpTo}
use Rattle.squares.specs.declared.squares.Square.{Square}
use Rattle.squares.specs.Squares.{entry}
use Rattle.squares.specs.Differences.{units, Keeps, value_at, Within, KeepsOver, age_at, rest_at, WithinOver}
use Rattle.squares.specs.Shown.{ShowsRegion}

-- numbers that are in proportion are in the same order
scaled_le : (k l a b x y : ℕ) → 0 < k → 0 < l → a * k ≡ x * l → b * k ≡ y * l → (a ≤ b) ↔ (x ≤ y)
scaled_le k l a b x y pk pl e f = (
  (λ h. le_of_mul-le-mul_right {k = l} (omega (arith, mul-le-mul_right k h)) pl),
  (λ h. le_of_mul-le-mul_right {k = k} (omega (arith, mul-le-mul_right l h)) pk),
)

scaled_lt : (k l a b x y : ℕ) → 0 < k → 0 < l → a * k ≡ x * l → b * k ≡ y * l → (a < b) ↔ (x < y)
scaled_lt k l a b x y pk pl e f = (
  (λ h. lt_of_mul-lt-mul_right l (omega (arith, mul-lt-mul_of_pos_right h pk))),
  (λ h. lt_of_mul-lt-mul_right k (omega (arith, mul-lt-mul_of_pos_right h pl))),
)

-- a bound on two times, over a denominator
module _ (d : ℕ) (v w : Time) (x y : ℕ) (positive : 0 < d) (is-v : Is d v x) (is-w : Is d w y) where
  left : (m : ℕ) → v.numerator * denominator (add w (units m)) * d ≡ x * (denominator v * denominator w)
  left m = omega (arith, ap (λ (z : ℕ). z * denominator w) is-v)

  right : (m : ℕ) → (add w (units m)).numerator * denominator v * d ≡ (y + d * m) * (denominator v * denominator w)
  right m = omega (arith, ap (λ (z : ℕ). z * denominator v) is-w)

  left' : (m : ℕ) → (add v (units m)).numerator * denominator w * d ≡ (x + d * m) * (denominator v * denominator w)
  left' m = omega (arith, ap (λ (z : ℕ). z * denominator w) is-v)

  right' : (m : ℕ) → w.numerator * denominator (add v (units m)) * d ≡ y * (denominator v * denominator w)
  right' m = omega (arith, ap (λ (z : ℕ). z * denominator v) is-w)

  denominators : 0 < denominator v * denominator w
  denominators = mul-pos {m = denominator v} {n = denominator w} (omega arith) (omega arith)

  pub keeps_over : (b : Bound) → Keeps v w b ↔ KeepsOver d x y b
  keeps_over Unbounded = (λ h. h, λ h. h)
  keeps_over (UpTo (pos m) false) =
      scaled_le
      d
      (denominator v * denominator w)
      (v.numerator * denominator (add w (units m)))
      ((add w (units m)).numerator * denominator v)
      x
      (y + d * m)
      positive
      denominators
      (left m)
      (right m)
  keeps_over (UpTo (pos m) true) =
      scaled_lt
      d
      (denominator v * denominator w)
      (v.numerator * denominator (add w (units m)))
      ((add w (units m)).numerator * denominator v)
      x
      (y + d * m)
      positive
      denominators
      (left m)
      (right m)
  keeps_over (UpTo (negsuc m) false) =
      scaled_le
      d
      (denominator v * denominator w)
      ((add v (units (suc m))).numerator * denominator w)
      (w.numerator * denominator (add v (units (suc m))))
      (x + d * suc m)
      y
      positive
      denominators
      (left' (suc m))
      (right' (suc m))
  keeps_over (UpTo (negsuc m) true) =
      scaled_lt
      d
      (denominator v * denominator w)
      ((add v (units (suc m))).numerator * denominator w)
      (w.numerator * denominator (add v (units (suc m))))
      (x + d * suc m)
      y
      positive
      denominators
      (left' (suc m))
      (right' (suc m))

-- the height is told by the whole part and by whether something is left over
same_height : (top g r r' : ℕ) → (r ≡ 0) ↔ (r' ≡ 0) → point_height top g r ≡ point_height top g r'
same_height top g r r' e =
    elim (height_cases top g r) [
      | inl h ↦ omega (arith, height_cases top g r', e.0 h.0)
      | inr h ↦
          elim (height_cases top g r') [
            | inl h' ↦ absurd (omega (arith, e.1 h'.0))
            | inr h' ↦ h.1 ∙ sym h'.1
          ]
    ]

iff_trans : {A B C : Type 0} → A ↔ B → B ↔ C → A ↔ C
iff_trans f g = (λ a. g.0 (f.0 a), λ c. f.1 (g.1 c))

iff_sym : {A B : Type 0} → A ↔ B → B ↔ A
iff_sym f = (f.1, f.0)

-- a state and the point that it is
module _ (n d top : ℕ) (p : Point) (s : State) (K : Region) (positive : 0 < d) (on : On n d p) (reads : Reads n d p s) where
  value-is : (i : ℕ) → i ≤ n → Is d (value_at s i) (d * age_at p i + rest_at p i)
  value-is zero h = omega arith
  value-is (suc i) h = reads.value i h

  pub within_over : (q : Square) → Within n s q ↔ WithinOver n d p q
  within_over q = (λ w i j h g. (iff i j h g).0 (w i j h g), λ w i j h g. (iff i j h g).1 (w i j h g))
    where
      iff : (i j : ℕ)
          → i ≤ n
          → j ≤ n
          → Keeps (value_at s i) (value_at s j) (entry q i j)
          ↔ KeepsOver d (d * age_at p i + rest_at p i) (d * age_at p j + rest_at p j) (entry q i j)
      iff i j h g =
          keeps_over
          d
          (value_at s i)
          (value_at s j)
          (d * age_at p i + rest_at p i)
          (d * age_at p j + rest_at p j)
          positive
          (value-is i h)
          (value-is j g)
          (entry q i j)

  age_is : (i : ℕ) → i < n → whole (clock s i) ≡ p.age i
  age_is i h = whole-is_age d (clock s i) (p.age i) (p.rest i) (on.rest_below i h) (reads.value i h)

  rest_zero : (i : ℕ) → i < n → ((fraction (clock s i)).numerator ≡ 0) ↔ (p.rest i ≡ 0)
  rest_zero i h =
      let e : Same (fraction (clock s i)) zero_time ↔ (p.rest i ≡ 0) =
      no_fraction d (clock s i) (p.age i) (p.rest i) (on.rest_below i h) (reads.value i h) in
      (λ z. e.0 (omega arith), λ z. let f = e.1 z in omega arith)

  rest_order : (i j : ℕ) → i < n → j < n → Less (fraction (clock s i)) (fraction (clock s j)) ↔ (p.rest i < p.rest j)
  rest_order i j h g =
      less_fraction
      d
      (clock s i)
      (clock s j)
      (p.age i)
      (p.rest i)
      (p.age j)
      (p.rest j)
      (on.rest_below i h)
      (on.rest_below j g)
      (reads.value i h)
      (reads.value j g)

  height_is : (i : ℕ)
      → i < n
      → point_height top (whole (clock s i)) (fraction (clock s i)).numerator
      ≡ point_height top (p.age i) (p.rest i)
  height_is i h =
      ap (λ (g : ℕ). point_height top g (fraction (clock s i)).numerator) (age_is i h)
      ∙ same_height top (p.age i) (fraction (clock s i)).numerator (p.rest i) (rest_zero i h)

  pub shows_over : ShowsRegion n top s K ↔ Shows n top p K
  shows_over = (
    (λ shows.
        record {
          location = reads.location ∙ shows.location;
          height = λ i h. shows.height i h ∙ height_is i h;
          zero_rank = λ i h b. iff_trans (shows.zero_rank i h b) (rest_zero i h);
          order = λ i j h g a b. iff_trans (shows.order i j h g a b) (rest_order i j h g);
        }),
    (λ shows.
        record {
          location = sym reads.location ∙ shows.location;
          height = λ i h. shows.height i h ∙ sym (height_is i h);
          zero_rank = λ i h b. iff_trans (shows.zero_rank i h b) (iff_sym (rest_zero i h));
          order = λ i j h g a b. iff_trans (shows.order i j h g a b) (iff_sym (rest_order i j h g));
        }),
  )

-- what holds of every point holds of every state
pub states_by_points : (n top : ℕ) (K : Region) (q : Square)
    → ((d : ℕ) (p : Point) → 0 < d → On n d p → p.location ≡ K.location → WithinOver n d p q ↔ Shows n top p K)
    → (s : State)
    → length s.valuation ≡ n
    → s.location ≡ K.location
    → Within n s q ↔ ShowsRegion n top s K
states_by_points n top K q points s len located =
    let (d, p, positive, on, reads) = point_of_state n s len in
    iff_trans
    (within_over n d top p s K positive on reads q)
    (iff_trans
    (points d p positive on (reads.location ∙ located))
    (iff_sym (shows_over n d top p s K positive on reads)))
