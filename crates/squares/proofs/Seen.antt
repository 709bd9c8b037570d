-- A cell and the value of a clock: the clock is seen in the cell just where its differences keep the bounds.
use Rattle.std.proofs.Common.{◌≡◌, ℕ, ◌+◌, ◌*◌, ◌/◌, ◌%◌, ◌<◌, ◌≤◌, ◌↔◌, refl, ap, inl, inr, arith}
use native.Mathlib.Decide.{dec_lt}
use Rattle.regions.specs.Points.{point_height}
use Rattle.regions.proofs.Heights.{height_cases}
use Rattle.regions.proofs.Multiples.{compared}
use Rattle.cells.specs.declared.values.Cell.{Cell}
use Rattle.squares.specs.Differences.{KeepsOver}
use Rattle.squares.specs.Entries.{Consistent, between}
use Rattle.squares.proofs.Differences.{one_if-cases, keeps_first_beyond, keeps_second_beyond, keeps_equal, keeps_less, keeps_greater}

-- a clock with the whole part g and r d-ths left over, in a cell
pub record Seen (top : ℕ) (c : Cell) (g r : ℕ) : Type 0 where
  pub height : c.height ≡ point_height top g r
  pub zero_rank : c.height ≤ 2 * top → (c.rank ≡ 0) ↔ (r ≡ 0)

abbrev pub Ordered : ℕ → Cell → Cell → ℕ → ℕ → Type 0
Ordered top c e r s = c.height ≤ 2 * top → e.height ≤ 2 * top → (c.rank < e.rank) ↔ (r < s)

-- nought, as a clock
abbrev pub nought : Cell
nought = record { height = 0; rank = 0 }

pub nought_seen : (top : ℕ) → Seen top nought 0 0
nought_seen top = record { height = omega (arith, height_cases top 0 0); zero_rank = λ h. (λ e. refl, λ e. refl) }

-- what is seen: a clock that is not beyond has the whole part and the fraction of its cell
seen_inside : (top : ℕ) (c : Cell) (g r : ℕ) → Seen top c g r → c.height ≤ 2 * top → g ≡ c.height / 2
seen_inside top c g r seen h = omega (arith, height_cases top g r, seen.height)

seen_beyond : (top : ℕ) (c : Cell) (g r d : ℕ) → r < d → Seen top c g r → 2 * top < c.height → d * top < d * g + r
seen_beyond top c g r d b seen h =
    omega (arith, height_cases top g r, seen.height, compared d g top)

module _ (top d : ℕ) (c e : Cell) (g r h s : ℕ) (below_one : r < d) (below-one' : s < d) where
  -- what is seen in two cells, in the order of their ranks, keeps the bound between them
  pub seen_keeps : Seen top c g r
      → Seen top e h s
      → Ordered top c e r s
      → Ordered top e c s r
      → KeepsOver d (d * g + r) (d * h + s) (between top c e)
  seen_keeps seen seen' order order' =
      elim (dec_lt (2 * top) c.height) [
        | yes b ↦ keeps_first_beyond top d (d * g + r) (d * h + s) c e b
        | no nb ↦
            let inside : c.height ≤ 2 * top = omega arith in
            elim (dec_lt (2 * top) e.height) [
              | yes b ↦ to_beyond inside b
              | no nb' ↦
                  let inside' : e.height ≤ 2 * top = omega arith in
                  elim (dec_lt c.rank e.rank) [
                    | yes l ↦ less inside inside' l
                    | no nl ↦
                        elim (dec_lt e.rank c.rank) [
                          | yes m ↦ greater inside inside' m
                          | no nm ↦ equal inside inside' (omega arith)
                        ]
                  ]
            ]
      ]
    where
      age : c.height ≤ 2 * top → d * g ≡ d * (c.height / 2)
      age inside = ap (λ (k : ℕ). d * k) (seen_inside top c g r seen inside)

      age' : e.height ≤ 2 * top → d * h ≡ d * (e.height / 2)
      age' inside = ap (λ (k : ℕ). d * k) (seen_inside top e h s seen' inside)

      to_beyond : c.height ≤ 2 * top
          → 2 * top < e.height
          → KeepsOver d (d * g + r) (d * h + s) (between top c e)
      to_beyond inside b =
          let beyond : d * top < d * h + s = seen_beyond top e h s d below-one' seen' b in
          let zero_rank : (c.rank ≡ 0) ↔ (r ≡ 0) = seen.zero_rank inside in
          (keeps_second_beyond top d (d * g + r) (d * h + s) c e inside b).1
          (elim (one_if-cases 0 c.rank) [
            | inl one ↦ omega (arith, age inside, ap (λ (k : ℕ). d * k) one.1)
            | inr none ↦
                let z : r ≡ 0 = zero_rank.0 (omega arith) in
                omega (arith, age inside, ap (λ (k : ℕ). d * k) none.1)
          ])

      less : c.height ≤ 2 * top
          → e.height ≤ 2 * top
          → c.rank < e.rank
          → KeepsOver d (d * g + r) (d * h + s) (between top c e)
      less inside inside' l =
          (keeps_less top d (d * g + r) (d * h + s) c e inside inside' l).1
          (omega (arith, age inside, age' inside', (order inside inside').0 l))

      greater : c.height ≤ 2 * top
          → e.height ≤ 2 * top
          → e.rank < c.rank
          → KeepsOver d (d * g + r) (d * h + s) (between top c e)
      greater inside inside' l =
          (keeps_greater top d (d * g + r) (d * h + s) c e inside inside' l).1
          (omega (arith, age inside, age' inside'))

      equal : c.height ≤ 2 * top
          → e.height ≤ 2 * top
          → c.rank ≡ e.rank
          → KeepsOver d (d * g + r) (d * h + s) (between top c e)
      equal inside inside' l =
          (keeps_equal top d (d * g + r) (d * h + s) c e inside inside' l).1
          (omega (arith, age inside, age' inside', not-before))
        where
          not-before : r ≤ s
          not-before =
              elim (dec_lt s r) [ yes k ↦ absurd (omega (arith, (order' inside' inside).1 k)) | no nk ↦ omega arith ]

  -- the bounds on two clocks that are not beyond give the order of what is left over
  pub keeps_order : Seen top c g r
      → Seen top e h s
      → KeepsOver d (d * g + r) (d * h + s) (between top c e)
      → KeepsOver d (d * h + s) (d * g + r) (between top e c)
      → Ordered top c e r s
  keeps_order seen seen' keeps keeps' inside inside' =
      elim (dec_lt c.rank e.rank) [
        | yes l ↦
            let k : d * g + r + d * (e.height / 2) < d * h + s + d * (c.height / 2) =
            (keeps_less top d (d * g + r) (d * h + s) c e inside inside' l).0 keeps in
            (λ m. omega (arith, age, age'), λ m. l)
        | no nl ↦
            elim (dec_lt e.rank c.rank) [
              | yes l ↦
                  let k : d * h + s + d * (c.height / 2) < d * g + r + d * (e.height / 2) =
                  (keeps_less top d (d * h + s) (d * g + r) e c inside' inside l).0 keeps' in
                  (λ m. absurd (omega arith), λ m. absurd (omega (arith, age, age')))
              | no ng ↦
                  let k : d * h + s + d * (c.height / 2) ≤ d * g + r + d * (e.height / 2) =
                  (keeps_equal top d (d * h + s) (d * g + r) e c inside' inside (omega arith)).0 keeps' in
                  (λ m. absurd (omega arith), λ m. absurd (omega (arith, age, age')))
            ]
      ]
    where
      age : d * g ≡ d * (c.height / 2)
      age = ap (λ (k : ℕ). d * k) (seen_inside top c g r seen inside)

      age' : d * h ≡ d * (e.height / 2)
      age' = ap (λ (k : ℕ). d * k) (seen_inside top e h s seen' inside')

-- the bounds on a clock alone give what is seen of it
module _ (top d : ℕ) (c : Cell) (g r : ℕ) (below_one : r < d) (consistent : Consistent top c) where
  pub keeps_seen : KeepsOver d (d * g + r) (d * 0 + 0) (between top c nought)
      → KeepsOver d (d * 0 + 0) (d * g + r) (between top nought c)
      → Seen top c g r
  keeps_seen up down =
      elim (dec_lt (2 * top) c.height) [
        | yes b ↦
            let k : d * 0 + 0 + d * top < d * g + r + d * 0 =
            (keeps_second_beyond top d (d * 0 + 0) (d * g + r) nought c (omega arith) b).0 down in
            record {
              height =
                  omega (
                    arith,
                    height_cases top g r,
                    consistent.0,
                    compared d g top,
                  );
              zero_rank = λ h. absurd (omega arith);
            }
        | no nb ↦
            let inside : c.height ≤ 2 * top = omega arith in
            let even : (c.rank ≡ 0) ↔ (c.height % 2 ≡ 0) = consistent.1 inside in
            elim (dec_lt 0 c.rank) [
              | yes l ↦
                  let k : d * g + r + d * 0 < d * 0 + 0 + d * (c.height / 2) + d =
                  (keeps_greater top d (d * g + r) (d * 0 + 0) c nought inside (omega arith) l).0 up in
                  let m : d * 0 + 0 + d * (c.height / 2) < d * g + r + d * 0 =
                  (keeps_less top d (d * 0 + 0) (d * g + r) nought c (omega arith) inside l).0 down in
                  let odd : c.height % 2 ≡ 0 → ⊥ = λ z. omega (arith, even.1 z) in
                  let facts : (g ≡ c.height / 2) × (0 < r) =
                  between-multiples d g r (c.height / 2) below_one (omega arith) (omega arith) in
                  record {
                    height = omega (arith, height_cases top g r, odd);
                    zero_rank = λ h. (λ z. absurd (omega arith), λ z. absurd (omega arith));
                  }
              | no nl ↦
                  let z : c.rank ≡ 0 = omega arith in
                  let k : d * g + r + d * 0 ≤ d * 0 + 0 + d * (c.height / 2) =
                  (keeps_equal top d (d * g + r) (d * 0 + 0) c nought inside (omega arith) z).0 up in
                  let m : d * 0 + 0 + d * (c.height / 2) ≤ d * g + r + d * 0 =
                  (keeps_equal top d (d * 0 + 0) (d * g + r) nought c (omega arith) inside (omega arith)).0 down in
                  let whole : c.height % 2 ≡ 0 = even.0 z in
                  let facts : (g ≡ c.height / 2) × (r ≡ 0) =
                  at_multiple d g r (c.height / 2) below_one (omega arith) (omega arith) in
                  record { height = omega (arith, height_cases top g r); zero_rank = λ h. (λ e. facts.1, λ e. z) }
            ]
      ]
    where
      between-multiples : (d g r m : ℕ) → r < d → d * g + r < d * m + d → d * m < d * g + r → (g ≡ m) × (0 < r)
      between-multiples d g r m b up down =
          let same : g ≡ m = omega (arith, compared d g m) in
          (same, omega (arith, ap (λ (k : ℕ). d * k) same))

      at_multiple : (d g r m : ℕ) → r < d → d * g + r ≤ d * m → d * m ≤ d * g + r → (g ≡ m) × (r ≡ 0)
      at_multiple d g r m b up down =
          let same : g ≡ m = omega (arith, compared d g m) in
          (same, omega (arith, ap (λ (k : ℕ). d * k) same))
