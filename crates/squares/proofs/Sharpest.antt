-- The square of a region is tight: no bound between two cells follows more sharply by way of a third.
use Rattle.std.proofs.Common.{◌≡◌, ℕ, ◌+◌, ◌*◌, ◌/◌, ◌≤◌, Bool, true, false, not, ◌||◌, eqb, pos, ◌+ℤ◌, ◌-ℤ◌, sym, refl, inl, inr, arith, eq-eqb}
use mathlib.Core.Bool.{false≢true}
use native.Mathlib.Decide.{dec_lt}
use Rattle.std.proofs.lemmas.Int.{ints}
use Rattle.std.proofs.lemmas.Bool.Decides.{eqb_tells}
use Rattle.cells.specs.declared.values.Cell.{Cell}
use Rattle.cells.specs.declared.values.Region.{Region}
use Rattle.squares.specs.declared.bounds.Bound.{Bound}
use Rattle.squares.specs.declared.bounds.Bound.TheVariants.{Unbounded, UpTo}
use Rattle.squares.specs.declared.squares.Square.{Square}
use Rattle.squares.specs.Bounds.{sum, Sharper}
use Rattle.squares.specs.Squares.{entry, Tight}
use Rattle.squares.specs.Entries.{cell_at, one_if, between}
use Rattle.squares.proofs.Differences.{one_if-cases, first_beyond, second_beyond, none_beyond}
use Rattle.squares.proofs.PointsWithin.{Of, off_diagonal}

-- bounds by differences of naturals
sum-not_sharper : (a b a' b' a'' b'' : ℕ) (s t u : Bool)
    → a'' + b + b' ≤ a + a' + b''
    → (a + a' + b'' ≤ a'' + b + b' → (s || t) ≡ true → u ≡ true)
    → Sharper
    (sum (UpTo (pos a -ℤ pos b) s) (UpTo (pos a' -ℤ pos b') t))
    (UpTo (pos a'' -ℤ pos b'') u)
    → ⊥
sum-not_sharper a b a' b' a'' b'' s t u le strict (inl h) = omega (arith, ints)
sum-not_sharper a b a' b' a'' b'' s t u le strict (inr h) =
    let same : (pos a -ℤ pos b) +ℤ (pos a' -ℤ pos b') ≡ pos a'' -ℤ pos b'' = h.0 in
    let back : a + a' + b'' ≤ a'' + b + b' = omega (arith, ints) in
    let z : ◌≡◌ {A = ℕ} 0 1 = cc (strict back h.1, h.2) in
    omega arith

-- from nothing more than itself
not_sharper_before : (b : Bound) → Sharper (sum (UpTo (pos 0) false) b) b → ⊥
not_sharper_before Unbounded h = h
not_sharper_before (UpTo m s) (inl h) = omega (arith, ints)
not_sharper_before (UpTo m s) (inr h) = let z : ◌≡◌ {A = ℕ} 0 1 = cc (h.1, h.2) in omega arith

not_sharper_behind : (b : Bound) → Sharper (sum b (UpTo (pos 0) false)) b → ⊥
not_sharper_behind Unbounded h = h
not_sharper_behind (UpTo m true) (inl h) = omega (arith, ints)
not_sharper_behind (UpTo m true) (inr h) = let z : ◌≡◌ {A = ℕ} 0 1 = cc h.2 in omega arith
not_sharper_behind (UpTo m false) (inl h) = omega (arith, ints)
not_sharper_behind (UpTo m false) (inr h) = let z : ◌≡◌ {A = ℕ} 0 1 = cc h.1 in omega arith

-- by way of a third cell
module _ (top : ℕ) (c f e : Cell) where
  strict_by : one_if f.rank c.rank + one_if e.rank f.rank ≤ one_if e.rank c.rank
      → (not (eqb c.rank f.rank) || not (eqb f.rank e.rank)) ≡ true
      → not (eqb c.rank e.rank) ≡ true
  strict_by le s =
      elim (eqb_tells c.rank e.rank) [
        | inr other ↦ rw other.0 refl
        | inl same ↦
            let cases = one_if-cases f.rank c.rank in
            let cases' = one_if-cases e.rank f.rank in
            let cases'' = one_if-cases e.rank c.rank in
            let first : c.rank ≡ f.rank = omega (arith, cases, cases', cases'') in
            let second : f.rank ≡ e.rank = omega (arith, cases, cases', cases'') in
            absurd
            (false≢true (rw (eq-eqb c.rank f.rank first, eq-eqb f.rank e.rank second) at s))
      ]

  by_way : Sharper (sum (between top c f) (between top f e)) (between top c e) → ⊥
  by_way =
      elim (dec_lt (2 * top) c.height) [
        | yes b ↦ rw (first_beyond top c f b) (λ h. h)
        | no nb ↦
            let inside : c.height ≤ 2 * top = omega arith in
            elim (dec_lt (2 * top) f.height) [
              | yes b ↦ rw (second_beyond top c f inside b, first_beyond top f e b) (λ h. h)
              | no nb' ↦
                  let inside' : f.height ≤ 2 * top = omega arith in
                  elim (dec_lt (2 * top) e.height) [
                    | yes b ↦
                        rw
                        (none_beyond top c f inside inside', second_beyond top f e inside' b, second_beyond top c e inside b)
                        (sum-not_sharper
                        (c.height / 2 + one_if f.rank c.rank)
                        (f.height / 2)
                        (f.height / 2 + one_if 0 f.rank)
                        top
                        (c.height / 2 + one_if 0 c.rank)
                        top
                        (not (eqb c.rank f.rank))
                        true
                        true
                        (omega (
                          arith,
                          one_if-cases f.rank c.rank,
                          one_if-cases 0 f.rank,
                          one_if-cases 0 c.rank,
                        ))
                        (λ le s. refl))
                    | no nb'' ↦
                        let inside'' : e.height ≤ 2 * top = omega arith in
                        rw (
                          none_beyond top c f inside inside',
                          none_beyond top f e inside' inside'',
                          none_beyond top c e inside inside'',
                        )
                        (sum-not_sharper
                        (c.height / 2 + one_if f.rank c.rank)
                        (f.height / 2)
                        (f.height / 2 + one_if e.rank f.rank)
                        (e.height / 2)
                        (c.height / 2 + one_if e.rank c.rank)
                        (e.height / 2)
                        (not (eqb c.rank f.rank))
                        (not (eqb f.rank e.rank))
                        (not (eqb c.rank e.rank))
                        (omega (
                          arith,
                          one_if-cases f.rank c.rank,
                          one_if-cases e.rank f.rank,
                          one_if-cases e.rank c.rank,
                        ))
                        (λ le s. strict_by (omega arith) s))
                  ]
            ]
      ]

-- back to where one began
and_back : (top : ℕ) (c f : Cell) → Sharper (sum (between top c f) (between top f c)) (UpTo (pos 0) false) → ⊥
and_back top c f =
    elim (dec_lt (2 * top) c.height) [
      | yes b ↦ rw (first_beyond top c f b) (λ h. h)
      | no nb ↦
          let inside : c.height ≤ 2 * top = omega arith in
          elim (dec_lt (2 * top) f.height) [
            | yes b ↦ rw (second_beyond top c f inside b, first_beyond top f c b) (λ h. h)
            | no nb' ↦
                let inside' : f.height ≤ 2 * top = omega arith in
                rw
                (none_beyond top c f inside inside', none_beyond top f c inside' inside)
                (sum-not_sharper
                (c.height / 2 + one_if f.rank c.rank)
                (f.height / 2)
                (f.height / 2 + one_if c.rank f.rank)
                (c.height / 2)
                0
                0
                (not (eqb c.rank f.rank))
                (not (eqb f.rank c.rank))
                false
                (omega arith)
                (λ le s. absurd (ranks_apart le s)))
          ]
    ]
  where
    ranks_apart : c.height / 2
        + one_if f.rank c.rank
        + (f.height / 2 + one_if c.rank f.rank)
        + 0
        ≤ 0 + f.height / 2 + c.height / 2
        → (not (eqb c.rank f.rank) || not (eqb f.rank c.rank)) ≡ true
        → ⊥
    ranks_apart le s =
        let same : c.rank ≡ f.rank = omega (arith, one_if-cases f.rank c.rank, one_if-cases c.rank f.rank) in
        let t : false ≡ true = rw (eq-eqb c.rank f.rank same, eq-eqb f.rank c.rank (sym same)) at s in
        let z : ◌≡◌ {A = ℕ} 0 1 = cc in
        omega arith

pub square_tight : (n top : ℕ) (K : Region) (q : Square) → n ≤ 8 → Of n top K q → Tight n q
square_tight n top K q room of = record { room = room; sharpest = sharpest }
  where
    on_diagonal : (i j : ℕ) → i ≤ n → j ≤ n → i ≡ j → entry q i j ≡ UpTo (pos 0) false
    on_diagonal i j h g e = rw (of.bounds i j h g, eq-eqb i j e) refl

    sharpest : (i j k : ℕ) → i ≤ n → j ≤ n → k ≤ n → Sharper (sum (entry q i k) (entry q k j)) (entry q i j) → ⊥
    sharpest i j k h g l =
        elim (eqb_tells i k) [
          | inl same ↦ rw (on_diagonal i k h l same.1, sym same.1) (not_sharper_before (entry q i j))
          | inr other ↦
              elim (eqb_tells k j) [
                | inl same ↦ rw (on_diagonal k j l g same.1, same.1) (not_sharper_behind (entry q i j))
                | inr other' ↦
                    elim (eqb_tells i j) [
                      | inl same ↦
                          rw
                          (on_diagonal i j h g same.1, off_diagonal n top K q i k of h l other.1, off_diagonal n top K q k j of l g other'.1, sym same.1)
                          (and_back top (cell_at K i) (cell_at K k))
                      | inr other'' ↦
                          rw
                          (off_diagonal n top K q i j of h g other''.1, off_diagonal n top K q i k of h l other.1, off_diagonal n top K q k j of l g other'.1)
                          (by_way top (cell_at K i) (cell_at K k) (cell_at K j))
                    ]
              ]
        ]
