-- The region of a moment, by cells that are told by what is left over.
use Rattle.std.proofs.Common.{◌≡◌, ℕ, zero, suc, ◌+◌, ◌*◌, ◌%◌, ◌<◌, ◌≤◌, ◌↔◌, true, List, [], ◌∷◌, ◌++◌, length, get_or, sym, refl, ap, ◌∙◌, subst, inl, inr, arith, length-append}
use Rattle.std.proofs.lemmas.Bool.{cases_lt, le-leb, lt-leb}
use Rattle.std.proofs.lemmas.List.{get_or_default}
use Rattle.std.proofs.lemmas.List.Elements.{Contains-append_left, Contains-append_right, Contains-append_cases}
use Rattle.std.specs.List.{Contains}
use Rattle.std.specs.List.Sorted.{IsStrictlyIncreasing}
use Rattle.regions.specs.Cells.{used}
use Rattle.regions.specs.Points.{Point, point_height}
use Rattle.regions.proofs.Used.{used-true}
use Rattle.cells.specs.declared.values.Cell.{Cell}
use Rattle.cells.specs.declared.values.Region.{Region}
use Rattle.cells.specs.Meaning.{cell_of, region_value}
use Rattle.replay.specs.declared.moments.Moment.{Moment}
use Rattle.replay.specs.Meaning.{clock_of}
use Rattle.realise.specs.Places.{place_among, SameNumbers}
use Rattle.realise.specs.Ends.{point_at, height_of, told_cell, RestsOf, ShownBy}
use Rattle.realise.proofs.Rising.{place-greater, place-order, place-of_zero, place-of_own, rises}

-- what is left over of one clock more
module _ (top : ℕ) (p : Point) where
  pub rests_start : RestsOf 0 top p (0 ∷ [])
  rests_start =
      record {
        none = (0, omega arith, refl);
        all = λ i h. absurd (omega arith);
        only = λ x has pos. let (k, lt, is) = has in absurd (only_zero x k lt is pos);
        size = omega arith;
      }
    where
      only_zero : (x k : ℕ) → k < 1 → get_or (0 ∷ []) k x ≡ x → 0 < x → ⊥
      only_zero x zero lt is pos = omega arith
      only_zero x (suc k) lt is pos = omega arith

  pub rests_push : (k : ℕ) (ns : List ℕ)
      → RestsOf k top p ns
      → point_height top (p.age k) (p.rest k) ≤ 2 * top
      → RestsOf (k + 1) top p (ns ++ p.rest k ∷ [])
  rests_push k ns so_far inside =
      record {
        none = Contains-append_left ns (p.rest k ∷ []) 0 so_far.none;
        all = all;
        only = only;
        size = omega (arith, so_far.size, length-append ns (p.rest k ∷ []));
      }
    where
      all : (i : ℕ) → i < k + 1 → point_height top (p.age i) (p.rest i) ≤ 2 * top → Contains (ns ++ p.rest k ∷ []) (p.rest i)
      all i h in_i =
          elim (cases_lt i k) [
            | inl lt ↦ Contains-append_left ns (p.rest k ∷ []) (p.rest i) (so_far.all i lt in_i)
            | inr ge ↦
                let same : k ≡ i = omega arith in
                subst (λ (j : ℕ). Contains (ns ++ p.rest k ∷ []) (p.rest j)) same
                (Contains-append_right ns (p.rest k ∷ []) (p.rest k) (0, omega arith, refl))
          ]

      last : (x j : ℕ) → j < 1 → get_or (p.rest k ∷ []) j x ≡ x → p.rest k ≡ x
      last x zero lt is = is
      last x (suc j) lt is = absurd (omega arith)

      only : (x : ℕ)
          → Contains (ns ++ p.rest k ∷ []) x
          → 0 < x
          → (i : ℕ) × (i < k + 1) × (point_height top (p.age i) (p.rest i) ≤ 2 * top) × (p.rest i ≡ x)
      only x has pos =
          elim (Contains-append_cases ns (p.rest k ∷ []) x has) [
            | inl before ↦ let (i, lt, in_i, is) = so_far.only x before pos in (i, omega arith, in_i, is)
            | inr at ↦ (k, omega arith, inside, last x at.0 at.1 at.2)
          ]

  pub rests_pass : (k : ℕ) (ns : List ℕ)
      → RestsOf k top p ns
      → 2 * top < point_height top (p.age k) (p.rest k)
      → RestsOf (k + 1) top p ns
  rests_pass k ns so_far beyond =
      record {
        none = so_far.none;
        all = all;
        only = λ x has pos. let (i, lt, in_i, is) = so_far.only x has pos in (i, omega arith, in_i, is);
        size = omega (arith, so_far.size);
      }
    where
      all : (i : ℕ) → i < k + 1 → point_height top (p.age i) (p.rest i) ≤ 2 * top → Contains ns (p.rest i)
      all i h in_i =
          elim (cases_lt i k) [
            | inl lt ↦ so_far.all i lt in_i
            | inr ge ↦
                let same : i ≡ k = omega arith in
                let in_k = subst (λ (j : ℕ). point_height top (p.age j) (p.rest j) ≤ 2 * top) same in_i in
                absurd (omega (arith, in_k, beyond))
          ]

  pub rests_same : (k : ℕ) (ns ms : List ℕ) → SameNumbers ns ms → RestsOf k top p ns → RestsOf k top p ms
  rests_same k ns ms same rests =
      record {
        none = (same.same 0).0 rests.none;
        all = λ i h in_i. (same.same (p.rest i)).0 (rests.all i h in_i);
        only = λ x has pos. rests.only x ((same.same x).1 has) pos;
        size = omega (arith, same.size, rests.size);
      }

-- the region whose first n cells are told so is shown, and its ranks leave out none
module _ (n top d : ℕ) (m : Moment) (ns : List ℕ) (up : IsStrictlyIncreasing ns) (rests : RestsOf n top (point_at d m) ns) (r : Region) (location : r.location.0 ≡ m.location.0) (told : (i : ℕ) → i < n → cell_of r i ≡ told_cell top d ns (clock_of m i)) where
  height : (i : ℕ) → i < n → (region_value r).height i ≡ height_of top d (clock_of m i)
  height i h = ap (λ (c : Cell). c.height) (told i h)

  inside : (i : ℕ) → i < n → (region_value r).height i ≤ 2 * top → height_of top d (clock_of m i) ≤ 2 * top
  inside i h k = omega (arith, height i h, k)

  rank : (i : ℕ) → i < n → (region_value r).height i ≤ 2 * top → (region_value r).rank i ≡ place_among ns (clock_of m i % d)
  rank i h k =
      ap (λ (c : Cell). c.rank) (told i h) ∙ rw (le-leb (height_of top d (clock_of m i)) (2 * top) (inside i h k)) refl

  zero_rank : (i : ℕ)
      → i < n
      → (region_value r).height i ≤ 2 * top
      → ((region_value r).rank i ≡ 0) ↔ (clock_of m i % d ≡ 0)
  zero_rank i h k = (
    λ e.
        elim (cases_lt 0 (clock_of m i % d)) [
          | inl pos ↦
              let more = place-greater ns 0 (clock_of m i % d) rests.none pos in
              absurd (omega (arith, rank i h k, more, e))
          | inr none ↦ omega arith
        ],
    λ e. rank i h k ∙ ap (place_among ns) e ∙ place-of_zero ns,
  )

  order : (i j : ℕ)
      → i < n
      → j < n
      → (region_value r).height i ≤ 2 * top
      → (region_value r).height j ≤ 2 * top
      → ((region_value r).rank i < (region_value r).rank j) ↔ (clock_of m i % d < clock_of m j % d)
  order i j hi hj ki kj =
      rw (rank i hi ki, rank j hj kj)
      (place-order ns (clock_of m i % d) (clock_of m j % d) (rests.all i hi (inside i hi ki)))

  dense : (i k : ℕ)
      → i < n
      → (region_value r).height i ≤ 2 * top
      → 0 < k
      → k ≤ (region_value r).rank i
      → used n top (region_value r) k ≡ true
  dense i k h in_i pos le =
      let (at, lt, is) = rests.all i h (inside i h in_i) in
      let own = place-of_own ns up at lt in
      let value : get_or ns at 0 ≡ clock_of m i % d = get_or_default ns at 0 (clock_of m i % d) lt ∙ is in
      let reach : place_among ns (clock_of m i % d) ≡ at = ap (place_among ns) (sym value) ∙ own in
      let small : k < length ns = omega (arith, rank i h in_i) in
      let x = get_or ns k 0 in
      let more : 0 < x = omega (arith, rises ns up 0 k (omega arith) small) in
      let (j, lt_j, in_j, is_j) = rests.only x (k, small, get_or_default ns k x 0 small) more in
      let in_K : (region_value r).height j ≤ 2 * top = omega (arith, height j lt_j, in_j) in
      let ranked : (region_value r).rank j ≡ k = rank j lt_j in_K ∙ ap (place_among ns) is_j ∙ place-of_own ns up k small in
      subst (λ (s : ℕ). used n top (region_value r) s ≡ true) ranked (used-true n top (region_value r) j lt_j in_K)

  pub shown_by : ShownBy n top (point_at d m) (region_value r)
  shown_by =
      record {
        shows = record { location = sym location; height = height; zero_rank = zero_rank; order = order };
        normal =
            record {
              dense = dense;
              beyond = λ i h k.
                  ap (λ (c : Cell). c.rank) (told i h)
                  ∙ rw (lt-leb (height_of top d (clock_of m i)) (2 * top) (omega (arith, height i h, k))) refl;
            };
      }
