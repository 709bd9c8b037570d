-- The invariants of all locations, one by one.
use Rattle.std.proofs.Common.{◌≡◌, ℕ, zero, suc, ◌≤◌, List, [], ◌∷◌, length, drop, None, Some, Option, ap, refl, subst, arith, length-drop}
use Rattle.std.specs.Iterator.{Yields, SkipsThenYields}
use mathlib.Core.Option.{some}
use Rattle.automata.specs.Automata.{nth, Constraint}
use Rattle.rows.specs.declared.constraints.Conjunction.{Conjunction}
use Rattle.rows.specs.declared.views.Invariants.{Invariants}
use Rattle.rows.specs.Views.{InvariantIs, InvariantsAre, NextInvariant}
use Rattle.rows.proofs.Parts.{nth-behind}
use Rattle.rows.proofs.Values.{InvariantIs-written}
use Rattle.rows.proofs.Yielding.{InvariantStep}

-- behind so many are the others
behind : (xs : List Conjunction) (s t : Invariants) (css : List (List Constraint))
    → Yields InvariantStep s xs t
    → InvariantsAre css s
    → InvariantsAre (drop (length xs) css) t
behind [] s t css e is = subst (InvariantsAre css) e is
behind (x ∷ xs) s t [] y is = absurd (y.1 [] is)
behind (x ∷ xs) s t (cs ∷ css) y is = behind xs y.0 t css y.2 (y.1 (cs ∷ css) is).1

nth-drop : {A : Type 0} (xs : List A) (n : ℕ) (x : A) (ys : List A) → drop n xs ≡ x ∷ ys → nth xs n ≡ some x
nth-drop [] zero x ys e = let z : ◌≡◌ {A = ℕ} 0 1 = cc in absurd (omega arith)
nth-drop [] (suc n) x ys e = let z : ◌≡◌ {A = ℕ} 0 1 = cc in absurd (omega arith)
nth-drop (y ∷ xs) zero x ys e = cc
nth-drop (y ∷ xs) (suc n) x ys e = nth-drop xs n x ys e

there : (css ds : List (List Constraint)) (n : ℕ) (c : Conjunction) (t : Invariants)
    → drop n css ≡ ds
    → NextInvariant ds (Some c) t
    → InvariantIs (nth css n) (Some c)
there css [] n c t e next = absurd next
there css (d ∷ ds) n c t e next = InvariantIs-written (nth css n) c d (nth-drop css n d ds e) next.0

none_left : (css ds : List (List Constraint)) (n : ℕ) (t : Invariants)
    → drop n css ≡ ds
    → NextInvariant ds None t
    → length css ≤ n
none_left css [] n t e next =
    let l : length (drop n css) ≡ 0 = ap length e in
    omega (arith, simp length-drop at l)
none_left css (d ∷ ds) n t e next = absurd next

-- what comes behind so many is the invariant at that place
pub nth_invariant : (css : List (List Constraint)) (n : ℕ) (s u : Invariants) (r : Option Conjunction)
    → InvariantsAre css s
    → SkipsThenYields InvariantStep s n r u
    → InvariantIs (nth css n) r
nth_invariant css n s u (Some c) is skips =
    let next = skips.1.2 (drop (length skips.0) css) (behind skips.0 s skips.1.0 css skips.1.1 is) in
    subst (λ (m : ℕ). InvariantIs (nth css m) (Some c)) skips.2 (there css (drop (length skips.0) css) (length skips.0) c u refl next)
nth_invariant css n s u None is skips =
    let next = skips.1.2 (drop (length skips.0) css) (behind skips.0 s skips.1.0 css skips.1.1 is) in
    nth-behind css n (omega (arith, none_left css (drop (length skips.0) css) (length skips.0) u refl next, skips.2))
