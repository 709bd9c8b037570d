-- The edge of a number, which the iterator gives once those before it are left out.
use Rattle.std.proofs.Common.{◌≡◌, ℕ, zero, suc, ◌≤◌, List, [], ◌∷◌, length, Some, None, Option, MatchOption, refl, subst, arith}
use Rattle.std.specs.Iterator.{Yields, SkipsThenYields}
use Rattle.automata.specs.Automata as automata
use Rattle.automata.specs.Automata.{nth}
use Rattle.rows.specs.declared.edges.Edge.{Edge}
use Rattle.rows.specs.declared.views.Edges.{Edges}
use Rattle.rows.specs.Views.{EdgesAre, NextEdge}
use Rattle.rows.proofs.Yielding.{EdgeStep}
use Rattle.replay.specs.Changes.{EdgeNumber}

-- so many edges are left out, or all where there are fewer
abbrev Skipped : Option Edge → ℕ → ℕ → Type 0
Skipped r left_out n = MatchOption r (left_out ≤ n) (λ _. left_out ≡ n)

one_fewer : (r : Option Edge) (k n : ℕ) → Skipped r (suc k) (suc n) → Skipped r k n
one_fewer None k n h = omega arith
one_fewer (Some v) k n h = omega arith

not_one_fewer : (r : Option Edge) (k : ℕ) → Skipped r (suc k) 0 → ⊥
not_one_fewer None k h = omega arith
not_one_fewer (Some v) k h = omega arith

stands_there : (es : List automata.Edge) (n : ℕ) (r : Option Edge) (u : Edges) → NextEdge es r u → Skipped r 0 n → EdgeNumber (nth es n) r
stands_there [] n None u next h = refl
stands_there [] n (Some v) u next h = absurd next
stands_there (e ∷ es) n None u next h = absurd next
stands_there (e ∷ es) zero (Some v) u next h = (e, refl, next.0)
stands_there (e ∷ es) (suc n) (Some v) u next h = absurd (omega arith)

after : (es : List automata.Edge) (xs : List Edge) (n : ℕ) (r : Option Edge) (s t u : Edges)
    → EdgesAre es s
    → Yields EdgeStep s xs t
    → EdgeStep t r u
    → Skipped r (length xs) n
    → EdgeNumber (nth es n) r
after es [] n r s t u are same step h = stands_there es n r u (step es (subst (EdgesAre es) same are)) h
after [] (x ∷ xs) n r s t u are (j, one, more) step h = absurd (one [] are)
after (e ∷ es) (x ∷ xs) zero r s t u are (j, one, more) step h = absurd (not_one_fewer r (length xs) h)
after (e ∷ es) (x ∷ xs) (suc n) r s t u are (j, one, more) step h =
    after es xs n r j t u (one (e ∷ es) are).1 more step (one_fewer r (length xs) n h)

pub edge_number : (es : List automata.Edge) (n : ℕ) (r : Option Edge) (s u : Edges)
    → EdgesAre es s
    → SkipsThenYields EdgeStep s n r u
    → EdgeNumber (nth es n) r
edge_number es n r s u are (xs, (t, more, step), h) = after es xs n r s t u are more step h
