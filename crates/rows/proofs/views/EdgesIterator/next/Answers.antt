-- The next edge is the one that is given with its word.
use Rattle.std.proofs.Common.{◌≡◌, ℕ, List, [], ◌∷◌, drop, None, Some, Option, sym, refl, subst, rules}
use Rattle.std.specs.Option.{MatchOption, IsSomeAnd}
use Rattle.automata.specs.Automata as automata
use Rattle.automata.specs.Rows.{write_edges}
use Rattle.rows.specs.declared.edges.Edge.{Edge}
use Rattle.rows.specs.declared.views.Edges.{Edges}
use Rattle.rows.specs.Placed.{NextPlacedEdge}
use Rattle.rows.specs.Views.{NextEdge}
use Rattle.rows.proofs.views.EdgesIterator.next.Goals as goal

next_edge : (Makes : ℕ × Edge → Edge → Type 0) (row : List ℕ) (es : List automata.Edge) (placed : Option (ℕ × Edge)) (edge : Option Edge) (t : Edges)
    → MatchOption placed (edge ≡ None) (λ p. IsSomeAnd edge (Makes p))
    → ((p : ℕ × Edge) (v : Edge) → Makes p v → v ≡ p.1)
    → NextPlacedEdge row es placed t.placed
    → NextEdge es edge t
next_edge Makes row [] None edge t none is next = rw none tt
next_edge Makes row [] (Some p) edge t some is next = absurd next
next_edge Makes row (e ∷ es) None edge t none is next = absurd next
next_edge Makes row (e ∷ es) (Some p) None t some is next = absurd some
next_edge Makes row (e ∷ es) (Some p) (Some v) t some is next =
    rw (is p v some) (next.1, subst (λ (z : List ℕ). drop t.placed.at z ≡ write_edges es) (sym next.2.row_is) next.2.words)

pub returns-clause-steps : goal.returns-clause-steps
returns-clause-steps c =
    λ es are.
    next_edge _ c.args.self.now.placed.row.now es c.next.result c.map.result (record { placed = c.next.new.self }) c.map.ensures.cases (λ p v q. search rules) (c.next.ensures.steps c.args.self.now.placed.row.now es (record { row_is = refl; words = are }))
