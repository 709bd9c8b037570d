-- The next invariant is the one that is given with its word.
use Rattle.std.proofs.Common.{◌≡◌, ℕ, List, [], ◌∷◌, ◌++◌, drop, None, Some, Option, sym, refl, subst, rules}
use Rattle.std.specs.Option.{MatchOption, IsSomeAnd}
use Rattle.automata.specs.Automata.{Constraint}
use Rattle.automata.specs.Rows.{write_invariants}
use Rattle.rows.specs.declared.constraints.Conjunction.{Conjunction}
use Rattle.rows.specs.declared.views.Invariants.{Invariants}
use Rattle.rows.specs.Placed.{NextPlacedInvariant}
use Rattle.rows.specs.Views.{NextInvariant}
use Rattle.rows.proofs.views.InvariantsIterator.next.Goals as goal

next_invariant : (Makes : ℕ × Conjunction → Conjunction → Type 0) (row : List ℕ) (css : List (List Constraint)) (rest : List ℕ) (placed : Option (ℕ × Conjunction)) (conjunction : Option Conjunction) (t : Invariants)
    → MatchOption placed (conjunction ≡ None) (λ p. IsSomeAnd conjunction (Makes p))
    → ((p : ℕ × Conjunction) (c : Conjunction) → Makes p c → c ≡ p.1)
    → NextPlacedInvariant row css rest placed t.placed
    → NextInvariant css conjunction t
next_invariant Makes row [] rest None conjunction t none is next = rw none tt
next_invariant Makes row [] rest (Some p) conjunction t some is next = absurd next
next_invariant Makes row (cs ∷ css) rest None conjunction t none is next = absurd next
next_invariant Makes row (cs ∷ css) rest (Some p) None t some is next = absurd some
next_invariant Makes row (cs ∷ css) rest (Some p) (Some c) t some is next =
    rw (is p c some) (
      next.1,
      record {
        rest = rest;
        words = subst (λ (z : List ℕ). drop t.placed.at z ≡ write_invariants css ++ rest) (sym next.2.row_is) next.2.words;
        left = next.2.left;
      },
    )

pub returns-clause-steps : goal.returns-clause-steps
returns-clause-steps c =
    λ css is.
    next_invariant _ c.args.self.now.placed.row.now css is.rest c.next.result c.map.result (record { placed = c.next.new.self }) c.map.ensures.cases (λ p v q. search rules) (c.next.ensures.steps c.args.self.now.placed.row.now css is.rest (record { row_is = refl; words = is.words; left = is.left }))
