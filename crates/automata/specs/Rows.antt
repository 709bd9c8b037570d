-- Automata as rows of 32-bit numbers.
use Rattle.std.specs.Prelude.{◌≡◌, Bool, true, false, ◌&&◌, List, [], ◌∷◌, ◌++◌, ℕ, ◌≤◌, length, ltb, leb, T}
use Rattle.automata.specs.Automata.{Relation, at_most, below, at_least, above, Constraint, Edge, Automaton}

abbrev pub code : Relation → ℕ
code at_most = 0
code below = 1
code at_least = 2
code above = 3

-- how an automaton is written: number of clocks, of locations; for each location the number of its constraints, these; then
-- the edges to the end, each with source, target, number of constraints, these, number of clocks that it resets, these
abbrev pub write_constraints : List Constraint → List ℕ
write_constraints [] = []
write_constraints (c ∷ cs) = c.clock ∷ code c.relation ∷ c.bound ∷ write_constraints cs

abbrev pub write_invariants : List (List Constraint) → List ℕ
write_invariants [] = []
write_invariants (cs ∷ css) = length cs ∷ (write_constraints cs ++ write_invariants css)

abbrev pub write_edges : List Edge → List ℕ
write_edges [] = []
write_edges (e ∷ es) =
    e.source
    ∷ e.target
    ∷ length e.guard
    ∷ (write_constraints e.guard ++ (length e.resets ∷ (e.resets ++ write_edges es)))

abbrev pub write : Automaton → List ℕ
write a = a.clocks ∷ length a.invariants ∷ (write_invariants a.invariants ++ write_edges a.edges)

-- which automata may be written: an invariant bounds clocks from above only; clocks and locations are in range, and no
-- clock is compared with more than 10,000
abbrev pub upper : Relation → Bool
upper at_most = true
upper below = true
upper at_least = false
upper above = false

abbrev pub fine_constraint : ℕ → Constraint → Bool
fine_constraint n c = ltb c.clock n && leb c.bound 10000

abbrev pub fine_guard : ℕ → List Constraint → Bool
fine_guard n [] = true
fine_guard n (c ∷ cs) = fine_constraint n c && fine_guard n cs

abbrev pub fine_invariant : ℕ → List Constraint → Bool
fine_invariant n [] = true
fine_invariant n (c ∷ cs) = (fine_constraint n c && upper c.relation) && fine_invariant n cs

abbrev pub fine_invariants : ℕ → List (List Constraint) → Bool
fine_invariants n [] = true
fine_invariants n (cs ∷ css) = fine_invariant n cs && fine_invariants n css

abbrev pub fine_resets : ℕ → List ℕ → Bool
fine_resets n [] = true
fine_resets n (x ∷ xs) = ltb x n && fine_resets n xs

abbrev pub fine_edge : ℕ → ℕ → Edge → Bool
fine_edge n p e =
    (ltb e.source p && ltb e.target p) && (fine_guard n e.guard && fine_resets n e.resets)

abbrev pub fine_edges : ℕ → ℕ → List Edge → Bool
fine_edges n p [] = true
fine_edges n p (e ∷ es) = fine_edge n p e && fine_edges n p es

-- 1 to 8 clocks, 1 to 256 locations
abbrev pub fine : Automaton → Bool
fine a =
    (leb 1 a.clocks && leb a.clocks 8)
    && ((leb 1 (length a.invariants) && leb (length a.invariants) 256)
    && (fine_invariants a.clocks a.invariants && fine_edges a.clocks (length a.invariants) a.edges))

-- the row is the writing of the automaton, and has at most 16,384 words
pub record Reads (row : List ℕ) (a : Automaton) : Type 0 where
  pub written : write a ≡ row
  pub sound : T (fine a)
  pub short : length row ≤ 16384
