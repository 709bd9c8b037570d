-- Reading a row back: each reader takes the words that it reads off the front and leaves the rest, or there is none.
use Rattle.std.specs.Prelude.{ℕ, zero, suc, Bool, cond, ◌&&◌, List, [], ◌∷◌, length, nat_le, nat_lt}
use Rattle.std.proofs.Math.Option.{Option, some, none}
use Rattle.automata.specs.Automata.{Relation, at_most, below, at_least, above, Constraint, Edge, Automaton}

-- what was read, and the words after it
abbrev pub Outcome : Type 0 → Type 0
Outcome A = Option (A × List ℕ)

abbrev pub prepend : {A : Type 0} → A → Outcome (List A) → Outcome (List A)
prepend x none = none
prepend x (some r) = some (x ∷ r.0, r.1)

abbrev pub and_then : {A B : Type 0} → Outcome A → (A → List ℕ → Option B) → Option B
and_then none f = none
and_then (some r) f = f r.0 r.1

abbrev pub relation_of : ℕ → Relation
relation_of zero = at_most
relation_of (suc zero) = below
relation_of (suc (suc zero)) = at_least
relation_of (suc (suc (suc k))) = above

-- the relations of an invariant are the first two, those of a guard all four
abbrev pub upper_only : ℕ
upper_only = 2

abbrev pub all_relations : ℕ
all_relations = 4

-- three words: a clock, a relation and a bound
abbrev pub fits : ℕ → ℕ → ℕ → ℕ → ℕ → Bool
fits clocks relations c r b = nat_lt c clocks && (nat_lt r relations && nat_le b 10000)

abbrev pub constraint : ℕ → ℕ → ℕ → Constraint
constraint c r b = record { clock = c; relation = relation_of r; bound = b }

abbrev pub parse_constraints : ℕ → ℕ → ℕ → List ℕ → Outcome (List Constraint)
parse_constraints clocks relations zero ws = some ([], ws)
parse_constraints clocks relations (suc k) [] = none
parse_constraints clocks relations (suc k) (c ∷ []) = none
parse_constraints clocks relations (suc k) (c ∷ r ∷ []) = none
parse_constraints clocks relations (suc k) (c ∷ r ∷ b ∷ ws) =
    cond (fits clocks relations c r b) (prepend (constraint c r b) (parse_constraints clocks relations k ws)) none

-- a number of constraints, and these
abbrev pub parse_conjunction : ℕ → ℕ → List ℕ → Outcome (List Constraint)
parse_conjunction clocks relations [] = none
parse_conjunction clocks relations (k ∷ ws) = parse_constraints clocks relations k ws

abbrev pub parse_invariants : ℕ → ℕ → List ℕ → Outcome (List (List Constraint))
parse_invariants clocks zero ws = some ([], ws)
parse_invariants clocks (suc p) ws =
    and_then (parse_conjunction clocks upper_only ws) (λ cs rest. prepend cs (parse_invariants clocks p rest))

abbrev pub parse_clocks : ℕ → ℕ → List ℕ → Outcome (List ℕ)
parse_clocks clocks zero ws = some ([], ws)
parse_clocks clocks (suc k) [] = none
parse_clocks clocks (suc k) (x ∷ ws) = cond (nat_lt x clocks) (prepend x (parse_clocks clocks k ws)) none

-- a number of clocks, and these
abbrev pub parse_resets : ℕ → List ℕ → Outcome (List ℕ)
parse_resets clocks [] = none
parse_resets clocks (k ∷ ws) = parse_clocks clocks k ws

abbrev pub parse_edge : ℕ → ℕ → List ℕ → Outcome Edge
parse_edge clocks locations [] = none
parse_edge clocks locations (s ∷ []) = none
parse_edge clocks locations (s ∷ t ∷ ws) =
    cond
    (nat_lt s locations && nat_lt t locations)
    (and_then
    (parse_conjunction clocks all_relations ws)
    (λ guard rest. and_then
    (parse_resets clocks rest)
    (λ resets end. some (record { source = s; target = t; guard = guard; resets = resets }, end))))
    none

-- edges to the end of the words; `fuel` is at least the number of words
abbrev pub parse_edges : ℕ → ℕ → ℕ → List ℕ → Outcome (List Edge)
parse_edges clocks locations fuel [] = some ([], [])
parse_edges clocks locations zero (w ∷ ws) = none
parse_edges clocks locations (suc fuel) (w ∷ ws) =
    and_then (parse_edge clocks locations (w ∷ ws)) (λ e rest. prepend e (parse_edges clocks locations fuel rest))

abbrev pub parse : List ℕ → Option Automaton
parse [] = none
parse (c ∷ []) = none
parse (c ∷ p ∷ ws) =
    cond
    ((nat_le 1 c && nat_le c 8) && ((nat_le 1 p && nat_le p 256) && nat_le (length (c ∷ p ∷ ws)) 16384))
    (and_then
    (parse_invariants c p ws)
    (λ invariants rest. and_then
    (parse_edges c p (length rest) rest)
    (λ edges end. some (record { clocks = c; invariants = invariants; edges = edges }))))
    none
