-- What the parts of a row say, against the automaton that it is the writing of.
use Rattle.std.specs.Prelude.{◌≡◌, ℕ, ◌<◌, ◌≤◌, Bool, List, ◌∷◌, ◌++◌, length, drop, codes, Some, None, Option, Ok, Err, Result}
use Rattle.std.specs.Ordering.{is_lt, is_le, is_gt, is_ge}
use Rattle.std.specs.declared.cmp.Ordering.{Ordering}
use Rattle.std.proofs.Math.Option as option
use Rattle.std.specs.Borrow.{Bor}
use Rattle.automata.specs.Automata as automata
use Rattle.automata.specs.Rows.{write_constraints}
use Rattle.automata.specs.Rows as automata_rows
use Rattle.rows.specs.declared.constraints.Relation.{Relation}
use Rattle.rows.specs.declared.constraints.Relation.TheVariants.{AtMost, Below, AtLeast, Above}
use Rattle.rows.specs.declared.constraints.UnknownRelation.{UnknownRelation}
use Rattle.rows.specs.declared.constraints.Owner.{Owner}
use Rattle.rows.specs.declared.constraints.Owner.TheVariants as owner
use Rattle.rows.specs.declared.constraints.Constraint.{Constraint}
use Rattle.rows.specs.declared.constraints.Conjunction.{Conjunction}
use Rattle.rows.specs.Parse.{upper_only, all_relations}

abbrev pub relation_value : Relation → automata.Relation
relation_value AtMost = automata.at_most
relation_value Below = automata.below
relation_value AtLeast = automata.at_least
relation_value Above = automata.above

-- how a relation is written
abbrev pub relation_text : automata.Relation → List ℕ
relation_text automata.at_most = codes "<="
relation_text automata.below = codes "<"
relation_text automata.at_least = codes ">="
relation_text automata.above = codes ">"

-- the word is the number of the relation, or of none
abbrev pub RelationRead : ℕ → Result Relation UnknownRelation → Type 0
RelationRead word (Ok r) = automata_rows.code (relation_value r) ≡ word
RelationRead word (Err e) = (4 ≤ word) × (e.0 ≡ word)

-- whether a value stands so to a bound, in an order
abbrev pub relates : {A : Type 0} → (A → A → Ordering) → Relation → A → A → Bool
relates cmp AtMost a b = is_le (cmp a b)
relates cmp Below a b = is_lt (cmp a b)
relates cmp AtLeast a b = is_ge (cmp a b)
relates cmp Above a b = is_gt (cmp a b)

-- the relations of an invariant are the first two, those of a guard all four
abbrev pub relations_of : Owner → ℕ
relations_of owner.Location = upper_only
relations_of owner.Edge = all_relations

abbrev pub constraint_value : Constraint → automata.Constraint
constraint_value c = record { clock = c.clock.0; relation = relation_value c.relation; bound = c.bound }

-- the answer is the constraint, or there is none
abbrev pub ConstraintIs : option.Option automata.Constraint → Option Constraint → Type 0
ConstraintIs o None = o ≡ option.none
ConstraintIs o (Some c) = o ≡ option.some (constraint_value c)

-- the words of an edge, and behind them the rest
abbrev pub edge_words : automata.Edge → List ℕ → List ℕ
edge_words e rest =
    e.source
    ∷ e.target
    ∷ length e.guard
    ∷ (write_constraints e.guard ++ (length e.resets ∷ (e.resets ++ rest)))

-- the part that begins at `at` ends behind its beginning, within the row
abbrev pub Behind : {A : Type 0} → List ℕ → ℕ → A × ℕ → Type 0
Behind row at part = (at < part.1) × (part.1 ≤ length row)

-- the part is the writing of the constraints, and behind it stands the rest
abbrev pub ConjunctionAt : List ℕ → List automata.Constraint → List ℕ → Option (Conjunction × ℕ) → Type 0
ConjunctionAt row cs rest None = ⊥
ConjunctionAt row cs rest (Some c) =
    (c.0.words.now ≡ write_constraints cs) × (drop c.1 row ≡ rest) × (c.1 ≤ length row)

-- the part is these words, and behind it stands the rest
abbrev pub PartAt : List ℕ → List ℕ → List ℕ → Option (Bor (List ℕ) × ℕ) → Type 0
PartAt row ws rest None = ⊥
PartAt row ws rest (Some c) = (c.0.now ≡ ws) × (drop c.1 row ≡ rest) × (c.1 ≤ length row)
