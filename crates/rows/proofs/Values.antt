-- What words and views stand for, where they are the writing of constraints, an edge or an automaton.
use Rattle.std.proofs.Common.{◌≡◌, ℕ, zero, suc, ◌*◌, ◌/◌, ◌≤◌, List, [], ◌∷◌, length, get_or, drop, Some, sym, refl, ap, subst, ◌∙◌, drop_of_length-le, arith}
use mathlib.Core.Option.{Option, some}
use Rattle.automata.specs.Automata as automata
use Rattle.automata.specs.Automata.{nth}
use Rattle.automata.specs.Rows.{Reads, write_constraints}
use Rattle.rows.specs.declared.constraints.Conjunction.{Conjunction}
use Rattle.rows.specs.declared.edges.Edge.{Edge}
use Rattle.rows.specs.declared.views.Automaton.{Automaton}
use Rattle.rows.specs.EdgeParts.{EdgeIs}
use Rattle.rows.specs.Parse.{constraint}
use Rattle.rows.specs.Values.{constraints_value, conjunction_value, edge_value}
use Rattle.rows.specs.Viewed.{or_nothing, value_of}
use Rattle.rows.specs.Views.{Views, automaton_value, InvariantIs}
use Rattle.rows.specs.Standing.{ValuesStand}
use Rattle.rows.proofs.Round.{relation_of-code, complete}

pub constraints_value-written : (cs : List automata.Constraint) → constraints_value (write_constraints cs) ≡ cs
constraints_value-written [] = refl
constraints_value-written (c ∷ cs) = rw (relation_of-code c.relation, constraints_value-written cs)

-- words that are the writing of constraints stand for these
pub constraints_value-is : (ws : List ℕ) (cs : List automata.Constraint) → ws ≡ write_constraints cs → constraints_value ws ≡ cs
constraints_value-is ws cs e = ap constraints_value e ∙ constraints_value-written cs

-- a constraint for each three words, at its place
pub length-constraints_value : (ws : List ℕ) → length (constraints_value ws) ≡ length ws / 3
length-constraints_value [] = refl
length-constraints_value (c ∷ []) = refl
length-constraints_value (c ∷ r ∷ []) = refl
length-constraints_value (c ∷ r ∷ b ∷ ws) = omega (arith, length-constraints_value ws)

-- the constraint at a place is the first of those that the words from there on stand for
pub nth-constraints_value : (ws : List ℕ) (n : ℕ) → nth (constraints_value ws) n ≡ nth (constraints_value (drop (n * 3) ws)) 0
nth-constraints_value ws zero = refl
nth-constraints_value [] (suc n) = rw (drop_of_length-le {A = ℕ} [] {i = suc n * 3} (omega arith))
nth-constraints_value (c ∷ []) (suc n) = rw (drop_of_length-le (c ∷ []) {i = suc n * 3} (omega arith))
nth-constraints_value (c ∷ r ∷ []) (suc n) = rw (drop_of_length-le (c ∷ r ∷ []) {i = suc n * 3} (omega arith))
nth-constraints_value (c ∷ r ∷ b ∷ ws) (suc n) =
    let e : suc n * 3 ≡ suc (suc (suc (n * 3))) = omega arith in
    rw e (nth-constraints_value ws n)

-- three words stand for a constraint, and fewer for none
pub first_constraint : (ws : List ℕ)
    → 3 ≤ length ws
    → nth (constraints_value ws) 0 ≡ some (constraint (get_or ws 0 0) (get_or ws 1 0) (get_or ws 2 0))
first_constraint [] h = absurd (omega arith)
first_constraint (c ∷ []) h = absurd (omega arith)
first_constraint (c ∷ r ∷ []) h = absurd (omega arith)
first_constraint (c ∷ r ∷ b ∷ ws) h = refl

-- an edge that has these parts stands for it
pub edge_value-is : (v : Edge) (e : automata.Edge) → EdgeIs v e → edge_value v ≡ e
edge_value-is v e is =
    rw
    (is.source, is.target, constraints_value-is v.guard.words.now e.guard is.guard, is.resets)
    refl

pub InvariantIs-written : (o : Option (List automata.Constraint)) (c : Conjunction) (cs : List automata.Constraint)
    → o ≡ some cs
    → c.words.now ≡ write_constraints cs
    → InvariantIs o (Some c)
InvariantIs-written o c cs e f =
    let v : cs ≡ conjunction_value c = sym (constraints_value-is c.words.now cs f) in
    (subst (λ (z : List automata.Constraint). o ≡ some z) v e, subst (λ (z : List automata.Constraint). c.words.now ≡ write_constraints z) v f)

-- a row that is the writing of an automaton stands for it
pub value_of-is : (row : List ℕ) (a : automata.Automaton) → Reads row a → value_of row ≡ a
unfolding value_of
value_of-is row a r = ap or_nothing (complete row a r)

-- a view is one of the automaton that it stands for, and of no other
pub views : (v : Automaton) → Views v (automaton_value v)
views v =
    let w = v.viewed in
    record { reads = w.reads; clocks = w.clocks_are; locations = w.locations_are; edges = w.edges_are }

pub automaton_value-is : (v : Automaton) (a : automata.Automaton) → Views v a → a ≡ automaton_value v
automaton_value-is v a w = sym (value_of-is v.row.now a w.reads)

pub values_stand : ValuesStand
values_stand =
    record { views = views; automaton = automaton_value-is; constraints = constraints_value-is; edge = edge_value-is }
