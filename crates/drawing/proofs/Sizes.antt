-- A part that is put behind the others adds its size to theirs, and the sizes of all are the length of the row.
use Rattle.std.proofs.Common.{◌≡◌, ◌+◌, ◌*◌, List, [], ◌∷◌, ◌++◌, map, length, vec_items, ap, ◌∙◌, arith, length-append}
use Rattle.std.specs.List.{sum_by}
use Rattle.std.proofs.lemmas.List.Sums.{sum_by-cons, sum_by_push}
use Rattle.automata.specs.Rows.{write, write_constraints, write_invariants, write_edges}
use Rattle.rows.specs.declared.constraints.Constraint.{Constraint as Test}
use Rattle.clockworks.specs.declared.parts.Position.{Position}
use Rattle.clockworks.specs.declared.parts.Step.{Step}
use Rattle.clockworks.specs.declared.parts.Clockwork.{Clockwork}
use Rattle.clockworks.specs.Meaning.{constraints, invariant_of, edge, automaton}
use Rattle.drawing.specs.Sizes.{position_size, step_size, parts_size}

pub positions_more : (ps qs : List Position) (p : Position) → qs ≡ ps ++ p ∷ [] → sum_by position_size qs ≡ sum_by position_size ps + position_size p
positions_more ps qs p e = ap (sum_by position_size) e ∙ sum_by_push position_size ps p

pub steps_more : (ss qs : List Step) (s : Step) → qs ≡ ss ++ s ∷ [] → sum_by step_size qs ≡ sum_by step_size ss + step_size s
steps_more ss qs s e = ap (sum_by step_size) e ∙ sum_by_push step_size ss s

tests_size : (ts : List Test) → length (write_constraints (constraints ts)) ≡ 3 * length ts
tests_size [] = omega arith
tests_size (t ∷ ts) = omega (arith, tests_size ts)

positions_size_lem : (ps : List Position) → length (write_invariants (map invariant_of ps)) ≡ sum_by position_size ps
positions_size_lem [] = omega arith
positions_size_lem (p ∷ ps) =
    omega (
      arith,
      length-append (write_constraints (invariant_of p)) (write_invariants (map invariant_of ps)),
      tests_size (vec_items p.tests),
      p.tests.ok.0,
      positions_size_lem ps,
      sum_by-cons position_size p ps,
    )

steps_size_lem : (ss : List Step) → length (write_edges (map edge ss)) ≡ sum_by step_size ss
steps_size_lem [] = omega arith
steps_size_lem (s ∷ ss) =
    let resets = vec_items s.resets in
    let rest = write_edges (map edge ss) in
    omega (
      arith,
      length-append (write_constraints (edge s).guard) (length resets ∷ (resets ++ rest)),
      length-append resets rest,
      tests_size (vec_items s.tests),
      s.tests.ok.0,
      s.resets.ok.0,
      steps_size_lem ss,
      sum_by-cons step_size s ss,
    )

-- the size of the parts is what their row has past its first two numbers
pub row_size : (c : Clockwork) → length (write (automaton c)) ≡ 2 + parts_size c
row_size c =
    omega (
      arith,
      length-append (write_invariants (automaton c).invariants) (write_edges (automaton c).edges),
      positions_size_lem (vec_items c.positions),
      steps_size_lem (vec_items c.steps),
    )
