-- The next edge is the one whose words begin there.
use Rattle.std.proofs.Common.{◌≡◌, ℕ, ◌<◌, ◌≤◌, List, [], ◌∷◌, length, drop, Some, Option, sym, refl, ap, ◌∙◌, arith, length-drop, rules}
use Rattle.std.proofs.iter.Next.{firm}
use Rattle.automata.specs.Automata as automata
use Rattle.automata.specs.Rows.{write_edges}
use Rattle.rows.specs.declared.edges.Edge.{Edge}
use Rattle.rows.specs.declared.placed.PlacedEdges.{PlacedEdges}
use Rattle.rows.specs.EdgeParts.{EdgeAt}
use Rattle.rows.specs.Parts.{edge_words}
use Rattle.rows.specs.Placed.{PlacedEdgesAre, NextPlacedEdge}
use Rattle.rows.proofs.placed.PlacedEdgesIterator.next.Goals as goal

-- what the first edge from there on is
abbrev Part : PlacedEdges → Option (Edge × ℕ) → Type 0
Part s r =
    (e : automata.Edge) (rest : List ℕ) → drop s.at s.row.now ≡ edge_words e rest → EdgeAt s.row.now e rest r

begins : (row : List ℕ) (s : PlacedEdges) (es : List automata.Edge)
    → PlacedEdgesAre row es s
    → drop s.at s.row.now ≡ write_edges es
begins row s es are = ap (drop s.at) are.row_is ∙ are.words

some_edge : (row : List ℕ) (s t : PlacedEdges) (v : Edge) (es : List automata.Edge)
    → Part s (Some (v, t.at))
    → t.row.now ≡ s.row.now
    → s.at < t.at
    → t.at ≤ length s.row.now
    → PlacedEdgesAre row es s
    → NextPlacedEdge row es (Some (s.at, v)) t
some_edge row s t v [] part same h i are =
    let l : length (drop s.at s.row.now) ≡ 0 = ap length (begins row s [] are) in
    omega (arith, simp length-drop at l)
some_edge row s t v (e ∷ es) part same h i are =
    let r = part e (write_edges es) (begins row s (e ∷ es) are) in (
      are.words,
      r.0,
      record { row_is = same ∙ are.row_is; words = sym (ap (drop t.at) are.row_is) ∙ r.1 },
    )

pub returns : goal.returns
returns c =
    let f = c.in_ok-edge.ensures.further in
    record {
      steps =
          λ row es are.
          some_edge row c.args.self.now (record { row = c.args.self.now.row; at = c.in_ok-edge.end }) c.in_ok-edge.edge es c.in_ok-edge.ensures.part refl f.0 f.1 are;
      goes = firm ((tt, tt, omega (arith, f))) (λ h. search rules);
    }
