-- What the part of a row that is an edge says.
use Rattle.std.specs.Prelude.{◌≡◌, ℕ, ◌≤◌, List, length, drop, Some, None, Option}
use Rattle.automata.specs.Automata as automata
use Rattle.automata.specs.Rows.{write_constraints}
use Rattle.rows.specs.declared.edges.Edge.{Edge}

-- the parts are those of the edge
pub record EdgeIs (v : Edge) (e : automata.Edge) : Type 0 where
  pub source : v.source.0 ≡ e.source
  pub target : v.target.0 ≡ e.target
  pub guard : v.guard.words.now ≡ write_constraints e.guard
  pub resets : v.resets.now ≡ e.resets

-- the part is the edge, and behind it stands the rest
abbrev pub EdgeAt : List ℕ → automata.Edge → List ℕ → Option (Edge × ℕ) → Type 0
EdgeAt row e rest None = ⊥
EdgeAt row e rest (Some v) = EdgeIs v.0 e × (drop v.1 row ≡ rest) × (v.1 ≤ length row)
