-- The automaton that the parts of a clockwork stand for, the words that each part adds to a row, and what a writer of parts has done.
use Rattle.std.specs.Prelude.{◌≡◌, ℕ, Bool, true, List, [], ◌∷◌, ◌++◌, map, length, vec_items, string_bytes, String}
use Rattle.std.specs.List.{list_all}
use Rattle.automata.specs.Automata.{Constraint, Edge, Automaton}
use Rattle.automata.specs.Rows.{code, upper, write_constraints}
use Rattle.rows.specs.declared.constraints.Constraint.{Constraint as Test}
use Rattle.rows.specs.Parts.{relation_value, constraint_value}
use Rattle.std.specs.declared.alloc.Global.{Global}
use Rattle.clockworks.specs.declared.parts.Position.{Position}
use Rattle.clockworks.specs.declared.parts.Step.{Step}
use Rattle.clockworks.specs.declared.parts.Clockwork.{Clockwork}
use Rattle.clockworks.specs.declared.write.Writer.{Writer}

abbrev pub constraints : List Test → List Constraint
constraints ts = map constraint_value ts

abbrev pub invariant_of : Position → List Constraint
invariant_of p = constraints (vec_items p.tests)

abbrev pub edge : Step → Edge
edge s =
    record {
      source = s.source;
      target = s.target;
      guard = constraints (vec_items s.tests);
      resets = vec_items s.resets;
    }

abbrev pub automaton : Clockwork → Automaton
automaton c =
    record {
      clocks = c.clocks;
      invariants = map invariant_of (vec_items c.positions);
      edges = map edge (vec_items c.steps);
    }

-- ys is xs with the words ws after it
pub record Adds (xs ws ys : List ℕ) : Type 0 where
  pub longer : ys ≡ xs ++ ws

-- the text is the old one with these bytes after it
abbrev pub AddsText : String Global → List ℕ → String Global → Type 0
AddsText old bytes new = Adds (string_bytes old) bytes (string_bytes new)

-- the words of each part, as the writing of an automaton has them
abbrev pub test_words : Test → List ℕ
test_words t = t.clock.0 ∷ code (relation_value t.relation) ∷ t.bound ∷ []

abbrev pub tests_words : List Test → List ℕ
tests_words ts = length (constraints ts) ∷ write_constraints (constraints ts)

abbrev pub resets_words : List ℕ → List ℕ
resets_words rs = length rs ∷ rs

abbrev pub position_words : Position → List ℕ
position_words p = tests_words (vec_items p.tests)

abbrev pub step_words : Step → List ℕ
step_words s = s.source ∷ s.target ∷ (tests_words (vec_items s.tests) ++ resets_words (vec_items s.resets))

abbrev pub all_upper : List Test → Bool
all_upper ts = list_all (λ (t : Test). upper (relation_value t.relation)) ts

-- the words are added to the row, and what they say fits the clocks and positions, which stay as they are
pub record Wrote (old new : Writer) (words : List ℕ) (fits : ℕ → ℕ → Bool) : Type 0 where
  pub adds : Adds (vec_items old.row) words (vec_items new.row)
  pub fine : fits old.clocks old.positions ≡ true
  pub clocks : new.clocks ≡ old.clocks
  pub positions : new.positions ≡ old.positions
