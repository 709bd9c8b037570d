-- A worked example: a bell that can be struck between 2 and 3.
use Rattle.std.specs.Prelude.{◌≡◌, [], ◌∷◌}
use Rattle.automata.specs.Times.{Time, zero_time, whole}
use Rattle.automata.specs.Automata.{Automaton, at_most, above}
use Rattle.automata.specs.Runs.{Reached}
use Rattle.automata.specs.Rows.{Reads}

-- one clock; in location 0 it is at most 3; to location 1 where it is above 2, and the clock is set back
abbrev pub bell : Automaton
bell =
    record {
      clocks = 1;
      invariants = (record { clock = 0; relation = at_most; bound = 3 } ∷ []) ∷ [] ∷ [];
      edges =
          record { source = 0; target = 1; guard = record { clock = 0; relation = above; bound = 2 } ∷ []; resets = 0 ∷ [] }
          ∷ [];
    }

abbrev pub two_and_a_half : Time
two_and_a_half = record { numerator = 5; denominator-1 = 1 }

pub record BellStruck : Type 0 where
  pub row : Reads (1 ∷ 2 ∷ 1 ∷ 0 ∷ 0 ∷ 3 ∷ 0 ∷ 0 ∷ 1 ∷ 1 ∷ 0 ∷ 3 ∷ 2 ∷ 1 ∷ 0 ∷ []) bell
  pub struck : Reached bell (record { location = 1; valuation = zero_time ∷ []; time = two_and_a_half })
  pub whole_part : whole two_and_a_half ≡ 2
