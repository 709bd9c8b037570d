-- A run that is gone through, with what is done after each move.
use Rattle.std.specs.Prelude.{ℕ, List, [], ◌∷◌, ◌++◌, Ok, Result}
use Rattle.automata.specs.Automata.{Automaton}
use Rattle.replay.specs.declared.moments.Move.{Move}
use Rattle.replay.specs.declared.moments.Moment.{Moment}
use Rattle.replay.specs.Outcomes.{AtStart, Advanced}

-- the moves so far, from the start, the moment after them and what was done
pub data Walked (a : Automaton) (d : ℕ) {S E : Type 0} (then : S → Move → Moment → Result S E → Type 0) (first : S) : List Move → Moment → S → Type 0 where
  no_move : {m : Moment} → AtStart m → Walked a d then first [] m first
  next_move : {moves : List Move} {m after : Moment} {done next : S} (by : Move)
      → Walked a d then first moves m done
      → Advanced a d m by after
      → then done by after (Ok next)
      → Walked a d then first (moves ++ by ∷ []) after next
