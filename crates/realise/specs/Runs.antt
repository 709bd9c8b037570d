-- What a run along a way is: one that was gone through again, to the location, in time.
use Rattle.std.specs.Prelude.{◌≡◌, ℕ, suc, ◌+◌, ◌*◌, ◌<◌, ◌≤◌, List, [], ◌∷◌, vec_items}
use Rattle.automata.specs.Automata.{Automaton}
use Rattle.replay.specs.declared.moments.Move.{Move}
use Rattle.replay.specs.declared.moments.Move.TheVariants.{Wait, Step}
use Rattle.replay.specs.declared.moments.Moment.{Moment}
use Rattle.replay.specs.Outcomes.{Replayed}
use Rattle.realise.specs.declared.arrivals.Arrival.{Arrival}
use Rattle.realise.specs.declared.arrivals.Arrival.TheVariants.{At, After}
use Rattle.realise.specs.declared.runs.Run.{Run}

-- t d-ths are just n; or they are more than n, and less than n + 1 / e
abbrev pub InTime : ℕ → Arrival → ℕ → Type 0
InTime d (At n) t = t ≡ n * d
InTime d (After n e) t = (n * d < t) × (t * e < (n * e + 1) * d)

-- what the whole is parted by beyond the fractions that the run needs
abbrev pub part_of : Arrival → ℕ
part_of (At n) = 1
part_of (After n e) = e

-- how many of the moves are waits
abbrev pub wait_count : List Move → ℕ
wait_count [] = 0
wait_count (Wait k ∷ ms) = suc (wait_count ms)
wait_count (Step i ∷ ms) = wait_count ms

-- the moves are a run of the automaton, which ends at the location, in time, and the denominator is small
pub record Ends (a : Automaton) (l : ℕ) (arrival : Arrival) (d : ℕ) (moves : List Move) (end : Moment) : Type 0 where
  pub replayed : Replayed a d moves end
  pub location : end.location.0 ≡ l
  pub time : InTime d arrival end.time
  pub small : d ≤ (wait_count moves + 1) * part_of arrival

abbrev pub Realised : Automaton → ℕ → Arrival → Run → Type 0
Realised a l arrival run = Ends a l arrival run.denominator (vec_items run.moves) run.end
