-- What a moment says of a state.
use Rattle.std.specs.Prelude.{◌≡◌, ℕ, ◌<◌, length, slice_index}
use Rattle.automata.specs.Automata.{Automaton}
use Rattle.automata.specs.Runs.{State, value_of, Reached}
use Rattle.regions.specs.Points.{Is}
use Rattle.replay.specs.declared.moments.Moment.{Moment}

-- how many d-ths a clock has
abbrev pub clock_of : Moment → ℕ → ℕ
clock_of m i = slice_index m.clocks i

-- the moment is the state, over the denominator d
pub record Tells (n d : ℕ) (m : Moment) (s : State) : Type 0 where
  pub location : m.location.0 ≡ s.location
  pub clocks : length s.valuation ≡ n
  pub value : (i : ℕ) → i < n → Is d (value_of s.valuation i) (clock_of m i)
  pub time : Is d s.time m.time

-- some run comes to that location, with just these values of the clocks, at just that time
abbrev pub ComeTo : Automaton → ℕ → Moment → Type 0
ComeTo a d m = (s : State) × Reached a s × Tells a.clocks d m s
