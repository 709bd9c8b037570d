-- What a wait and an edge do to a moment.
use Rattle.std.specs.Prelude.{◌≡◌, ℕ, ◌+◌, ◌^◌, ◌<◌, ◌≤◌, cond, ◌⊎◌, Some, None, Option}
use Rattle.std.proofs.Math.Option as option
use Rattle.automata.specs.Automata as automata
use Rattle.regions.specs.Moves.{among}
use Rattle.rows.specs.declared.edges.Edge.{Edge}
use Rattle.rows.specs.EdgeParts.{EdgeIs}
use Rattle.replay.specs.declared.moments.Moment.{Moment}
use Rattle.replay.specs.Meaning.{clock_of}

-- all clocks and the time go on by k
pub record Waited (k : ℕ) (m after : Moment) : Type 0 where
  pub location : after.location.0 ≡ m.location.0
  pub clocks : (i : ℕ) → i < 8 → clock_of after i ≡ clock_of m i + k
  pub time : after.time ≡ m.time + k

-- the clock of a number, or the time, does not fit 64 bits after a wait of k
abbrev pub NoRoomFor : ℕ → Moment → Type 0
NoRoomFor k m = ((i : ℕ) × (i < 8) × (2 ^ 64 ≤ clock_of m i + k)) ⊎ (2 ^ 64 ≤ m.time + k)

-- the clocks that the edge resets are 0, and it takes no time
pub record Taken (e : automata.Edge) (m after : Moment) : Type 0 where
  pub location : after.location.0 ≡ e.target
  pub clocks : (i : ℕ) → i < 8 → clock_of after i ≡ cond (among i e.resets) 0 (clock_of m i)
  pub time : after.time ≡ m.time

-- the answer is the edge, or there is none
abbrev pub EdgeNumber : option.Option automata.Edge → Option Edge → Type 0
EdgeNumber o None = o ≡ option.none
EdgeNumber o (Some v) = (e : automata.Edge) × (o ≡ option.some e) × EdgeIs v e
