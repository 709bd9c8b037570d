-- Moves as steps of the definitions, and lists of moves as runs.
use Rattle.std.specs.Prelude.{◌≡◌, ℕ, pred, List, [], ◌∷◌}
use Rattle.std.proofs.Math.Option.{some}
use Rattle.automata.specs.Times.{Time, zero_time, add}
use Rattle.automata.specs.Automata.{nth, Edge, Automaton}
use Rattle.automata.specs.Runs.{State, Holds, Allowed, delayed, reset_all, zeros}
use Rattle.replay.specs.declared.moments.Move.{Move}
use Rattle.replay.specs.declared.moments.Move.TheVariants.{Wait, Step}

-- the time of k d-ths
abbrev pub parts : ℕ → ℕ → Time
parts d k = record { numerator = k; denominator-1 = pred d }

-- the state after a delay
abbrev pub delayed_state : Time → State → State
delayed_state t s = record { location = s.location; valuation = delayed t s.valuation; time = add s.time t }

-- the state after an edge
abbrev pub edge_state : Edge → State → State
edge_state e s = record { location = e.target; valuation = reset_all s.valuation e.resets; time = s.time }

-- a wait of k is a delay of k d-ths, after which the invariant holds
pub record Delays (a : Automaton) (d k : ℕ) (s u : State) : Type 0 where
  pub allowed : Allowed a s.location (delayed (parts d k) s.valuation)
  pub to : u ≡ delayed_state (parts d k) s

-- a step is the edge of that number
pub record Takes (a : Automaton) (i : ℕ) (e : Edge) (s u : State) : Type 0 where
  pub number : nth a.edges i ≡ some e
  pub source : e.source ≡ s.location
  pub guard : Holds e.guard s.valuation
  pub allowed : Allowed a e.target (reset_all s.valuation e.resets)
  pub to : u ≡ edge_state e s

abbrev pub Makes : Automaton → ℕ → Move → State → State → Type 0
Makes a d (Wait k) s u = Delays a d k s u
Makes a d (Step i) s u = (e : Edge) × Takes a i e s u

-- the moves lead from one state to the other, one after the other
abbrev pub Path : Automaton → ℕ → State → List Move → State → Type 0
Path a d s [] t = s ≡ t
Path a d s (m ∷ ms) t = (u : State) × Makes a d m s u × Path a d u ms t

abbrev pub start_state : Automaton → State
start_state a = record { location = 0; valuation = zeros a.clocks; time = zero_time }

-- the moves are a run, which ends in the state
pub record Run (a : Automaton) (d : ℕ) (moves : List Move) (s : State) : Type 0 where
  pub start : Allowed a 0 (zeros a.clocks)
  pub path : Path a d (start_state a) moves s
