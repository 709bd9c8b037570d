-- What the functions that go through a run tell: the moment that is come to, or why there is none.
use Rattle.std.specs.Prelude.{◌≡◌, ℕ, ◌+◌, ◌^◌, ◌<◌, ◌≤◌, List, [], ◌∷◌, Ok, Err, Result, ◌≢◌}
use Rattle.std.proofs.Math.Option.{some, none}
use Rattle.automata.specs.Automata.{nth, Edge, Automaton}
use Rattle.automata.specs.Runs.{State, Holds, Allowed, delayed, reset_all, Reached}
use Rattle.replay.specs.declared.moments.Move.{Move}
use Rattle.replay.specs.declared.moments.Move.TheVariants.{Wait, Step}
use Rattle.replay.specs.declared.moments.Moment.{Moment}
use Rattle.replay.specs.declared.moments.Fault.{Fault}
use Rattle.replay.specs.declared.moments.Fault.TheVariants.{
  NoDenominator,
  NoRoom,
  NotAllowedAtStart,
  NoSuchStep,
  OtherPosition,
  GuardFails,
  InvariantFails,
}
use Rattle.replay.specs.Meaning.{clock_of, Tells, ComeTo}
use Rattle.replay.specs.Changes.{Waited, NoRoomFor, Taken}
use Rattle.replay.specs.Moves.{parts, Makes, Run}

-- the start: location 0, all clocks 0, at time 0
pub record AtStart (m : Moment) : Type 0 where
  pub location : m.location.0 ≡ 0
  pub clocks : (i : ℕ) → i < 8 → clock_of m i ≡ 0
  pub time : m.time ≡ 0

-- where the start is not allowed, there is no run at all
abbrev pub Begins : Automaton → Result Moment Fault → Type 0
Begins a (Ok m) = AtStart m × ((d : ℕ) → ComeTo a d m)
Begins a (Err f) = (f ≡ NotAllowedAtStart) × ((s : State) → Reached a s → ⊥)

-- what a move makes of a moment
abbrev pub After : Automaton → Move → Moment → Moment → Type 0
After a (Wait k) m after = Waited k m after
After a (Step i) m after = (e : Edge) × (nth a.edges i ≡ some e) × Taken e m after

-- the move is a step of the definitions from every state that the moment tells, and so from one that a run comes to
pub record Advanced (a : Automaton) (d : ℕ) (m : Moment) (by : Move) (after : Moment) : Type 0 where
  pub denominator : 1 ≤ d
  pub moment : After a by m after
  pub makes : (s : State) → Tells a.clocks d m s → (u : State) × Makes a d by s u × Tells a.clocks d after u
  pub come : ComeTo a d m → ComeTo a d after

-- why a wait is refused
abbrev pub WaitFails : Automaton → ℕ → Moment → ℕ → Fault → Type 0
WaitFails a d m k NoDenominator = d ≡ 0
WaitFails a d m k NoRoom = NoRoomFor k m
WaitFails a d m k InvariantFails =
    (s : State) → Tells a.clocks d m s → Allowed a s.location (delayed (parts d k) s.valuation) → ⊥
WaitFails a d m k NotAllowedAtStart = ⊥
WaitFails a d m k NoSuchStep = ⊥
WaitFails a d m k OtherPosition = ⊥
WaitFails a d m k GuardFails = ⊥

-- why a step is refused
abbrev pub StepFails : Automaton → ℕ → Moment → ℕ → Fault → Type 0
StepFails a d m i NoDenominator = d ≡ 0
StepFails a d m i NoSuchStep = nth a.edges i ≡ none
StepFails a d m i OtherPosition = (e : Edge) × (nth a.edges i ≡ some e) × (e.source ≢ m.location.0)
StepFails a d m i GuardFails =
    (e : Edge)
    × (nth a.edges i ≡ some e)
    × ((s : State) → Tells a.clocks d m s → Holds e.guard s.valuation → ⊥)
StepFails a d m i InvariantFails =
    (e : Edge)
    × (nth a.edges i ≡ some e)
    × ((s : State) → Tells a.clocks d m s → Allowed a e.target (reset_all s.valuation e.resets) → ⊥)
StepFails a d m i NoRoom = ⊥
StepFails a d m i NotAllowedAtStart = ⊥

abbrev pub Fails : Automaton → ℕ → Moment → Move → Fault → Type 0
Fails a d m (Wait k) f = WaitFails a d m k f
Fails a d m (Step i) f = StepFails a d m i f

abbrev pub Advances : Automaton → ℕ → Moment → Move → Result Moment Fault → Type 0
Advances a d m by (Ok after) = Advanced a d m by after
Advances a d m by (Err f) = Fails a d m by f

-- the sum of the waits
abbrev pub waits : List Move → ℕ
waits [] = 0
waits (Wait k ∷ ms) = k + waits ms
waits (Step i ∷ ms) = waits ms

-- the moves are a run of the definitions, which ends at that location, with just these values of the clocks, at just that time
pub record Replayed (a : Automaton) (d : ℕ) (moves : List Move) (m : Moment) : Type 0 where
  pub denominator : 1 ≤ d
  pub run : (s : State) × Run a d moves s × Reached a s × Tells a.clocks d m s
  pub come : ComeTo a d m
  pub time : m.time ≡ waits moves

-- why the moves are refused: but for the first two faults they are no run
abbrev pub Refused : Automaton → ℕ → List Move → Fault → Type 0
Refused a d moves NoDenominator = d ≡ 0
Refused a d moves NoRoom = 2 ^ 64 ≤ waits moves
Refused a d moves NotAllowedAtStart = (s : State) → Run a d moves s → ⊥
Refused a d moves NoSuchStep = (s : State) → Run a d moves s → ⊥
Refused a d moves OtherPosition = (s : State) → Run a d moves s → ⊥
Refused a d moves GuardFails = (s : State) → Run a d moves s → ⊥
Refused a d moves InvariantFails = (s : State) → Run a d moves s → ⊥

abbrev pub Replays : Automaton → ℕ → List Move → Result Moment Fault → Type 0
Replays a d moves (Ok m) = Replayed a d moves m
Replays a d moves (Err f) = Refused a d moves f
