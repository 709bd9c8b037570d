-- Constraints on clocks whose values are numbers of d-ths.
use Rattle.std.specs.Prelude.{◌≡◌, ℕ, ◌*◌, ◌<◌, ◌≤◌, Bool, true, false, List}
use Rattle.std.proofs.Math.Option.{some}
use Rattle.automata.specs.Automata.{nth, Relation, at_most, below, at_least, above, Constraint}

-- the answer tells whether it is so
abbrev pub Decides : Bool → Type 0 → Type 0
Decides true P = P
Decides false P = P → ⊥

-- u d-ths against a whole number
abbrev pub MeetsParts : ℕ → Relation → ℕ → ℕ → Type 0
MeetsParts d at_most u n = u ≤ n * d
MeetsParts d below u n = u < n * d
MeetsParts d at_least u n = n * d ≤ u
MeetsParts d above u n = n * d < u

-- every constraint holds of the clocks' values
abbrev pub HoldsParts : ℕ → (ℕ → ℕ) → List Constraint → Type 0
HoldsParts d value cs =
    (j : ℕ) (c : Constraint) → nth cs j ≡ some c → MeetsParts d c.relation (value c.clock) c.bound
