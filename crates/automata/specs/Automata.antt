-- Timed automata. A location is told by its number, its place in the list of invariants; a clock by its number too.
use Rattle.std.specs.Prelude.{List, [], ◌∷◌, ℕ, zero, suc}
use Rattle.std.proofs.Math.Option.{Option, some, none}

-- the element at a place, if there is one
abbrev pub nth : {A : Type 0} → List A → ℕ → Option A
nth [] n = none
nth (x ∷ xs) zero = some x
nth (x ∷ xs) (suc n) = nth xs n

-- how a clock is compared with a whole number
pub data Relation : Type 0 where
  at_most below at_least above : Relation

-- an atomic clock constraint
pub record Constraint : Type 0 where
  pub clock : ℕ
  pub relation : Relation
  pub bound : ℕ

-- an edge may be taken where its guard holds, and sets the clocks of `resets` to 0
pub record Edge : Type 0 where
  pub source : ℕ
  pub target : ℕ
  pub guard : List Constraint
  pub resets : List ℕ

-- the invariant of a location has to hold as long as one is there
pub record Automaton : Type 0 where
  pub clocks : ℕ
  pub invariants : List (List Constraint)
  pub edges : List Edge

abbrev pub or_empty : Option (List Constraint) → List Constraint
or_empty none = []
or_empty (some cs) = cs

abbrev pub invariant : Automaton → ℕ → List Constraint
invariant a l = or_empty (nth a.invariants l)
