-- What the functions that go over a row tell: where a part ends, or which rule the row breaks and at which word.
use Rattle.std.specs.Prelude.{◌≡◌, ℕ, zero, suc, ◌+◌, ◌<◌, ◌≤◌, List, length, drop, Ok, Err, Result, slice_index}
use Rattle.std.proofs.Math.Option.{some, none}
use Rattle.automata.specs.Automata as automata
use Rattle.automata.specs.Rows.{Reads}
use Rattle.automata.specs.Statements.{OneAutomaton}
use Rattle.rows.specs.declared.refusals.Refusal.{Refusal}
use Rattle.rows.specs.declared.refusals.Rule.{Rule}
use Rattle.rows.specs.declared.refusals.Rule.TheVariants.{TooLong, Ends, Clocks, Locations, Clock, Relation, LowerBound, Bound, Location}
use Rattle.rows.specs.declared.views.Automaton.{Automaton}
use Rattle.rows.specs.Parse.{Outcome}
use Rattle.rows.specs.Views.{Views}

-- what is wrong at the word
abbrev pub Wrong : List ℕ → Rule → ℕ → Type 0
Wrong row TooLong w = (16384 < length row) × (w ≡ 16384)
Wrong row Ends w = w ≡ length row
Wrong row Clocks w = (w ≡ 0) × (1 ≤ slice_index row 0 → 8 < slice_index row 0)
Wrong row Locations w = (w ≡ 1) × (1 ≤ slice_index row 1 → 256 < slice_index row 1)
Wrong row Clock w = (w < length row) × (slice_index row 0 ≤ slice_index row w)
Wrong row Relation w = (w < length row) × (4 ≤ slice_index row w)
Wrong row LowerBound w = (w < length row) × (2 ≤ slice_index row w)
Wrong row Bound w = (w < length row) × (10000 < slice_index row w)
Wrong row Location w = (w < length row) × (slice_index row 1 ≤ slice_index row w)

-- the refusal of a row that ends too soon
abbrev pub ends_at : List ℕ → Refusal
ends_at row = record { rule = Ends; word = length row }

-- the word at a place, or the row ends before
abbrev pub WordAt : List ℕ → ℕ → Result ℕ Refusal → Type 0
WordAt row at (Ok word) = (at < length row) × (word ≡ slice_index row at)
WordAt row at (Err f) = (length row ≤ at) × (f ≡ ends_at row)

-- reading that goes on as x gives what y gives
pub record Leads {A B : Type 0} (x : Outcome A) (y : Outcome B) : Type 0 where
  pub fails : x ≡ none → y ≡ none
  pub reads : (v : A) (rest : List ℕ) → x ≡ some (v, rest) → (u : B) × (y ≡ some (u, rest))

-- calls in a row, each at the place where the one before ended
abbrev pub Repeats : (ℕ → Result ℕ Refusal → Type 0) → ℕ → ℕ → ℕ → Type 0
Repeats call zero from end = end ≡ from
Repeats call (suc n) from end = (next : ℕ) × Repeats call n from next × call next (Ok end)

-- so many calls each give an end, or one refuses
abbrev pub RepeatCases : (ℕ → Result ℕ Refusal → Type 0) → ℕ → ℕ → Result ℕ Refusal → Type 0
RepeatCases call count from (Ok end) = Repeats call count from end
RepeatCases call count from (Err f) =
    (n : ℕ) × (next : ℕ) × (n < count) × Repeats call n from next × call next (Err f)

pub record Repeated (call : ℕ → Result ℕ Refusal → Type 0) (count from : ℕ) (r : Result ℕ Refusal) : Type 0 where
  pub cases : RepeatCases call count from r

-- as many calls as the word at `at` says, from the word behind it on; or the row ends before
pub record Counted (call : ℕ → Result ℕ Refusal → Type 0) (row : List ℕ) (at : ℕ) (r : Result ℕ Refusal) : Type 0 where
  pub there : at < length row → Repeated call (slice_index row at) (at + 1) r
  pub missing : length row ≤ at → r ≡ Err (ends_at row)

-- one element more of a list that is read by its number of elements
abbrev pub Step : {A : Type 0} → (ℕ → List ℕ → Outcome A) → List ℕ → ℕ → Result ℕ Refusal → Type 0
Step parse row at (Ok end) =
    (at < end) × (end ≤ length row) × ((k : ℕ) → Leads (parse k (drop end row)) (parse (suc k) (drop at row)))
Step parse row at (Err f) = ((k : ℕ) → parse (suc k) (drop at row) ≡ none) × Wrong row f.rule f.word

-- a part that begins at `at` ends at `end`, or there is none
abbrev pub Tells : {A : Type 0} → (List ℕ → Outcome A) → List ℕ → ℕ → Result ℕ Refusal → Type 0
Tells {A} parse row at (Ok end) = (at < end) × (end ≤ length row) × ((v : A) × (parse (drop at row) ≡ some (v, drop end row)))
Tells parse row at (Err f) = (parse (drop at row) ≡ none) × Wrong row f.rule f.word

-- a part that begins at `at` goes to the end of the row, or there is none
abbrev pub TellsEnd : {A : Type 0} → (List ℕ → Outcome A) → List ℕ → ℕ → Result ℕ Refusal → Type 0
TellsEnd {A} parse row at (Ok end) = (v : A) × (rest : List ℕ) × (parse (drop at row) ≡ some (v, rest))
TellsEnd parse row at (Err f) = (parse (drop at row) ≡ none) × Wrong row f.rule f.word

-- an accepted row is the writing of the automaton that is viewed; a refused one is the writing of none, and the rule is broken
-- at the word; and no row is the writing of two
abbrev pub ReadCases : List ℕ → Result Automaton Refusal → Type 0
ReadCases row (Ok v) = (v.row.now ≡ row) × ((a : automata.Automaton) × Views v a)
ReadCases row (Err f) = ((a : automata.Automaton) → Reads row a → ⊥) × Wrong row f.rule f.word

pub record ReadPost (row : List ℕ) (r : Result Automaton Refusal) : Type 0 where
  pub cases : ReadCases row r
  pub one : OneAutomaton
