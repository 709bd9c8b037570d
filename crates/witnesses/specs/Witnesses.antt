-- What a witness is: a run to the location at the time that is told, and the region in which it ends.
use Rattle.std.specs.Prelude.{◌≡◌, ℕ, List, Some, None, Option}
use Rattle.automata.specs.Automata as automata
use Rattle.automata.specs.Regions.{top}
use Rattle.automata.specs.Runs.{State}
use Rattle.automata.specs.Statements as theory
use Rattle.regions.specs.Alike.{ShowsState}
use Rattle.regions.specs.Cells.{Normal}
use Rattle.rows.specs.declared.views.Automaton.{Automaton}
use Rattle.rows.specs.Views.{automaton_value}
use Rattle.cells.specs.Meaning.{region_value}
use Rattle.replay.specs.Meaning.{Tells}
use Rattle.search.specs.declared.answers.Answer.{Answer}
use Rattle.search.specs.declared.answers.Answer.TheVariants.{At, After, Never}
use Rattle.search.specs.declared.answers.Table.{Table}
use Rattle.search.specs.Answering.{AnswerIs, TableIs}
use Rattle.realise.specs.declared.arrivals.Arrival.{Arrival}
use Rattle.realise.specs.declared.arrivals.Arrival.TheVariants as arrival
use Rattle.realise.specs.Runs.{Realised}
use Rattle.zone_search.specs.declared.answers.ZoneTable.{ZoneTable}
use Rattle.zone_search.specs.Telling.{ZoneTableIs}
use Rattle.witnesses.specs.declared.answers.Witness.{Witness}

-- when a run is to end that shows the answer; none where there is none to show
abbrev pub arrival_told : Answer → ℕ → Option Arrival
arrival_told (At n) part = Some (arrival.At n)
arrival_told (After n) part = Some (arrival.After n part)
arrival_told Never part = None

-- what a table of the automaton says of the location: the run ends when it is come to
pub record ToldBy (l part : ℕ) (a : automata.Automaton) (w : Witness) : Type 0 where
  pub answer : Answer
  pub true_answer : AnswerIs a l answer
  pub arrival : arrival_told answer part ≡ Some w.arrival

-- the state in which the run ends shows the region, which is the normal one that it shows
pub record EndsIn (a : automata.Automaton) (w : Witness) : Type 0 where
  pub shows : (s : State) → Tells a.clocks w.run.denominator w.run.end s → ShowsState a s (region_value w.region)
  pub normal : Normal a.clocks (top a) (region_value w.region)

-- a run of the automaton to the location, that ends at such a time, with the region in which it ends
pub record ShownIs (a : automata.Automaton) (l : ℕ) (arrival : Arrival) (w : Witness) : Type 0 where
  pub in_time : w.arrival ≡ arrival
  pub realised : Realised a l w.arrival w.run
  pub ends : EndsIn a w

-- a run of the automaton that is viewed, to the location, in time, with the region in which it ends; and no run comes there at all where
-- there is none
abbrev pub WitnessIs : Automaton → Table → ℕ → ℕ → Option Witness → Type 0
WitnessIs v t l part None =
    (row : List ℕ) (kinds : ℕ) (a : automata.Automaton) → TableIs row kinds t a → theory.Never a l
WitnessIs v t l part (Some w) =
    Realised (automaton_value v) l w.arrival w.run
    × EndsIn (automaton_value v) w
    × ((row : List ℕ) (kinds : ℕ) (a : automata.Automaton) → TableIs row kinds t a → ToldBy l part a w)

-- the same by a table of zones
abbrev pub ZonesWitnessIs : Automaton → ZoneTable → ℕ → ℕ → Option Witness → Type 0
ZonesWitnessIs v t l part None = (a : automata.Automaton) → ZoneTableIs a t → theory.Never a l
ZonesWitnessIs v t l part (Some w) =
    Realised (automaton_value v) l w.arrival w.run
    × EndsIn (automaton_value v) w
    × ((a : automata.Automaton) → ZoneTableIs a t → ToldBy l part a w)
