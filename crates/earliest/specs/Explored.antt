-- What an exploration by either search tells of the positions.
use Rattle.std.specs.Prelude.{◌≡◌, ℕ, List, Result}
use Rattle.automata.specs.Automata.{Automaton}
use Rattle.automata.specs.Rows.{Reads}
use Rattle.search.specs.Answering.{AnswerIs, ExploredIs}
use Rattle.search.specs.declared.answers.Answer.{Answer}
use Rattle.zone_search.specs.Telling.{ZoneTableIs}
use Rattle.clocks.specs.declared.answers.Asked.{Asked}
use Rattle.clocks.specs.Asked.{asked_of, AskedPost}
use Rattle.earliest.specs.declared.explored.Explored.{Explored}
use Rattle.earliest.specs.declared.explored.Explored.TheVariants.{Zones, Regions}

-- the table is that of the automaton of the row; or the search through regions left what it promises
abbrev pub ExploredIn : List ℕ → ℕ → ℕ → Explored → Type 0
ExploredIn row kinds lent (Zones t) = (a : Automaton) × Reads row a × ZoneTableIs a t
ExploredIn row kinds lent (Regions r) = ExploredIs row kinds lent r

-- an answer in time that is right for the position, whatever the number of kinds
abbrev pub ZonesSay : List ℕ → ℕ → Asked → Type 0
ZonesSay row n asked = (a : Automaton) × Reads row a × ((answer : Answer) × AnswerIs a n answer × (asked ≡ asked_of answer))

abbrev pub ToldBy : List ℕ → ℕ → ℕ → Explored → ℕ → Asked → Type 0
ToldBy row kinds lent (Zones t) n asked = ZonesSay row n asked
ToldBy row kinds lent (Regions r) n asked = AskedPost row n kinds lent asked
