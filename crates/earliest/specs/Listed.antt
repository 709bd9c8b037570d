-- The text of the answers: a line for each position, or one line where there are more kinds of states than allowed, or no room for the zones.
use Rattle.std.specs.Prelude.{◌≡◌, ℕ, zero, suc, ◌+◌, min, max, ◌⊎◌, List, [], ◌++◌, length, Some, None, codes, Option, Err}
use Rattle.automata.specs.Automata.{Automaton}
use Rattle.automata.specs.Regions.{MoreThan}
use Rattle.automata.specs.Rows.{Reads}
use Rattle.clockworks.specs.Meaning.{Adds}
use Rattle.search.specs.Answering.{needed}
use Rattle.clocks.specs.declared.answers.Asked.{Asked}
use Rattle.clocks.specs.declared.answers.Asked.TheVariants.{Many}
use Rattle.clocks.specs.Asked.{AskedPost}
use Rattle.zone_search.specs.Answering.{ExploredIs}
use Rattle.zone_search.specs.declared.explores.Unexplored.{Unexplored}
use Rattle.columns.specs.Columns.{columns}
use Rattle.console.specs.Answers.{answer_text, line_text}
use Rattle.console.specs.Names.{name_text}
use Rattle.earliest.specs.declared.options.Engine.{Engine}
use Rattle.earliest.specs.declared.options.Engine.TheVariants.{Either, Zones, Regions}
use Rattle.earliest.specs.Explored.{ZonesSay}

-- the most columns that a name of the first n positions has
abbrev pub widest : List (List ℕ) → ℕ → ℕ
widest names zero = 0
widest names (suc n) = max (widest names n) (columns (name_text names n))

-- a column of names is at most 40 wide
abbrev pub width_of_column : List (List ℕ) → ℕ → ℕ
width_of_column names count = min (widest names count) 40

-- a line for each of the first n positions, with an answer that is promised
pub data Listed (Promised : ℕ → Asked → Type 0) (kinds width : ℕ) (names : List (List ℕ)) : ℕ → List ℕ → Type 0 where
  none : (text : List ℕ) → text ≡ [] → Listed Promised kinds width names 0 text
  more : (n : ℕ) (text next : List ℕ) (asked : Asked)
      → Listed Promised kinds width names n text
      → Promised n asked
      → Adds text (line_text kinds width (name_text names n) asked) next
      → Listed Promised kinds width names (n + 1) next

-- the line of one position
pub record OneListed (Promised : ℕ → Asked → Type 0) (kinds : ℕ) (names : List (List ℕ)) (n : ℕ) (text : List ℕ) : Type 0 where
  pub asked : Asked
  pub promised : Promised n asked
  pub spelt : text ≡ line_text kinds 0 (name_text names n) asked

-- there are more kinds of states than allowed
pub record ManyListed (row : List ℕ) (kinds : ℕ) (text : List ℕ) : Type 0 where
  pub automaton : Automaton
  pub reads : Reads row automaton
  pub more_kinds : MoreThan automaton kinds
  pub spelt : text ≡ answer_text kinds Many ++ codes "\n"

-- the zones do not fit into so many words, or a bound has no place
pub record FullListed (row : List ℕ) (lent : ℕ) (text : List ℕ) : Type 0 where
  pub why : Unexplored
  pub explored : ExploredIs row lent (Err why)
  pub spelt : text ≡ codes "full: the zones do not fit into the memory\n"

abbrev pub PositionsListed : (ℕ → Asked → Type 0) → ℕ → List (List ℕ) → ℕ → Option ℕ → List ℕ → Type 0
PositionsListed Promised kinds names count None text = Listed Promised kinds (width_of_column names count) names count text
PositionsListed Promised kinds names count (Some n) text = OneListed Promised kinds names n text

-- by a search through regions that was lent so many words
abbrev pub RegionsWritten : List ℕ → ℕ → ℕ → List (List ℕ) → ℕ → Option ℕ → List ℕ → Type 0
RegionsWritten row kinds lent names count position text =
    ManyListed row kinds text ⊎ PositionsListed (λ n asked. AskedPost row n kinds lent asked) kinds names count position text

-- by a search through zones
abbrev pub ZonesWritten : List ℕ → ℕ → List (List ℕ) → ℕ → Option ℕ → List ℕ → Type 0
ZonesWritten row kinds names count position text = PositionsListed (ZonesSay row) kinds names count position text

abbrev pub WrittenBy : Engine → List ℕ → ℕ → ℕ → List (List ℕ) → ℕ → Option ℕ → List ℕ → Type 0
WrittenBy Regions row kinds lent names count position text = RegionsWritten row kinds lent names count position text
WrittenBy Zones row kinds lent names count position text =
    FullListed row lent text ⊎ ZonesWritten row kinds names count position text
WrittenBy Either row kinds lent names count position text =
    RegionsWritten row kinds lent names count position text ⊎ ZonesWritten row kinds names count position text

abbrev pub WrittenIs : Engine → List ℕ → ℕ → List (List ℕ) → ℕ → Option ℕ → List ℕ → Type 0
WrittenIs engine row kinds names count position text = WrittenBy engine row kinds (needed (length row) kinds) names count position text
