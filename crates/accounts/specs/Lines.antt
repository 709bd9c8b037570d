-- The text of a run: a line for each move, with the time, the position and the clocks after it.
use Rattle.std.specs.Prelude.{◌≡◌, ℕ, zero, suc, min, List, [], ◌∷◌, ◌++◌, length, codes, decimal, slice_index}
use Rattle.automata.specs.Automata.{Automaton}
use Rattle.replay.specs.declared.moments.Move.{Move}
use Rattle.replay.specs.declared.moments.Move.TheVariants.{Wait, Step}
use Rattle.replay.specs.declared.moments.Moment.{Moment}
use Rattle.replay.specs.Fractions.{Lowest, ratio_text}
use Rattle.replay.specs.Meaning.{clock_of}
use Rattle.replay.specs.Outcomes.{AtStart, Advanced}
use Rattle.columns.specs.Columns.{padded}
use Rattle.accounts.specs.declared.widths.Widths.{Widths}

-- the text of k d-ths: the same fraction in lowest terms
pub record PartsText (d k : ℕ) (words : List ℕ) : Type 0 where
  pub numerator : ℕ
  pub denominator : ℕ
  pub lowest : Lowest k d numerator denominator
  pub spelt : words ≡ ratio_text numerator denominator

-- the name at a place of a list, by the text of each; no text behind the last
abbrev pub name_of : {X : Type 0} → (X → List ℕ) → List X → ℕ → List ℕ
name_of text [] i = []
name_of text (x ∷ xs) zero = text x
name_of text (x ∷ xs) (suc i) = name_of text xs i

abbrev pub MoveText : ℕ → Move → List ℕ → Type 0
MoveText d (Wait k) words = (parts : List ℕ) × PartsText d k parts × (words ≡ codes "wait " ++ parts)
MoveText d (Step i) words = words ≡ codes "step " ++ decimal i

-- the cell of a clock: its name and its value
abbrev pub cell_of_clock : {X : Type 0} → (X → List ℕ) → List X → ℕ → List ℕ → List ℕ
cell_of_clock text names n value = (name_of text names n ++ codes " = ") ++ value

-- the first n clocks, each with its value
pub data ClocksText {X : Type 0} (text : X → List ℕ) (names : List X) (w : Widths) (d : ℕ) (m : Moment) : ℕ → List ℕ → Type 0 where
  no_clock : ClocksText text names w d m 0 []
  next_clock : {n : ℕ} {words value : List ℕ}
      → ClocksText text names w d m n words
      → PartsText d (clock_of m n) value
      → ClocksText text names w d m (suc n) (words ++ (codes "  " ++ padded (slice_index w.clocks n) (cell_of_clock text names n value)))

pub record LineText {X : Type 0} (text : X → List ℕ) (clocks positions : List X) (w : Widths) (d : ℕ) (by : Move) (after : Moment) (line : List ℕ) : Type 0 where
  pub move_words : List ℕ
  pub time_words : List ℕ
  pub clock_words : List ℕ
  pub move_is : MoveText d by move_words
  pub time_is : PartsText d after.time time_words
  pub clocks_are : ClocksText text clocks w d after (min (length clocks) 8) clock_words
  pub spelt : line
      ≡ padded w.moves move_words
      ++ (codes "  "
      ++ (padded w.times (codes "at " ++ time_words)
      ++ (codes "  " ++ (padded w.positions (name_of text positions after.location.0) ++ (clock_words ++ codes "\n")))))

-- the lines of the moves so far, from the start, and the moment after them
pub data Lines (a : Automaton) {X : Type 0} (text : X → List ℕ) (clocks positions : List X) (w : Widths) (d : ℕ) : List Move → Moment → List ℕ → Type 0 where
  no_line : {m : Moment} → AtStart m → Lines a text clocks positions w d [] m []
  next_line : {moves : List Move} {m after : Moment} {words line : List ℕ} (by : Move)
      → Lines a text clocks positions w d moves m words
      → Advanced a d m by after
      → LineText text clocks positions w d by after line
      → Lines a text clocks positions w d (moves ++ by ∷ []) after (words ++ line)

-- the text of the whole run, in columns of some widths
abbrev pub Account : Automaton → {X : Type 0} → (X → List ℕ) → List X → List X → ℕ → List Move → List ℕ → Type 0
Account a text clocks positions d moves words = (w : Widths) × (m : Moment) × Lines a text clocks positions w d moves m words
