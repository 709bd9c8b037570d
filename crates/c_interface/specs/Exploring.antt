-- What comes of an exploration for all positions.
use Rattle.std.specs.Prelude.{◌≡◌, ℕ, ◌<◌, ◌≤◌, List, length, slice_index_or}
use Rattle.automata.specs.Automata.{Automaton}
use Rattle.automata.specs.Regions.{MoreThan}
use Rattle.automata.specs.Rows.{Reads}
use Rattle.search.specs.declared.answers.Answer.{Answer}
use Rattle.search.specs.Answering.{AnswerIs, needed}
use Rattle.clocks.specs.Asked.{asked_of}
use Rattle.c_interface.specs.declared.exploring.Exploration.{Exploration}
use Rattle.c_interface.specs.declared.exploring.Outcome.{Outcome}
use Rattle.c_interface.specs.declared.exploring.Outcome.TheVariants.{Explored, Many, Few, NoWork, FewReplies}
use Rattle.c_interface.specs.declared.replies.Reply.{Reply}
use Rattle.c_interface.specs.Replies.{reply_of}

abbrev pub exploration_of : Outcome → Exploration
exploration_of (Explored positions kinds) = record { outcome = 0; positions = positions; kinds = kinds }
exploration_of (Many positions) = record { outcome = 4; positions = positions; kinds = 0 }
exploration_of Few = record { outcome = 5; positions = 0; kinds = 0 }
exploration_of NoWork = record { outcome = 6; positions = 0; kinds = 0 }
exploration_of (FewReplies positions) = record { outcome = 8; positions = positions; kinds = 0 }

-- different outcomes are different numbers
abbrev pub OneExploration : Type 0
OneExploration = (x y : Outcome) → exploration_of x ≡ exploration_of y → x ≡ y

-- the reply is an answer in time that is right for the position
abbrev pub ReplyIs : Automaton → ℕ → Reply → Type 0
ReplyIs a position reply = (answer : Answer) × (reply ≡ reply_of (asked_of answer)) × AnswerIs a position answer

-- the first replies, one for each position, are right; those behind them are as they were
pub record Replied (a : Automaton) (old new : List Reply) : Type 0 where
  pub positions : (p : ℕ) (other : Reply) → p < length a.invariants → ReplyIs a p (slice_index_or new p other)
  pub behind : (p : ℕ) (other : Reply) → length a.invariants ≤ p → slice_index_or new p other ≡ slice_index_or old p other

-- every position has its reply, and there are no more kinds than allowed, nor than told
pub record ExploredAll (row : List ℕ) (allowed : ℕ) (old : List Reply) (positions kinds : ℕ) (new : List Reply) (a : Automaton) : Type 0 where
  pub reads : Reads row a
  pub locations : positions ≡ length a.invariants
  pub room : positions ≤ length old
  pub few : kinds ≤ allowed
  pub no_more : MoreThan a kinds → ⊥
  pub replied : Replied a old new

-- what each outcome says; all but the first leave the replies as they were
abbrev pub OutcomeIs : List ℕ → ℕ → ℕ → List Reply → Outcome → List Reply → Type 0
OutcomeIs row allowed lent old (Explored positions kinds) new =
    (needed (length row) allowed ≤ lent) × ((a : Automaton) × ExploredAll row allowed old positions kinds new a)
OutcomeIs row allowed lent old (Many positions) new =
    (needed (length row) allowed ≤ lent)
    × (new ≡ old)
    × ((a : Automaton) × Reads row a × (positions ≡ length a.invariants) × (positions ≤ length old) × MoreThan a allowed)
OutcomeIs row allowed lent old Few new = (lent < needed (length row) allowed) × (new ≡ old)
OutcomeIs row allowed lent old NoWork new =
    (needed (length row) allowed ≤ lent) × (new ≡ old) × ((a : Automaton) → Reads row a → ⊥)
OutcomeIs row allowed lent old (FewReplies positions) new =
    (needed (length row) allowed ≤ lent)
    × (new ≡ old)
    × ((a : Automaton) × Reads row a × (positions ≡ length a.invariants) × (length old < positions))

-- the numbers are those of an outcome, which says what is so
abbrev pub AllReplied : List ℕ → ℕ → ℕ → List Reply → Exploration → List Reply → Type 0
AllReplied row allowed lent old exploration new =
    (outcome : Outcome) × (exploration ≡ exploration_of outcome) × OutcomeIs row allowed lent old outcome new
