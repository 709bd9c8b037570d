-- How many kinds of states the work words suffice for.
use Rattle.std.specs.Prelude.{◌≡◌, ℕ, ◌≤◌}
use Rattle.search.specs.Answering.{needed}
use Rattle.console.specs.declared.messages.Problem.{Problem}
use Rattle.console.specs.declared.messages.Problem.TheVariants.{Memory, Unreadable, Unwritable, TooLarge, Drawing, Unfit, Row, Position, Kinds}

-- 3.25 MiB of words of 4 bytes
abbrev pub Suffices : ℕ → ℕ → Type 0
Suffices row kinds = needed row kinds ≤ 851968

-- r is the greatest number of kinds that the words suffice for; 0 where they suffice for none
pub record KindsFit (row r : ℕ) : Type 0 where
  pub fits : Suffices row 0 → Suffices row r
  pub greatest : (k : ℕ) → Suffices row k → k ≤ r
  pub none : (Suffices row 0 → ⊥) → r ≡ 0

-- why the words are not lent: there is no memory, or they would be too many
abbrev pub WordsRefused : ℕ → ℕ → Problem → Type 0
WordsRefused row kinds Memory = Suffices row kinds
WordsRefused row kinds (Kinds asked fit) = (asked ≡ kinds) × KindsFit row fit × (Suffices row kinds → ⊥)
WordsRefused row kinds (Unreadable e) = ⊥
WordsRefused row kinds (Unwritable e) = ⊥
WordsRefused row kinds TooLarge = ⊥
WordsRefused row kinds (Drawing e) = ⊥
WordsRefused row kinds (Unfit e) = ⊥
WordsRefused row kinds (Row e) = ⊥
WordsRefused row kinds (Position e) = ⊥
