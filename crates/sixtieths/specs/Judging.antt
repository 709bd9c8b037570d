-- What an answer says of the times on the grid, which are told in sixtieths.
use Rattle.std.specs.Prelude.{◌≡◌, ℕ, ◌+◌, ◌*◌, ◌<◌, ◌≤◌, Bool, cond, Some, None, Option, ◌==◌}
use Rattle.clocks.specs.declared.answers.Asked.{Asked}
use Rattle.clocks.specs.declared.answers.Asked.TheVariants.{At, After, Never, NoWork, NoPlace, Many, Few}
use Rattle.sixtieths.specs.declared.comparison.Kind.{Kind}
use Rattle.sixtieths.specs.declared.comparison.Kind.TheVariants as kinds
use Rattle.sixtieths.specs.declared.comparison.Finding.{Finding}
use Rattle.sixtieths.specs.declared.comparison.Finding.TheVariants.{Exact, Later, Missing, Contradiction}

-- of which kind an answer is
abbrev pub kind_is : Asked → Bool → Kind
kind_is (At n) way = cond (n == 0) kinds.AtStart kinds.AtLater
kind_is (After n) way = kinds.After
kind_is Never way = cond way kinds.NeverOnWay kinds.NeverOffWay
kind_is NoWork way = kinds.NoAnswer
kind_is NoPlace way = kinds.NoAnswer
kind_is Many way = kinds.NoAnswer
kind_is Few way = kinds.NoAnswer

-- a time against the first one that is left
abbrev pub Compared : ℕ → ℕ → Finding → Type 0
Compared first t Exact = t ≡ first
Compared first t Later = first < t
Compared first t Missing = ⊥
Compared first t Contradiction = t < first

-- nothing can be there at that time, if the answer is right
abbrev pub Excludes : Asked → ℕ → Type 0
Excludes (At n) t = t < n * 60
Excludes (After n) t = t ≤ n * 60
Excludes Never t = Unit {0}
Excludes NoWork t = Unit {0}
Excludes NoPlace t = Unit {0}
Excludes Many t = Unit {0}
Excludes Few t = Unit {0}

-- the first time that the answer leaves
abbrev pub Leaves : Asked → ℕ → Type 0
Leaves (At n) t = t ≡ n * 60
Leaves (After n) t = t ≡ n * 60 + 1
Leaves Never t = ⊥
Leaves NoWork t = ⊥
Leaves NoPlace t = ⊥
Leaves Many t = ⊥
Leaves Few t = ⊥

-- what it says if nothing was found
abbrev pub judged_none : Asked → Finding
judged_none (At n) = Missing
judged_none (After n) = Missing
judged_none Never = Exact
judged_none NoWork = Contradiction
judged_none NoPlace = Contradiction
judged_none Many = Contradiction
judged_none Few = Contradiction

-- what it says of the first time that was found
abbrev pub JudgedAt : Asked → ℕ → Finding → Type 0
JudgedAt asked t Exact = Leaves asked t
JudgedAt asked t Later = (Excludes asked t → ⊥) × (Leaves asked t → ⊥)
JudgedAt asked t Missing = ⊥
JudgedAt asked t Contradiction = Excludes asked t

abbrev pub Judged : Asked → Option ℕ → Finding → Type 0
Judged asked None finding = finding ≡ judged_none asked
Judged asked (Some t) finding = JudgedAt asked t finding
