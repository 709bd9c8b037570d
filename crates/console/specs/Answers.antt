-- The text of an answer, and of a line with a name and an answer.
use Rattle.std.specs.Prelude.{ℕ, List, ◌++◌, codes, decimal}
use Rattle.clocks.specs.declared.answers.Asked.{Asked}
use Rattle.clocks.specs.declared.answers.Asked.TheVariants.{At, After, Never, NoWork, NoPlace, Many, Few}
use Rattle.columns.specs.Columns.{padded}

-- what an answer says, where so many kinds were allowed
abbrev pub answer_text : ℕ → Asked → List ℕ
answer_text kinds (At n) = codes "at " ++ decimal n
answer_text kinds (After n) = codes "after " ++ decimal n
answer_text kinds Never = codes "never"
answer_text kinds Many = codes "many: more than " ++ (decimal kinds ++ codes " kinds of states")
answer_text kinds NoWork = codes "no clockwork"
answer_text kinds NoPlace = codes "no such position"
answer_text kinds Few = codes "too few words"

-- the name, blanks up to the width of its column and two more, the answer, and the end of the line
abbrev pub line_text : ℕ → ℕ → List ℕ → Asked → List ℕ
line_text kinds width name asked =
    padded width name ++ (codes "  " ++ (answer_text kinds asked ++ codes "\n"))
