-- What the words of a call say.
use Rattle.std.specs.Prelude.{◌≡◌, ◌≢◌, ℕ, ◌≤◌, Bool, true, false, List, [], ◌∷◌, length, codes, slice_index, Some, None, Option, Ok, Err, Result, String}
use Rattle.std.specs.Borrow.{Bor}
use Rattle.std.specs.declared.alloc.Global.{Global}
use Rattle.console.specs.declared.input.Source.{Source}
use Rattle.console.specs.declared.input.Source.TheVariants.{Input, File}
use Rattle.console.specs.declared.options.Mistake.{Mistake}
use Rattle.console.specs.declared.options.Mistake.TheVariants.{SecondFile, Twice, NoValue}

-- `-` is standard input, and so is no file
abbrev pub SourceIs : Option (List ℕ) → Source → Type 0
SourceIs None Input = Unit {0}
SourceIs None (File name) = ⊥
SourceIs (Some word) Input = word ≡ codes "-"
SourceIs (Some word) (File name) = (name.now ≡ word) × (word ≢ codes "-")

-- a dash, and more
abbrev pub OptionIs : List ℕ → Type 0
OptionIs word = (2 ≤ length word) × (slice_index word 0 ≡ 45)

-- the file after a word that names one: a second one is refused
abbrev pub FileSet : Option (String Global) → String Global → Result (Unit {0}) Mistake → Option (String Global) → Type 0
FileSet None word (Ok done) file = file ≡ Some word
FileSet None word (Err mistake) file = ⊥
FileSet (Some first) word (Ok done) file = ⊥
FileSet (Some first) word (Err mistake) file = (mistake ≡ SecondFile word) × (file ≡ Some first)

-- what may be given only once: a second one is handed back
abbrev pub SetOnce : {T : Type 0} → Option T → T → Result (Unit {0}) T → Option T → Type 0
SetOnce None value (Ok done) place = place ≡ Some value
SetOnce None value (Err back) place = ⊥
SetOnce (Some first) value (Ok done) place = ⊥
SetOnce (Some first) value (Err back) place = (back ≡ value) × (place ≡ Some first)

-- the next of the words after an option, and the words after it: refused where there is none, or the option has a value
abbrev pub ValueIs : List (String Global) → Bor (List ℕ) → Bool → Result (String Global) Mistake → List (String Global) → Type 0
ValueIs [] option given (Ok word) rest = ⊥
ValueIs [] option given (Err mistake) rest = (mistake ≡ NoValue option) × (rest ≡ [])
ValueIs (next ∷ words) option true (Ok word) rest = ⊥
ValueIs (next ∷ words) option true (Err mistake) rest = (mistake ≡ Twice option) × (rest ≡ words)
ValueIs (next ∷ words) option false (Ok word) rest = (word ≡ next) × (rest ≡ words)
ValueIs (next ∷ words) option false (Err mistake) rest = ⊥
