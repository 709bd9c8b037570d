-- What is counted of the positions that were compared.
use Rattle.std.specs.Prelude.{ℕ, ◌+◌, min}
use Rattle.sixtieths.specs.declared.comparison.Finding.{Finding}
use Rattle.sixtieths.specs.declared.comparison.Finding.TheVariants.{Exact, Later, Missing, Contradiction}
use Rattle.sixtieths.specs.declared.counts.Tally.{Tally}
use Rattle.sixtieths.specs.declared.comparison.Kind.{Kind}
use Rattle.sixtieths.specs.declared.comparison.Kind.TheVariants.{AtStart, AtLater, After, NeverOnWay, NeverOffWay, NoAnswer}

-- the number grows by one, as far as there is place
abbrev pub one_added : ℕ → ℕ
one_added n = min (n + 1) 4294967295

abbrev pub tallied : Tally → Finding → Tally
tallied t Exact = record { exact = one_added t.exact; later = t.later; missing = t.missing; wrong = t.wrong }
tallied t Later = record { exact = t.exact; later = one_added t.later; missing = t.missing; wrong = t.wrong }
tallied t Missing = record { exact = t.exact; later = t.later; missing = one_added t.missing; wrong = t.wrong }
tallied t Contradiction = record { exact = t.exact; later = t.later; missing = t.missing; wrong = one_added t.wrong }

-- the place of the tally of a kind
abbrev pub place_of : Kind → ℕ
place_of AtStart = 0
place_of AtLater = 1
place_of After = 2
place_of NeverOnWay = 3
place_of NeverOffWay = 4
place_of NoAnswer = 5
