-- What is bounded, as text.
use Rattle.std.specs.Prelude.{ℕ, List, [], ◌++◌, codes, Some, None, Option}
use Rattle.accounts.specs.declared.bounds.Range.{Range}
use Rattle.accounts.specs.Bounds.{range_text}
use Rattle.accounts.specs.declared.bounds.Subject.{Subject}
use Rattle.accounts.specs.declared.bounds.Subject.TheVariants.{Clock, Difference}

abbrev pub subject_text : Subject → List ℕ
subject_text (Clock name) = name.now
subject_text (Difference name other) = name.now ++ (codes " - " ++ other.now)

abbrev pub maybe_text : Option Range → List ℕ
maybe_text None = []
maybe_text (Some r) = range_text (subject_text r.subject) r.low r.high
