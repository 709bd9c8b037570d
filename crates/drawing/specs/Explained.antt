-- What a refusal says of the mistake that it is made of.
use Rattle.std.specs.Prelude.{◌≡◌}
use Rattle.clockworks.specs.declared.write.Unfit.TheVariants.{Words}
use Rattle.drawing.specs.declared.errors.Expected.TheVariants as expected
use Rattle.drawing.specs.declared.errors.Found.TheVariants.{Unfit}
use Rattle.drawing.specs.declared.errors.Refusal.{Refusal}
use Rattle.drawing.specs.declared.errors.Refusal.TheVariants as refusal
use Rattle.drawing.specs.declared.mistakes.Mistake.{Mistake}
use Rattle.drawing.specs.declared.mistakes.Mistake.TheVariants.{Memory, Word, Row}

-- the place and what was expected stay as they are, unless there is too little memory to say so
abbrev pub Explained : Mistake → Refusal → Type 0
Explained Memory refusal.Memory = Unit {0}
Explained Memory (refusal.Wrong w) = ⊥
Explained (Word p e) refusal.Memory = Unit {0}
Explained (Word p e) (refusal.Wrong w) = (w.place ≡ p) × (w.expected ≡ e)
Explained (Row p) refusal.Memory = ⊥
Explained (Row p) (refusal.Wrong w) = (w.place ≡ p) × (w.found ≡ Unfit Words) × (w.expected ≡ expected.Row)
