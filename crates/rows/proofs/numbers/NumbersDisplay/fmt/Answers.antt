use Rattle.std.proofs.Common.{rules}
use Rattle.std.proofs.Output.{has_written_append, has_written_of_eq}
use Rattle.rows.proofs.Spelling.{one_more}
use Rattle.rows.proofs.numbers.NumbersDisplay.fmt.Goals as goal

pub loop-number-preserved : goal.loop-number-preserved
loop-number-preserved g c = λ plain.
    has_written_of_eq _ _ _ _ _ (one_more _ c.loop-number.number-index c.loop-number-test.true)
    (has_written_append _ _ _ _ _ _ (c.loop-number.invariant plain) (search rules))
