-- The part begins behind the number of constraints, and has three words for each.
use Rattle.std.proofs.Common.{length}
use Rattle.automata.specs.Rows.{write_constraints}
use Rattle.rows.proofs.Parts.{length-constraints}
use Rattle.rows.proofs.constraints.conjunction_at.Goals as goal

pub returns-in_err-words-clause-part : goal.returns-in_err-words-clause-part
returns-in_err-words-clause-part c =
    λ cs rest e. absurd (c.in_err-words.ensures.part (length cs) (write_constraints cs) rest e (length-constraints cs))

pub returns-clause-part : goal.returns-clause-part
returns-clause-part c =
    λ cs rest e. c.in_ok-words.ensures.part (length cs) (write_constraints cs) rest e (length-constraints cs)
