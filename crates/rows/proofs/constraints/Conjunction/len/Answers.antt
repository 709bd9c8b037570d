-- Three words for each constraint.
use Rattle.std.proofs.Common.{arith}
use Rattle.rows.proofs.Values.{length-constraints_value}
use Rattle.rows.proofs.constraints.Conjunction.len.Goals as goal

pub returns : goal.returns
returns c = omega (arith, length-constraints_value c.args.self.now.words.now)
