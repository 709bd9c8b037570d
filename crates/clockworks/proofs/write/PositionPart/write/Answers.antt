use Rattle.clockworks.proofs.Writing.{position_written}
use Rattle.clockworks.proofs.write.PositionPart.write.Goals as goal
use Rattle.std.proofs.Common.{sym, ◌∙◌}

pub returns : goal.returns
returns c =
    position_written c.args.self.now _ c.as_slice-tests.ensures.value (sym c.all_bound_above.ensures ∙ c.if-not-all_bound_above.false) c.in_ok-list.ensures
