use Rattle.console.proofs.Copies.{near_copy}
use Rattle.console.proofs.positions.Positions.refuse.Goals as goal

pub returns : goal.returns
returns c =
    (c.in_ok-from_str.ensures.ok, near_copy _ _ c.in_ok-nearest.field-0 c.in_ok-cloned.field-0 c.in_ok-nearest.ensures c.in_ok-cloned.ensures, c.in_ok-list.ensures)
