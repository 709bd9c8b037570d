use Rattle.std.proofs.Common.{arith}
use Rattle.drawing.proofs.Sizes.{positions_more, steps_more}
use Rattle.drawing.proofs.reader.Reader.line.Goals as goal

pub returns-in_ok-push : goal.returns-in_ok-push
returns-in_ok-push c =
    let more = positions_more _ _ _ c.in_ok-push.ensures.items in
    omega (arith, more, c.in_ok-take.ensures, c.in_ok-position.ensures)

pub returns-in_ok-push-2 : goal.returns-in_ok-push-2
returns-in_ok-push-2 c =
    let more = steps_more _ _ _ c.in_ok-push-2.ensures.items in
    omega (arith, more, c.in_ok-take-2.ensures, c.in_ok-step.ensures)
