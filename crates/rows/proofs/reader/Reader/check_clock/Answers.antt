-- A clock is refused where its number is out of range; otherwise the reading goes on behind it.
use Rattle.std.proofs.Common.{◌<◌, get_or, arith}
use Rattle.rows.proofs.Walking.{clock-more}
use Rattle.rows.proofs.reader.Reader.check_clock.Goals as goal

pub returns : goal.returns
returns c =
    let row = c.args.self.now.row.now in
    let n = c.args.self.now.clocks in
    let e = c.in_ok-word.ensures in
    let below : get_or row c.args.at 0 < n = rw e.1 at c.if-branch-self.false in
    (omega arith, omega (arith, e.0), clock-more n row c.args.at e.0 below)
