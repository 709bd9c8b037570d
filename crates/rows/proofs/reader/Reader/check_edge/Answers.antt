-- An edge is refused where one of its parts is; otherwise it ends where its resets end.
use Rattle.std.proofs.Common.{◌+◌, ◌<◌, ◌≤◌, length, get_or, arith}
use Rattle.rows.proofs.Whole.{edge-tells}
use Rattle.rows.proofs.reader.Reader.check_edge.Goals as goal

pub returns : goal.returns
returns c =
    let row = c.args.self.now.row.now in
    let p = c.args.self.now.locations in
    let source = c.in_ok-source.ensures in
    let target = c.in_ok-target.ensures in
    let room : c.args.at + 2 ≤ length row = omega (arith, target.0) in
    let from : get_or row c.args.at 0 < p = rw (← source.1) c.if-source-self.false in
    let to : get_or row (c.args.at + 1) 0 < p = rw (← target.1) c.if-target-self.false in
    let e = c.in_ok-guard_end.ensures in
    edge-tells c.args.self.now.clocks p row c.args.at c.in_ok-guard_end.guard_end e.2.0 c.check_resets.result room from to (omega (arith, e.0)) e.2.1 c.check_resets.ensures
