-- The edges are read one by one; the first that is refused refuses all.
use Rattle.std.proofs.Common.{◌<◌, length, drop, arith, length-drop}
use Rattle.rows.proofs.Walking.{leads_trans, edges_more}
use Rattle.rows.proofs.reader.Reader.check_edges.Goals as goal

pub loop-next-preserved : goal.loop-next-preserved
loop-next-preserved c =
    let e = c.in_ok-next.ensures in
    let some_left : 0 < length (drop c.loop-next.next c.args.self.now.row.now) = simp length-drop (omega arith) in (
      e.1,
      leads_trans (edges_more c.args.self.now.clocks c.args.self.now.locations (drop c.loop-next.next c.args.self.now.row.now) (drop c.in_ok-next.next c.args.self.now.row.now) e.2.0 some_left e.2.1) c.loop-next.invariant.1,
    )
