-- So far whole edges were read, and the reading goes on with the others.
use Rattle.std.proofs.Common.{◌-◌, ◌≤◌, length, drop}
use Rattle.rows.specs.Parse.{parse_edges}
use Rattle.rows.specs.Reading.{Leads}
use Rattle.rows.proofs.reader.Reader.check_edges.Given as goal

abbrev pub invariant-loop-next : goal.invariant-loop-next
invariant-loop-next l =
    (l.next ≤ length l.self.row.now)
    × Leads
    (parse_edges l.self.clocks l.self.locations (length (drop l.next l.self.row.now)) (drop l.next l.self.row.now))
    (parse_edges l.self.clocks l.self.locations (length (drop l.at l.self.row.now)) (drop l.at l.self.row.now))

abbrev pub decreases-loop-next : goal.decreases-loop-next
decreases-loop-next l = length l.initial.self.row.now - l.next
