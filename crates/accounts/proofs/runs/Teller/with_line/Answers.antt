use Rattle.std.proofs.Common.{◌++◌, string_bytes, codes, rules}
use Rattle.clockworks.specs.Meaning.{Adds}
use Rattle.columns.specs.Columns.{padded}
use Rattle.accounts.proofs.Told.{line_written}
use Rattle.accounts.proofs.runs.Teller.with_line.Goals as goal

pub returns : goal.returns
returns c =
    let teller = c.args.self.now in
    let w = c.args.widths.now in
    let moved = c.in_ok-moved.moved in
    let time = c.in_ok-time.time in
    let cells : Adds (string_bytes c.args.text) (padded w.moves (string_bytes moved) ++ (codes "  " ++ (padded w.times (string_bytes time) ++ (codes "  " ++ padded w.positions c.position.result.now)))) (string_bytes c.write.new.self) = search rules in
    let end : Adds (string_bytes c.write_clocks.new.text) (codes "\n") (string_bytes c.write-2.new.self) = search rules in
    line_written string_bytes teller.names.clocks.now teller.names.positions.now w teller.denominator
    c.args.by c.args.after.now _ _ _ c.in_ok-moved.ensures c.in_ok-time.ensures c.position.ensures
    cells c.in_ok-write_clocks.ensures end
