use Rattle.std.proofs.Common.{map, length, string_bytes, inr}
use Rattle.std.proofs.lemmas.Result.{IfOk-weaker}
use Rattle.earliest.specs.Listed.{RegionsWritten}
use Rattle.earliest.proofs.lines.write_by_regions.Goals as goal

pub returns : goal.returns
returns c =
    let row = c.args.row.now in
    let lent = length c.args.work.now in
    IfOk-weaker c.write_explored.result _
    (λ t. RegionsWritten row c.args.kinds lent (map string_bytes c.args.positions.names.now) c.args.positions.count c.args.position (string_bytes t))
    (λ t written. inr (written row lent c.explore-explored.ensures.explored))
    c.write_explored.ensures
