use Rattle.earliest.proofs.lines.write_by_zones.Goals as goal

pub returns : goal.returns
returns c = c.in_ok-text.ensures c.args.row.now 0 c.in-Ok.ensures
