-- The constraints are read one by one; the first that is refused refuses all.
use Rattle.std.proofs.Common.{[], refl, rules}
use Rattle.rows.specs.Parse.{parse_constraints, parse_conjunction}
use Rattle.rows.specs.Parts.{relations_of}
use Rattle.rows.proofs.Walking.{conjunction_ends, conjunction_starts, counted-tells}
use Rattle.rows.proofs.reader.Reader.check_conjunction.Goals as goal

pub returns : goal.returns
returns c =
    let row = c.args.self.now.row.now in
    let n = c.args.self.now.clocks in
    let r = relations_of c.args.owner in
    counted-tells (parse_constraints n r) row (parse_conjunction n r) [] c.args.at c.check_counted.result c.check_counted.ensures (λ at x p. search rules) (λ ws. refl) (λ h. conjunction_ends n r row c.args.at h) (λ h. conjunction_starts n r row c.args.at h)
