-- The clocks are read one by one; the first that is refused refuses all.
use Rattle.std.proofs.Common.{[], refl, rules}
use Rattle.rows.specs.Parse.{parse_clocks, parse_resets}
use Rattle.rows.proofs.Walking.{resets-end, resets-start, counted-tells}
use Rattle.rows.proofs.reader.Reader.check_resets.Goals as goal

pub returns : goal.returns
returns c =
    let row = c.args.self.now.row.now in
    let n = c.args.self.now.clocks in
    counted-tells (parse_clocks n) row (parse_resets n) [] c.args.at c.check_counted.result c.check_counted.ensures (λ at x p. search rules) (λ ws. refl) (λ h. resets-end n row c.args.at h) (λ h. resets-start n row c.args.at h)
