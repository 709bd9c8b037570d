-- The invariants are read one by one; the first that is refused refuses all.
use Rattle.std.proofs.Common.{[], refl, rules, arith}
use Rattle.rows.specs.Parse.{parse_invariants}
use Rattle.rows.proofs.Walking.{invariant-step, each-tells}
use Rattle.rows.proofs.reader.Reader.check_invariants.Goals as goal

pub returns : goal.returns
returns c =
    let row = c.args.self.now.row.now in
    let n = c.args.self.now.clocks in
    each-tells (parse_invariants n) row (parse_invariants n c.args.self.now.locations) [] 2 c.args.self.now.locations 2 c.check_each.result c.check_each.ensures (λ at x p. invariant-step n row at x (search rules)) (λ ws. refl) refl (omega (arith, c.args.self.now.counts)) (omega (arith, c.args.self.now.counts))
