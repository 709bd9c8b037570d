-- The invariant asked for is the one behind so many others.
use Rattle.std.proofs.Common.{arith}
use Rattle.rows.specs.Views.{automaton_value}
use Rattle.rows.proofs.Invariants.{nth_invariant}
use Rattle.rows.proofs.Parts.{nth-behind}
use Rattle.rows.proofs.Values.{views}
use Rattle.rows.proofs.views.Automaton.invariant.Goals as goal

pub returns-then-location-self : goal.returns-then-location-self
returns-then-location-self c =
    let v = c.args.self.now in
    nth-behind (automaton_value v).invariants c.args.location.0 (omega (arith, (views v).locations))

pub returns : goal.returns
returns c =
    nth_invariant (automaton_value c.args.self.now).invariants c.args.location.0 c.invariants.result c.nth.new.self c.nth.result c.invariants.ensures c.nth.ensures.ran
