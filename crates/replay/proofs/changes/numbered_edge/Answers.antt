use Rattle.rows.specs.Views.{automaton_value}
use Rattle.replay.proofs.Numbered.{edge_number}
use Rattle.replay.proofs.changes.numbered_edge.Goals as goal

pub returns : goal.returns
returns c =
    edge_number (automaton_value c.args.automaton.now).edges c.args.number c.nth.result c.edges.result c.nth.new.self c.edges.ensures c.nth.ensures.ran
