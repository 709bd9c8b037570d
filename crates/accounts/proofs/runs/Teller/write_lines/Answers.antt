use Rattle.std.proofs.Common.{string_bytes, rules}
use Rattle.std.proofs.lemmas.Result.{IfOk-weaker}
use Rattle.rows.specs.Views.{automaton_value}
use Rattle.accounts.proofs.Told.{lines_walked}
use Rattle.accounts.proofs.runs.Teller.write_lines.Goals as goal

pub returns : goal.returns
returns c =
    let teller = c.args.self.now in
    IfOk-weaker c.walk.result _ _
    (λ text told. (
      told.0,
      lines_walked string_bytes teller.names.clocks.now teller.names.positions.now c.args.widths.now teller.denominator (automaton_value teller.automaton)
          string_bytes _ _ (λ done by after next called. search rules) (search rules) c.args.moves.now told.0 text told.1,
    ))
    c.walk.ensures
