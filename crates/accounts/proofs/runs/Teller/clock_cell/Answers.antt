use Rattle.std.proofs.Common.{◌≡◌, ◌++◌, IfOk, string_bytes, codes, refl, sym, ◌∙◌, append_assoc, rules}
use Rattle.std.proofs.lemmas.Result.{IfOk-weaker}
use Rattle.replay.specs.Fractions.{ratio_text}
use Rattle.accounts.proofs.runs.Teller.clock_cell.Goals as goal

pub returns : goal.returns
returns c =
    let name = c.args.name.now in
    let value = c.fraction-value.result in
    let words = ratio_text value.numerator value.denominator in
    let written : IfOk c.format.result (λ cell. string_bytes cell ≡ name ++ (codes " = " ++ words)) = search rules in
    IfOk-weaker c.format.result _ _
    (λ cell is. (
      words,
      record { numerator = value.numerator; denominator = value.denominator; lowest = c.fraction-value.ensures; spelt = refl },
      is ∙ sym (append_assoc name (codes " = ") words),
    ))
    written
