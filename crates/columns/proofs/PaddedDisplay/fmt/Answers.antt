use Rattle.std.proofs.Common.{◌≡◌, ◌≤◌, length, ap, ◌∙◌, rules}
use Rattle.std.specs.Fmt.{styled_text}
use Rattle.std.specs.Str.{IsUtf8}
use Rattle.std.proofs.Output.{has_written_of_eq}
use Rattle.columns.specs.Columns.{padded}
use Rattle.columns.proofs.Blanks.{fills_up}
use Rattle.columns.proofs.PaddedDisplay.fmt.Goals as goal

pub returns-clause-writes : goal.returns-clause-writes
returns-clause-writes g c =
    let cell = c.args.self.now in
    let utf8 : IsUtf8 cell.text.now = search rules in
    let short : length cell.text.now ≤ 18446744073709551615 = search rules in
    let filled : styled_text c.laid_out.result cell.text.now ≡ padded cell.width cell.text.now =
    ap (λ s. styled_text s cell.text.now) c.laid_out.ensures ∙ fills_up cell.width cell.text.now utf8 short in
    λ plain well. has_written_of_eq _ _ _ _ _ filled (c.write.ensures.writes plain well)
