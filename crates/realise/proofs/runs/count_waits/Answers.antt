use Rattle.std.proofs.Common.{◌≡◌, count_by, ◌∙◌, rules}
use Rattle.realise.proofs.Waits.{is_wait, waits_counted}
use Rattle.realise.proofs.runs.count_waits.Goals as goal

pub returns : goal.returns
returns c =
    let counted : c.count.result ≡ count_by is_wait c.args.moves.now = search rules in
    counted ∙ waits_counted c.args.moves.now
