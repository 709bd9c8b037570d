use Rattle.std.proofs.Common.{◌≡◌, ℕ, List, map, string_bytes, Option, sym, subst}
use Rattle.std.proofs.lemmas.Result.{IfOk-weaker}
use Rattle.earliest.specs.Explored.{ExploredIn, ToldBy}
use Rattle.earliest.specs.Listed.{PositionsListed}
use Rattle.earliest.proofs.lines.write_explored.Goals as goal

pub returns-in_default : goal.returns-in_default
returns-in_default c =
    let kinds = c.args.kinds in
    let names = map string_bytes c.args.positions.names.now in
    let count = c.args.positions.count in
    IfOk-weaker c.write_lines.result _
    (λ t. (row : List ℕ) (lent : ℕ) → ExploredIn row kinds lent c.args.explored → PositionsListed (ToldBy row kinds lent c.args.explored) kinds names count c.args.position (string_bytes t))
    (λ t listed row lent known.
    subst (λ (p : Option ℕ). PositionsListed (ToldBy row kinds lent c.args.explored) kinds names count p (string_bytes t)) (sym c.in_default.is) (listed row lent known))
    c.write_lines.ensures
