use Rattle.std.proofs.Common.{◌≡◌, ℕ, List, sym, subst}
use Rattle.earliest.specs.declared.explored.Explored.{Explored}
use Rattle.earliest.specs.Explored.{ExploredIn, ToldBy}
use Rattle.earliest.proofs.explored.look_up_in.Goals as goal

pub returns-in-Regions : goal.returns-in-Regions
returns-in-Regions c row kinds lent known =
    subst (λ (e : Explored). ToldBy row kinds lent e c.args.position c.look_up.result) (sym c.in-Regions.is)
    (c.look_up.ensures row kinds lent (subst (λ (e : Explored). ExploredIn row kinds lent e) c.in-Regions.is known))
