use Rattle.std.proofs.Common.{slice_index, subst, List, rules}
use Rattle.std.proofs.lemmas.Iterator.{cases_from_all}
use Rattle.automata.specs.Automata.{Constraint}
use Rattle.replay.specs.Checks.{Decides, HoldsParts}
use Rattle.rows.proofs.Yielding.{constraints_yield}
use Rattle.replay.proofs.Constraints.{Meets, all_decide}
use Rattle.replay.proofs.checks.holds.Goals as goal

pub returns : goal.returns
returns c =
    let value = slice_index c.args.clocks.now in
    let meets = Meets c.args.denominator value in
    subst (λ (cs : List Constraint). Decides c.all.result (HoldsParts c.args.denominator value cs)) c.iter.ensures
    (all_decide c.args.denominator value _ c.all.result
    (cases_from_all c.all.new.self _ _ meets (λ x. meets x → ⊥) c.all.ensures.ran (constraints_yield c.iter.result) (λ x q k. search rules) (λ x q k. search rules)))
