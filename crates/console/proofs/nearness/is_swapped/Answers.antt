use Rattle.std.proofs.Common.{sym, ◌∙◌, true-eqb}
use Rattle.std.proofs.lemmas.Slice.Eq.{slice_eq-Decides}
use Rattle.std.proofs.lemmas.Bool.Decides.{Decides-eqb}
use Rattle.console.proofs.Changes.{swapped_at}
use Rattle.console.proofs.nearness.is_swapped.Goals as goal
use Rattle.console.proofs.nearness.is_swapped.Goals.{then-a_first-b_second, else-a_first-b_second}

pub returns-then-a_second-b_first : goal.returns-then-a_second-b_first
returns-then-a_second-b_first c =
    elim c.if-a_first-b_second.branch [
      | then-a_first-b_second w ↦
          swapped_at c.args.a.now c.args.b.now c.eq.result _ _ _ _ c.in-len2-up.len_at_least c.in-len2-up-b.len_at_least c.a_first-item.is c.a_second-item.is c.b_first-item.is c.b_second-item.is
          w.if-a_first-b_second.true
          (true-eqb _ _ (sym c.if-a_second-b_first.true ∙ w.value-is))
          (slice_eq-Decides Decides-eqb _ _ _ c.eq.ensures)
      | else-a_first-b_second w ↦ absurd (w.if-a_first-b_second.false (true-eqb _ _ (sym c.if-a_second-b_first.true ∙ w.value-is)))
    ]
