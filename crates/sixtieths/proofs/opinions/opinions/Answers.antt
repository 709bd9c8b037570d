use Rattle.std.proofs.Common.{Bool, ◌+◌, ◌∙◌, ap, sym, subst}
use Rattle.std.proofs.lemmas.List.{length_push}
use Rattle.std.proofs.lemmas.List.Elements.{All-push}
use Rattle.sixtieths.specs.Opinions.{OpinionIs, AllOpinions}
use Rattle.sixtieths.specs.declared.opinions.Opinion.{Opinion}
use Rattle.sixtieths.proofs.opinions.opinions.Goals as goal

pub loop-location-preserved : goal.loop-location-preserved
loop-location-preserved c =
    let pushed = c.in_ok-push.ensures in (
      subst AllOpinions (sym pushed.items)
          (All-push (λ (o : Opinion). (way : Bool) × OpinionIs way o) _ _ c.loop-location.invariant.0 (c.in-Some.has_way, c.new.ensures.judged)),
      pushed.len ∙ ap (λ n. n + 1) c.loop-location.invariant.1 ∙ sym (length_push c.loop-location.yielded _),
    )
