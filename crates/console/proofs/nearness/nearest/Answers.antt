use Rattle.std.proofs.Common.{◌≡◌, List, ℕ, [], map, get_or, sym, ap, ◌∙◌, subst, below_more}
use Rattle.std.proofs.lemmas.Bool.{false≢true}
use Rattle.std.proofs.lemmas.List.{get_or-map}
use Rattle.console.specs.Nearness.{Nearly}
use Rattle.console.proofs.nearness.nearest.Goals as goal

pub loop-candidate-preserved : goal.loop-candidate-preserved
loop-candidate-preserved g c =
    let text = g.S.AsStr.text in
    let words = map text c.args.words.now in
    below_more (λ k. Nearly (get_or words k []) c.args.word.now → ⊥) c.loop-candidate.candidate-index c.loop-candidate.invariant
    (λ near.
    let there = get_or-map text c.args.words.now c.loop-candidate.candidate-index c.candidate-item.result [] c.loop-candidate-test.true in
    let here : c.as_str.result.now ≡ get_or words c.loop-candidate.candidate-index [] = c.as_str.ensures ∙ sym (there ∙ ap text (sym c.candidate-item.is)) in
    false≢true (sym c.if-branch.false ∙ c.in_ok-is_nearly.ensures.1 (subst (λ (l : List ℕ). Nearly l c.args.word.now) (sym here) near)))
