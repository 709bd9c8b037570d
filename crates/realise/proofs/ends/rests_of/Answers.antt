-- What is left over of one clock after the other.
use Rattle.std.proofs.Common.{◌≡◌, ℕ, ◌+◌, ◌*◌, ◌%◌, ◌<◌, ◌≤◌, List, [], ◌∷◌, ◌++◌, Vec, Global, get_or, take, sym, ap, ◌∙◌, subst, arith, length-take}
use Rattle.std.proofs.lemmas.List.{get_or-take}
use Rattle.replay.specs.Meaning.{clock_of}
use Rattle.realise.specs.Ends.{point_at, height_of, RestsOf}
use Rattle.realise.proofs.Ending.{rests_push, rests_pass, rests_same}
use Rattle.realise.proofs.ends.rests_of.Goals.{then-height-frame+in_ok-push, else-height-frame}
use Rattle.realise.proofs.ends.rests_of.Goals as goal

pub loop-value-preserved : goal.loop-value-preserved
loop-value-preserved c =
    let k = c.loop-value.value-index in
    let ns = c.loop-value.rests.items in
    let n = c.args.frame.clocks in
    let top = c.args.frame.top in
    let d = c.args.denominator in
    let m = c.args.end.now in
    let p = point_at d m in
    let within : k < n = omega (arith, c.loop-value-test.true, length-take n m.clocks) in
    let own : get_or (take n m.clocks) k 0 ≡ clock_of m k = get_or-take n m.clocks k 0 within in
    let height : c.height_of-height.result ≡ height_of top d (clock_of m k) = c.height_of-height.ensures ∙ ap (height_of top d) own in
    elim c.if-height-frame.branch [
      | then-height-frame+in_ok-push w ↦
          let inside : height_of top d (clock_of m k) ≤ 2 * top = omega (arith, height, w.if-height-frame.true) in
          let at_last : w.push.new.self.items ≡ ns ++ clock_of m k % d ∷ [] = w.in_ok-push.ensures.items ∙ ap (λ (v : ℕ). ns ++ v % d ∷ []) own in
          let pushed : c.if-height-frame.rests.items ≡ ns ++ clock_of m k % d ∷ [] = ap (λ (v : Vec ℕ Global). v.items) w.rests-is ∙ at_last in
          subst (λ (l : List ℕ). RestsOf (k + 1) top p l) (sym pushed) (rests_push top p k ns c.loop-value.invariant inside)
      | else-height-frame w ↦
          let beyond : 2 * top < height_of top d (clock_of m k) = omega (arith, height, w.if-height-frame.false) in
          let same : c.if-height-frame.rests.items ≡ ns = ap (λ (v : Vec ℕ Global). v.items) w.rests-is in
          subst (λ (l : List ℕ). RestsOf (k + 1) top p l) (sym same) (rests_pass top p k ns c.loop-value.invariant beyond)
    ]

pub returns : goal.returns
returns c =
    let n = c.args.frame.clocks in
    let top = c.args.frame.top in
    let p = point_at c.args.denominator c.args.end.now in
    let all : c.loop-value.value-index ≡ n = omega (arith, c.loop-value-test.false, c.loop-value.auto.value-index-end, c.args.frame.small, length-take n c.args.end.now.clocks) in
    rests_same top p n c.loop-value.rests.items c.of.result.numbers.items c.of.ensures
    (subst (λ (k : ℕ). RestsOf k top p c.loop-value.rests.items) all c.loop-value.invariant)
