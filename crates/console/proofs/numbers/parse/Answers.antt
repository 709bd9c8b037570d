use Rattle.std.proofs.Common.{◌≡◌, length, sym, ◌∙◌, arith, false-eqb, rules, ap, Some}
use Rattle.std.proofs.lemmas.Fn.{slice_gives, fronts}
use Rattle.console.specs.Numbers.{push_all}
use Rattle.console.proofs.Digits.{some_digits, tried_all}
use Rattle.console.proofs.numbers.parse.Goals as goal

pub returns : goal.returns
returns c =
    let word = c.args.word.now in
    let some : length word ≡ 0 → ⊥ = λ e. omega (arith, false-eqb _ 0 c.if-is_empty.ensures) in
    let all : c.iter.result.rest.now ≡ word = search rules in
    tried_all fronts (λ y. y.now) 0 c.iter.result.rest.now c.try_fold.ensures.ran (slice_gives c.iter.result) (λ n x o h k t. search rules)
    ∙ (ap (push_all (Some 0)) all ∙ sym (some_digits word some))
