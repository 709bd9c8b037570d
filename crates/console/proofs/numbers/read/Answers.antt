use Rattle.std.proofs.Common.{◌≡◌, ℕ, ◌+◌, ◌≤◌, List, [], ◌∷◌, length, vec_items, None, Some, sym, ap, ◌∙◌, subst, arith, length-append}
use Rattle.std.specs.Option.{ok_or}
use Rattle.std.proofs.lemmas.Result.{err_from_is_err_and}
use Rattle.console.specs.declared.numbers.Mistake.TheVariants.{NoNumber}
use Rattle.console.specs.declared.numbers.Words.{Words}
use Rattle.console.specs.Numbers.{number_of}
use Rattle.console.specs.Rows.{Numbered, no_number, one_more}
use Rattle.console.proofs.Words.{given}
use Rattle.console.proofs.numbers.read.Goals as goal

pub loop-word-init : goal.loop-word-init
loop-word-init c =
    let is = c.into_iter-word-iterator.ensures.into_iter_gives in
    let none : length (vec_items c.new-numbers.result) ≡ 0 = ap length c.new-numbers.ensures.items in (
      subst (λ (ns : List ℕ). Numbered c.args.bytes.now c.into_iter-word-iterator.result.at ns) (sym c.new-numbers.ensures.items)
          (subst (λ (w : Words). Numbered c.args.bytes.now w.at []) (sym is) no_number),
      subst (λ (w : Words). w.at ≤ length c.args.bytes.now) (sym is) (omega arith),
      ap (λ (w : Words). w.bytes.now) is,
      omega arith,
    )

pub returns-in_err-number : goal.returns-in_err-number
returns-in_err-number c =
    let before = c.loop-word.invariant in
    let word = given c.args.bytes.now c.loop-word.word-iterator c.in-Some.word c.next.new.self before.2 c.in-Some.ensures.steps in
    let none : c.parse.result ≡ None = c.in_err-number.ensures.ok_part in
    let told = c.in_err-number.ensures.value ∙ ap (λ o. ok_or o (NoNumber c.len-in-loop-word.result)) none in
    let same : c.in_err-number.field-0.0 ≡ NoNumber c.len-in-loop-word.result = cc in
    let p = err_from_is_err_and c.from_residual.result c.from_residual.ensures.1 in
    rw (p.1, p.2, same) (
      record {
        end = c.loop-word.word-iterator.at;
        numbers = vec_items c.loop-word.numbers;
        numbered = before.0;
        many = omega (arith, c.len-in-loop-word.ensures);
        start = c.in-Some.word.start;
        stop = c.next.new.self.at;
        word = word.0;
        there = word.1;
      },
      ap number_of (sym word.2) ∙ sym c.parse.ensures ∙ none,
    )

pub loop-word-preserved : goal.loop-word-preserved
loop-word-preserved c =
    let before = c.loop-word.invariant in
    let word = given c.args.bytes.now c.loop-word.word-iterator c.in-Some.word c.next.new.self before.2 c.in-Some.ensures.steps in
    let pushed = c.in_ok-push.ensures.items in
    let longer : length (vec_items c.push.new.self) ≡ length (vec_items c.loop-word.numbers) + 1 = ap length pushed ∙ length-append (vec_items c.loop-word.numbers) (c.in_ok-number.number ∷ []) in
    let less = c.if-len-eq-MOST_WORDS.false in
    let number : c.parse.result ≡ Some c.in_ok-number.number = c.in_ok-number.ensures.ok_part in (
      subst (λ (ns : List ℕ). Numbered c.args.bytes.now c.next.new.self.at ns) (sym pushed)
          (one_more c.loop-word.word-iterator.at c.in-Some.word.start c.next.new.self.at c.in_ok-number.number (vec_items c.loop-word.numbers) before.0 word.0 word.1 (ap number_of (sym word.2) ∙ sym c.parse.ensures ∙ number)),
      word.0.ends.within,
      word.3,
      omega arith,
    )
