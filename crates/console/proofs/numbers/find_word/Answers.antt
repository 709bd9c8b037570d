use Rattle.std.proofs.Common.{◌+◌, ◌≤◌, length, sym, refl, subst, arith}
use Rattle.console.specs.declared.numbers.Word.{Word}
use Rattle.console.proofs.Words.{nth_ends}
use Rattle.console.proofs.numbers.find_word.Goals as goal

pub returns : goal.returns
returns c =
    subst (λ (w : Word). w.start + length w.text.now ≤ length c.args.bytes.now) (sym c.unwrap_or.ensures)
    (nth_ends c.args.bytes.now _ c.args.word c.nth.result c.nth.new.self _ refl c.nth.ensures.ran (omega arith))
