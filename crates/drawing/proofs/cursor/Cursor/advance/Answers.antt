use Rattle.std.proofs.Common.{arith}
use Rattle.drawing.proofs.Cuts.{word_takes}
use Rattle.drawing.proofs.cursor.Cursor.advance.Goals as goal

pub returns : goal.returns
returns c = λ more. omega (arith, word_takes _ _ _ c.cut_word.ensures more, c.trim_start_matches-text.ensures.bound)
