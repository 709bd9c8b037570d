use Rattle.std.proofs.Common.{◌≡◌, ◌≤◌, length, vec_items}
use Rattle.console.specs.Rows.{Numbered}
use Rattle.console.proofs.numbers.read.Given as goal

abbrev pub invariant-loop-word : goal.invariant-loop-word
invariant-loop-word l =
    Numbered l.bytes l.word-iterator.at (vec_items l.numbers) × (l.word-iterator.at ≤ length l.bytes) × (l.word-iterator.bytes.now ≡ l.bytes) × (length (vec_items l.numbers) ≤ 16384)
