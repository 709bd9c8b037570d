-- What is left of a line past a word.
use Rattle.std.proofs.Common.{◌≡◌, ℕ, ◌+◌, ◌<◌, false, cond, List, length, ap, arith, length-append}
use Rattle.std.proofs.lemmas.Str.{length-encode, len_utf8_bounds}
use Rattle.std.proofs.Math.Utf8.{encode}
use Rattle.rows.specs.declared.constraints.Relation.TheVariants.{AtMost, Below, AtLeast, Above}
use Rattle.drawing.specs.declared.errors.Sign as signs
use Rattle.drawing.specs.declared.errors.Sign.TheVariants.{Colon, Comma, Arrow, Relation, Equal}
use Rattle.drawing.specs.declared.words.Word as words
use Rattle.drawing.specs.declared.words.Word.TheVariants.{Text, Sign, Stray, End}
use Rattle.drawing.specs.Words.{text_of, Cuts, is_end}

sign_takes : (s : signs.Sign) → 0 < length (text_of s)
sign_takes Colon = omega arith
sign_takes Comma = omega arith
sign_takes Arrow = omega arith
sign_takes (Relation AtMost) = omega arith
sign_takes (Relation Below) = omega arith
sign_takes (Relation AtLeast) = omega arith
sign_takes (Relation Above) = omega arith
sign_takes Equal = omega arith

character_takes : (c : ℕ) → 0 < length (encode c)
character_takes c = omega (arith, length-encode c, len_utf8_bounds c)

-- a word takes a byte or more of the text
pub word_takes : (text : List ℕ) (word : words.Word) (rest : List ℕ) → Cuts text word rest → is_end word ≡ false → length rest < length text
word_takes text (Text t) rest cuts more = omega (arith, ap length cuts.0, length-append t.now rest, cuts.1)
word_takes text (Sign s) rest cuts more = omega (arith, ap length cuts, length-append (text_of s) rest, sign_takes s)
word_takes text (Stray c) rest cuts more = omega (arith, ap length cuts, length-append (encode c) rest, character_takes c)
word_takes text End rest cuts more = absurd (cc)

-- what is left to read: nothing at the end of the line
abbrev pub left : words.Word → List ℕ → ℕ
left word rest = cond (is_end word) 0 (1 + length rest)
