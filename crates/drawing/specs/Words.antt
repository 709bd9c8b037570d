-- The texts of the signs, and how a word is cut from a text.
use Rattle.std.specs.Prelude.{◌≡◌, ℕ, ◌<◌, Bool, true, false, List, ◌++◌, length, Some, None, codes, Option, slice_index}
use Rattle.std.proofs.Math.Utf8.{encode}
use Rattle.rows.specs.Parts.{relation_value, relation_text}
use Rattle.drawing.specs.declared.errors.Sign as signs
use Rattle.drawing.specs.declared.errors.Sign.TheVariants.{Colon, Comma, Arrow, Relation, Equal}
use Rattle.drawing.specs.declared.words.Word as words
use Rattle.drawing.specs.declared.words.Word.TheVariants.{Text, Sign, Stray, End}

abbrev pub text_of : signs.Sign → List ℕ
text_of Colon = codes ":"
text_of Comma = codes ","
text_of Arrow = codes "->"
text_of (Relation r) = relation_text (relation_value r)
text_of Equal = codes "="

-- the text is the word and then the rest; at its end the text has no more, or a comment, which `#` begins
abbrev pub Cuts : List ℕ → words.Word → List ℕ → Type 0
Cuts text (Text t) rest = (text ≡ t.now ++ rest) × (0 < length t.now)
Cuts text (Sign s) rest = text ≡ text_of s ++ rest
Cuts text (Stray c) rest = text ≡ encode c ++ rest
Cuts text End rest = (text ≡ rest) × (0 < length text → slice_index text 0 ≡ 35)

abbrev pub text_part : words.Word → Option (List ℕ)
text_part (Text t) = Some t.now
text_part (Sign s) = None
text_part (Stray c) = None
text_part End = None

abbrev pub sign_part : words.Word → Option signs.Sign
sign_part (Text t) = None
sign_part (Sign s) = Some s
sign_part (Stray c) = None
sign_part End = None

abbrev pub is_end : words.Word → Bool
is_end (Text t) = false
is_end (Sign s) = false
is_end (Stray c) = false
is_end End = true
