-- How wide a text is, and a text with blanks behind it.
use Rattle.std.specs.Prelude.{ℕ, zero, suc, ◌-◌, List, [], ◌++◌, length, codes}
use Rattle.std.specs.Str.{chars}

-- one for each character of the text
abbrev pub columns : List ℕ → ℕ
columns text = length (chars text)

abbrev pub blanks : ℕ → List ℕ
blanks zero = []
blanks (suc n) = blanks n ++ codes " "

-- a text, and blanks behind it up to a width
abbrev pub padded : ℕ → List ℕ → List ℕ
padded width text = text ++ blanks (width - columns text)
