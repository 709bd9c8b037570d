-- How far a text goes on: the lines that end in it, and the characters of its last line. And a place as text.
use Rattle.std.specs.Prelude.{ℕ, Bool, not, ◌==◌, List, ◌++◌, reverse, take_while, count_by, bit_and, codes, decimal}
use Rattle.drawing.specs.declared.errors.Place.{Place}

abbrev pub is_newline : ℕ → Bool
is_newline b = b == 10

-- a byte that goes on with a character begins none
abbrev pub begins_character : ℕ → Bool
begins_character b = not (bit_and b 192 == 128)

abbrev pub newline_count : List ℕ → ℕ
newline_count text = count_by is_newline text

abbrev pub last_line_len : List ℕ → ℕ
last_line_len text = count_by begins_character (take_while (λ b. not (is_newline b)) (reverse text))

-- the line, a colon and the column
abbrev pub place_text : Place → List ℕ
place_text p = decimal p.line ++ (codes ":" ++ decimal p.column)
