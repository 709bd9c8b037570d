-- A text that std fills up with blanks.
use Rattle.std.specs.Fmt.{char_count, is_char_start, fill_text, format_spec, padded as filled, styled_text, take_chars}
use Rattle.std.specs.Str.{IsUtf8}
use Rattle.std.specs.List.{repeat}
use Rattle.std.proofs.lemmas.Bool.{ne_eqb}
use lib.Utf8.{encode}
use Rattle.std.proofs.Common.{◌≡◌, ℕ, zero, suc, ◌-◌, ◌≤◌, Bool, true, false, cond, ◌&&◌, eqb, true-eqb, List, [], ◌∷◌, ◌++◌, length, codes, sym, refl, ap, ◌∙◌, append-nil, arith}
use Rattle.columns.specs.Columns.{blanks, padded, columns}
use Rattle.columns.proofs.Counted.{count_columns}

one_blank_first : (n : ℕ) → blanks n ++ codes " " ≡ codes " " ++ blanks n
one_blank_first zero = refl
one_blank_first (suc n) = ap (λ (l : List ℕ). l ++ codes " ") (one_blank_first n)

repeat_blanks : (n : ℕ) → repeat n (codes " ") ≡ blanks n
repeat_blanks zero = refl
repeat_blanks (suc n) = ap (λ (l : List ℕ). codes " " ++ l) (repeat_blanks n) ∙ sym (one_blank_first n)

either_way : {X : Type 0} (t : Bool) (x y z : X) → x ≡ z → y ≡ z → cond t x y ≡ z
either_way true x y z p q = p
either_way false x y z p q = q

-- a text has no more characters than bytes
takes_all : (n : ℕ) (text : List ℕ) → length text ≤ n → take_chars n text ≡ text
unfolding take_chars
takes_all n [] short = refl
takes_all n (b ∷ text) short =
    either_way (is_char_start b) _ _ _
    (ap (λ t. cond t [] (b ∷ take_chars (n - 1) text)) (ne_eqb n 0 (omega arith)) ∙ ap (λ (l : List ℕ). b ∷ l) (takes_all (n - 1) text (omega arith)))
    (ap (λ (l : List ℕ). b ∷ l) (takes_all n text (omega arith)))

fills : (n : ℕ) (text : List ℕ) → IsUtf8 text → length text ≤ 18446744073709551615 → filled (format_spec 32 0 0 n 18446744073709551615) text ≡ padded n text
unfolding filled encode
fills n text u short =
    let spec = format_spec 32 0 0 n 18446744073709551615 in
    let whole = takes_all 18446744073709551615 text short in
    let gap : n - char_count (take_chars 18446744073709551615 text) - 0 ≡ n - columns text = omega (arith, ap char_count whole, count_columns text u) in
    ap (λ (l : List ℕ). l ++ fill_text spec (n - char_count (take_chars 18446744073709551615 text) - 0)) whole
    ∙ ap (λ (l : List ℕ). text ++ l) (ap (λ (k : ℕ). repeat k (codes " ")) gap ∙ repeat_blanks (n - columns text))

fills_where : (b : Bool) (n : ℕ) (text all : List ℕ) → (b ≡ true → n ≡ 0) → all ≡ padded n text → cond (b && true) text all ≡ padded n text
fills_where true n text all none e =
    let gap : 0 ≡ n - columns text = omega (arith, none refl) in sym (append-nil text) ∙ ap (λ (k : ℕ). text ++ blanks k) gap
fills_where false n text all none e = e

-- what std writes of a text under a width
pub fills_up : (n : ℕ) (text : List ℕ) → IsUtf8 text → length text ≤ 18446744073709551615 → styled_text (format_spec 32 0 0 n 18446744073709551615) text ≡ padded n text
fills_up n text u short = fills_where (eqb n 0) n text _ (λ e. true-eqb n 0 (sym e)) (fills n text u short)
