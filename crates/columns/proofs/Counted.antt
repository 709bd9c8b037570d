-- A text has as many characters as bytes that begin one.
use Rattle.std.specs.Fmt.{char_count, is_char_start}
use Rattle.std.specs.Str.{IsUtf8}
use Rattle.std.proofs.lemmas.Str.{chars_from_encodes}
use Rattle.std.proofs.lemmas.Bool.{lt-ltb, le-leb, ltb-true, leb-true}
use Rattle.std.proofs.Math.Bool.{or-true}
use lib.Utf8.{encode, encodes}
use Rattle.std.proofs.Common.{◌≡◌, ℕ, ◌+◌, ◌/◌, ◌%◌, ◌<◌, ◌≤◌, Bool, true, false, cond, ◌||◌, ltb, leb, List, [], ◌∷◌, ◌++◌, length, sym, refl, ap, ◌∙◌, arith}
use Rattle.columns.specs.Columns.{columns}

begins : (b : ℕ) (rest : List ℕ) → is_char_start b ≡ true → char_count (b ∷ rest) ≡ 1 + char_count rest
unfolding char_count
begins b rest e = ap (λ t. cond t 1 0 + char_count rest) e

plus_none : (n : ℕ) → 0 + n ≡ n
plus_none n = omega arith

goes_on : (b : ℕ) (rest : List ℕ) → is_char_start b ≡ false → char_count (b ∷ rest) ≡ char_count rest
unfolding char_count
goes_on b rest e = ap (λ t. cond t 1 0 + char_count rest) e ∙ plus_none (char_count rest)

small_starts : (b : ℕ) → b < 128 → is_char_start b ≡ true
small_starts b h = ap (λ t. t || leb 192 b) (lt-ltb b 128 h)

large_starts : (b : ℕ) → 192 ≤ b → is_char_start b ≡ true
large_starts b h = ap (λ t. ltb b 128 || t) (le-leb 192 b h) ∙ or-true (ltb b 128)

none_where : (b : ℕ) (x y : Bool) → x ≡ ltb b 128 → y ≡ leb 192 b → 128 ≤ b → b < 192 → x || y ≡ false
none_where b true y e f low high = absurd (omega (arith, ltb-true b 128 (sym e)))
none_where b false true e f low high = absurd (omega (arith, leb-true 192 b (sym f)))
none_where b false false e f low high = refl

next_starts_none : (c : ℕ) → is_char_start (128 + c % 64) ≡ false
next_starts_none c = none_where (128 + c % 64) _ _ refl refl (omega arith) (omega arith)

by_width : (x y z : Bool) (c : ℕ) (rest : List ℕ) → (x ≡ true → c < 128)
    → char_count (cond x (c ∷ []) (cond y ((192 + c / 64) ∷ (128 + c % 64) ∷ []) (cond z ((224 + c / 4096) ∷ (128 + c / 64 % 64) ∷ (128 + c % 64) ∷ []) ((240 + c / 262144) ∷ (128 + c / 4096 % 64) ∷ (128 + c / 64 % 64) ∷ (128 + c % 64) ∷ []))) ++ rest)
    ≡ 1 + char_count rest
by_width true y z c rest small = begins c rest (small_starts c (small refl))
by_width false true z c rest small =
    begins (192 + c / 64) _ (large_starts (192 + c / 64) (omega arith)) ∙ ap (λ n. 1 + n) (goes_on _ rest (next_starts_none c))
by_width false false true c rest small =
    begins (224 + c / 4096) _ (large_starts (224 + c / 4096) (omega arith))
    ∙ ap (λ n. 1 + n) (goes_on _ _ (next_starts_none (c / 64)) ∙ goes_on _ rest (next_starts_none c))
by_width false false false c rest small =
    begins (240 + c / 262144) _ (large_starts (240 + c / 262144) (omega arith))
    ∙ ap (λ n. 1 + n) (goes_on _ _ (next_starts_none (c / 4096)) ∙ (goes_on _ _ (next_starts_none (c / 64)) ∙ goes_on _ rest (next_starts_none c)))

one_more : (c : ℕ) (rest : List ℕ) → char_count (encode c ++ rest) ≡ 1 + char_count rest
unfolding encode
one_more c rest = by_width (ltb c 128) (ltb c 2048) (ltb c 65536) c rest (ltb-true c 128)

count_all : (cs : List ℕ) → char_count (encodes cs) ≡ length cs
unfolding char_count
count_all [] = refl
count_all (c ∷ cs) = omega (arith, one_more c (encodes cs), count_all cs)

pub count_columns : (text : List ℕ) → IsUtf8 text → char_count text ≡ columns text
count_columns text u = ap char_count (sym u.1.1) ∙ (count_all u.0 ∙ ap length (chars_from_encodes u.0 text u u.1.1))
