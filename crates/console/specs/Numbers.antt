-- The number that a word of decimal digits writes.
use Rattle.std.specs.Prelude.{ℕ, ◌+◌, ◌-◌, ◌*◌, cond, ◌&&◌, List, [], ◌∷◌, Some, None, Option, nat_le, nat_lt}

-- one digit more, if it is one and the number still fits 32 bits
abbrev pub digit_pushed : ℕ → ℕ → Option ℕ
digit_pushed n b =
    cond (nat_le 48 b && (nat_le b 57 && nat_lt (n * 10 + (b - 48)) 4294967296)) (Some (n * 10 + (b - 48))) None

abbrev pub push_all : Option ℕ → List ℕ → Option ℕ
push_all None bs = None
push_all (Some n) [] = Some n
push_all (Some n) (b ∷ bs) = push_all (digit_pushed n b) bs

-- none where there is no digit, something else stands there, or the number does not fit
abbrev pub number_of : List ℕ → Option ℕ
number_of [] = None
number_of (b ∷ bs) = push_all (Some 0) (b ∷ bs)
