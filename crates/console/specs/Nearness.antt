-- Words that are nearly the same.
use Rattle.std.specs.Prelude.{◌≡◌, ℕ, ◌<◌, ◌≤◌, ◌⊎◌, List, [], ◌∷◌, ◌++◌, map, length, drop, Some, None, Option, slice_index, slice_index_or}
use Rattle.std.specs.Char.{to_ascii_lowercase}
use Rattle.std.specs.Str.{chars}

-- at most one character in place of at most one, or two in the other order
abbrev pub Exchange : List ℕ → List ℕ → Type 0
Exchange old new =
    ((length old ≤ 1) × (length new ≤ 1)) ⊎ ((a : ℕ) × (b : ℕ) × (old ≡ a ∷ b ∷ []) × (new ≡ b ∷ a ∷ []))

-- the characters are the same, but for such an exchange at one place
pub record OneChange (xs ys : List ℕ) : Type 0 where
  pub front : List ℕ
  pub old : List ℕ
  pub new : List ℕ
  pub back : List ℕ
  pub first : xs ≡ front ++ (old ++ back)
  pub second : ys ≡ front ++ (new ++ back)
  pub exchange : Exchange old new

-- equal but for the case of A to Z, or but for one change
abbrev pub Nearly : List ℕ → List ℕ → Type 0
Nearly xs ys = (map to_ascii_lowercase xs ≡ map to_ascii_lowercase ys) ⊎ OneChange (chars xs) (chars ys)

-- the first two characters are the same in the other order, and what follows is the same
abbrev pub Swapped : List ℕ → List ℕ → Type 0
Swapped xs ys =
    (2 ≤ length xs) × (2 ≤ length ys) × (slice_index xs 0 ≡ slice_index ys 1) × (slice_index xs 1 ≡ slice_index ys 0)
    × (drop 1 (drop 1 xs) ≡ drop 1 (drop 1 ys))

-- such a change at the start
pub data StartChange (xs ys : List ℕ) : Type 0 where
  changed : drop 1 xs ≡ drop 1 ys → StartChange xs ys
  left_out : drop 1 xs ≡ ys → StartChange xs ys
  put_in : xs ≡ drop 1 ys → StartChange xs ys
  swapped : Swapped xs ys → StartChange xs ys

-- the first of some words that is nearly a word, or none where none is
abbrev pub NearestIs : List (List ℕ) → List ℕ → Option (List ℕ) → Type 0
NearestIs words word (Some found) =
    (n : ℕ) × (n < length words) × (slice_index_or words n [] ≡ found) × Nearly found word
    × ((k : ℕ) → k < n → Nearly (slice_index_or words k []) word → ⊥)
NearestIs words word None = (k : ℕ) → k < length words → Nearly (slice_index_or words k []) word → ⊥
