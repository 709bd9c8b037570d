-- The name at a place of a list.
use Rattle.std.proofs.Common.{◌≡◌, ℕ, zero, suc, ◌<◌, ◌≤◌, List, [], ◌∷◌, length, get_or, refl, arith}
use Rattle.accounts.specs.Lines.{name_of}

pub name_at : {X : Type 0} (text : X → List ℕ) (xs : List X) (i : ℕ) (d : X) → i < length xs → text (get_or xs i d) ≡ name_of text xs i
name_at text [] i d h = absurd (omega arith)
name_at text (x ∷ xs) zero d h = refl
name_at text (x ∷ xs) (suc i) d h = name_at text xs i d (omega arith)

pub name_behind : {X : Type 0} (text : X → List ℕ) (xs : List X) (i : ℕ) → length xs ≤ i → [] ≡ name_of text xs i
name_behind text [] i h = refl
name_behind text (x ∷ xs) zero h = absurd (omega arith)
name_behind text (x ∷ xs) (suc i) h = name_behind text xs i (omega arith)
