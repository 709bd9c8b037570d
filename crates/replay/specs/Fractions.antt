-- Fractions in lowest terms.
use Rattle.std.specs.Prelude.{◌≡◌, ℕ, ◌*◌, ◌≤◌, cond, List, ◌++◌, codes, decimal, ◌==◌}

-- k divides x
abbrev pub Divides : ℕ → ℕ → Type 0
Divides k x = (q : ℕ) × (q * k ≡ x)

pub record GreatestDivisor (a b g : ℕ) : Type 0 where
  pub first : Divides g a
  pub second : Divides g b
  pub greatest : (k : ℕ) → Divides k a → Divides k b → Divides k g

-- p / q is n / d, and nothing but 1 divides both p and q; where d is 0, nothing is changed
pub record Lowest (n d p q : ℕ) : Type 0 where
  pub same : n * q ≡ p * d
  pub none : d ≡ 0 → (p ≡ n) × (q ≡ d)
  pub positive : 1 ≤ d → 1 ≤ q
  pub coprime : 1 ≤ d → (k : ℕ) → Divides k p → Divides k q → k ≡ 1

-- a whole number stands without its 1
abbrev pub ratio_text : ℕ → ℕ → List ℕ
ratio_text p q = cond (q == 1) (decimal p) (decimal p ++ (codes "/" ++ decimal q))
