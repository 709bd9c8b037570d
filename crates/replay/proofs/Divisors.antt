-- Common divisors: Euclid's step keeps them, and dividing by the greatest leaves only 1.
use Rattle.std.proofs.Common.{◌≡◌, ℕ, zero, suc, ◌*◌, ◌/◌, ◌%◌, ◌≤◌, ◌↔◌, ap, subst, arith}
use Prim.Native.Nat.{◌∣◌}
use native.Mathlib.Nat.{dvd-mul_left, dvd-mod_iff, div-mul_cancel, eq-one_of_dvd-one, eq_of_mul-eq-mul_right}
use Rattle.replay.specs.Fractions.{Divides, GreatestDivisor, Lowest}

to : (k x : ℕ) → Divides k x → k ∣ x
to k x (q, e) = subst (λ (z : ℕ). k ∣ z) e (dvd-mul_left k q)

from : (k x : ℕ) → k ∣ x → Divides k x
from k x h = (x / k, div-mul_cancel k h)

-- k divides both
abbrev pub Common : ℕ → ℕ → ℕ → Type 0
Common k a b = Divides k a × Divides k b

pub euclid : (k a b : ℕ) → Common k b (a % b) ↔ Common k a b
euclid k a b = (
  λ h. (from k a ((dvd-mod_iff k (to k b h.0)).0 (to k (a % b) h.1)), h.0),
  λ h. (h.1, from k (a % b) ((dvd-mod_iff k (to k b h.1)).1 (to k a h.0))),
)

pub divides_itself : (k : ℕ) → Common k k 0
divides_itself k = ((1, omega arith), (0, omega arith))

pub greatest : (a b g : ℕ) → ((k : ℕ) → Common k g 0 ↔ Common k a b) → GreatestDivisor a b g
greatest a b g same =
    record {
      first = ((same g).0 (divides_itself g)).0;
      second = ((same g).0 (divides_itself g)).1;
      greatest = λ k h i. ((same k).1 (h, i)).0;
    }

pub divisor_positive : (a b g : ℕ) → 1 ≤ b → GreatestDivisor a b g → 1 ≤ g
divisor_positive a b zero pos h = absurd (omega (arith, h.second.1))
divisor_positive a b (suc g) pos h = omega arith

divided : (x g : ℕ) → Divides g x → x / g * g ≡ x
divided x g h = div-mul_cancel g (to g x h)

one_left : (k g w : ℕ) → 1 ≤ g → w * (k * g) ≡ g → k ≡ 1
one_left k g w pos e = eq-one_of_dvd-one (to k 1 (w, eq_of_mul-eq-mul_right g pos (w * k) 1 (omega arith)))

cross : (a b g p q : ℕ) → p * g ≡ a → q * g ≡ b → a * q ≡ p * b
cross a b g p q e f = omega (arith, ap (λ (z : ℕ). z * q) e, ap (λ (z : ℕ). p * z) f)

some_left : (b g q : ℕ) → 1 ≤ b → q * g ≡ b → 1 ≤ q
some_left b g zero pos f = absurd (omega arith)
some_left b g (suc q) pos f = omega arith

multiplied : (k u x g a : ℕ) → u * k ≡ x → x * g ≡ a → u * (k * g) ≡ a
multiplied k u x g a h e = omega (arith, ap (λ (z : ℕ). z * g) h)

pub in_lowest_terms : (a b g : ℕ) → 1 ≤ b → GreatestDivisor a b g → Lowest a b (a / g) (b / g)
in_lowest_terms a b g pos h =
    let e = divided a g h.first in
    let f = divided b g h.second in
    record {
      same = cross a b g (a / g) (b / g) e f;
      none = λ z. absurd (omega arith);
      positive = λ _. some_left b g (b / g) pos f;
      coprime = λ _ k d c.
          let w = h.greatest (k * g) (d.0, multiplied k d.0 (a / g) g a d.1 e) (c.0, multiplied k c.0 (b / g) g b c.1 f) in
          one_left k g w.0 (divisor_positive a b g pos h) w.1;
    }
