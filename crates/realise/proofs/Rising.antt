-- Numbers that rise, and their places.
use Rattle.std.proofs.Common.{◌≡◌, ℕ, zero, suc, ◌+◌, ◌-◌, ◌<◌, ◌≤◌, ◌↔◌, Bool, true, false, cond, List, [], ◌∷◌, length, get_or, count_by, ltb, refl, ap, inl, inr, arith}
use Rattle.std.proofs.lemmas.Bool.{cases_lt, lt-ltb, le-ltb}
use Rattle.std.proofs.lemmas.List.{get_or_default}
use Rattle.std.specs.List.{Contains}
use Rattle.std.specs.List.Sorted.{IsStrictlyIncreasing, IsNonDecreasingBy}
use Rattle.std.proofs.lemmas.List.Sums.{sum_by-cons}
use Rattle.std.proofs.lemmas.List.Sorted.{IsNonDecreasingBy-from_default}
use Rattle.realise.specs.Places.{place_among}

abbrev one_if : Bool → ℕ
one_if b = cond b 1 0

-- a test that holds of just the first i numbers counts i
pub counted_until : (p : ℕ → Bool) (xs : List ℕ) (i : ℕ)
    → i ≤ length xs
    → ((k : ℕ) → k < i → p (get_or xs k 0) ≡ true)
    → ((k : ℕ) → i ≤ k → k < length xs → p (get_or xs k 0) ≡ false)
    → count_by p xs ≡ i
counted_until p [] i le first rest = omega arith
counted_until p (x ∷ xs) zero le first rest =
    let left : count_by p xs ≡ 0 = counted_until p xs 0 (omega arith) (λ k h. absurd (omega arith)) (λ k h h'. rest (suc k) (omega arith) (omega arith)) in
    let one : one_if (p x) ≡ 0 = rw (rest 0 (omega arith) (omega arith)) refl in
    omega (arith, sum_by-cons (λ (y : ℕ). one_if (p y)) x xs, left, one)
counted_until p (x ∷ xs) (suc i) le first rest =
    let left : count_by p xs ≡ i = counted_until p xs i (omega arith) (λ k h. first (suc k) (omega arith)) (λ k h h'. rest (suc k) (omega arith) (omega arith)) in
    let one : one_if (p x) ≡ 1 = rw (first 0 (omega arith)) refl in
    omega (arith, sum_by-cons (λ (y : ℕ). one_if (p y)) x xs, left, one)

-- a test that holds of no fewer numbers counts no less, and more where it holds of one more
counted_more : (p q : ℕ → Bool) (xs : List ℕ)
    → ((x : ℕ) → one_if (p x) ≤ one_if (q x))
    → count_by p xs ≤ count_by q xs
counted_more p q [] h = omega arith
counted_more p q (x ∷ xs) h =
    omega (arith, sum_by-cons (λ (y : ℕ). one_if (p y)) x xs, sum_by-cons (λ (y : ℕ). one_if (q y)) x xs, h x, counted_more p q xs h)

one_more : (p q : ℕ → Bool) (xs : List ℕ) (k : ℕ)
    → ((x : ℕ) → one_if (p x) ≤ one_if (q x))
    → k < length xs
    → one_if (p (get_or xs k 0)) < one_if (q (get_or xs k 0))
    → count_by p xs < count_by q xs
one_more p q [] k h lt more = absurd (omega arith)
one_more p q (x ∷ xs) zero h lt more =
    omega (arith, sum_by-cons (λ (y : ℕ). one_if (p y)) x xs, sum_by-cons (λ (y : ℕ). one_if (q y)) x xs, more, counted_more p q xs h)
one_more p q (x ∷ xs) (suc k) h lt more =
    omega (arith, sum_by-cons (λ (y : ℕ). one_if (p y)) x xs, sum_by-cons (λ (y : ℕ). one_if (q y)) x xs, h x, one_more p q xs k h (omega arith) more)

below_more : (x y z : ℕ) → x ≤ y → one_if (ltb z x) ≤ one_if (ltb z y)
below_more x y z le =
    elim (cases_lt z x) [
      | inl h ↦ rw (lt-ltb z x h, lt-ltb z y (omega arith)) (omega arith)
      | inr h ↦ rw (le-ltb z x h) (omega arith)
    ]

-- the place of a greater number is no less, and greater than that of one of the numbers; and the place of 0 is 0
pub place-no_less : (ns : List ℕ) (x y : ℕ) → x ≤ y → place_among ns x ≤ place_among ns y
place-no_less ns x y le = counted_more (λ z. ltb z x) (λ z. ltb z y) ns (λ z. below_more x y z le)

pub place-greater : (ns : List ℕ) (x y : ℕ) → Contains ns x → x < y → place_among ns x < place_among ns y
place-greater ns x y (k, lt, is) less =
    one_more (λ z. ltb z x) (λ z. ltb z y) ns k (λ z. below_more x y z (omega arith)) lt
    (rw (get_or_default ns k 0 x lt, is, le-ltb x x (omega arith), lt-ltb x y less) (omega arith))

pub place-order : (ns : List ℕ) (x y : ℕ) → Contains ns x → (place_among ns x < place_among ns y) ↔ (x < y)
place-order ns x y has =
    (λ less. elim (cases_lt x y) [ inl h ↦ h | inr h ↦ let le = place-no_less ns y x h in absurd (omega (arith, le)) ], place-greater ns x y has)

pub place-of_zero : (ns : List ℕ) → place_among ns 0 ≡ 0
place-of_zero [] = refl
place-of_zero (n ∷ ns) =
    let one : one_if (ltb n 0) ≡ 0 = rw (le-ltb n 0 (omega arith)) refl in
    omega (arith, sum_by-cons (λ (y : ℕ). one_if (ltb y 0)) n ns, place-of_zero ns, one)

-- numbers that rise
later_greater : (xs : List ℕ) → IsStrictlyIncreasing xs → (i m : ℕ) → i + m < length xs → get_or xs i 0 + m ≤ get_or xs (i + m) 0
later_greater xs up i zero lt = omega (arith, ap (λ k. get_or xs k 0) (let e : i + 0 ≡ i = omega arith in e))
later_greater xs up i (suc m) lt =
    let on : i + m + 1 ≡ i + suc m = omega arith in
    omega (arith, ap (λ k. get_or xs k 0) on, later_greater xs up i m (omega arith), up (i + m) (omega arith))

pub rises : (xs : List ℕ) → IsStrictlyIncreasing xs → (i j : ℕ) → i ≤ j → j < length xs → get_or xs i 0 + (j - i) ≤ get_or xs j 0
rises xs up i j le lt =
    let on : i + (j - i) ≡ j = omega arith in
    omega (arith, ap (λ k. get_or xs k 0) on, later_greater xs up i (j - i) (omega arith))

pub rising_non_decreasing : (xs : List ℕ) → IsStrictlyIncreasing xs → IsNonDecreasingBy (λ x. x) xs
rising_non_decreasing xs up =
    IsNonDecreasingBy-from_default (λ x. x) xs 0 (λ i j le lt. omega (arith, rises xs up i j le lt))

-- the place of a number that is the r-th is r
pub place-of_own : (ns : List ℕ) → IsStrictlyIncreasing ns → (r : ℕ) → r < length ns → place_among ns (get_or ns r 0) ≡ r
place-of_own ns up r lt =
    counted_until (λ z. ltb z (get_or ns r 0)) ns r (omega arith)
    (λ k h. lt-ltb _ _ (omega (arith, rises ns up k r (omega arith) lt)))
    (λ k h h'. le-ltb _ _ (omega (arith, rises ns up r k h h')))
