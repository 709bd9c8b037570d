-- The first place in a list at which a test passes.
use Rattle.std.proofs.Common.{◌≡◌, ℕ, ◌+◌, ◌-◌, ◌<◌, ◌≤◌, Bool, true, false, not, cond, List, [], ◌∷◌, map, length, get_or, drop, Some, None, Option, sym, refl, ap, ◌∙◌, subst, inr, arith, length-drop}
use lib.ListN.{length-map}
use Rattle.std.specs.Cmp.{booleans_Decides}
use Rattle.std.specs.Bool.{beq, then_some}
use Rattle.std.specs.List.{position, position_or_len}
use Rattle.std.specs.Option.{unwrap_or}
use Rattle.std.specs.Str.{bytes_eq}
use Rattle.std.proofs.lemmas.Bool.{false≢true, ltb-true, ltb-false}
use Rattle.std.proofs.lemmas.List.{get_or-drop}
use Rattle.std.proofs.lemmas.List.Sums.{prefix_len-le-length, fails_before_first, passes_at_first}
use Rattle.std.proofs.lemmas.Slice.Eq.{bytes_eq-Decides}
use lib.Dec.{ltb}
use Rattle.console.specs.Names.{FirstIs, FoundIs}
use Rattle.console.specs.Numbers.{number_of}
use Rattle.console.specs.Rows.{blank, FirstBlank}

-- where the test passes, and where it passes nowhere
cond_cases : (P : Option ℕ → Type 0) (b : Bool) (n : ℕ) → (b ≡ true → P (Some n)) → (b ≡ false → P None) → P (cond b (Some n) None)
cond_cases P true n some none = some refl
cond_cases P false n some none = none refl

position_cases : {X : Type 0} (P : Option ℕ → Type 0) (p : X → Bool) (xs : List X) → (position_or_len p xs < length xs → P (Some (position_or_len p xs))) → (length xs ≤ position_or_len p xs → P None) → P (position p xs)
position_cases P p xs some none =
    cond_cases P (ltb (position_or_len p xs) (length xs)) (position_or_len p xs) (λ e. some (ltb-true _ _ e)) (λ e. none (ltb-false _ _ e))

-- the place, or the length where there is none
pub position_or : {X : Type 0} (p : X → Bool) (xs : List X) → unwrap_or (position p xs) (length xs) ≡ position_or_len p xs
position_or p xs =
    position_cases (λ o. unwrap_or o (length xs) ≡ position_or_len p xs) p xs (λ _. refl)
    (λ le. let within = prefix_len-le-length (λ x. not (p x)) xs in omega arith)

place-map : {X Y : Type 0} (f : X → Y) (p : Y → Bool) (xs : List X) → position_or_len (λ x. p (f x)) xs ≡ position_or_len p (map f xs)
place-map f p [] = refl
place-map f p (x ∷ xs) = ap (λ (n : ℕ). cond (not (p (f x))) (1 + n) 0) (place-map f p xs)

-- the first text that is a word
pub first_is : {X : Type 0} (f : X → List ℕ) (word : List ℕ) (xs : List X) → FirstIs (map f xs) word (position (λ x. bytes_eq (f x) word) xs)
first_is f word xs =
    let p : List ℕ → Bool = λ x. bytes_eq x word in
    let same = place-map f p xs in
    let long = length-map xs f in
    let before : (k : ℕ) → k < position_or_len (λ x. p (f x)) xs → get_or (map f xs) k [] ≡ word → ⊥ =
    λ k lt named. false≢true (sym (fails_before_first p (map f xs) k [] (omega arith)) ∙ (bytes_eq-Decides _ _).1 named) in
    position_cases (FirstIs (map f xs) word) (λ x. p (f x)) xs
    (λ lt. (
      (omega arith, ap (λ (n : ℕ). get_or (map f xs) n []) same ∙ (bytes_eq-Decides _ _).0 (passes_at_first p (map f xs) [] (omega arith))),
      λ k less named. before k less named.1,
    ))
    (λ le k named. before k (let inside = named.0 in omega arith) named.1)

other_blank : (b is : Bool) → beq b is ≡ false → b ≡ not is
other_blank true true e = absurd (false≢true (sym e))
other_blank true false e = refl
other_blank false true e = refl
other_blank false false e = absurd (false≢true (sym e))

-- the first place from a place on where a byte is blank, or is not
pub first_blank : (bytes : List ℕ) (from : ℕ) (is : Bool) → from ≤ length bytes → FirstBlank bytes from is (not is) (from + position_or_len (λ b. beq (blank b) is) (drop from bytes))
first_blank bytes from is inside =
    let p : ℕ → Bool = λ b. beq (blank b) is in
    let rest = drop from bytes in
    let within = prefix_len-le-length (λ b. not (p b)) rest in
    let left = length-drop from bytes in
    record {
      after = omega arith;
      within = omega arith;
      before = λ k ge lt.
          let there : from + (k - from) ≡ k = omega arith in
          let read : get_or rest (k - from) 0 ≡ get_or bytes k 0 = get_or-drop from bytes (k - from) 0 ∙ ap (λ (n : ℕ). get_or bytes n 0) there in
          other_blank _ _ (ap p (sym read) ∙ fails_before_first p rest (k - from) 0 (omega arith));
      here = λ lt. (booleans_Decides _ _).0 (ap p (sym (get_or-drop from bytes (position_or_len p rest) 0)) ∙ passes_at_first p rest 0 (omega arith));
    }

-- where no name is the word, and the word is a number or none
pub found_none : (names : List (List ℕ)) (word : List ℕ) (count : ℕ) (r : Option ℕ) → FirstIs names word None → number_of word ≡ None → r ≡ None → FoundIs names count word r
found_none names word count r first none e =
    subst (λ (o : Option ℕ). FoundIs names count word o) (sym e) (first, λ n some. cc)

found_where : (names : List (List ℕ)) (word : List ℕ) (count n : ℕ) (b : Bool) → FirstIs names word None → number_of word ≡ Some n → (b ≡ true → n < count) → (b ≡ false → count ≤ n) → FoundIs names count word (then_some b n)
found_where names word count n true first some below past = inr (first, some, below refl)
found_where names word count n false first some below past =
    (first, λ m other. let same : n ≡ m = cc in let le = past refl in omega arith)

pub found_number : (names : List (List ℕ)) (word : List ℕ) (count n : ℕ) (r : Option ℕ) → FirstIs names word None → number_of word ≡ Some n → r ≡ then_some (ltb n count) n → FoundIs names count word r
found_number names word count n r first some e =
    subst (λ (o : Option ℕ). FoundIs names count word o) (sym e)
    (found_where names word count n (ltb n count) first some (λ b. ltb-true n count b) (λ b. ltb-false n count b))
