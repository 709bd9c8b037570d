-- Three lists that are walked side by side.
use Rattle.std.proofs.Common.{◌≡◌, ℕ, ◌<◌, min, List, length, get_or, ap, ◌∙◌, arith}
use Rattle.std.specs.List.{zip}
use Rattle.std.proofs.lemmas.List.{get_or_default}
use Rattle.std.proofs.lemmas.Slice.Zip.{length-zip, get_or-zip}

-- the three elements at a place
pub picked : {A B C : Type 0} (xs : List A) (ys : List B) (zs : List C) (i : ℕ) (a : A) (b d : B) (c e : C)
    → i < length (zip xs (zip ys zs))
    → (a, (b, c)) ≡ get_or (zip xs (zip ys zs)) i (a, (b, c))
    → (i < length xs) × (a ≡ get_or xs i a) × (b ≡ get_or ys i d) × (c ≡ get_or zs i e)
picked xs ys zs i a b d c e short is =
    let first : i < length xs = omega (arith, short, length-zip xs (zip ys zs)) in
    let rest : i < length (zip ys zs) = omega (arith, short, length-zip xs (zip ys zs)) in
    let second : i < length ys = omega (arith, rest, length-zip ys zs) in
    let third : i < length zs = omega (arith, rest, length-zip ys zs) in
    let all = is ∙ get_or-zip xs (zip ys zs) i (a, (b, c)) first rest in
    let two = ap (λ p. p.1) all ∙ get_or-zip ys zs i (b, c) second third in (
      first,
      ap (λ p. p.0) all,
      ap (λ p. p.0) two ∙ get_or_default ys i b d second,
      ap (λ p. p.1) two ∙ get_or_default zs i c e third,
    )

-- how many there are
pub walked : {A B C : Type 0} (xs : List A) (ys : List B) (zs : List C) → length ys ≡ length zs → length (zip xs (zip ys zs)) ≡ min (length xs) (length ys)
walked xs ys zs same = omega (arith, length-zip xs (zip ys zs), length-zip ys zs, same)
