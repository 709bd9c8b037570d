-- Numbers as text: one more.
use Rattle.std.proofs.Common.{◌≡◌, ℕ, ◌+◌, ◌<◌, List, [], ◌∷◌, ◌++◌, length, get_or, take, codes, decimal, sym, ap, ◌∙◌, append_assoc, append-nil}
use Rattle.std.proofs.lemmas.List.{take_more}
use Rattle.rows.specs.Numbers.{more_numbers}

push : (ns : List ℕ) (n : ℕ) → more_numbers (ns ++ n ∷ []) ≡ more_numbers ns ++ (codes " " ++ decimal n)
push [] n = append-nil (codes " " ++ decimal n)
push (m ∷ ns) n = ap (λ (l : List ℕ). (codes " " ++ decimal m) ++ l) (push ns n) ∙ sym (append_assoc (codes " " ++ decimal m) (more_numbers ns) (codes " " ++ decimal n))

pub one_more : (ns : List ℕ) (i : ℕ) → i < length ns → more_numbers (take i ns) ++ (codes " " ++ decimal (get_or ns i 0)) ≡ more_numbers (take (i + 1) ns)
one_more ns i lt = sym (ap more_numbers (take_more ns i 0 lt) ∙ push (take i ns) (get_or ns i 0))
