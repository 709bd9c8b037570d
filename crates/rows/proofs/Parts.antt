-- The words of the parts of a row.
use Rattle.std.proofs.Common.{◌≡◌, ℕ, zero, suc, ◌+◌, ◌-◌, ◌*◌, ◌<◌, ◌≤◌, List, [], ◌∷◌, ◌++◌, length, get_or, take, drop, sym, refl, ap, ◌∙◌, subst, append_assoc, add-one, arith, length-append, length-drop, drop-cons, drop-drop}
use mathlib.Core.Option.{some, none}
use lib.Seq.{drop-append_seam, take-append_seam}
use Rattle.automata.specs.Automata.{nth, Constraint}
use Rattle.automata.specs.Rows.{write_constraints, write_invariants}

pub nth-behind : {A : Type 0} (xs : List A) (i : ℕ) → length xs ≤ i → nth xs i ≡ none
nth-behind [] i h = refl
nth-behind (x ∷ xs) zero h = absurd (omega arith)
nth-behind (x ∷ xs) (suc i) h = nth-behind xs i (omega arith)

pub length-constraints : (cs : List Constraint) → length (write_constraints cs) ≡ 3 * length cs
length-constraints [] = refl
length-constraints (c ∷ cs) = omega (arith, length-constraints cs)

-- a list that begins at a place: its first word, and what stands behind it
pub starts_within : (row : List ℕ) (at : ℕ) (w : ℕ) (ws : List ℕ) → drop at row ≡ w ∷ ws → at < length row
starts_within row at w ws e = let l : length (drop at row) ≡ suc (length ws) = ap length e in omega (arith, simp length-drop at l)

pub head_is : (a b : ℕ) (xs ys : List ℕ) → a ∷ xs ≡ b ∷ ys → a ≡ b
head_is a b xs ys e = cc

pub tail_is : (a b : ℕ) (xs ys : List ℕ) → a ∷ xs ≡ b ∷ ys → xs ≡ ys
tail_is a b xs ys e = cc

pub first-is : (row : List ℕ) (at w : ℕ) (ws : List ℕ) → drop at row ≡ w ∷ ws → get_or row at 0 ≡ w
first-is row at w ws e =
    head_is (get_or row at 0) w (drop (suc at) row) ws (sym (drop-cons row at 0 (starts_within row at w ws e)) ∙ e)

pub behind_first : (row : List ℕ) (at w : ℕ) (ws : List ℕ) → drop at row ≡ w ∷ ws → drop (at + 1) row ≡ ws
behind_first row at w ws e =
    rw
    add-one
    (tail_is (get_or row at 0) w (drop (suc at) row) ws (sym (drop-cons row at 0 (starts_within row at w ws e)) ∙ e))

pub behind_part : (row : List ℕ) (at : ℕ) (ws rest : List ℕ) → drop at row ≡ ws ++ rest → drop (at + length ws) row ≡ rest
behind_part row at ws rest e =
    sym (drop-drop (length ws) at row) ∙ ap (drop (length ws)) e ∙ drop-append_seam ws rest

pub part_is : (row : List ℕ) (at : ℕ) (ws rest : List ℕ) → drop at row ≡ ws ++ rest → take (length ws) (drop at row) ≡ ws
part_is row at ws rest e = rw e (take-append_seam ws rest)

pub part_within : (row : List ℕ) (at : ℕ) (ws rest : List ℕ) → at ≤ length row → drop at row ≡ ws ++ rest → at + length ws ≤ length row
part_within row at ws rest h e =
    let l : length (drop at row) ≡ length (ws ++ rest) = ap length e in
    let m : length row - at ≡ length ws + length rest = simp (length-drop, length-append) at l in
    omega arith

-- the invariants from a place on
pub invariants_from : (css : List (List Constraint)) (rest : List ℕ) (i : ℕ) (cs : List Constraint)
    → nth css i ≡ some cs
    → write_invariants (drop i css) ++ rest ≡ length cs ∷ (write_constraints cs ++ (write_invariants (drop (i + 1) css) ++ rest))
invariants_from [] rest i cs e = let z : ◌≡◌ {A = ℕ} 0 1 = cc in absurd (omega arith)
invariants_from (ds ∷ css) rest zero cs e =
    let same : ds ≡ cs = cc in
    rw same (ap (λ (z : List ℕ). length cs ∷ z) (append_assoc (write_constraints cs) (write_invariants css) rest))
invariants_from (ds ∷ css) rest (suc i) cs e =
    let ih = invariants_from css rest i cs e in
    let s : suc i + 1 ≡ suc (i + 1) = omega arith in
    rw s ih

-- a part whose number of elements stands in front of it
pub counted : (row : List ℕ) (at k end : ℕ) (ws rest : List ℕ)
    → drop at row ≡ k ∷ (ws ++ rest)
    → end ≡ at + 1 + length ws
    → (take (end - (at + 1)) (drop (at + 1) row) ≡ ws) × (drop end row ≡ rest) × (end ≤ length row)
counted row at k end ws rest e f =
    let behind = behind_first row at k (ws ++ rest) e in
    let within = starts_within row at k (ws ++ rest) e in
    let size : end - (at + 1) ≡ length ws = omega arith in (
      rw size (part_is row (at + 1) ws rest behind),
      rw f (behind_part row (at + 1) ws rest behind),
      omega (arith, part_within row (at + 1) ws rest (omega (arith, within)) behind),
    )

-- the two words before the guard of an edge
pub behind_two : (row : List ℕ) (at v w : ℕ) (ws : List ℕ)
    → drop at row ≡ v ∷ w ∷ ws
    → (get_or row at 0 ≡ v) × (get_or row (at + 1) 0 ≡ w) × (drop (at + 2) row ≡ ws) × (at + 2 ≤ length row)
behind_two row at v w ws e =
    let one = behind_first row at v (w ∷ ws) e in
    let within = starts_within row (at + 1) w ws one in
    let two = behind_first row (at + 1) w ws one in
    let s : at + 1 + 1 ≡ at + 2 = omega arith in (
      first-is row at v (w ∷ ws) e,
      first-is row (at + 1) w ws one,
      subst (λ (m : ℕ). drop m row ≡ ws) s two,
      omega (arith, within),
    )
