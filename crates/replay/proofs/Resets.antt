-- Resets one after the other: a clock is 0 if it is among those that are reset.
use Rattle.std.proofs.Common.{◌≡◌, ℕ, zero, suc, Bool, true, false, cond, ◌||◌, eqb, ◌≢◌, List, [], ◌∷◌, get_or, set, sym, refl, ◌∙◌, ap₂, subst, inl, inr, get_or-set_other, eqb-true}
use Rattle.std.specs.List.{list_any}
use borrow.Author.Tests.{eqb-false}
use Rattle.std.proofs.lemmas.Bool.Decides.{eqb_tells}
use Rattle.regions.specs.Moves.{among}
use Rattle.regions.proofs.Members.{get_or-set_default}
use Rattle.regions.proofs.Valuations.{cond_same}

-- the clock x is reset before the others
pub one_set : (xs : List ℕ) (x i : ℕ) (vs : List ℕ) → cond (among i xs) 0 (get_or (set vs x 0) i 0) ≡ cond (among i (x ∷ xs)) 0 (get_or vs i 0)
one_set xs x i vs = go (eqb i x) refl
  where
    go : (b : Bool) → eqb i x ≡ b → cond (among i xs) 0 (get_or (set vs x 0) i 0) ≡ cond (among i (x ∷ xs)) 0 (get_or vs i 0)
    go true e =
        let zero-there : get_or (set vs x 0) i 0 ≡ 0 = subst (λ (z : ℕ). get_or (set vs z 0) i 0 ≡ 0) (eqb-true i x e) (get_or-set_default vs i 0) in
        rw (e, zero-there) (cond_same (among i xs) 0)
    go false e =
        let other : i ≢ x = eqb-false i x e in
        rw (e, get_or-set_other) refl

eqb_comm : (x i : ℕ) → eqb x i ≡ eqb i x
eqb_comm x i =
    elim (eqb_tells x i) [
      | inl q ↦ elim (eqb_tells i x) [ inl r ↦ q.0 ∙ sym r.0 | inr r ↦ absurd (r.1 (sym q.1)) ]
      | inr q ↦ elim (eqb_tells i x) [ inl r ↦ absurd (q.1 (sym r.1)) | inr r ↦ q.0 ∙ sym r.0 ]
    ]

-- a clock is among some just where one of them is it
pub among_any : (i : ℕ) (xs : List ℕ) → list_any (λ (x : ℕ). eqb x i) xs ≡ among i xs
among_any i [] = refl
among_any i (x ∷ xs) = ap₂ (λ (a b : Bool). a || b) (eqb_comm x i) (among_any i xs)
