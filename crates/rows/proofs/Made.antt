-- What each call of a closure gives holds of what `from_fn` gives, where no call changes the closure.
use Rattle.std.proofs.Common.{◌≡◌, ℕ, zero, suc, ◌+◌, ◌<◌, List, get_or, subst, zero-add, add-zero, arith}
use denote.Param.Members.{Mut, Called}
use Rattle.std.specs.Array.{IsFromFnResultFrom, IsFromFnResult}

module _ {F B : Type 0} (g : Mut F (ℕ × Unit {0}) B) (R : ℕ → B → Type 0) (f : F) (each : (i : ℕ) (y : B) (q : F) → Called g f (i, tt) y q → R i y × (q ≡ f)) (ys : List B) where
  made_from : (k n : ℕ) → IsFromFnResultFrom g f ys k n → (i : ℕ) (e : B) → i < n → R (k + i) (get_or ys (k + i) e)
  made_from k zero m i e h = absurd (omega arith)
  made_from k (suc n) m zero e h = rw (add-zero, m.2.1 e) (each k m.1 m.0 m.3).0
  made_from k (suc n) m (suc i) e h =
      let next : (k + 1) + i ≡ k + suc i = omega arith in
      let rest = subst (λ (p : F). IsFromFnResultFrom g p ys (k + 1) n) (each k m.1 m.0 m.3).1 m.4 in
      subst (λ (j : ℕ). R j (get_or ys j e)) next (made_from (k + 1) n rest i e (omega arith))

  pub made : (n : ℕ) → IsFromFnResult g f ys n → (i : ℕ) (e : B) → i < n → R i (get_or ys i e)
  made n m i e h = rw zero-add at (made_from 0 n m.each i e h)
