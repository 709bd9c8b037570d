-- A number of d-ths is less than 1 / e after n exactly if what it is more than n is less than 1 / e.
use Rattle.std.proofs.Common.{◌≡◌, ℕ, ◌+◌, ◌-◌, ◌*◌, ◌<◌, ◌≤◌, ltb, sym, ap, subst, inl, inr, add-mul, mul_right_comm, arith}
use Rattle.std.proofs.lemmas.Bool.{cases_lt, lt-ltb, le-ltb}
use Rattle.replay.specs.Checks.{Decides}
use Rattle.realise.specs.declared.arrivals.Arrival.{Arrival}
use Rattle.realise.specs.declared.arrivals.Arrival.TheVariants.{After}
use Rattle.realise.specs.Runs.{InTime}

module _ (n d e t : ℕ) (more : n * d < t) where
  split : t * e ≡ n * e * d + (t - n * d) * e
  split =
      let whole : n * d + (t - n * d) ≡ t = omega arith in
      let sum : (n * d + (t - n * d)) * e ≡ t * e = ap (λ (x : ℕ). x * e) whole in
      omega (arith, sum, add-mul (n * d) (t - n * d) e, mul_right_comm n d e)

  near : (t - n * d) * e < d → t * e < (n * e + 1) * d
  near h = omega (arith, split, add-mul (n * e) 1 d)

  not_near : d ≤ (t - n * d) * e → t * e < (n * e + 1) * d → ⊥
  not_near h k = omega (arith, split, add-mul (n * e) 1 d)

  after_decides : Decides (ltb ((t - n * d) * e) d) (InTime d (After n e) t)
  after_decides =
      elim (cases_lt ((t - n * d) * e) d) [
        | inl h ↦ rw (lt-ltb ((t - n * d) * e) d h) (more, near h)
        | inr h ↦ rw (le-ltb ((t - n * d) * e) d h) (λ both. not_near h both.1)
      ]

pub is_in_time : (arrival : Arrival) (n d e t : ℕ) → arrival ≡ After n e → n * d < t → Decides (ltb ((t - n * d) * e) d) (InTime d arrival t)
is_in_time arrival n d e t is more =
    subst (λ (a : Arrival). Decides (ltb ((t - n * d) * e) d) (InTime d a t)) (sym is) (after_decides n d e t more)
