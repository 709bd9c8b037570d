-- A time that is u d-ths stands to a whole number n as u stands to n * d.
use Rattle.std.proofs.Common.{◌≡◌, ℕ, zero, suc, ◌<◌, ◌≤◌, ◌↔◌, List, [], ◌∷◌, refl, subst, mul_comm, arith}
use Rattle.automata.specs.Times.{Time, AtMost, Below, AtLeast, Above}
use Rattle.automata.specs.Automata.{Relation, at_most, below, at_least, above, Constraint}
use Rattle.automata.specs.Runs.{value_of, Meets, Holds}
use Rattle.regions.specs.Points.{Is}
use Rattle.regions.proofs.Guards.{Within}
use Rattle.regions.proofs.Orders.{at_most_units, below_units, at_least_units, above-units}
use Rattle.replay.specs.Checks.{MeetsParts, HoldsParts}

pub meets_parts : (d : ℕ) (t : Time) (u n : ℕ) (r : Relation) → 0 < d → Is d t u → Meets r t n ↔ MeetsParts d r u n
meets_parts d t u n at_most hd e = subst (λ (k : ℕ). AtMost t n ↔ (u ≤ k)) (mul_comm d n) (at_most_units d t u n hd e)
meets_parts d t u n below hd e = subst (λ (k : ℕ). Below t n ↔ (u < k)) (mul_comm d n) (below_units d t u n hd e)
meets_parts d t u n at_least hd e = subst (λ (k : ℕ). AtLeast t n ↔ (k ≤ u)) (mul_comm d n) (at_least_units d t u n hd e)
meets_parts d t u n above hd e = subst (λ (k : ℕ). Above t n ↔ (k < u)) (mul_comm d n) (above-units d t u n hd e)

-- all constraints, of clocks below n
module _ (n top d : ℕ) (vs : List Time) (value : ℕ → ℕ) (hd : 0 < d) (is : (i : ℕ) → i < n → Is d (value_of vs i) (value i)) where
  pub holds_parts : (cs : List Constraint)
      → Within n top cs
      → Holds cs vs
      → HoldsParts d value cs
  holds_parts [] within h j c e = let z : ◌≡◌ {A = ℕ} 0 1 = cc in absurd (omega arith)
  holds_parts (x ∷ cs) within h zero c e =
      let same : x ≡ c = cc in
      subst
      (λ (y : Constraint). MeetsParts d y.relation (value y.clock) y.bound)
      same
      ((meets_parts d (value_of vs x.clock) (value x.clock) x.bound x.relation hd (is x.clock within.0)).0 h.0)
  holds_parts (x ∷ cs) within h (suc j) c e = holds_parts cs within.2 h.1 j c e

  pub parts-hold : (cs : List Constraint)
      → Within n top cs
      → HoldsParts d value cs
      → Holds cs vs
  parts-hold [] within h = tt
  parts-hold (x ∷ cs) within h = (
    (meets_parts d (value_of vs x.clock) (value x.clock) x.bound x.relation hd (is x.clock within.0)).1 (h 0 x refl),
    parts-hold cs within.2 (λ i. h (suc i)),
  )
