-- All constraints of a conjunction, one after the other.
use Rattle.std.proofs.Common.{◌≡◌, ℕ, zero, suc, ◌<◌, Bool, true, false, List, [], ◌∷◌, length, get_or, refl, subst, arith}
use mathlib.Core.Option.{some}
use Rattle.std.specs.Bool.{MatchBool}
use Rattle.std.specs.List.{AllWithin, HoldsAt}
use Rattle.automata.specs.Automata.{nth, at_most, Constraint}
use Rattle.replay.specs.Checks.{Decides, MeetsParts, HoldsParts}
use Rattle.replay.proofs.Lists.{some_within, some_same}

nth_is : {A : Type 0} (xs : List A) (i : ℕ) (d : A) → i < length xs → nth xs i ≡ some (get_or xs i d)
nth_is [] i d h = absurd (omega arith)
nth_is (x ∷ xs) zero d h = refl
nth_is (x ∷ xs) (suc i) d h = nth_is xs i d (omega arith)

-- the constraint holds of the clocks' values
abbrev pub Meets : ℕ → (ℕ → ℕ) → Constraint → Type 0
Meets d value c = MeetsParts d c.relation (value c.clock) c.bound

abbrev any : Constraint
any = record { clock = 0; relation = at_most; bound = 0 }

pub all_decide : (d : ℕ) (value : ℕ → ℕ) (cs : List Constraint) (b : Bool)
    → MatchBool b (AllWithin (Meets d value) cs 0 (length cs)) ((i : ℕ) × (i < length cs) × HoldsAt (λ c. Meets d value c → ⊥) cs i)
    → Decides b (HoldsParts d value cs)
all_decide d value cs true all =
    λ i c e.
    let inside = some_within cs i c e in
    subst (Meets d value) (some_same (nth cs i) (get_or cs i c) c (nth_is cs i c inside) e) (all i c (omega arith) inside)
all_decide d value cs false (i, inside, not) = λ holds. not any (holds i (get_or cs i any) (nth_is cs i any inside))
