-- What is accepted where a test says so, and refused with a fault where it does not.
use Rattle.std.proofs.Common.{◌≡◌, Bool, true, false, Ok, Err, Option, Result, sym, subst, ◌∙◌, ap}
use Rattle.std.specs.Bool.{then_some}
use Rattle.std.specs.Option.{ok_or}
use Rattle.replay.specs.Checks.{Decides}

pub by_test : {A E Q : Type 0} (P : Result A E → Type 0) (b : Bool) (x : A) (fault : E) (o : Option A) (r : Result A E)
    → o ≡ then_some b x
    → r ≡ ok_or o fault
    → Decides b Q
    → (Q → P (Ok x))
    → ((Q → ⊥) → P (Err fault))
    → P r
by_test P true x fault o r e f d accepted refused =
    subst P (sym (f ∙ ap (λ (p : Option _). ok_or p fault) e)) (accepted d)
by_test P false x fault o r e f d accepted refused =
    subst P (sym (f ∙ ap (λ (p : Option _). ok_or p fault) e)) (refused d)
