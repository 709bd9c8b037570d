-- A clock is 0 just where it is among the resets.
use Rattle.std.proofs.Common.{◌≡◌, ℕ, cond, eqb, get_or, rules}
use Rattle.std.specs.List.{list_any}
use Rattle.rows.proofs.Made.{made}
use Rattle.replay.proofs.Resets.{among_any}
use Rattle.replay.proofs.changes.with_resets.Goals as goal

pub returns : goal.returns
returns c =
    λ i h.
    let resets = c.args.resets.now in
    let R = λ (j : ℕ) (v : ℕ). v ≡ cond (list_any (λ (x : ℕ). eqb x j) resets) 0 (get_or c.args.clocks j 0) in
    rw (← among_any i resets) (made _ R _ (λ j y q k. search rules) _ 8 c.from_fn.ensures.items i 0 h)
