-- How many of some moves are waits.
use Rattle.std.proofs.Common.{◌≡◌, ℕ, Bool, true, false, cond, count_by, List, [], ◌∷◌, refl, arith}
use Rattle.std.proofs.lemmas.List.Sums.{sum_by-cons}
use Rattle.replay.specs.declared.moments.Move.{Move}
use Rattle.replay.specs.declared.moments.Move.TheVariants.{Wait, Step}
use Rattle.realise.specs.Runs.{wait_count}

abbrev pub is_wait : Move → Bool
is_wait (Wait k) = true
is_wait (Step i) = false

abbrev counts : Move → ℕ
counts m = cond (is_wait m) 1 0

pub waits_counted : (ms : List Move) → count_by is_wait ms ≡ wait_count ms
waits_counted [] = refl
waits_counted (Wait k ∷ ms) = omega (arith, sum_by-cons counts (Wait k) ms, waits_counted ms)
waits_counted (Step i ∷ ms) = omega (arith, sum_by-cons counts (Step i) ms, waits_counted ms)
