use Rattle.std.proofs.Common.{ℕ, ◌<◌, [], map, get_or}
use Rattle.console.specs.Nearness.{Nearly}
use Rattle.console.proofs.nearness.nearest.Given as goal

abbrev pub invariant-loop-candidate : goal.invariant-loop-candidate
invariant-loop-candidate g l = (k : ℕ) → k < l.candidate-index → Nearly (get_or (map g.S.AsStr.text l.words) k []) l.word → ⊥
