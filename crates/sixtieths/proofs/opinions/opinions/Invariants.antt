-- Each opinion so far is one on its location.
use Rattle.std.proofs.Common.{◌≡◌, vec_len, length}
use Rattle.sixtieths.specs.Opinions.{AllOpinions}
use Rattle.sixtieths.proofs.opinions.opinions.Given as goal

abbrev pub invariant-loop-location : goal.invariant-loop-location
invariant-loop-location l = AllOpinions l.all.items × (vec_len l.all ≡ length l.yielded)
