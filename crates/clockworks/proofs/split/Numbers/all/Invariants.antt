use Rattle.std.proofs.Common.{length}
use Rattle.clockworks.proofs.split.Numbers.all.Given as goal

abbrev pub decreases-loop-parts : goal.decreases-loop-parts
decreases-loop-parts g l = length l.self.rest.now
