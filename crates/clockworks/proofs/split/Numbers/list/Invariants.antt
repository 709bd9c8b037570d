use Rattle.std.proofs.Common.{◌<◌, length}
use Rattle.clockworks.proofs.split.Numbers.list.Given as goal

abbrev pub invariant-loop : goal.invariant-loop
invariant-loop g l = length l.self.rest.now < length l.fn.self.rest.now
