use Rattle.realise.proofs.Near.{is_in_time}
use Rattle.realise.proofs.arrivals.in_time.Goals as goal

pub returns-then-limit-parts : goal.returns-then-limit-parts
returns-then-limit-parts c =
    is_in_time c.args.arrival c.in-After.whole c.args.denominator c.in-After.part c.args.time c.in-After.is c.if-limit-parts.true
