use Rattle.automata.proofs.Bell.{bell-struck}
use Rattle.automata.proofs.bell_is_struck.Goals as goal

pub returns : goal.returns
returns c = bell-struck
