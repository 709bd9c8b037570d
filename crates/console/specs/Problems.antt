-- What is told of a row that no clockwork has.
use Rattle.clockworks.specs.declared.write.Unfit as unfits
use Rattle.clockworks.specs.declared.write.Unfit.TheVariants as unfit
use Rattle.console.specs.declared.messages.Problem.{Problem}
use Rattle.console.specs.declared.messages.Problem.TheVariants.{Memory, Unfit}

-- want of memory, or why it is none
abbrev pub problem_of : unfits.Unfit → Problem
problem_of (unfit.Memory e) = Memory
problem_of unfit.Clocks = Unfit unfit.Clocks
problem_of unfit.Positions = Unfit unfit.Positions
problem_of unfit.Clock = Unfit unfit.Clock
problem_of unfit.Position = Unfit unfit.Position
problem_of unfit.Bound = Unfit unfit.Bound
problem_of unfit.Lower = Unfit unfit.Lower
problem_of unfit.Words = Unfit unfit.Words
problem_of unfit.Short = Unfit unfit.Short
problem_of unfit.Relation = Unfit unfit.Relation
problem_of unfit.Other = Unfit unfit.Other
