-- Why there is no run, where moves are refused.
use Rattle.replay.specs.declared.moments.Fault.{Fault}
use Rattle.replay.specs.declared.moments.Fault.TheVariants as fault
use Rattle.realise.specs.declared.runs.Failure.{Failure}
use Rattle.realise.specs.declared.runs.Failure.TheVariants.{NoRoom, Astray}

-- numbers that have no room, or else a way that is none of the automaton
abbrev pub failure_of : Fault → Failure
failure_of fault.NoDenominator = Astray
failure_of fault.NoRoom = NoRoom
failure_of fault.NotAllowedAtStart = Astray
failure_of fault.NoSuchStep = Astray
failure_of fault.OtherPosition = Astray
failure_of fault.GuardFails = Astray
failure_of fault.InvariantFails = Astray
