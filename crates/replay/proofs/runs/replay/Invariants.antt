-- The moves so far are a run to the moment.
use Rattle.std.proofs.Common.{take}
use Rattle.rows.specs.Views.{automaton_value}
use Rattle.replay.proofs.Paths.{Followed}
use Rattle.replay.proofs.runs.replay.Given as goal

abbrev pub invariant-loop-next : goal.invariant-loop-next
invariant-loop-next l = Followed (automaton_value l.player.automaton) l.player.denominator (take l.next-index l.moves) l.moment
