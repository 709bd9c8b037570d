-- The moves so far are gone through.
use Rattle.std.proofs.Common.{take}
use Rattle.rows.specs.Views.{automaton_value}
use Rattle.accounts.specs.Walks.{Walked}
use Rattle.accounts.proofs.runs.Teller.walk.Given as goal

abbrev pub invariant-loop-next : goal.invariant-loop-next
invariant-loop-next g l =
    Walked (automaton_value l.self.automaton) l.self.denominator (goal.F-post g l.then) l.fn.first (take l.next-index l.moves) l.moment l.so_far
