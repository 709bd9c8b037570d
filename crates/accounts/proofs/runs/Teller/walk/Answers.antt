use Rattle.std.proofs.Common.{List, get_or, sym, subst}
use Rattle.std.proofs.lemmas.List.{take_more}
use Rattle.replay.specs.declared.moments.Move.{Move}
use Rattle.replay.specs.declared.moments.Move.TheVariants.{Wait}
use Rattle.rows.specs.Views.{automaton_value}
use Rattle.accounts.specs.Walks.{Walked, no_move, next_move}
use Rattle.accounts.proofs.runs.Teller.walk.Goals as goal

pub loop-next-init : goal.loop-next-init
loop-next-init g c = no_move c.in_ok-moment.ensures.0

pub loop-next-preserved : goal.loop-next-preserved
loop-next-preserved g c =
    let teller = c.args.self.now in
    let i = c.loop-next.next-index in
    let moves = c.args.moves.now in
    subst (λ (ms : List Move). Walked (automaton_value teller.automaton) teller.denominator (goal.F-post g c.args.then) c.args.first ms c.in_ok-moment-2.moment c.in_ok-so_far.so_far)
    (sym (take_more moves i (Wait 0) c.loop-next-test.true))
    (next_move (get_or moves i (Wait 0)) c.loop-next.invariant c.in_ok-moment-2.ensures c.in_ok-so_far.ensures)
