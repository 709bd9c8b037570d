-- The first move that is refused refuses the run.
use Rattle.std.proofs.Common.{ℕ, suc, ◌+◌, ◌<◌, List, length, get_or, take, drop, sym, subst}
use lib.Seq.{split_at}
use Rattle.std.proofs.lemmas.List.{take_more}
use Rattle.std.proofs.lemmas.Result.{err_from_is_err_and}
use Rattle.automata.specs.Automata.{Automaton}
use Rattle.automata.specs.Runs.{start}
use Rattle.rows.specs.Views.{automaton_value}
use Rattle.rows.proofs.Values.{views}
use Rattle.replay.specs.declared.moments.Move.{Move}
use Rattle.replay.specs.declared.moments.Move.TheVariants.{Wait}
use Rattle.replay.specs.declared.moments.Moment.{Moment}
use Rattle.replay.specs.declared.moments.Fault.{Fault}
use Rattle.replay.specs.Moves.{start_state}
use Rattle.replay.specs.Outcomes.{Advanced, Fails, Refused}
use Rattle.regions.proofs.Sound.{clocks_in_range}
use Rattle.replay.proofs.Paths.{Followed, followed_start, followed_on, refused_at}
use Rattle.replay.proofs.runs.replay.Goals as goal

-- the move at a place
abbrev move_at : List Move → ℕ → Move
move_at ms i = get_or ms i (Wait 0)

one_more : (a : Automaton) (d : ℕ) (ms : List Move) (i : ℕ) (m after : Moment)
    → i < length ms
    → Followed a d (take i ms) m
    → Advanced a d m (move_at ms i) after
    → Followed a d (take (i + 1) ms) after
one_more a d ms i m after h f advanced =
    subst
    (λ (ns : List Move). Followed a d ns after)
    (sym (take_more ms i (Wait 0) h))
    (followed_on a d (take i ms) (move_at ms i) m after f advanced)

none_more : (a : Automaton) (d : ℕ) (ms : List Move) (i : ℕ) (m : Moment) (fault : Fault)
    → i < length ms
    → Followed a d (take i ms) m
    → Fails a d m (move_at ms i) fault
    → Refused a d ms fault
none_more a d ms i m fault h f fails =
    subst
    (λ (ns : List Move). Refused a d ns fault)
    (sym (split_at ms i (Wait 0) h))
    (refused_at a d (take i ms) (drop (suc i) ms) m f (move_at ms i) fault fails)

pub returns-in_err-moment : goal.returns-in_err-moment
returns-in_err-moment c =
    let p = err_from_is_err_and c.from_residual-in_err-moment.result c.from_residual-in_err-moment.ensures.1 in
    let a = automaton_value c.args.automaton.now in
    let (fault, none) = c.in_err-moment.ensures in
    rw
    (p.1, p.2)
    (subst
    (λ (f : Fault). Refused a c.args.denominator c.args.moves.now f)
    (sym fault)
    (λ s run. none (start_state a) (start run.start)))

pub loop-next-init : goal.loop-next-init
loop-next-init c =
    let player = c.in_ok-player.player in
    let (at, come) = rw (← c.in_ok-player.ensures.0) at c.in_ok-moment.ensures in
    followed_start (automaton_value player.automaton) player.denominator c.in_ok-moment.moment
    (clocks_in_range (automaton_value player.automaton) (views player.automaton).reads.sound).1 at (come player.denominator)

pub returns-in_err-moment-2 : goal.returns-in_err-moment-2
returns-in_err-moment-2 c =
    let p = err_from_is_err_and c.from_residual-in_err-moment-2.result c.from_residual-in_err-moment-2.ensures.1 in
    let player = c.in_ok-player.player in
    rw
    (p.1, p.2, ← c.in_ok-player.ensures.0, ← c.in_ok-player.ensures.1)
    (none_more (automaton_value player.automaton) player.denominator c.args.moves.now c.loop-next.next-index c.loop-next.moment
    c.in_err-moment-2.field-0.0 c.loop-next-test.true c.loop-next.invariant c.in_err-moment-2.ensures)

pub loop-next-preserved : goal.loop-next-preserved
loop-next-preserved c =
    let player = c.in_ok-player.player in
    one_more (automaton_value player.automaton) player.denominator c.args.moves.now c.loop-next.next-index c.loop-next.moment
    c.in_ok-moment-2.moment c.loop-next-test.true c.loop-next.invariant c.in_ok-moment-2.ensures
