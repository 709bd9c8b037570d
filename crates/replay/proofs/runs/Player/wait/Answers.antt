-- A wait is allowed if the invariant holds after it.
use Rattle.rows.specs.Views.{automaton_value}
use Rattle.rows.proofs.Values.{views}
use Rattle.replay.specs.declared.moments.Move.TheVariants.{Wait}
use Rattle.replay.specs.Outcomes.{Advances}
use Rattle.replay.proofs.Judged.{by_test}
use Rattle.replay.proofs.Moving.{wait_advances, wait_fails}
use Rattle.replay.proofs.runs.Player.wait.Goals as goal

pub returns : goal.returns
returns c =
    let a = automaton_value c.args.self.now.automaton in
    let sound = (views c.args.self.now.automaton).reads.sound in
    let d = c.args.self.now.denominator in
    let pos = c.args.self.now.positive in
    let delay = c.args.delay in
    let m = c.args.moment.now in
    let later = c.in_ok-later.later in
    let waited = rw c.in_ok-later.ensures.ok_part at c.waited.ensures in
    by_test (Advances a d m (Wait delay)) _ later _ _ _ c.then_some.ensures c.ok_or-2.ensures.value c.is_allowed.ensures
    (wait_advances a sound d pos delay m later waited)
    (wait_fails a sound d pos delay m later waited)
