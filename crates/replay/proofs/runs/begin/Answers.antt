-- The start is allowed if its checks hold over 1.
use Rattle.std.proofs.Common.{replicate, refl}
use lib.ListN.{get_or-replicate}
use Rattle.rows.specs.Views.{automaton_value}
use Rattle.rows.proofs.Values.{views}
use Rattle.replay.specs.declared.moments.Moment.{Moment}
use Rattle.replay.specs.Outcomes.{AtStart, Begins}
use Rattle.replay.proofs.Judged.{by_test}
use Rattle.replay.proofs.Moving.{start_come, start_fails}
use Rattle.replay.proofs.runs.begin.Goals as goal

abbrev start : Moment
start = record { location = record { 0 = 0 }; clocks = replicate 8 0; time = 0 }

at_the_start : AtStart start
at_the_start = record { location = refl; clocks = λ i h. get_or-replicate 8 i 0 0 h; time = refl }

pub returns : goal.returns
returns c =
    let a = automaton_value c.args.automaton.now in
    let sound = (views c.args.automaton.now).reads.sound in
    by_test (Begins a) _ start _ _ _ c.then_some.ensures c.ok_or.ensures.value c.allowed.ensures
    (λ q. (at_the_start, start_come a sound start at_the_start q))
    (λ n. (refl, start_fails a sound start at_the_start n))
