use Rattle.std.proofs.Common.{refl}
use Rattle.rows.specs.Views.{automaton_value}
use Rattle.cells.specs.Meaning.{region_value}
use Rattle.witnesses.proofs.Ending.{end_normal, end_shows}
use Rattle.witnesses.proofs.answers.show.Goals as goal

pub returns : goal.returns
returns c =
    let run = c.in_ok-run.run' in
    let a = automaton_value c.args.automaton.now in
    let frame = c.frame_of.result in
    let K = region_value c.in_ok-region.region in
    record {
      in_time = refl;
      realised = c.in_ok-run.ensures;
      ends =
          record {
            shows = end_shows a frame c.frame_of.ensures run.denominator run.end K c.in_ok-region.ensures c.in_ok-run.ensures.replayed.denominator;
            normal = end_normal a frame c.frame_of.ensures run.denominator run.end K c.in_ok-region.ensures;
          };
    }
