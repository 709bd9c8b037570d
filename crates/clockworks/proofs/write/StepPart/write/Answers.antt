use Rattle.std.proofs.Common.{refl}
use Rattle.std.proofs.lemmas.Bool.{and_from, lt-ltb}
use Rattle.clockworks.proofs.Writing.{step_written}
use Rattle.clockworks.proofs.write.StepPart.write.Goals as goal

pub returns : goal.returns
returns c =
    step_written c.args.self.now _ _ c.as_slice.ensures.value c.as_slice-2.ensures.value
    (record {
      adds = record { longer = c.in_ok-extend_from_slice.ensures.items };
      fine = and_from _ _ (lt-ltb _ _ c.if-self-writer.false) (lt-ltb _ _ c.if-self-writer-2.false);
      clocks = refl;
      positions = refl;
    })
    c.in_ok-list.ensures c.in_ok-list-2.ensures
