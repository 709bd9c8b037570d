use Rattle.std.proofs.Common.{sym}
use Rattle.std.proofs.lemmas.List.{take_rest}
use Rattle.console.proofs.Changes.{Parted, from_change, to_change, start_same}
use Rattle.console.proofs.nearness.differs_once.Goals as goal

pub returns : goal.returns
returns c =
    let a = c.args.a.now in
    let b = c.args.b.now in
    let s = c.common_start-start.result in
    let common = c.common_start-start.ensures in
    let parted : Parted a b s = record { first_within = common.within.0; second_within = common.within.1; before = common.before; differ = common.differ } in (
      λ yes'. to_change a b s parted (start_same (take_rest a s) (take_rest b s) (c.differs_at_start.ensures.0 yes')),
      λ change. c.differs_at_start.ensures.1 (start_same (sym (take_rest a s)) (sym (take_rest b s)) (from_change a b s parted change)),
    )
