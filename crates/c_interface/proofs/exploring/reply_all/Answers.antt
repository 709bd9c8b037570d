-- Each turn writes the reply for one position.
use Rattle.std.proofs.Common.{ap, ◌∙◌, arith}
use Rattle.c_interface.specs.Replies.{reply_of}
use Rattle.c_interface.proofs.Replying.{RightFor, one_more, all_replied}
use Rattle.c_interface.proofs.exploring.reply_all.Goals as goal

pub loop-position-preserved : goal.loop-position-preserved
loop-position-preserved c =
    let t = c.args.table.now in
    let right : RightFor t c.loop-position.position c.from-in-loop-position.result =
    λ row kinds a is. (c.told.result, c.from-in-loop-position.ensures ∙ ap reply_of c.from.ensures, c.told.ensures row kinds a is) in
    one_more t c.loop-position.position c.args.replies.now c.loop-position.replies c.from-in-loop-position.result (omega (arith, c.requires, c.loop-position-test.true, c.loop-position.auto.position-end, c.locations-position-end.ensures, c.loop-position.invariant.size)) right c.loop-position.invariant

pub returns : goal.returns
returns c =
    λ row kinds a is.
    all_replied row kinds c.args.table.now a c.loop-position.position c.args.replies.now c.loop-position.replies is (omega (arith, c.loop-position-test.false, c.loop-position.auto.position-end, c.locations-position-end.ensures)) c.loop-position.invariant
