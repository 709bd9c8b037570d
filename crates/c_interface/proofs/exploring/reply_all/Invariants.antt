-- The positions before the counter have their replies.
use Rattle.c_interface.proofs.Replying.{RepliedUpTo}
use Rattle.c_interface.proofs.exploring.reply_all.Given as goal

abbrev pub invariant-loop-position : goal.invariant-loop-position
invariant-loop-position l = RepliedUpTo l.fn.table l.position l.fn.replies l.replies
