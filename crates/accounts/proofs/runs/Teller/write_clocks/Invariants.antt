use Rattle.std.proofs.Common.{length, string_bytes}
use Rattle.accounts.proofs.Told.{ClocksWritten}
use Rattle.accounts.proofs.runs.Teller.write_clocks.Given as goal

abbrev pub invariant-loop-name : goal.invariant-loop-name
invariant-loop-name l =
    ClocksWritten string_bytes l.self.names.clocks.now l.widths l.self.denominator l.moment (string_bytes l.initial.text) (length l.yielded) (string_bytes l.text)
