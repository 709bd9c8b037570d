use Rattle.std.proofs.Common.{take}
use Rattle.std.specs.List.{flat_map, list_all}
use Rattle.clockworks.specs.Meaning.{Wrote}
use Rattle.clockworks.proofs.write.Writer.all.Given as goal

abbrev pub invariant-loop-part : goal.invariant-loop-part
invariant-loop-part g l =
    Wrote l.initial.self l.self (flat_map g.P.Part.words (take l.part-index l.parts)) (λ n p. list_all (g.P.Part.fits n p) (take l.part-index l.parts))
