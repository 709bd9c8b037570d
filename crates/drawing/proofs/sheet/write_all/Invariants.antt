use Rattle.std.proofs.Common.{take}
use Rattle.std.specs.List.{flat_map}
use Rattle.clockworks.specs.Meaning.{AddsText}
use Rattle.drawing.proofs.sheet.write_all.Given as goal

abbrev pub invariant-loop-part : goal.invariant-loop-part
invariant-loop-part g l = AddsText l.initial.sheet (flat_map g.P.Part.text (take l.part-index l.parts)) l.sheet
