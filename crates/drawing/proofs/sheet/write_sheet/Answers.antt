use Rattle.std.proofs.Common.{ℕ, List, ◌++◌, map, sym, ap, ◌∙◌}
use Rattle.std.proofs.lemmas.List.Folds.{flat_map-map}
use Rattle.clockworks.specs.Meaning.{invariant_of, edge, automaton}
use Rattle.clockworks.proofs.Writing.{adds_more, adds_same}
use Rattle.drawing.specs.Sheets.{position_lines, step_line, step_lines, sheet_of}
use Rattle.drawing.proofs.sheet.write_sheet.Goals as goal

pub returns : goal.returns
returns c =
    let positions = adds_same (ap (λ l. position_lines 0 (map invariant_of l)) c.as_slice.ensures.value) c.in_ok-write_positions.ensures in
    let steps = adds_same (sym (flat_map-map step_line edge c.as_slice-2.result.now) ∙ ap (λ l. step_lines (map edge l)) c.as_slice-2.ensures.value) c.in_ok-write_all.ensures in
    (adds_more c.in_ok-write_clocks.ensures (adds_more positions steps)).longer ∙ ap (λ (l : List ℕ). l ++ sheet_of (automaton c.args.clockwork.now)) c.new-sheet.ensures.bytes
