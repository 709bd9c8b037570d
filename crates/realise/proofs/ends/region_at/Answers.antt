-- Each cell is told by what is left over.
use Rattle.std.proofs.Common.{◌≡◌, ℕ, ◌<◌, refl, rules, arith}
use Rattle.cells.specs.declared.values.Cell.{Cell}
use Rattle.cells.specs.declared.values.Region.{Region}
use Rattle.cells.specs.Meaning.{cell_of}
use Rattle.replay.specs.Meaning.{clock_of}
use Rattle.rows.proofs.Made.{made}
use Rattle.realise.specs.Ends.{told_cell}
use Rattle.realise.proofs.Ending.{shown_by}
use Rattle.realise.proofs.ends.region_at.Goals as goal

pub returns : goal.returns
returns c =
    let n = c.args.frame.clocks in
    let top = c.args.frame.top in
    let d = c.args.denominator in
    let m = c.args.end.now in
    let ns = c.in_ok-rests.rests.numbers.items in
    let zero : Cell = record { height = 0; rank = 0 } in
    let r : Region = record { location = m.location; cells = c.from_fn.result } in
    let R = λ (i : ℕ) (cell : Cell). cell ≡ told_cell top d ns (clock_of m i) in
    let told : (i : ℕ) → i < n → cell_of r i ≡ told_cell top d ns (clock_of m i) =
    λ i h. made _ R _ (λ j y q k. search rules) _ 8 c.from_fn.ensures.items i zero (omega (arith, c.args.frame.small)) in
    shown_by n top d m ns c.in_ok-rests.rests.rising c.in_ok-rests.ensures r refl told
