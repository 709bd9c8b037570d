use Rattle.std.proofs.Common.{◌≡◌, ℕ, ◌/◌, ◌%◌, ◌<◌, get_or, arith, rules}
use Rattle.squares.specs.declared.bounds.Bound.{Bound}
use Rattle.squares.specs.declared.bounds.Bound.TheVariants.{Unbounded}
use Rattle.squares.specs.Entries.{bound_at}
use Rattle.rows.proofs.Made.{made}
use Rattle.squares.proofs.Filling.{filled_by_places}
use Rattle.squares.proofs.SquareOf.{square_of}
use Rattle.squares.proofs.shapes.of_region.Goals as goal

pub returns : goal.returns
returns c =
    let top = c.args.top in
    let K = c.args.region.now in
    let R = λ (place : ℕ) (b : Bound). b ≡ bound_at top K (place / 9) (place % 9) in
    let places : (place : ℕ) → place < 81 → R place (get_or c.from_fn-bounds.result place Unbounded) =
    λ place h. made _ R _ (λ i y q k. search rules) _ 81 c.from_fn-bounds.ensures.items place Unbounded h in
    square_of c.args.clocks top K c.from_fn-bounds.result (omega arith) (c.if-not-has_consistent_cells.ensures.0 tt) (filled_by_places top K c.from_fn-bounds.result places)
