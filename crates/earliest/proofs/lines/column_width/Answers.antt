use Rattle.std.proofs.Common.{◌≡◌, ℕ, ◌+◌, min, max, map, string_bytes, sym, ap, ◌∙◌, add-one, arith}
use Rattle.columns.specs.Columns.{columns}
use Rattle.console.specs.Names.{name_text}
use Rattle.earliest.specs.Listed.{widest}
use Rattle.earliest.proofs.lines.column_width.Goals as goal

pub loop-position-preserved : goal.loop-position-preserved
loop-position-preserved c =
    let names = map string_bytes c.args.positions.names.now in
    let n = c.loop-position.position in
    let named : c.count_columns.result ≡ columns (name_text names n) = c.count_columns.ensures ∙ ap columns (c.as_str.ensures.value ∙ c.in_ok-name.ensures) in
    let step : widest names (n + 1) ≡ max (widest names n) (columns (name_text names n)) = ap (widest names) (add-one n) in
    c.max-width.ensures ∙ (ap (λ (w : ℕ). max w c.count_columns.result) c.loop-position.invariant ∙ (ap (λ (w : ℕ). max (widest names n) w) named ∙ sym step))

pub returns : goal.returns
returns c =
    let all : c.loop-position.position ≡ c.args.positions.count = omega arith in
    c.min.ensures ∙ ap (λ (w : ℕ). min w 40) (c.loop-position.invariant ∙ ap (widest (map string_bytes c.args.positions.names.now)) all)
