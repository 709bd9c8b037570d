use Rattle.std.proofs.Common.{◌≡◌, ◌≤◌, [], ◌∷◌, ◌++◌, length, vec_items, sym, refl, ap, ◌∙◌, arith}
use Rattle.std.proofs.lemmas.Map.Keys.{le_from_is_le}
use Rattle.clockworks.proofs.Writing.{row_reads}
use Rattle.clockworks.proofs.write.write_row.Goals as goal

pub returns : goal.returns
returns c =
    let clockwork = c.args.clockwork.now in
    let count : c.len-positions.result ≡ length (vec_items clockwork.positions) = omega (arith, clockwork.positions.ok.0) in
    let positions : c.len-positions.result ≡ length c.as_slice.result.now = count ∙ ap length (sym c.as_slice.ensures.value) in
    let short : length (vec_items c.all.new.self.row) ≤ 16384 = omega (arith, c.all.new.self.row.ok.0) in
    let first = le_from_is_le c.new.result.start clockwork.clocks c.if-not-contains.ensures.cases.0 in
    let last = le_from_is_le clockwork.clocks c.new.result.end c.if-not-contains.ensures.cases.1 in
    let first_position = le_from_is_le c.new-2.result.start c.len-positions.result c.if-not-contains-2.ensures.cases.0 in
    let last_position = le_from_is_le c.len-positions.result c.new-2.result.end c.if-not-contains-2.ensures.cases.1 in
    row_reads clockwork _ _ (c.in_ok-push.ensures.items ∙ ap (λ l. l ++ clockwork.clocks ∷ []) c.new-row.ensures.items) refl positions c.as_slice.ensures.value c.as_slice-2.ensures.value (omega arith, omega arith) (omega arith, omega arith) c.in_ok-list.ensures c.in_ok-all.ensures short
