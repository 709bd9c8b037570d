use Rattle.std.proofs.Common.{◌≡◌, ℕ, ◌++◌, List, length, get_or, min, string_bytes, codes, sym, ap, ◌∙◌, subst, length-append, rules}
use Rattle.std.proofs.lemmas.Iterator.{YieldsList-from_slice, YieldsList-from_zip}
use Rattle.std.proofs.lemmas.Iterator.Consumers.{YieldsList-turn, YieldsList-end}
use Rattle.clockworks.specs.Meaning.{Adds}
use Rattle.clockworks.proofs.Writing.{adds_same}
use Rattle.columns.specs.Columns.{padded}
use Rattle.accounts.specs.Lines.{PartsText, no_clock}
use Rattle.accounts.proofs.Named.{name_at}
use Rattle.clockworks.proofs.Writing.{adds_none}
use Rattle.accounts.proofs.Told.{ClocksWritten, clocks_more}
use Rattle.accounts.proofs.Walked.{picked, walked}
use Rattle.accounts.proofs.runs.Teller.write_clocks.Goals as goal

pub loop-name-init : goal.loop-name-init
loop-name-init c = (_, no_clock, adds_none)

pub loop-name-preserved : goal.loop-name-preserved
loop-name-preserved c =
    let teller = c.args.self.now in
    let names = teller.names.clocks.now in
    let clocks = c.args.moment.now.clocks in
    let widths = c.args.widths.now.clocks in
    let yielded = c.loop-name.yielded in
    let n = length yielded in
    let name = c.in-Some.name.now in
    let turn = YieldsList-turn (YieldsList-from_zip (YieldsList-from_slice names cc) (YieldsList-from_zip (YieldsList-from_slice clocks cc) (YieldsList-from_slice widths cc))) yielded c.loop-name.name-iterator c.loop-name.yielded_by c.next.result c.next.new.self (c.in-Some.name, (c.in-Some.value, c.in-Some.width)) c.in-Some.is c.next.ensures.steps in
    let at = picked names clocks widths n name c.in-Some.value.now 0 c.in-Some.width.now 0 turn.0 turn.1 in
    let named = c.as_str.ensures.value ∙ ap string_bytes at.1 ∙ name_at string_bytes names n name at.0 in
    let one : Adds (string_bytes c.loop-name.text) (codes "  " ++ padded c.in-Some.width.now c.as_str-in-loop-name.result.now) (string_bytes c.write.new.self) = search rules in
    let more = adds_same
    (ap (λ (k : ℕ). codes "  " ++ padded k c.as_str-in-loop-name.result.now) at.3 ∙ ap (λ (l : List ℕ). codes "  " ++ padded (get_or widths n 0) l) c.as_str-in-loop-name.ensures.value) one in
    let valued = subst (λ (k : ℕ). (value : List ℕ) × PartsText teller.denominator k value × (string_bytes c.in_ok-cell.cell ≡ (c.as_str.result.now ++ codes " = ") ++ value)) at.2 c.in_ok-cell.ensures in
    let all = clocks_more string_bytes names c.args.widths.now teller.denominator c.args.moment.now (string_bytes c.args.text.now) n c.as_str.result.now (string_bytes c.in_ok-cell.cell) c.loop-name.invariant named valued more in
    subst (λ (k : ℕ). ClocksWritten string_bytes names c.args.widths.now teller.denominator c.args.moment.now (string_bytes c.args.text.now) k (string_bytes c.write.new.self)) (sym (length-append yielded _)) all

pub returns : goal.returns
returns c =
    let teller = c.args.self.now in
    let names = teller.names.clocks.now in
    let clocks = c.args.moment.now.clocks in
    let widths = c.args.widths.now.clocks in
    let end = YieldsList-end (YieldsList-from_zip (YieldsList-from_slice names cc) (YieldsList-from_zip (YieldsList-from_slice clocks cc) (YieldsList-from_slice widths cc))) c.loop-name.yielded c.loop-name.name-iterator c.loop-name.yielded_by c.next.result c.next.new.self c.in-None.is c.next.ensures.steps in
    let values : length clocks ≡ 8 = search rules in
    let wide : length widths ≡ 8 = search rules in
    let count : length c.loop-name.yielded ≡ min (length names) 8 = end.1 ∙ (walked names clocks widths (values ∙ sym wide) ∙ ap (min (length names)) values) in
    subst (λ (k : ℕ). ClocksWritten string_bytes names c.args.widths.now teller.denominator c.args.moment.now (string_bytes c.args.text.now) k (string_bytes c.loop-name.text)) count c.loop-name.invariant
