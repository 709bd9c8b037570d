use Rattle.std.proofs.Common.{◌≡◌, ℕ, List, [], map, string_bytes, ap, ◌∙◌, subst, arith, rules}
use Rattle.clockworks.proofs.Writing.{adds_same}
use Rattle.console.specs.Answers.{line_text}
use Rattle.earliest.specs.Explored.{ToldBy}
use Rattle.earliest.specs.Listed.{Listed, none, more}
use Rattle.earliest.proofs.lines.write_lines.Goals as goal

pub loop-position-init : goal.loop-position-init
loop-position-init c row lent known =
    let empty : string_bytes c.in_ok-text.text ≡ [] = search rules in
    none _ empty

pub loop-position-preserved : goal.loop-position-preserved
loop-position-preserved c row lent known =
    let name = c.as_str-name.ensures.value ∙ c.in_ok-name.ensures in
    let line = adds_same (ap (λ (l : List ℕ). line_text c.args.kinds c.in_ok-width.width l c.look_up_in-asked.result) name) c.in_ok-write_line.ensures in
    more c.loop-position.position _ _ c.look_up_in-asked.result (c.loop-position.invariant row lent known) (c.look_up_in-asked.ensures row c.args.kinds lent known) line

pub returns : goal.returns
returns c row lent known =
    let names = map string_bytes c.args.positions.names.now in
    let text = string_bytes c.loop-position.text in
    let told = ToldBy row c.args.kinds lent c.args.explored in
    let all : c.loop-position.position ≡ c.args.positions.count = omega arith in
    subst (λ (w : ℕ). Listed told c.args.kinds w names c.args.positions.count text) c.in_ok-width.ensures
    (subst (λ (n : ℕ). Listed told c.args.kinds c.in_ok-width.width names n text) all (c.loop-position.invariant row lent known))
