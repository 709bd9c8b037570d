-- The three words at a place are those of the constraint there.
use Rattle.std.proofs.Common.{◌≡◌, ℕ, ◌+◌, ◌-◌, ◌*◌, ◌<◌, List, length, get_or, take, drop, sym, ap, ◌∙◌, arith, length-drop}
use Rattle.std.proofs.lemmas.List.{take_rest}
use mathlib.Core.Option.{some, none}
use Rattle.automata.specs.Automata.{nth, Relation}
use Rattle.rows.specs.Parse.{constraint}
use Rattle.rows.specs.Values.{constraints_value}
use Rattle.rows.proofs.Parts.{nth-behind}
use Rattle.rows.proofs.Values.{length-constraints_value, nth-constraints_value, first_constraint}
use Rattle.rows.proofs.constraints.Conjunction.get.Goals as goal

-- fewer than three words from there on
none_there : (ws : List ℕ) (place : ℕ) → length ws < place * 3 + 3 → nth (constraints_value ws) place ≡ none
none_there ws place h = nth-behind (constraints_value ws) place (omega (arith, length-constraints_value ws))

-- the words from the place on
words_from : (ws got : List ℕ) (place at : ℕ)
    → at ≡ place * 3
    → got ≡ take (length ws - at) (drop at ws)
    → got ≡ drop (place * 3) ws
words_from ws got place at e f = f ∙ take_rest ws at ∙ ap (λ (n : ℕ). drop n ws) e

pub returns-in_err-checked_mul : goal.returns-in_err-checked_mul
returns-in_err-checked_mul c =
    rw
    c.from_residual.ensures
    (none_there c.args.self.now.words.now c.args.place (omega (arith, c.in_err-checked_mul.ensures)))

pub returns-in_err-get : goal.returns-in_err-get
returns-in_err-get c =
    rw
    c.from_residual-in_err-get.ensures
    (none_there c.args.self.now.words.now c.args.place (omega (arith, c.in_ok-checked_mul.ensures, c.in_err-get.ensures.lookup)))

pub returns-in_default : goal.returns-in_default
returns-in_default c =
    let ws : List ℕ = c.args.self.now.words.now in
    let place : ℕ = c.args.place in
    let got : List ℕ = c.in_ok-get.field-0.now in
    let lookup = c.in_ok-get.ensures.lookup.0 in
    let from : got ≡ drop (place * 3) ws = words_from ws got place c.in_ok-checked_mul.field-0 (omega (arith, c.in_ok-checked_mul.ensures)) lookup.2 in
    let l : length got ≡ length ws - place * 3 = ap length from ∙ length-drop (place * 3) ws in
    none_there ws place (omega (arith, lookup.0, l, c.in_ok-checked_mul.ensures))

pub returns : goal.returns
returns c =
    let ws : List ℕ = c.args.self.now.words.now in
    let place : ℕ = c.args.place in
    let got : List ℕ = c.in_ok-get.field-0.now in
    let from : got ≡ drop (place * 3) ws = words_from ws got place c.in_ok-checked_mul.field-0 (omega (arith, c.in_ok-checked_mul.ensures)) c.in_ok-get.ensures.lookup.0.2 in
    let there : nth (constraints_value ws) place ≡ some (constraint (get_or got 0 0) (get_or got 1 0) (get_or got 2 0)) =
    nth-constraints_value ws place ∙ ap (λ (z : List ℕ). nth (constraints_value z) 0) (sym from) ∙ first_constraint got (omega arith) in
    there ∙ ap (λ (r : Relation). some (record { clock = get_or got 0 0; relation = r; bound = get_or got 2 0 })) (sym c.decode_relation.ensures)
