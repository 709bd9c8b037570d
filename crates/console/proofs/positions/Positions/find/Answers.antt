use Rattle.std.proofs.Common.{ℕ, None, Option, map, string_bytes, sym, ap, ◌∙◌, subst, inl}
use Rattle.console.specs.Names.{FirstIs}
use Rattle.console.specs.Numbers.{number_of}
use Rattle.console.proofs.Places.{first_is, found_none, found_number}
use Rattle.console.proofs.positions.Positions.find.Goals as goal

pub returns-in-Some : goal.returns-in-Some
returns-in-Some c =
    inl (subst (λ (o : Option ℕ). FirstIs (map string_bytes c.args.self.now.names.now) c.args.word.now o) (sym c.in-Some.ensures) (first_is string_bytes c.args.word.now c.args.self.now.names.now))

pub returns-in_err-number : goal.returns-in_err-number
returns-in_err-number c =
    let names = map string_bytes c.args.self.now.names.now in
    let word = c.args.word.now in
    let first : FirstIs names word None = subst (λ (o : Option ℕ). FirstIs names word o) (sym c.in_default.ensures) (first_is string_bytes word c.args.self.now.names.now) in
    found_none names word c.args.self.now.count _ first (ap number_of (sym c.as_bytes.ensures.value) ∙ sym c.in_err-number.ensures) c.from_residual.ensures

pub returns : goal.returns
returns c =
    let names = map string_bytes c.args.self.now.names.now in
    let word = c.args.word.now in
    let first : FirstIs names word None = subst (λ (o : Option ℕ). FirstIs names word o) (sym c.in_default.ensures) (first_is string_bytes word c.args.self.now.names.now) in
    found_number names word c.args.self.now.count c.in_ok-number.field-0 _ first (ap number_of (sym c.as_bytes.ensures.value) ∙ sym c.in_ok-number.ensures) c.then_some.ensures
