use Rattle.std.proofs.Common.{string_bytes, ap, ◌∙◌}
use Rattle.accounts.proofs.Named.{name_at, name_behind}
use Rattle.accounts.proofs.names.name_of.Goals as goal

pub returns-in-Some : goal.returns-in-Some
returns-in-Some c =
    let found = c.in-Some.ensures.lookup in
    c.as_str.ensures.value
    ∙ (ap string_bytes found.1 ∙ name_at string_bytes c.args.names.now c.args.number c.in-Some.name.now found.3.0)

pub returns-in-None : goal.returns-in-None
returns-in-None c =
    let found = c.in-None.ensures.lookup in
    name_behind string_bytes c.args.names.now c.args.number found.3
