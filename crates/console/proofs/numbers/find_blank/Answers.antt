use Rattle.std.proofs.Common.{◌≡◌, ℕ, ◌+◌, ◌-◌, not, length, take, drop, ap, sym, ◌∙◌, subst}
use Rattle.std.specs.Bool.{beq}
use Rattle.std.specs.List.{position_or_len}
use Rattle.std.specs.Option.{unwrap_or}
use Rattle.std.proofs.lemmas.List.{take_rest}
use Rattle.console.specs.Rows.{blank, FirstBlank}
use Rattle.console.proofs.Places.{position_or, first_blank}
use Rattle.console.proofs.numbers.find_blank.Goals as goal

pub returns : goal.returns
returns c =
    let bytes = c.args.bytes.now in
    let at = c.args.at in
    let is = c.args.blank in
    let rest = take (length bytes - at) (drop at bytes) in
    let place : c.unwrap_or.result ≡ position_or_len (λ b. beq (blank b) is) (drop at bytes) =
    c.unwrap_or.ensures ∙ (ap (λ o. unwrap_or o (length rest)) c.first_blank.ensures ∙ (position_or (λ b. beq (blank b) is) rest ∙ ap (position_or_len (λ b. beq (blank b) is)) (take_rest bytes at))) in
    subst (λ (n : ℕ). FirstBlank bytes at is (not is) (at + n)) (sym place) (first_blank bytes at is c.requires)
