-- What an answer says where there is no run to show.
use Rattle.std.proofs.Common.{◌≡◌, ℕ, None, sym}
use Rattle.std.proofs.lemmas.Option.{none-some}
use Rattle.automata.specs.Automata.{Automaton}
use Rattle.automata.specs.Statements as theory
use Rattle.search.specs.declared.answers.Answer.{Answer}
use Rattle.search.specs.declared.answers.Answer.TheVariants.{At, After, Never}
use Rattle.search.specs.Answering.{AnswerIs}
use Rattle.witnesses.specs.Witnesses.{arrival_told}

pub never_shown : (a : Automaton) (l part : ℕ) (answer : Answer) → arrival_told answer part ≡ None → AnswerIs a l answer → theory.Never a l
never_shown a l part (At n) e is = absurd (none-some _ (sym e))
never_shown a l part (After n) e is = absurd (none-some _ (sym e))
never_shown a l part Never e is = is
