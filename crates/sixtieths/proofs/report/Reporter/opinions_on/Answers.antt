-- The opinions are those that were found.
use Rattle.std.proofs.Common.{◌≡◌, Bool, true, false, Result, Ok, Err, IfOk, MatchResult, sym, ap, subst}
use Rattle.std.proofs.lemmas.Bool.{false≢true}
use Rattle.std.specs.Result.{is_ok, result_unwrap_or}
use Rattle.sixtieths.specs.Opinions.{AllOpinions}
use Rattle.sixtieths.proofs.report.Reporter.opinions_on.Goals as goal

-- what is handed on where there is no error has what was promised of it
handed_on : {T E : Type 0} (D : Type 0) (Q : E → Type 0) (P : T → Type 0) (r : Result T E) (x : T)
    → true ≡ is_ok r
    → MatchResult r (λ y. ◌≡◌ {A = Result T D} (Ok x) (Ok y)) Q
    → IfOk r P
    → P x
handed_on D Q P (Ok y) x there is promised = subst P (sym (ap (λ s. result_unwrap_or s y) is)) promised
handed_on D Q P (Err e) x there is promised = absurd (false≢true (sym there))

pub returns-clause-judged : goal.returns-clause-judged
returns-clause-judged c =
    handed_on _ _ (λ all. AllOpinions all.items) c.opinions.result c.in_ok-all.all c.in_ok-all.ensures.variant c.in_ok-all.ensures.cases c.opinions.ensures.judged
