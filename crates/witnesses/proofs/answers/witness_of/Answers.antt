use Rattle.std.proofs.Common.{sym, ap, ◌∙◌}
use Rattle.std.specs.Prelude.{Some}
use Rattle.witnesses.proofs.Answered.{never_shown}
use Rattle.witnesses.proofs.answers.witness_of.Goals as goal

pub returns-in_default : goal.returns-in_default
returns-in_default c =
    λ row kinds a is.
    never_shown a c.args.location.0 c.args.part c.told-answer.result (sym c.in_default.ensures) (c.told-answer.ensures row kinds a is)

pub returns : goal.returns
returns c = (
  c.in_ok-show.ensures.realised,
  c.in_ok-show.ensures.ends,
  λ row kinds b is.
      record {
        answer = c.told-answer.result;
        true_answer = c.told-answer.ensures row kinds b is;
        arrival = sym c.in-Some.ensures ∙ ap Some (sym c.in_ok-show.ensures.in_time);
      },
)
