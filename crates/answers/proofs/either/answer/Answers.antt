-- Where zones do not fit, the search through regions answers.
use Rattle.std.proofs.Common.{◌≡◌, ℕ, ◌<◌, length, subst}
use Rattle.std.specs.Prelude.{◌↔◌}
use Rattle.search.specs.Answering.{needed}
use Rattle.clocks.specs.declared.answers.Asked.TheVariants.{Few}
use Rattle.clocks.specs.Asked.{AskedIs}
use Rattle.answers.proofs.Asking.{asked_then}
use Rattle.answers.proofs.either.answer.Goals as goal

pub returns-in-Full : goal.returns-in-Full
returns-in-Full c =
    let row = c.args.clockwork.now in
    let (b, place, unfit) = c.in-Full.ensures.promised.says in
    let as_long : length c.ask_by_zones.new.work ≡ length c.args.work.now = c.ask_by_zones.auto.work in
    record {
      says =
          asked_then row c.args.position c.args.kinds (length c.args.work.now) b c.ask.result place unfit
          (subst (λ (n : ℕ). AskedIs row c.args.position c.args.kinds n c.ask.result) as_long c.ask.ensures.promised.says);
      few = subst (λ (n : ℕ). (n < needed (length row) c.args.kinds) ↔ (c.ask.result ≡ Few)) as_long c.ask.ensures.promised.few;
    }
