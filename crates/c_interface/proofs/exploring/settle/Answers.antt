-- Each outcome says what is so.
use Rattle.std.proofs.Common.{◌≡◌, ap, sym, subst, arith}
use Rattle.automata.specs.Regions.{MoreThan}
use Rattle.search.specs.Answering.{ExploredIs}
use Rattle.search.specs.declared.answers.Table.{Table}
use Rattle.c_interface.proofs.Replying.{none_beyond}
use Rattle.c_interface.proofs.exploring.settle.Goals as goal

pub returns-in-Ok-2 : goal.returns-in-Ok-2
returns-in-Ok-2 c =
    λ row kinds lent is.
    let x = subst (λ z. ExploredIs row kinds lent z) c.in-Ok-2.is is in
    let fits = x.0 in
    let a = x.1.0 in
    let table = x.1.1 in
    let same : c.in-Ok-2.table ≡ c.in-Ok.table = cc in
    let there : c.in-Ok-2.table.locations ≡ c.in-Ok.table.locations = ap (λ (t : Table). t.locations) same in (
      fits,
      (
        a,
        record {
          reads = table.reads;
          locations = omega (arith, table.locations, c.locations-in-Ok-2.ensures);
          room = omega (arith, c.locations-in-Ok-2.ensures, (rw c.in-Ok.is at c.locations.ensures), c.if-replies-locations.false, there);
          few = omega (arith, table.few, c.len.ensures);
          no_more = subst (λ n. MoreThan a n → ⊥) (sym c.len.ensures) (none_beyond row kinds c.in-Ok-2.table a table);
          replied = c.reply_all.ensures row kinds a table;
        },
      ),
    )
