-- A row is refused where one of its parts is; otherwise it is the writing of the automaton that is viewed.
use Rattle.std.proofs.Common.{◌<◌, ◌≤◌, length, get_or, refl, arith}
use Rattle.std.proofs.lemmas.Result.{err_from_is_err_and}
use Rattle.rows.specs.declared.refusals.Rule.TheVariants.{TooLong, Ends, Clocks, Locations}
use Rattle.rows.proofs.Whole.{refused, viewed, accepted, parse-short, parse-long, parse-clocks, parse-locations, parse-invariants, parse-edges}
use Rattle.rows.proofs.Round.{rows_round}
use Rattle.rows.proofs.Values.{values_stand}
use Rattle.rows.proofs.reader.read.Goals as goal
use Rattle.rows.proofs.reader.read.Goals.{then-clocks-lt1-via-then-clocks-lt1, then-clocks-lt1-via-else-clocks-lt1+then-clocks-gt-MOST_CLOCKS, then-locations-lt1-via-then-locations-lt1, then-locations-lt1-via-else-locations-lt1+then-locations-gt-MOST_LOCATIONS}

pub returns-then-row-gt-MOST_WORDS : goal.returns-then-row-gt-MOST_WORDS
returns-then-row-gt-MOST_WORDS c =
    record {
      post =
          rw c.at.ensures (refused c.args.row.now (record { rule = TooLong; word = 16384 }) (parse-long c.args.row.now c.if-row-gt-MOST_WORDS.true) (c.if-row-gt-MOST_WORDS.true, refl));
      round = rows_round;
      values = values_stand;
    }

pub returns-in_default : goal.returns-in_default
returns-in_default c =
    record {
      post =
          rw c.at-in_default.ensures (refused c.args.row.now (record { rule = Ends; word = length c.args.row.now }) (parse-short c.args.row.now c.in_default.len_below) refl);
      round = rows_round;
      values = values_stand;
    }

pub returns-then-clocks-lt1 : goal.returns-then-clocks-lt1
returns-then-clocks-lt1 c =
    record {
      post =
          let out : 1 ≤ get_or c.args.row.now 0 0 → 8 < get_or c.args.row.now 0 0 =
          elim c.then-clocks-lt1.branch [
            | then-clocks-lt1-via-then-clocks-lt1 w ↦ λ h. omega (arith, w.if-clocks-lt1.true)
            | then-clocks-lt1-via-else-clocks-lt1+then-clocks-gt-MOST_CLOCKS w ↦ λ h. w.if-clocks-gt-MOST_CLOCKS.true
          ] in
          rw c.at-then-clocks-lt1.ensures (refused c.args.row.now (record { rule = Clocks; word = 0 }) (parse-clocks c.args.row.now out) (refl, out));
      round = rows_round;
      values = values_stand;
    }

pub returns-then-locations-lt1 : goal.returns-then-locations-lt1
returns-then-locations-lt1 c =
    record {
      post =
          let out : 1 ≤ get_or c.args.row.now 1 0 → 256 < get_or c.args.row.now 1 0 =
          elim c.then-locations-lt1.branch [
            | then-locations-lt1-via-then-locations-lt1 w ↦ λ h. omega (arith, w.if-locations-lt1.true)
            | then-locations-lt1-via-else-locations-lt1+then-locations-gt-MOST_LOCATIONS w ↦ λ h. w.if-locations-gt-MOST_LOCATIONS.true
          ] in
          rw c.at-then-locations-lt1.ensures (refused c.args.row.now (record { rule = Locations; word = 1 }) (parse-locations c.args.row.now out) (refl, out));
      round = rows_round;
      values = values_stand;
    }

pub returns-in_err-edges : goal.returns-in_err-edges
returns-in_err-edges c =
    record {
      post =
          let p = err_from_is_err_and c.from_residual.result c.from_residual.ensures.1 in
          let e = c.in_err-edges.ensures in
          rw (p.1, p.2) (refused c.args.row.now _ (parse-invariants c.args.row.now c.in-len2-up.len_at_least e.0) e.1);
      round = rows_round;
      values = values_stand;
    }

pub returns-in_err-check_edges : goal.returns-in_err-check_edges
returns-in_err-check_edges c =
    record {
      post =
          let p = err_from_is_err_and c.from_residual-in_err-check_edges.result c.from_residual-in_err-check_edges.ensures.1 in
          let e = c.in_ok-edges.ensures in
          let f = c.in_err-check_edges.ensures in
          rw
          (p.1, p.2)
          (refused c.args.row.now _ (parse-edges c.args.row.now e.2.0 _ e.2.1 f.0) f.1);
      round = rows_round;
      values = values_stand;
    }

pub new-requires : goal.new-requires
new-requires c =
    let e = c.in_ok-edges.ensures in
    let f = c.in_ok-check_edges.ensures in
    viewed c.args.row.now e.2.0 c.in_ok-edges.edges f.0 f.1 c.in-len2-up.len_at_least c.if-row-gt-MOST_WORDS.false c.if-clocks-lt1.false c.if-clocks-gt-MOST_CLOCKS.false c.if-locations-lt1.false c.if-locations-gt-MOST_LOCATIONS.false e.2.1 f.2

pub returns : goal.returns
returns c = record { post = accepted c.args.row.now c.new.result c.new.ensures.row_is; round = rows_round; values = values_stand }
