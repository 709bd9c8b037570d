-- A constraint is refused where one of its words does not fit; otherwise the reading goes on behind it.
use Rattle.std.proofs.Common.{◌≡◌, ℕ, ◌+◌, ◌<◌, ◌≤◌, true, length, Ok, Err, Result, sym, ◌∙◌, subst, ltb-true, arith}
use Rattle.std.specs.Prelude.{MatchResult, is_ok}
use Rattle.automata.specs.Rows.{code}
use Rattle.rows.specs.declared.constraints.Relation.{Relation}
use Rattle.rows.specs.declared.constraints.UnknownRelation.{UnknownRelation}
use Rattle.rows.specs.declared.refusals.Refusal.{Refusal}
use Rattle.rows.specs.Parts.{relation_value, relations_of, RelationRead}
use Rattle.rows.proofs.Round.{fits-from}
use Rattle.rows.proofs.Walking.{constraint-fits}
use Rattle.rows.proofs.reader.Reader.check_constraint.Goals as goal

-- a relation that was read has the number that stands there
word_of : (P : UnknownRelation → Type 0) (word : ℕ) (read : Result Relation UnknownRelation) (r : Relation)
    → RelationRead word read
    → MatchResult read (λ (x : Relation). ◌≡◌ {A = Result Relation Refusal} (Ok r) (Ok x)) P
    → true ≡ is_ok read
    → code (relation_value r) ≡ word
word_of P word (Ok x) r is same ok = let e : r ≡ x = cc in rw e is
word_of P word (Err e) r is same ok = let z : ◌≡◌ {A = ℕ} 0 1 = cc in absurd (omega arith)

pub returns : goal.returns
returns c =
    let row = c.args.self.now.row.now in
    let n = c.args.self.now.clocks in
    let r = relations_of c.args.owner in
    let clock = c.in_ok-clock.ensures in
    let relation = c.in_ok-relation.ensures in
    let bound = c.in_ok-bound.ensures in
    let word : code (relation_value c.in_ok-relation-2.relation) ≡ c.in_ok-relation.relation =
    word_of _ _ c.try_from.result c.in_ok-relation-2.relation c.try_from.ensures c.in_ok-relation-2.ensures.cases c.in_ok-relation-2.ensures.variant in
    let fit : c.in_ok-relation.relation < r =
    subst (λ (w : ℕ). w < r) word (ltb-true _ _ (sym c.takes.ensures ∙ c.if-not-takes.false)) in
    let all = fits-from n r c.in_ok-clock.clock c.in_ok-relation.relation c.in_ok-bound.bound c.if-clock-self.false fit c.if-bound-gt-MOST_BOUND.false in
    let room : c.args.at + 3 ≤ length row = omega (arith, bound.0) in
    (omega arith, room, constraint-fits n r row c.args.at room (rw (← clock.1, ← relation.1, ← bound.1) all))
