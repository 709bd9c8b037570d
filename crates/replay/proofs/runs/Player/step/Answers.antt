-- An edge may be taken if its guard holds, and the invariant of its target after it.
use Rattle.std.proofs.Common.{◌≡◌, ℕ, ◌<◌, ◌≤◌, cond, T, List, get_or, Some, sym, refl, ◌∙◌, subst, rules}
use Rattle.automata.specs.Automata as automata
use Rattle.automata.specs.Rows.{fine}
use Rattle.regions.specs.Moves.{among}
use Rattle.rows.specs.declared.edges.Edge.{Edge}
use Rattle.rows.specs.EdgeParts.{EdgeIs}
use Rattle.rows.specs.Views.{automaton_value}
use Rattle.rows.proofs.Values.{views, constraints_value-is}
use Rattle.replay.specs.declared.moments.Moment.{Moment}
use Rattle.replay.specs.declared.moments.Move.TheVariants.{Step}
use Rattle.replay.specs.declared.moments.Fault.TheVariants.{GuardFails, InvariantFails}
use Rattle.replay.specs.Meaning.{clock_of}
use Rattle.replay.specs.Checks.{HoldsParts}
use Rattle.replay.specs.Changes.{Taken, EdgeNumber}
use Rattle.replay.specs.Outcomes.{Advanced, Advances, StepFails}
use Rattle.replay.proofs.Judged.{by_test}
use Rattle.replay.proofs.Moving.{guard_fails, target_fails, step_advances}
use Rattle.replay.proofs.runs.Player.step.Goals as goal

abbrev after_edge : Edge → Moment → List ℕ → Moment
after_edge v m clocks = record { location = v.target; clocks = clocks; time = m.time }

taken : (v : Edge) (e : automata.Edge) (m : Moment) (clocks : List ℕ)
    → EdgeIs v e
    → ((i : ℕ) → i < 8 → get_or clocks i 0 ≡ cond (among i v.resets.now) 0 (get_or m.clocks i 0))
    → Taken e m (after_edge v m clocks)
taken v e m clocks is resets =
    record {
      location = is.target;
      clocks = λ i h. subst (λ (xs : List ℕ). get_or clocks i 0 ≡ cond (among i xs) 0 (get_or m.clocks i 0)) is.resets (resets i h);
      time = refl;
    }

-- the automaton, the denominator, the edge of the code and of the definitions, and the moment before
module _
    (a : automata.Automaton)
    (sound : T (fine a))
    (d : ℕ)
    (pos : 1 ≤ d)
    (i : ℕ)
    (v : Edge)
    (m : Moment)
    (found : EdgeNumber (automata.nth a.edges i) (Some v)) where
  guard-fault : (HoldsParts d (clock_of m) found.0.guard → ⊥) → StepFails a d m i GuardFails
  guard-fault not = (found.0, found.1, guard_fails a sound d pos i found.0 m found.1 not)

  module _
      (clocks : List ℕ)
      (resets : (j : ℕ) → j < 8 → get_or clocks j 0 ≡ cond (among j v.resets.now) 0 (get_or m.clocks j 0)) where
    target-fault : (HoldsParts d (clock_of (after_edge v m clocks)) (automata.invariant a v.target.0) → ⊥)
        → StepFails a d m i InvariantFails
    target-fault not = (
      found.0,
      found.1,
      target_fails a sound d pos i found.0 m found.1 (after_edge v m clocks) (taken v found.0 m clocks found.2 resets) not,
    )

    edge-taken : v.source.0 ≡ m.location.0
        → HoldsParts d (clock_of m) found.0.guard
        → HoldsParts d (clock_of (after_edge v m clocks)) (automata.invariant a v.target.0)
        → Advanced a d m (Step i) (after_edge v m clocks)
    edge-taken source =
        step_advances a sound d pos i found.0 m found.1 (after_edge v m clocks) (taken v found.0 m clocks found.2 resets)
        (sym found.2.source ∙ source)

pub returns-then-not-holds : goal.returns-then-not-holds
returns-then-not-holds c =
    let player = c.args.self.now in
    let found = rw c.in_ok-edge.ensures.ok_part at c.numbered_edge.ensures in
    guard-fault (automaton_value player.automaton) (views player.automaton).reads.sound player.denominator player.positive
    c.args.number c.in_ok-edge.edge c.args.moment.now found
    (rw (constraints_value-is c.in_ok-edge.edge.guard.words.now found.0.guard found.2.guard) at c.if-not-holds.ensures)

pub returns : goal.returns
returns c =
    let player = c.args.self.now in
    let a = automaton_value player.automaton in
    let sound = (views player.automaton).reads.sound in
    let d = player.denominator in
    let i = c.args.number in
    let v = c.in_ok-edge.edge in
    let m = c.args.moment.now in
    let found = rw c.in_ok-edge.ensures.ok_part at c.numbered_edge.ensures in
    let clocks = c.with_resets.result in
    by_test (Advances a d m (Step i)) _ _ _ _ _ c.then_some.ensures c.ok_or-2.ensures.value c.is_allowed.ensures
    (edge-taken a sound d player.positive i v m found clocks c.with_resets.ensures (search rules)
    (rw (constraints_value-is v.guard.words.now found.0.guard found.2.guard) at c.if-not-holds.ensures))
    (target-fault a sound d player.positive i v m found clocks c.with_resets.ensures)
