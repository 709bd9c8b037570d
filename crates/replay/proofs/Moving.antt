-- A move whose checks hold over the denominator is a step of the definitions; one whose checks fail is none.
use Rattle.std.proofs.Common.{◌≡◌, ℕ, ◌≤◌, T, List, sym, refl, ◌∙◌, subst, arith}
use mathlib.Core.Option.{some}
use Rattle.automata.specs.Automata.{nth, Constraint, Edge, Automaton, invariant}
use Rattle.automata.specs.Runs as runs
use Rattle.automata.specs.Runs.{State, Holds, Allowed, delayed, reset_all, zeros, Reached}
use Rattle.automata.specs.Regions.{top}
use Rattle.automata.specs.Rows.{fine}
use Rattle.regions.proofs.Guards.{Within}
use Rattle.regions.proofs.Sound.{clocks_in_range, invariant-sound, edge-sound}
use Rattle.replay.specs.declared.moments.Move.{Move}
use Rattle.replay.specs.declared.moments.Move.TheVariants.{Wait, Step}
use Rattle.replay.specs.declared.moments.Moment.{Moment}
use Rattle.replay.specs.Meaning.{clock_of, Tells, ComeTo}
use Rattle.replay.specs.Checks.{HoldsParts}
use Rattle.replay.specs.Changes.{Waited, Taken}
use Rattle.replay.specs.Moves.{parts, delayed_state, edge_state, start_state, Makes}
use Rattle.replay.specs.Outcomes.{AtStart, Advanced}
use Rattle.replay.proofs.Compared.{holds_parts, parts-hold}
use Rattle.replay.proofs.Telling.{waited-tells, taken_tells, start_tells}

pub step_of : (a : Automaton) (d : ℕ) (by : Move) (s u : State) → Makes a d by s u → runs.Step a s u
step_of a d (Wait k) s u m = subst (runs.Step a s) (sym m.to) (runs.delay (parts d k) m.allowed)
step_of a d (Step i) s u (e, m) =
    subst (runs.Step a s) (sym m.to) (runs.take i e m.number m.source m.guard m.allowed)

-- the start of a run that is allowed
pub reached_start : {a : Automaton} {s : State} → Reached a s → Allowed a 0 (zeros a.clocks)
reached_start (runs.start allowed) = allowed
reached_start (runs.next reached step) = reached_start reached

module _ (a : Automaton) (sound : T (fine a)) (d : ℕ) (pos : 1 ≤ d) where
  hold_from : (m : Moment) (s : State) (cs : List Constraint)
      → Within a.clocks (top a) cs
      → Tells a.clocks d m s
      → HoldsParts d (clock_of m) cs
      → Holds cs s.valuation
  hold_from m s cs within tells = parts-hold a.clocks (top a) d s.valuation (clock_of m) pos tells.value cs within

  hold_to : (m : Moment) (s : State) (cs : List Constraint)
      → Within a.clocks (top a) cs
      → Tells a.clocks d m s
      → Holds cs s.valuation
      → HoldsParts d (clock_of m) cs
  hold_to m s cs within tells = holds_parts a.clocks (top a) d s.valuation (clock_of m) pos tells.value cs within

  -- the invariant of the moment's own location
  allowed_from : (m : Moment) (s : State)
      → Tells a.clocks d m s
      → HoldsParts d (clock_of m) (invariant a m.location.0)
      → Allowed a s.location s.valuation
  allowed_from m s tells holds =
      subst
      (λ (l : ℕ). Allowed a l s.valuation)
      tells.location
      (hold_from m s (invariant a m.location.0) (invariant-sound a sound m.location.0).0 tells holds)

  allowed_to : (m : Moment) (s : State)
      → Tells a.clocks d m s
      → Allowed a s.location s.valuation
      → HoldsParts d (clock_of m) (invariant a m.location.0)
  allowed_to m s tells allowed =
      hold_to m s (invariant a m.location.0) (invariant-sound a sound m.location.0).0 tells
      (subst (λ (l : ℕ). Allowed a l s.valuation) (sym tells.location) allowed)

  come_on : (by : Move) (m after : Moment)
      → ((s : State) → Tells a.clocks d m s → (u : State) × Makes a d by s u × Tells a.clocks d after u)
      → ComeTo a d m
      → ComeTo a d after
  come_on by m after makes (s, reached, tells) =
      let (u, made, told) = makes s tells in
      (u, runs.next reached (step_of a d by s u made), told)

  -- a wait
  module _ (k : ℕ) (m after : Moment) (waited : Waited k m after) where
    wait_makes : HoldsParts d (clock_of after) (invariant a after.location.0)
        → (s : State)
        → Tells a.clocks d m s
        → (u : State) × Makes a d (Wait k) s u × Tells a.clocks d after u
    wait_makes holds s tells =
        let told = waited-tells a.clocks d k m after s (clocks_in_range a sound).1 pos waited tells in (
          delayed_state (parts d k) s,
          record { allowed = allowed_from after (delayed_state (parts d k) s) told holds; to = refl },
          told,
        )

    pub wait_advances : HoldsParts d (clock_of after) (invariant a after.location.0) → Advanced a d m (Wait k) after
    wait_advances holds =
        record {
          denominator = pos;
          moment = waited;
          makes = wait_makes holds;
          come = come_on (Wait k) m after (wait_makes holds);
        }

    pub wait_fails : (HoldsParts d (clock_of after) (invariant a after.location.0) → ⊥)
        → (s : State)
        → Tells a.clocks d m s
        → Allowed a s.location (delayed (parts d k) s.valuation)
        → ⊥
    wait_fails not s tells allowed =
        let told = waited-tells a.clocks d k m after s (clocks_in_range a sound).1 pos waited tells in
        not (allowed_to after (delayed_state (parts d k) s) told allowed)

  -- a step
  module _ (i : ℕ) (e : Edge) (m : Moment) (number : nth a.edges i ≡ some e) where
    pub guard_fails : (HoldsParts d (clock_of m) e.guard → ⊥)
        → (s : State)
        → Tells a.clocks d m s
        → Holds e.guard s.valuation
        → ⊥
    guard_fails not s tells holds = not (hold_to m s e.guard (edge-sound a sound i e number).guard tells holds)

    module _ (after : Moment) (taken : Taken e m after) where
      pub target_fails : (HoldsParts d (clock_of after) (invariant a after.location.0) → ⊥)
          → (s : State)
          → Tells a.clocks d m s
          → Allowed a e.target (reset_all s.valuation e.resets)
          → ⊥
      target_fails not s tells allowed =
          let told = taken_tells a.clocks d e m after s (clocks_in_range a sound).1 taken tells in
          not (allowed_to after (edge_state e s) told allowed)

      step_makes : e.source ≡ m.location.0
          → HoldsParts d (clock_of m) e.guard
          → HoldsParts d (clock_of after) (invariant a after.location.0)
          → (s : State)
          → Tells a.clocks d m s
          → (u : State) × Makes a d (Step i) s u × Tells a.clocks d after u
      step_makes source guard holds s tells =
          let told = taken_tells a.clocks d e m after s (clocks_in_range a sound).1 taken tells in (
            edge_state e s,
            (
              e,
              record {
                number = number;
                source = source ∙ tells.location;
                guard = hold_from m s e.guard (edge-sound a sound i e number).guard tells guard;
                allowed = allowed_from after (edge_state e s) told holds;
                to = refl;
              },
            ),
            told,
          )

      pub step_advances : e.source ≡ m.location.0
          → HoldsParts d (clock_of m) e.guard
          → HoldsParts d (clock_of after) (invariant a after.location.0)
          → Advanced a d m (Step i) after
      step_advances source guard holds =
          record {
            denominator = pos;
            moment = (e, number, taken);
            makes = step_makes source guard holds;
            come = come_on (Step i) m after (step_makes source guard holds);
          }

-- the start
module _ (a : Automaton) (sound : T (fine a)) (m : Moment) (at : AtStart m) where
  pub start_come : HoldsParts 1 (clock_of m) (invariant a m.location.0) → (d : ℕ) → ComeTo a d m
  start_come holds d = (
    start_state a,
    runs.start (allowed_from a sound 1 (omega arith) m (start_state a) (start_tells a 1 m (clocks_in_range a sound).1 at) holds),
    start_tells a d m (clocks_in_range a sound).1 at,
  )

  pub start_fails : (HoldsParts 1 (clock_of m) (invariant a m.location.0) → ⊥) → (s : State) → Reached a s → ⊥
  start_fails not s reached =
      not (allowed_to a sound 1 (omega arith) m (start_state a) (start_tells a 1 m (clocks_in_range a sound).1 at) (reached_start reached))
