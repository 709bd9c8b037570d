-- A moment that tells a state tells, after a wait or an edge, the state after it.
use Rattle.std.proofs.Common.{ℕ, zero, suc, ◌<◌, ◌≤◌, length, refl, ◌∙◌, arith}
use Rattle.automata.specs.Automata.{Edge, Automaton}
use Rattle.automata.specs.Runs.{State, value_of}
use Rattle.regions.specs.Moves.{among}
use Rattle.regions.specs.Points.{Is}
use Rattle.regions.proofs.Grid.{is_set_back}
use Rattle.regions.proofs.Orders.{is_add}
use Rattle.regions.proofs.Valuations.{length-zeros, value_zeros, length-delayed, value_delayed, length-reset_all, value_reset_all}
use Rattle.replay.specs.declared.moments.Moment.{Moment}
use Rattle.replay.specs.Meaning.{clock_of, Tells}
use Rattle.replay.specs.Changes.{Waited, Taken}
use Rattle.replay.specs.Moves.{parts, delayed_state, edge_state, start_state}
use Rattle.replay.specs.Outcomes.{AtStart}

is_parts : (d k : ℕ) → 0 < d → Is d (parts d k) k
is_parts zero k h = absurd (omega arith)
is_parts (suc d) k h = refl

pub waited-tells : (n d k : ℕ) (m after : Moment) (s : State)
    → n ≤ 8
    → 0 < d
    → Waited k m after
    → Tells n d m s
    → Tells n d after (delayed_state (parts d k) s)
waited-tells n d k m after s few pos waited tells =
    record {
      location = waited.location ∙ tells.location;
      clocks = length-delayed (parts d k) s.valuation ∙ tells.clocks;
      value = λ i h.
          let inside : i < length s.valuation = omega (arith, tells.clocks) in
          let small : i < 8 = omega arith in
          rw
          (value_delayed (parts d k) s.valuation i inside, waited.clocks i small)
          (is_add d (value_of s.valuation i) (parts d k) (clock_of m i) k (tells.value i h) (is_parts d k pos));
      time = rw waited.time (is_add d s.time (parts d k) m.time k tells.time (is_parts d k pos));
    }

pub taken_tells : (n d : ℕ) (e : Edge) (m after : Moment) (s : State)
    → n ≤ 8
    → Taken e m after
    → Tells n d m s
    → Tells n d after (edge_state e s)
taken_tells n d e m after s few taken tells =
    record {
      location = taken.location;
      clocks = length-reset_all s.valuation e.resets ∙ tells.clocks;
      value = λ i h.
          let small : i < 8 = omega arith in
          rw
          (value_reset_all s.valuation e.resets i, taken.clocks i small)
          (is_set_back (among i e.resets) d (value_of s.valuation i) (clock_of m i) (tells.value i h));
      time = rw taken.time tells.time;
    }

pub start_tells : (a : Automaton) (d : ℕ) (m : Moment) → a.clocks ≤ 8 → AtStart m → Tells a.clocks d m (start_state a)
start_tells a d m few at =
    record {
      location = at.location;
      clocks = length-zeros a.clocks;
      value = λ i h.
          let small : i < 8 = omega arith in
          rw (value_zeros a.clocks i, at.clocks i small) (omega arith);
      time = rw at.time (omega arith);
    }
