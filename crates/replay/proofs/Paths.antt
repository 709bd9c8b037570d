-- Lists of moves, followed one after the other.
use Rattle.std.proofs.Common.{◌≡◌, ℕ, ◌+◌, ◌<◌, ◌≤◌, Bool, true, false, cond, List, [], ◌∷◌, ◌++◌, sym, refl, ap, ◌∙◌, subst, inl, inr, arith}
use mathlib.Core.Option.{some, none-ne-some}
use Rattle.automata.specs.Automata.{nth, Edge, Automaton}
use Rattle.automata.specs.Runs.{State, Reached, start, next}
use Rattle.regions.specs.Moves.{among}
use Rattle.regions.proofs.Bounds.{reset-bound}
use Rattle.replay.specs.declared.moments.Move.{Move}
use Rattle.replay.specs.declared.moments.Move.TheVariants.{Wait, Step}
use Rattle.replay.specs.declared.moments.Moment.{Moment}
use Rattle.replay.specs.declared.moments.Fault.{Fault}
use Rattle.replay.specs.declared.moments.Fault.TheVariants.{
  NoDenominator,
  NoRoom,
  NotAllowedAtStart,
  NoSuchStep,
  OtherPosition,
  GuardFails,
  InvariantFails,
}
use Rattle.replay.specs.Meaning.{clock_of, Tells, ComeTo}
use Rattle.replay.specs.Moves.{edge_state, start_state, Takes, Makes, Path, Run}
use Rattle.replay.specs.Outcomes.{AtStart, After, Advanced, Fails, waits, Refused}
use Rattle.replay.proofs.Lists.{some_same}
use Rattle.replay.proofs.Moving.{step_of, reached_start}
use Rattle.replay.proofs.Telling.{start_tells}

-- a move leads to one state only
makes_same : (a : Automaton) (d : ℕ) (by : Move) (s u v : State) → Makes a d by s u → Makes a d by s v → u ≡ v
makes_same a d (Wait k) s u v m n = m.to ∙ sym n.to
makes_same a d (Step i) s u v (e, m) (f, n) =
    m.to ∙ (ap (λ (x : Edge). edge_state x s) (some_same (nth a.edges i) e f m.number n.number) ∙ sym n.to)

path_same : (a : Automaton) (d : ℕ) (s : State) (ms : List Move) (t u : State) → Path a d s ms t → Path a d s ms u → t ≡ u
path_same a d s [] t u p q = sym p ∙ q
path_same a d s (m ∷ ms) t u (v, made, p) (w, makes, q) =
    path_same a d w ms t u (subst (λ (x : State). Path a d x ms t) (makes_same a d m s v w made makes) p) q

path_split : (a : Automaton) (d : ℕ) (s : State) (ms ns : List Move) (t : State)
    → Path a d s (ms ++ ns) t
    → (u : State) × Path a d s ms u × Path a d u ns t
path_split a d s [] ns t p = (s, refl, p)
path_split a d s (m ∷ ms) ns t (v, made, p) =
    let (u, before, behind) = path_split a d v ms ns t p in
    (u, (v, made, before), behind)

path_on : (a : Automaton) (d : ℕ) (s : State) (ms : List Move) (by : Move) (t u : State)
    → Path a d s ms t
    → Makes a d by t u
    → Path a d s (ms ++ (by ∷ [])) u
path_on a d s [] by t u p made = (u, subst (λ (x : State). Makes a d by x u) (sym p) made, refl)
path_on a d s (m ∷ ms) by t u (v, makes, p) made = (v, makes, path_on a d v ms by t u p made)

waits-++ : (ms ns : List Move) → waits (ms ++ ns) ≡ waits ms + waits ns
waits-++ [] ns = omega arith
waits-++ (Wait k ∷ ms) ns = omega (arith, waits-++ ms ns)
waits-++ (Step i ∷ ms) ns = waits-++ ms ns

-- the moves so far are a run to this moment, and no clock is ahead of the time
pub record Followed (a : Automaton) (d : ℕ) (ms : List Move) (m : Moment) : Type 0 where
  pub run : (s : State) × Run a d ms s × Reached a s × Tells a.clocks d m s
  pub time : m.time ≡ waits ms
  pub clocks : (i : ℕ) → i < 8 → clock_of m i ≤ m.time

pub followed_start : (a : Automaton) (d : ℕ) (m : Moment) → a.clocks ≤ 8 → AtStart m → ComeTo a d m → Followed a d [] m
followed_start a d m few at (s, reached, tells) =
    record {
      run = (
        start_state a,
        record { start = reached_start reached; path = refl },
        start (reached_start reached),
        start_tells a d m few at,
      );
      time = at.time;
      clocks = λ i h. omega (arith, at.clocks i h);
    }

after_time : (a : Automaton) (by : Move) (m after : Moment) → After a by m after → after.time ≡ m.time + waits (by ∷ [])
after_time a (Wait k) m after h = omega (arith, h.time)
after_time a (Step i) m after (e, number, h) = omega (arith, h.time)

after_clocks : (a : Automaton) (by : Move) (m after : Moment)
    → After a by m after
    → ((i : ℕ) → i < 8 → clock_of m i ≤ m.time)
    → (i : ℕ)
    → i < 8
    → clock_of after i ≤ after.time
after_clocks a (Wait k) m after h behind i small = omega (arith, h.clocks i small, h.time, behind i small)
after_clocks a (Step j) m after (e, number, h) behind i small =
    rw (h.clocks i small, h.time) (reset-bound (clock_of m i) m.time (among i e.resets) (behind i small))

pub followed_on : (a : Automaton) (d : ℕ) (ms : List Move) (by : Move) (m after : Moment)
    → Followed a d ms m
    → Advanced a d m by after
    → Followed a d (ms ++ (by ∷ [])) after
followed_on a d ms by m after f h =
    let (s, run, reached, tells) = f.run in
    let (u, made, told) = h.makes s tells in
    record {
      run = (
        u,
        record { start = run.start; path = path_on a d (start_state a) ms by s u run.path made },
        next reached (step_of a d by s u made),
        told,
      );
      time = omega (arith, after_time a by m after h.moment, f.time, waits-++ ms (by ∷ []));
      clocks = after_clocks a by m after h.moment f.clocks;
    }

-- a move that cannot be made
module _ (a : Automaton) (d : ℕ) (ms ns : List Move) (m : Moment) (f : Followed a d ms m) where
  no_run : (by : Move)
      → ((s u : State) → Tells a.clocks d m s → Makes a d by s u → ⊥)
      → (t : State)
      → Run a d (ms ++ (by ∷ ns)) t
      → ⊥
  no_run by never t run =
      let (s, ran, reached, tells) = f.run in
      let (u, before, (v, made, behind)) = path_split a d (start_state a) ms (by ∷ ns) t run.path in
      never s v tells (subst (λ (x : State). Makes a d by x v) (path_same a d (start_state a) ms u s before ran.path) made)

  no_step : (i : ℕ) (e : Edge)
      → nth a.edges i ≡ some e
      → ((s u : State) → Tells a.clocks d m s → Takes a i e s u → ⊥)
      → (t : State)
      → Run a d (ms ++ (Step i ∷ ns)) t
      → ⊥
  no_step i e number never =
      no_run
      (Step i)
      (λ s u tells made.
      let same = some_same (nth a.edges i) made.0 e made.1.number number in
      never s u tells (subst (λ (x : Edge). Takes a i x s u) same made.1))

  pub refused_at : (by : Move) (fault : Fault) → Fails a d m by fault → Refused a d (ms ++ (by ∷ ns)) fault
  refused_at (Wait k) NoDenominator h = h
  refused_at (Wait k) NoRoom (inl (i, small, h)) = omega (arith, f.clocks i small, f.time, waits-++ ms (Wait k ∷ ns))
  refused_at (Wait k) NoRoom (inr h) = omega (arith, f.time, waits-++ ms (Wait k ∷ ns))
  refused_at (Wait k) NotAllowedAtStart h = absurd h
  refused_at (Wait k) NoSuchStep h = absurd h
  refused_at (Wait k) OtherPosition h = absurd h
  refused_at (Wait k) GuardFails h = absurd h
  refused_at (Wait k) InvariantFails h = no_run (Wait k) (λ s u tells made. h s tells made.allowed)
  refused_at (Step i) NoDenominator h = h
  refused_at (Step i) NoRoom h = absurd h
  refused_at (Step i) NotAllowedAtStart h = absurd h
  refused_at (Step i) NoSuchStep h = no_run (Step i) (λ s u tells made. none-ne-some made.0 (sym h ∙ made.1.number))
  refused_at (Step i) OtherPosition (e, number, h) =
      no_step i e number (λ s u tells made. h (made.source ∙ sym tells.location))
  refused_at (Step i) GuardFails (e, number, h) = no_step i e number (λ s u tells made. h s tells made.guard)
  refused_at (Step i) InvariantFails (e, number, h) = no_step i e number (λ s u tells made. h s tells made.allowed)
