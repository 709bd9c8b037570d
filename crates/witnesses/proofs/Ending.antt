-- Each state that a moment tells shows the region that is shown at the moment.
use Rattle.std.proofs.Common.{ℕ, zero, suc, ◌≤◌, subst, arith}
use Rattle.automata.specs.Automata.{Automaton}
use Rattle.automata.specs.Regions.{top}
use Rattle.automata.specs.Runs.{State}
use Rattle.regions.specs.Alike.{ShowsState}
use Rattle.regions.specs.Cells.{Region, Normal}
use Rattle.regions.proofs.Grid.{point_of_on, point_of_reads}
use Rattle.cells.specs.declared.frames.Frame.{Frame}
use Rattle.cells.specs.Frames.{FrameIs}
use Rattle.replay.specs.declared.moments.Moment.{Moment}
use Rattle.replay.specs.Meaning.{clock_of, Tells}
use Rattle.realise.specs.Ends.{point_at, ShownBy}

-- the time, and the values of the clocks
abbrev parts_of : Moment → ℕ → ℕ
parts_of m zero = m.time
parts_of m (suc i) = clock_of m i

-- over the frame of an automaton
module _ (a : Automaton) (f : Frame) (is : FrameIs a f) (d : ℕ) (m : Moment) (K : Region) (shown : ShownBy f.clocks f.top (point_at d m) K) where
  own : ShownBy a.clocks (top a) (point_at d m) K
  own =
      let one = subst (λ (n : ℕ). ShownBy n f.top (point_at d m) K) is.clocks shown in
      subst (λ (t : ℕ). ShownBy a.clocks t (point_at d m) K) is.top one

  pub end_normal : Normal a.clocks (top a) K
  end_normal = own.normal

  pub end_shows : 1 ≤ d → (s : State) → Tells a.clocks d m s → ShowsState a s K
  end_shows pos s tells =
      let reads = point_of_reads a.clocks d (parts_of m) s tells.clocks tells.value tells.time in
      record {
        denominator = d;
        point = point_at d m;
        some = omega arith;
        on = point_of_on a.clocks m.location.0 d (parts_of m) (omega arith);
        reads = record { location = tells.location; clocks = reads.clocks; value = reads.value; time = reads.time };
        shows = own.shows;
      }
