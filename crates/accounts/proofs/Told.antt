-- A text that is written move by move, and in a line clock by clock.
use Rattle.std.proofs.Common.{◌≡◌, ℕ, suc, ◌+◌, min, List, [], ◌∷◌, ◌++◌, length, get_or, Ok, Result, codes, sym, ap, ◌∙◌, subst, append_assoc, add-one}
use Rattle.automata.specs.Automata.{Automaton}
use Rattle.clockworks.specs.Meaning.{Adds}
use Rattle.clockworks.proofs.Writing.{adds_more, adds_same}
use Rattle.replay.specs.declared.moments.Move.{Move}
use Rattle.replay.specs.declared.moments.Moment.{Moment}
use Rattle.replay.specs.Meaning.{clock_of}
use Rattle.accounts.specs.declared.widths.Widths.{Widths}
use Rattle.columns.specs.Columns.{padded}
use Rattle.accounts.specs.Lines.{PartsText, name_of, MoveText, cell_of_clock, ClocksText, next_clock, LineText, Lines, no_line, next_line}
use Rattle.accounts.specs.Walks.{Walked, no_move, next_move}

module _ {X : Type 0} (text : X → List ℕ) (names : List X) (w : Widths) (d : ℕ) (m : Moment) (start : List ℕ) where
  -- the clocks below n are written after start
  abbrev pub ClocksWritten : ℕ → List ℕ → Type 0
  ClocksWritten n next = (words : List ℕ) × ClocksText text names w d m n words × Adds start words next

  pub clocks_more : {now₀ now₁ : List ℕ} (n : ℕ) (name cell : List ℕ)
      → ClocksWritten n now₀
      → name ≡ name_of text names n
      → ((value : List ℕ) × PartsText d (clock_of m n) value × (cell ≡ (name ++ codes " = ") ++ value))
      → Adds now₀ (codes "  " ++ padded (get_or w.clocks n 0) cell) now₁
      → ClocksWritten (n + 1) now₁
  clocks_more {now₁ = now₁} n name cell (words, clocks, written) named (value, is, spelt) more =
      let whole : cell ≡ cell_of_clock text names n value = spelt ∙ ap (λ (l : List ℕ). (l ++ codes " = ") ++ value) named in
      let more' = adds_same (ap (λ (l : List ℕ). codes "  " ++ padded (get_or w.clocks n 0) l) whole) more in
      let all : ClocksWritten (suc n) now₁ = (_, next_clock clocks is, adds_more written more') in
      subst (λ (k : ℕ). ClocksWritten k now₁) (sym (add-one n)) all

joined : (a b c d e rest : List ℕ) → (a ++ (b ++ (c ++ (d ++ e)))) ++ rest ≡ a ++ (b ++ (c ++ (d ++ (e ++ rest))))
joined a b c d e rest = simp append_assoc

module _ {X : Type 0} (text : X → List ℕ) (clocks positions : List X) (w : Widths) (d : ℕ) where
  pub line_written : {t₀ t₁ t₂ t₃ : List ℕ} (by : Move) (after : Moment) (moved time name : List ℕ)
      → MoveText d by moved
      → ((words : List ℕ) × PartsText d after.time words × (time ≡ codes "at " ++ words))
      → name ≡ name_of text positions after.location.0
      → Adds t₀ (padded w.moves moved ++ (codes "  " ++ (padded w.times time ++ (codes "  " ++ padded w.positions name)))) t₁
      → ((words : List ℕ) × ClocksText text clocks w d after (min (length clocks) 8) words × Adds t₁ words t₂)
      → Adds t₂ (codes "\n") t₃
      → (line : List ℕ) × LineText text clocks positions w d by after line × Adds t₀ line t₃
  line_written by after moved time name move_is (timed, time_is, spelt) named cells (clocked, clocks_are, e) end = (
    _,
    record {
      move_words = moved;
      time_words = timed;
      clock_words = clocked;
      move_is = move_is;
      time_is = time_is;
      clocks_are = clocks_are;
      spelt = joined (padded w.moves moved) (codes "  ") (padded w.times (codes "at " ++ timed)) (codes "  ") (padded w.positions (name_of text positions after.location.0)) (clocked ++ codes "\n");
    },
    adds_more
        (adds_same
        (ap (λ (l : List ℕ). padded w.moves moved ++ (codes "  " ++ (padded w.times l ++ (codes "  " ++ padded w.positions name)))) spelt
        ∙ ap (λ (l : List ℕ). padded w.moves moved ++ (codes "  " ++ (padded w.times (codes "at " ++ timed) ++ (codes "  " ++ padded w.positions l)))) named)
        cells)
        (adds_more e end),
  )

  -- what adds a line after each move tells the run
  pub lines_walked : {S E : Type 0} (a : Automaton) (shown : S → List ℕ) (then : S → Move → Moment → Result S E → Type 0) (first : S)
      → ((done : S) (by : Move) (after : Moment) (next : S) → then done by after (Ok next) → (line : List ℕ) × LineText text clocks positions w d by after line × Adds (shown done) line (shown next))
      → shown first ≡ []
      → (moves : List Move) (m : Moment) (last : S)
      → Walked a d then first moves m last
      → Lines a text clocks positions w d moves m (shown last)
  lines_walked a shown then first adds empty moves m last (no_move at) =
      subst (λ (l : List ℕ). Lines a text clocks positions w d [] m l) (sym empty) (no_line at)
  lines_walked a shown then first adds empty moves m last (next_move {moves = before} {m = at} {done = done} by so_far advanced called) =
      let one = adds done by m last called in
      subst (λ (l : List ℕ). Lines a text clocks positions w d (before ++ by ∷ []) m l) (sym one.2.longer)
      (next_line by (lines_walked a shown then first adds empty before at done so_far) advanced one.1)
