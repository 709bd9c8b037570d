-- The parts of an edge stand one behind the other.
use Rattle.std.proofs.Common.{◌≡◌, ℕ, ◌+◌, ◌≤◌, List, ◌∷◌, ◌++◌, length, get_or, drop, ap, ◌∙◌, arith}
use Rattle.std.proofs.lemmas.List.{take_rest}
use Rattle.automata.specs.Automata.{Edge}
use Rattle.automata.specs.Rows.{write_constraints}
use Rattle.rows.specs.Parts.{edge_words}
use Rattle.rows.proofs.Parts.{behind_two}
use Rattle.rows.proofs.edges.edge_at.Goals as goal

-- behind the guard stand the resets, and then the rest
abbrev afterGuard : Edge → List ℕ → List ℕ
afterGuard e rest = length e.resets ∷ (e.resets ++ rest)

ends : (row : List ℕ) (at : ℕ) (e : Edge) (rest : List ℕ)
    → drop at row ≡ edge_words e rest
    → (get_or row at 0 ≡ e.source)
    × (get_or row (at + 1) 0 ≡ e.target)
    × (drop (at + 2) row ≡ length e.guard ∷ (write_constraints e.guard ++ afterGuard e rest))
    × (at + 2 ≤ length row)
ends row at e rest h = behind_two row at e.source e.target (length e.guard ∷ (write_constraints e.guard ++ afterGuard e rest)) h

pub returns-in_err-guard : goal.returns-in_err-guard
returns-in_err-guard c =
    rw
    c.from_residual-in_err-guard.ensures
    (record {
      part =
          λ e rest h.
          c.in_err-guard.ensures.part e.guard (afterGuard e rest) (ends c.args.row.now c.args.at e rest h).2;
      further = tt;
    })

pub returns-in_err-resets : goal.returns-in_err-resets
returns-in_err-resets c =
    rw
    c.from_residual-in_err-resets.ensures
    (record {
      part =
          λ e rest h.
          let guard = c.in_ok-guard.ensures.part e.guard (afterGuard e rest) (ends c.args.row.now c.args.at e rest h).2 in
          c.in_err-resets.ensures.part (length e.resets) e.resets rest guard.1 (omega arith);
      further = tt;
    })

pub returns : goal.returns
returns c =
    record {
      part =
          λ e rest h.
          let two = ends c.args.row.now c.args.at e rest h in
          let words : c.in_ok-get.field-0.now ≡ edge_words e rest = c.in_ok-get.ensures.lookup.0.2 ∙ take_rest c.args.row.now c.args.at ∙ h in
          let guard = c.in_ok-guard.ensures.part e.guard (afterGuard e rest) two.2 in
          let resets = c.in_ok-resets.ensures.part (length e.resets) e.resets rest guard.1 (omega arith) in (
            record {
              source = ap (λ (ws : List ℕ). get_or ws 0 0) words;
              target = ap (λ (ws : List ℕ). get_or ws 1 0) words;
              guard = guard.0;
              resets = resets.0;
            },
            resets.1,
            resets.2,
          );
      further =
          let guard = c.in_ok-guard.ensures.further in
          let resets = c.in_ok-resets.ensures.further in
          (omega (arith, guard, resets), resets.1);
    }
