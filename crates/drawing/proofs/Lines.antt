-- A text that is written line by line: what a loop over tests, clocks, positions or steps has come to.
use Rattle.std.proofs.Common.{◌≡◌, ℕ, suc, ◌+◌, ◌<◌, ◌≤◌, List, [], ◌∷◌, ◌++◌, map, length, get_or, drop, codes, sym, refl, ap, ◌∙◌, append_assoc, append-nil, add-one}
use Rattle.std.specs.List.{flat_map}
use Rattle.std.proofs.lemmas.List.{at_drop_more, at_drop_all}
use Rattle.std.proofs.lemmas.List.Folds.{flat_map-map}
use Rattle.rows.specs.declared.constraints.Constraint.{Constraint as Test}
use Rattle.clockworks.specs.declared.parts.Position.{Position}
use Rattle.rows.specs.Parts.{constraint_value}
use Rattle.clockworks.specs.Meaning.{Adds, constraints, invariant_of}
use Rattle.clockworks.proofs.Writing.{adds_more, adds_same}
use Rattle.drawing.specs.Sheets.{test_text, tests_text, clock_text, first_clocks, each_clock, resets_text, position_line, position_lines}

pub clocks_more : {start text next : List ℕ} (n : ℕ) → Adds start (first_clocks n) text → Adds text (clock_text n) next → Adds start (first_clocks (n + 1)) next
clocks_more n h one = adds_same (ap first_clocks (sym (add-one n))) (adds_more h one)

-- the positions from number i on are still to be written
pub record Left (start : List ℕ) (ps : List Position) (i : ℕ) (text : List ℕ) : Type 0 where
  pub rest : text ++ position_lines i (map invariant_of (drop i ps)) ≡ start ++ position_lines 0 (map invariant_of ps)

pub left-more : {text next : List ℕ} (start : List ℕ) (ps : List Position) (i : ℕ) (p : Position) → i < length ps → p ≡ get_or ps i p → Left start ps i text → Adds text (position_line i (invariant_of p)) next → Left start ps (i + 1) next
left-more {text = text} {next = next} start ps i p lt is h one =
    let after = position_lines (suc i) (map invariant_of (drop (i + 1) ps)) in
    let step : position_lines i (map invariant_of (drop i ps)) ≡ position_line i (invariant_of p) ++ after = at_drop_more (λ l. position_lines i (map invariant_of l)) ps i p lt ∙ ap (λ (q : Position). position_line i (invariant_of q) ++ after) (sym is) in
    record {
      rest = ap (λ (k : ℕ). next ++ position_lines k (map invariant_of (drop (i + 1) ps))) (add-one i) ∙ (ap (λ (l : List ℕ). l ++ after) one.longer ∙ (append_assoc text (position_line i (invariant_of p)) after ∙ (ap (λ (l : List ℕ). text ++ l) (sym step) ∙ h.rest)));
    }

pub left-none : {text : List ℕ} (start : List ℕ) (ps : List Position) (i : ℕ) → length ps ≤ i → Left start ps i text → Adds start (position_lines 0 (map invariant_of ps)) text
left-none {text = text} start ps i le h =
    record { longer = sym (ap (λ (l : List ℕ). text ++ l) (at_drop_all (λ l. position_lines i (map invariant_of l)) ps i le) ∙ append-nil text) ∙ h.rest }

-- the first test, and the others behind it
pub tests_first : (word : List ℕ) (ts rest : List Test) (t : Test) → ts ≡ t ∷ rest → tests_text word (constraints ts) ≡ test_text word (constraint_value t) ++ flat_map (λ u. test_text (codes ",") (constraint_value u)) rest
tests_first word ts rest t e =
    ap (λ (l : List Test). tests_text word (constraints l)) e
    ∙ ap (λ (l : List ℕ). test_text word (constraint_value t) ++ l) (flat_map-map (test_text (codes ",")) constraint_value rest)

pub resets-some : (rs : List ℕ) → (length rs ≡ 0 → ⊥) → resets_text rs ≡ codes " reset" ++ each_clock rs
resets-some [] ne = absurd (ne refl)
resets-some (r ∷ rs) ne = refl
