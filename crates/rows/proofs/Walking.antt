-- Going over a row word by word: what each step says of the reading from there on.
use Rattle.std.proofs.Common.{◌≡◌, ℕ, zero, suc, ◌+◌, ◌-◌, ◌<◌, ◌≤◌, true, List, [], ◌∷◌, length, get_or, drop, Ok, Err, Result, refl, ap, ◌∙◌, subst, zero-add, add-one, arith, length-append, drop_of_length-le, drop-cons, lt-ltb, inl, inr}
use Rattle.std.proofs.lemmas.Bool.{cases_lt}
use mathlib.Core.Option.{some, none}
use Rattle.automata.specs.Automata.{Constraint, Edge}
use Rattle.rows.specs.Parse.{Outcome, prepend, and_then, upper_only, all_relations, fits, constraint, parse_constraints, parse_conjunction, parse_invariants, parse_clocks, parse_resets, parse_edge, parse_edges}
use Rattle.rows.specs.declared.refusals.Refusal.{Refusal}
use Rattle.rows.specs.Reading.{Leads, Repeats, RepeatCases, Repeated, Counted, Step, Tells}
use Rattle.automata.specs.Rows.{fine_edge}
use Rattle.rows.specs.Parts.{edge_words}
use Rattle.rows.proofs.Round.{Written, written_edge}

-- the words from a place on
pub drop-one : (row : List ℕ) (at : ℕ) → at < length row → drop at row ≡ get_or row at 0 ∷ drop (at + 1) row
drop-one row at h = rw (add-one, drop-cons row at 0)

drop-two : (row : List ℕ) (at : ℕ)
    → at + 2 ≤ length row
    → drop at row ≡ get_or row at 0 ∷ get_or row (at + 1) 0 ∷ drop (at + 2) row
drop-two row at h =
    let one = drop-one row at (omega arith) in
    let two = drop-one row (at + 1) (omega arith) in
    let e : at + 1 + 1 ≡ at + 2 = omega arith in
    let f : drop (at + 1 + 1) row ≡ drop (at + 2) row = ap (λ (m : ℕ). drop m row) e in
    cc

drop-three : (row : List ℕ) (at : ℕ)
    → at + 3 ≤ length row
    → drop at row ≡ get_or row at 0 ∷ get_or row (at + 1) 0 ∷ get_or row (at + 2) 0 ∷ drop (at + 3) row
drop-three row at h =
    let two = drop-two row at (omega arith) in
    let three = drop-one row (at + 2) (omega arith) in
    let e : at + 2 + 1 ≡ at + 3 = omega arith in
    let f : drop (at + 2 + 1) row ≡ drop (at + 3) row = ap (λ (m : ℕ). drop m row) e in
    cc

-- how readings lead on
pub leads_refl : {A : Type 0} (o : Outcome A) → Leads o o
leads_refl o = record { fails = λ e. e; reads = λ v rest e. (v, e) }

pub leads_trans : {A B C : Type 0} {x : Outcome A} {y : Outcome B} {z : Outcome C} → Leads x y → Leads y z → Leads x z
leads_trans f g =
    record {
      fails = λ e. g.fails (f.fails e);
      reads = λ v rest e. let m = f.reads v rest e in g.reads m.0 rest m.1;
    }

leads_prepend : {A : Type 0} (x : A) (o : Outcome (List A)) → Leads o (prepend x o)
leads_prepend x none =
    record { fails = λ e. refl; reads = λ v rest e. let z : ◌≡◌ {A = ℕ} 0 1 = cc in absurd (omega arith) }
leads_prepend x (some r) =
    record {
      fails = λ e. let z : ◌≡◌ {A = ℕ} 0 1 = cc in absurd (omega arith);
      reads = λ v rest e. (x ∷ r.0, cc);
    }

-- a list that is read by its number of elements, element by element, each where the one before ended
module _ {A : Type 0} (parse : ℕ → List ℕ → Outcome A) (row : List ℕ) (call : ℕ → Result ℕ Refusal → Type 0) (step : (at : ℕ) (r : Result ℕ Refusal) → call at r → Step parse row at r) where
  repeats-lead : (n from end : ℕ)
      → from ≤ length row
      → Repeats call n from end
      → (from + n ≤ end) × (end ≤ length row) × ((k : ℕ) → Leads (parse k (drop end row)) (parse (n + k) (drop from row)))
  repeats-lead zero from end h e =
      let lead : (k : ℕ) → Leads (parse k (drop end row)) (parse (0 + k) (drop from row)) = λ k. rw (e, zero-add) (leads_refl _) in
      (omega arith, omega arith, lead)
  repeats-lead (suc n) from end h r =
      let before = repeats-lead n from r.0 h r.1 in
      let last = step r.0 (Ok end) r.2 in
      let lead : (k : ℕ) → Leads (parse k (drop end row)) (parse (suc n + k) (drop from row)) =
      λ k.
      let e : n + suc k ≡ suc n + k = omega arith in
      subst (λ (m : ℕ). Leads (parse k (drop end row)) (parse m (drop from row))) e (leads_trans (last.2 k) (before.2 (suc k))) in
      (omega (arith, before.0, last.0), last.1, lead)

  each : (whole : List ℕ → Outcome A) (v : A) (at count from : ℕ)
      → ((ws : List ℕ) → parse 0 ws ≡ some (v, ws))
      → whole (drop at row) ≡ parse count (drop from row)
      → at < from + count
      → from ≤ length row
      → (r : Result ℕ Refusal)
      → RepeatCases call count from r
      → Tells whole row at r
  each whole v at count from none_of_it e h i (Ok end) r =
      let l = repeats-lead count from end i r in
      let m = (l.2 0).reads v (drop end row) (none_of_it (drop end row)) in
      let f : count + 0 ≡ count = omega arith in
      (omega (arith, l.0), l.1, (m.0, e ∙ subst (λ (k : ℕ). parse k (drop from row) ≡ some (m.0, drop end row)) f m.1))
  each whole v at count from none_of_it e h i (Err x) r =
      let l = repeats-lead r.0 from r.1 i r.3 in
      let last = step r.1 (Err x) r.4 in
      let k : ℕ = count - (r.0 + 1) in
      let f : r.0 + suc k ≡ count = omega (arith, r.2) in
      (e ∙ subst (λ (m : ℕ). parse m (drop from row) ≡ none) f ((l.2 (suc k)).fails (last.0 k)), last.1)

pub each-tells : {A : Type 0} {call : ℕ → Result ℕ Refusal → Type 0} (parse : ℕ → List ℕ → Outcome A) (row : List ℕ) (whole : List ℕ → Outcome A) (v : A) (at count from : ℕ) (r : Result ℕ Refusal)
    → Repeated call count from r
    → ((next : ℕ) (x : Result ℕ Refusal) → call next x → Step parse row next x)
    → ((ws : List ℕ) → parse 0 ws ≡ some (v, ws))
    → whole (drop at row) ≡ parse count (drop from row)
    → at < from + count
    → from ≤ length row
    → Tells whole row at r
each-tells {call = call} parse row whole v at count from r run step none_of_it e h i = each parse row call step whole v at count from none_of_it e h i r run.cases

pub counted-tells : {A : Type 0} {call : ℕ → Result ℕ Refusal → Type 0} (parse : ℕ → List ℕ → Outcome A) (row : List ℕ) (whole : List ℕ → Outcome A) (v : A) (at : ℕ) (r : Result ℕ Refusal)
    → Counted call row at r
    → ((next : ℕ) (x : Result ℕ Refusal) → call next x → Step parse row next x)
    → ((ws : List ℕ) → parse 0 ws ≡ some (v, ws))
    → (length row ≤ at → whole (drop at row) ≡ none)
    → (at < length row → whole (drop at row) ≡ parse (get_or row at 0) (drop (at + 1) row))
    → Tells whole row at r
counted-tells parse row whole v at r run step none_of_it ends starts =
    elim (cases_lt at (length row)) [
      | inl h ↦ each-tells parse row whole v at (get_or row at 0) (at + 1) r (run.there h) step none_of_it (starts h) (omega arith) (omega arith)
      | inr h ↦ rw (run.missing h) (ends h, refl)
    ]

-- a constraint
module _ (n r : ℕ) (row : List ℕ) (at : ℕ) (room : at + 3 ≤ length row) where
  pub constraint-fits : fits n r (get_or row at 0) (get_or row (at + 1) 0) (get_or row (at + 2) 0) ≡ true
      → (k : ℕ)
      → Leads (parse_constraints n r k (drop (at + 3) row)) (parse_constraints n r (suc k) (drop at row))
  constraint-fits e k =
      rw
      (drop-three row at room, e)
      (leads_prepend
      (constraint (get_or row at 0) (get_or row (at + 1) 0) (get_or row (at + 2) 0))
      (parse_constraints n r k (drop (at + 3) row)))

-- a conjunction
pub conjunction_ends : (n r : ℕ) (row : List ℕ) (at : ℕ) → length row ≤ at → parse_conjunction n r (drop at row) ≡ none
conjunction_ends n r row at h = rw (drop_of_length-le row h)

pub conjunction_starts : (n r : ℕ) (row : List ℕ) (at : ℕ)
    → at < length row
    → parse_conjunction n r (drop at row) ≡ parse_constraints n r (get_or row at 0) (drop (at + 1) row)
conjunction_starts n r row at h = rw (drop-one row at h)

-- one invariant of the list
pub invariant-step : (n : ℕ) (row : List ℕ) (at : ℕ) (r : Result ℕ Refusal)
    → Tells (parse_conjunction n upper_only) row at r
    → Step (parse_invariants n) row at r
invariant-step n row at (Ok end) t =
    (t.0, t.1, λ k. rw t.2.1 (leads_prepend t.2.0 (parse_invariants n k (drop end row))))
invariant-step n row at (Err f) t = (λ k. rw t.0, t.1)

-- a clock that is reset
pub clock-more : (n : ℕ) (row : List ℕ) (at : ℕ)
    → at < length row
    → get_or row at 0 < n
    → (k : ℕ)
    → Leads (parse_clocks n k (drop (at + 1) row)) (parse_clocks n (suc k) (drop at row))
clock-more n row at h i k =
    rw (drop-one row at h, lt-ltb (get_or row at 0) n i) (leads_prepend (get_or row at 0) (parse_clocks n k (drop (at + 1) row)))

pub resets-end : (n : ℕ) (row : List ℕ) (at : ℕ) → length row ≤ at → parse_resets n (drop at row) ≡ none
resets-end n row at h = rw (drop_of_length-le row h)

pub resets-start : (n : ℕ) (row : List ℕ) (at : ℕ)
    → at < length row
    → parse_resets n (drop at row) ≡ parse_clocks n (get_or row at 0) (drop (at + 1) row)
resets-start n row at h = rw (drop-one row at h)

-- an edge
module _ (n p : ℕ) (row : List ℕ) (at : ℕ) (room : at + 2 ≤ length row) where
  pub edge-resets : (guard : List Constraint) (rest : List ℕ)
      → get_or row at 0 < p
      → get_or row (at + 1) 0 < p
      → parse_conjunction n all_relations (drop (at + 2) row) ≡ some (guard, rest)
      → parse_resets n rest ≡ none
      → parse_edge n p (drop at row) ≡ none
  edge-resets guard rest h i e f =
      rw (drop-two row at room, lt-ltb (get_or row at 0) p h, lt-ltb (get_or row (at + 1) 0) p i, e, f)

  pub edge-read : (guard : List Constraint) (rest : List ℕ) (resets end : List ℕ)
      → get_or row at 0 < p
      → get_or row (at + 1) 0 < p
      → parse_conjunction n all_relations (drop (at + 2) row) ≡ some (guard, rest)
      → parse_resets n rest ≡ some (resets, end)
      → (e : Edge) × (parse_edge n p (drop at row) ≡ some (e, end))
  edge-read guard rest resets end h i e f = (
    record { source = get_or row at 0; target = get_or row (at + 1) 0; guard = guard; resets = resets },
    rw (drop-two row at room, lt-ltb (get_or row at 0) p h, lt-ltb (get_or row (at + 1) 0) p i, e, f),
  )

-- edges to the end: as much fuel as there are words is enough, since each edge takes some
edge-shorter : (n p : ℕ) (ws rest : List ℕ) (e : Edge) → parse_edge n p ws ≡ some (e, rest) → length rest < length ws
edge-shorter n p ws rest e h =
    let w = subst (Written (λ x r. (edge_words x r ≡ ws) × (fine_edge n p x ≡ true))) h (written_edge n p ws) in
    let l : length (edge_words e rest) ≡ length ws = ap length w.0 in
    omega (arith, simp length-append at l)

enough_fuel : (n p f g : ℕ) (ws : List ℕ) → length ws ≤ f → length ws ≤ g → parse_edges n p f ws ≡ parse_edges n p g ws
enough_fuel n p f g [] h i = refl
enough_fuel n p zero g (w ∷ ws) h i = absurd (omega arith)
enough_fuel n p (suc f) zero (w ∷ ws) h i = absurd (omega arith)
enough_fuel n p (suc f) (suc g) (w ∷ ws) h i =
    go (parse_edge n p (w ∷ ws)) (λ e rest q. edge-shorter n p (w ∷ ws) rest e q) (λ rest s. enough_fuel n p f g rest (omega arith) (omega arith))
  where
    go : (o : Outcome Edge)
        → ((e : Edge) (rest : List ℕ) → o ≡ some (e, rest) → length rest < length (w ∷ ws))
        → ((rest : List ℕ) → length rest < length (w ∷ ws) → parse_edges n p f rest ≡ parse_edges n p g rest)
        → and_then o (λ e rest. prepend e (parse_edges n p f rest)) ≡ and_then o (λ e rest. prepend e (parse_edges n p g rest))
    go none shorter same = refl
    go (some x) shorter same = ap (prepend x.0) (same x.1 (shorter x.0 x.1 refl))

module _ (n p : ℕ) where
  pub edges_more : (ws rest : List ℕ) (e : Edge)
      → 0 < length ws
      → parse_edge n p ws ≡ some (e, rest)
      → Leads (parse_edges n p (length rest) rest) (parse_edges n p (length ws) ws)
  edges_more [] rest e h i = absurd (omega arith)
  edges_more (w ∷ ws) rest e h i =
      let s = edge-shorter n p (w ∷ ws) rest e i in
      let same : parse_edges n p (length ws) rest ≡ parse_edges n p (length rest) rest =
      enough_fuel n p (length ws) (length rest) rest (omega (arith, s)) (omega arith) in
      rw (i, same) (leads_prepend e (parse_edges n p (length rest) rest))
