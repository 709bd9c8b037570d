-- A row that is written part by part: what one more part adds, and what a loop over the parts has come to.
use Rattle.std.proofs.Common.{◌≡◌, ℕ, ◌+◌, ◌<◌, ◌≤◌, Bool, true, ◌&&◌, ltb, leb, List, [], ◌∷◌, ◌++◌, map, length, get_or, take, vec_items, sym, refl, ap, ◌∙◌, append_assoc, append-nil}
use lib.ListN.{length-map}
use Rattle.std.specs.List.{flat_map, list_all}
use Rattle.std.proofs.lemmas.List.{take_more, take_all, map-id, flat_map_more}
use Rattle.std.proofs.lemmas.List.Concat.{flat_map_single}
use Rattle.std.proofs.lemmas.List.Folds.{list_all_more}
use Rattle.std.proofs.lemmas.Float.{T_from_true}
use Rattle.std.proofs.lemmas.Bool.{and_from, and_parts, le-leb}
use Rattle.automata.specs.Rows.{Reads, upper, write_constraints, write_invariants, write_edges, fine_constraint, fine_guard, fine_invariant, fine_invariants, fine_resets, fine_edge, fine_edges}
use Rattle.rows.specs.declared.constraints.Constraint.{Constraint as Test}
use Rattle.rows.specs.Parts.{relation_value, constraint_value}
use Rattle.clockworks.specs.declared.parts.Position.{Position}
use Rattle.clockworks.specs.declared.parts.Step.{Step}
use Rattle.clockworks.specs.declared.parts.Clockwork.{Clockwork}
use Rattle.clockworks.specs.declared.write.Writer.{Writer}
use Rattle.clockworks.specs.Meaning.{constraints, invariant_of, edge, automaton, Adds, Wrote, test_words, tests_words, resets_words, position_words, step_words, all_upper}

pub adds_more : {xs vs ys ws zs : List ℕ} → Adds xs vs ys → Adds ys ws zs → Adds xs (vs ++ ws) zs
adds_more {xs = xs} {vs = vs} {ws = ws} p q =
    record { longer = q.longer ∙ ap (λ (l : List ℕ). l ++ ws) p.longer ∙ append_assoc xs vs ws }

pub adds_same : {xs vs ws ys : List ℕ} → vs ≡ ws → Adds xs vs ys → Adds xs ws ys
adds_same {xs = xs} e p = record { longer = p.longer ∙ ap (λ (l : List ℕ). xs ++ l) e }

pub adds_none : {xs : List ℕ} → Adds xs [] xs
adds_none {xs = xs} = record { longer = sym (append-nil xs) }

-- a loop over parts has written one more
pub adds_part : {X : Type 0} {start row next : List ℕ} (w : X → List ℕ) (xs : List X) (i : ℕ) (x d : X) → i < length xs → x ≡ get_or xs i d → Adds start (flat_map w (take i xs)) row → Adds row (w x) next → Adds start (flat_map w (take (i + 1) xs)) next
adds_part w xs i x d lt is h one =
    let e : take (i + 1) xs ≡ take i xs ++ x ∷ [] = take_more xs i d lt ∙ ap (λ (y : _). take i xs ++ y ∷ []) (sym is) in
    adds_same (flat_map_more w [] (take i xs) x ∙ ap (flat_map w) (sym e)) (adds_more h one)

pub adds_all : {X : Type 0} {start row : List ℕ} (w : X → List ℕ) (xs : List X) (i : ℕ) → length xs ≤ i → Adds start (flat_map w (take i xs)) row → Adds start (flat_map w xs) row
adds_all w xs i le h = adds_same (ap (flat_map w) (take_all i xs le)) h

-- the writer of a part, then of another, has written both
pub wrote_none : (w : Writer) → Wrote w w [] (λ n p. true)
wrote_none w = record { adds = adds_none; fine = refl; clocks = refl; positions = refl }

pub wrote_then : {a b c : Writer} {ws vs : List ℕ} {f g : ℕ → ℕ → Bool} → Wrote a b ws f → Wrote b c vs g → Wrote a c (ws ++ vs) (λ n p. f n p && g n p)
wrote_then {a = a} {b = b} {g = g} h k =
    let same : g b.clocks b.positions ≡ g a.clocks a.positions =
    ap (λ (n : ℕ). g n b.positions) h.clocks ∙ ap (λ (p : ℕ). g a.clocks p) h.positions in
    record {
      adds = adds_more h.adds k.adds;
      fine = and_from _ _ h.fine (sym same ∙ k.fine);
      clocks = k.clocks ∙ h.clocks;
      positions = k.positions ∙ h.positions;
    }

pub wrote_as : {a b : Writer} {ws vs : List ℕ} {f g : ℕ → ℕ → Bool} → ws ≡ vs → ((n p : ℕ) → f n p ≡ true → g n p ≡ true) → Wrote a b ws f → Wrote a b vs g
wrote_as {a = a} e imp h =
    record { adds = adds_same e h.adds; fine = imp a.clocks a.positions h.fine; clocks = h.clocks; positions = h.positions }

pub wrote_more : {X : Type 0} (w : X → List ℕ) (f : ℕ → ℕ → X → Bool) (xs : List X) (i : ℕ) (a b c : Writer) (x d : X) → i < length xs → x ≡ get_or xs i d → Wrote a b (flat_map w (take i xs)) (λ n p. list_all (f n p) (take i xs)) → Wrote b c (w x) (λ n p. f n p x) → Wrote a c (flat_map w (take (i + 1) xs)) (λ n p. list_all (f n p) (take (i + 1) xs))
wrote_more w f xs i a b c x d lt is h one =
    let e : take (i + 1) xs ≡ take i xs ++ x ∷ [] = take_more xs i d lt ∙ ap (λ (y : _). take i xs ++ y ∷ []) (sym is) in
    wrote_as
    (flat_map_more w [] (take i xs) x ∙ ap (flat_map w) (sym e))
    (λ n p q. list_all_more (f n p) xs i d lt ∙ ap (λ (y : _). list_all (f n p) (take i xs) && f n p y) (sym is) ∙ q)
    (wrote_then h one)

pub wrote_all : {X : Type 0} (w : X → List ℕ) (f : ℕ → ℕ → X → Bool) (xs : List X) (i : ℕ) (a b : Writer) → length xs ≤ i → Wrote a b (flat_map w (take i xs)) (λ n p. list_all (f n p) (take i xs)) → Wrote a b (flat_map w xs) (λ n p. list_all (f n p) xs)
wrote_all w f xs i a b le h =
    let e : take i xs ≡ xs = take_all i xs le in
    wrote_as (ap (flat_map w) e) (λ n p q. sym (ap (list_all (f n p)) e) ∙ q) h

-- the parts, one after another, as the writing of an automaton has them
words_of_tests : (ts : List Test) → flat_map test_words ts ≡ write_constraints (constraints ts)
words_of_tests [] = refl
words_of_tests (t ∷ ts) = ap (λ (l : List ℕ). test_words t ++ l) (words_of_tests ts)

tests_fit : (n : ℕ) (ts : List Test) → list_all (λ t. fine_constraint n (constraint_value t)) ts ≡ true → fine_guard n (constraints ts) ≡ true
tests_fit n [] q = refl
tests_fit n (t ∷ ts) q = let both = and_parts (fine_constraint n (constraint_value t)) (list_all (λ t. fine_constraint n (constraint_value t)) ts) q in and_from _ _ both.0 (tests_fit n ts both.1)

-- tests that bound their clocks from above, too, fit a position
tests_fit_position : (n : ℕ) (ts : List Test) → list_all (λ t. fine_constraint n (constraint_value t)) ts ≡ true → all_upper ts ≡ true → fine_invariant n (constraints ts) ≡ true
tests_fit_position n [] q u = refl
tests_fit_position n (t ∷ ts) q u =
    let fit = and_parts (fine_constraint n (constraint_value t)) (list_all (λ t. fine_constraint n (constraint_value t)) ts) q in
    let bound = and_parts (upper (relation_value t.relation)) (all_upper ts) u in
    and_from _ _ (and_from _ _ fit.0 bound.0) (tests_fit_position n ts fit.1 bound.1)

words_of_resets : (rs : List ℕ) → flat_map (λ (r : ℕ). r ∷ []) rs ≡ rs
words_of_resets rs = flat_map_single (λ (r : ℕ). r) rs ∙ map-id rs

resets_fit : (n : ℕ) (rs : List ℕ) → list_all (λ r. ltb r n) rs ≡ true → fine_resets n rs ≡ true
resets_fit n [] q = refl
resets_fit n (r ∷ rs) q = let both = and_parts (ltb r n) (list_all (λ r. ltb r n) rs) q in and_from _ _ both.0 (resets_fit n rs both.1)

words_of_positions : (ps : List Position) → flat_map position_words ps ≡ write_invariants (map invariant_of ps)
words_of_positions [] = refl
words_of_positions (p ∷ ps) = ap (λ (l : List ℕ). position_words p ++ l) (words_of_positions ps)

positions_fit : (n : ℕ) (ps : List Position) → list_all (λ p. fine_invariant n (invariant_of p)) ps ≡ true → fine_invariants n (map invariant_of ps) ≡ true
positions_fit n [] q = refl
positions_fit n (p ∷ ps) q = let both = and_parts (fine_invariant n (invariant_of p)) (list_all (λ p. fine_invariant n (invariant_of p)) ps) q in and_from _ _ both.0 (positions_fit n ps both.1)

words_of_steps : (ss : List Step) → flat_map step_words ss ≡ write_edges (map edge ss)
words_of_steps [] = refl
words_of_steps (s ∷ ss) =
    ap (λ (l : List ℕ). step_words s ++ l) (words_of_steps ss)
    ∙ ap (λ (l : List ℕ). s.source ∷ s.target ∷ length (constraints (vec_items s.tests)) ∷ l) (append_assoc (write_constraints (constraints (vec_items s.tests))) (resets_words (vec_items s.resets)) (write_edges (map edge ss)))

steps_fit : (n p : ℕ) (ss : List Step) → list_all (λ s. fine_edge n p (edge s)) ss ≡ true → fine_edges n p (map edge ss) ≡ true
steps_fit n p [] q = refl
steps_fit n p (s ∷ ss) q = let both = and_parts (fine_edge n p (edge s)) (list_all (λ s. fine_edge n p (edge s)) ss) q in and_from _ _ both.0 (steps_fit n p ss both.1)

listed_tests : (ts : List Test) → length ts ∷ flat_map test_words ts ≡ tests_words ts
listed_tests ts =
    ap (λ (k : ℕ). k ∷ flat_map test_words ts) (sym (length-map ts constraint_value))
    ∙ ap (λ (l : List ℕ). length (constraints ts) ∷ l) (words_of_tests ts)

listed_resets : (rs : List ℕ) → length rs ∷ flat_map (λ (r : ℕ). r ∷ []) rs ≡ resets_words rs
listed_resets rs = ap (λ (l : List ℕ). length rs ∷ l) (words_of_resets rs)

pub position_written : {a b : Writer} (p : Position) (ts : List Test) → ts ≡ vec_items p.tests → all_upper ts ≡ true → Wrote a b (length ts ∷ flat_map test_words ts) (λ n m. list_all (λ t. fine_constraint n (constraint_value t)) ts) → Wrote a b (position_words p) (λ n m. fine_invariant n (invariant_of p))
position_written p ts e up h =
    wrote_as
    (listed_tests ts ∙ ap tests_words e)
    (λ n m q. ap (λ (l : List Test). fine_invariant n (constraints l)) (sym e) ∙ tests_fit_position n ts q up)
    h

-- its ends, its tests and the clocks that it sets back make a step
pub step_written : {a b c d : Writer} (s : Step) (ts : List Test) (rs : List ℕ) → ts ≡ vec_items s.tests → rs ≡ vec_items s.resets → Wrote a b (s.source ∷ s.target ∷ []) (λ n p. ltb s.source p && ltb s.target p) → Wrote b c (length ts ∷ flat_map test_words ts) (λ n p. list_all (λ t. fine_constraint n (constraint_value t)) ts) → Wrote c d (length rs ∷ flat_map (λ (r : ℕ). r ∷ []) rs) (λ n p. list_all (λ r. ltb r n) rs) → Wrote a d (step_words s) (λ n p. fine_edge n p (edge s))
step_written s ts rs et er ends tests resets =
    let guard : Wrote _ _ (tests_words (vec_items s.tests)) (λ n p. fine_guard n (constraints (vec_items s.tests))) =
    wrote_as (listed_tests ts ∙ ap tests_words et) (λ n p q. ap (λ (l : List Test). fine_guard n (constraints l)) (sym et) ∙ tests_fit n ts q) tests in
    let back : Wrote _ _ (resets_words (vec_items s.resets)) (λ n p. fine_resets n (vec_items s.resets)) =
    wrote_as (listed_resets rs ∙ ap resets_words er) (λ n p q. ap (fine_resets n) (sym er) ∙ resets_fit n rs q) resets in
    wrote_then ends (wrote_then guard back)

-- the head of the row, the positions and the steps make the writing of the automaton
pub row_reads : {a b d : Writer} (c : Clockwork) (ps : List Position) (ss : List Step) → vec_items a.row ≡ c.clocks ∷ [] → a.clocks ≡ c.clocks → a.positions ≡ length ps → ps ≡ vec_items c.positions → ss ≡ vec_items c.steps → (1 ≤ c.clocks) × (c.clocks ≤ 8) → (1 ≤ length ps) × (length ps ≤ 256) → Wrote a b (length ps ∷ flat_map position_words ps) (λ n p. list_all (λ q. fine_invariant n (invariant_of q)) ps) → Wrote b d (flat_map step_words ss) (λ n p. list_all (λ s. fine_edge n p (edge s)) ss) → length (vec_items d.row) ≤ 16384 → Reads (vec_items d.row) (automaton c)
row_reads {a = a} c ps ss first ec ep eps ess clocks positions h k short =
    let n = c.clocks in
    let all = wrote_then h k in
    let is : length ps ≡ length (automaton c).invariants = ap (λ (l : List Position). length l) eps ∙ sym (length-map (vec_items c.positions) invariant_of) in
    let words : length ps ∷ (flat_map position_words ps ++ flat_map step_words ss) ≡ length (automaton c).invariants ∷ (write_invariants (automaton c).invariants ++ write_edges (automaton c).edges) =
    ap (λ (m : ℕ). m ∷ (flat_map position_words ps ++ flat_map step_words ss)) is
    ∙ (ap (λ (l : List ℕ). length (automaton c).invariants ∷ (l ++ flat_map step_words ss)) (words_of_positions ps ∙ ap (λ (l : List Position). write_invariants (map invariant_of l)) eps)
    ∙ ap (λ (l : List ℕ). length (automaton c).invariants ∷ (write_invariants (automaton c).invariants ++ l)) (words_of_steps ss ∙ ap (λ (l : List Step). write_edges (map edge l)) ess)) in
    let both = and_parts _ _ all.fine in
    let invariants : fine_invariants n (automaton c).invariants ≡ true =
    ap (λ (l : List Position). fine_invariants n (map invariant_of l)) (sym eps) ∙ (ap (λ (m : ℕ). fine_invariants m (map invariant_of ps)) (sym ec) ∙ positions_fit _ ps both.0) in
    let edges : fine_edges n (length (automaton c).invariants) (automaton c).edges ≡ true =
    ap (λ (m : ℕ). fine_edges n m (automaton c).edges) (sym is) ∙ (ap (λ (m : ℕ). fine_edges m (length ps) (automaton c).edges) (sym ec) ∙ (ap (λ (l : List Step). fine_edges a.clocks (length ps) (map edge l)) (sym ess) ∙ (ap (λ (m : ℕ). fine_edges a.clocks m (map edge ss)) (sym ep) ∙ steps_fit a.clocks a.positions ss both.1))) in
    record {
      written = sym (all.adds.longer ∙ (ap (λ (l : List ℕ). l ++ (length ps ∷ (flat_map position_words ps ++ flat_map step_words ss))) first ∙ ap (λ (l : List ℕ). n ∷ l) words));
      sound = T_from_true _ (and_from _ _ (and_from _ _ (le-leb 1 n clocks.0) (le-leb n 8 clocks.1)) (and_from _ _ (ap (λ (k : ℕ). leb 1 k && leb k 256) (sym is) ∙ and_from _ _ (le-leb 1 _ positions.0) (le-leb _ 256 positions.1)) (and_from _ _ invariants edges)));
      short = short;
    }
