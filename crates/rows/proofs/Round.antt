-- What is written is read back, and what is read is what was written.
use Rattle.std.proofs.Common.{◌≡◌, ℕ, zero, suc, ◌<◌, ◌≤◌, Bool, true, false, cond, ◌&&◌, ltb, leb, List, [], ◌∷◌, ◌++◌, length, sym, refl, ap, ◌∙◌, subst, append_assoc, arith, length-append, ltb-true, lt-ltb, le-leb, leb-true}
use mathlib.Core.Option.{Option, some, none}
use lib.Ieee.Bits.{is_true}
use Rattle.std.proofs.lemmas.Bool.{and_parts, and_from}
use Rattle.std.proofs.lemmas.Float.{T_from_true}
use Rattle.automata.specs.Automata.{Relation, at_most, below, at_least, above, Constraint, Edge, Automaton}
use Rattle.automata.specs.Rows.{code, upper, write_constraints, write_invariants, write_edges, write, fine_constraint, fine_guard, fine_invariant, fine_invariants, fine_resets, fine_edge, fine_edges, fine, Reads}
use Rattle.automata.specs.Statements.{OneAutomaton}
use Rattle.rows.specs.Parse.{Outcome, prepend, and_then, relation_of, upper_only, all_relations, fits, constraint, parse_constraints, parse_conjunction, parse_invariants, parse_clocks, parse_resets, parse_edge, parse_edges, parse}
use Rattle.rows.specs.Parts.{edge_words}
use Rattle.rows.specs.Statements.{RowsRound}

-- a test that is true
-- relations and their codes
pub relation_of-code : (r : Relation) → relation_of (code r) ≡ r
relation_of-code at_most = refl
relation_of-code below = refl
relation_of-code at_least = refl
relation_of-code above = refl

code-relation_of : (k : ℕ) → k < 4 → code (relation_of k) ≡ k
code-relation_of zero h = refl
code-relation_of (suc zero) h = refl
code-relation_of (suc (suc zero)) h = refl
code-relation_of (suc (suc (suc zero))) h = refl
code-relation_of (suc (suc (suc (suc k)))) h = absurd (omega arith)

code-small : (r : Relation) → code r < 4
code-small at_most = omega arith
code-small below = omega arith
code-small at_least = omega arith
code-small above = omega arith

upper-code : (r : Relation) → upper r ≡ true → code r < 2
upper-code at_most e = omega arith
upper-code below e = omega arith
upper-code at_least e = let z : ◌≡◌ {A = ℕ} 0 1 = cc in absurd (omega arith)
upper-code above e = let z : ◌≡◌ {A = ℕ} 0 1 = cc in absurd (omega arith)

-- every constraint fits: its clock is in range, its relation is one of the first so many, its bound is at most 10,000
pub data Fitting (clocks relations : ℕ) : List Constraint → Type 0 where
  fit_none : Fitting clocks relations []
  fit_more : {c : Constraint} {cs : List Constraint}
      → fits clocks relations c.clock (code c.relation) c.bound ≡ true
      → Fitting clocks relations cs
      → Fitting clocks relations (c ∷ cs)

-- the tests of a constraint as facts, and back
pub fits-parts : (n r c k b : ℕ) → fits n r c k b ≡ true → (c < n) × (k < r) × (b ≤ 10000)
fits-parts n r c k b e =
    let s = and_parts (ltb c n) (ltb k r && leb b 10000) e in
    let t = and_parts (ltb k r) (leb b 10000) s.1 in
    (ltb-true c n s.0, ltb-true k r t.0, leb-true b 10000 t.1)

pub fits-from : (n r c k b : ℕ) → c < n → k < r → b ≤ 10000 → fits n r c k b ≡ true
fits-from n r c k b h i j =
    and_from (ltb c n) (ltb k r && leb b 10000) (lt-ltb c n h) (and_from (ltb k r) (leb b 10000) (lt-ltb k r i) (le-leb b 10000 j))

fine-parts : (n : ℕ) (c : Constraint) → fine_constraint n c ≡ true → (c.clock < n) × (c.bound ≤ 10000)
fine-parts n c e =
    let s = and_parts (ltb c.clock n) (leb c.bound 10000) e in
    (ltb-true c.clock n s.0, leb-true c.bound 10000 s.1)

fine-from : (n : ℕ) (c : Constraint) → c.clock < n → c.bound ≤ 10000 → fine_constraint n c ≡ true
fine-from n c h i =
    and_from (ltb c.clock n) (leb c.bound 10000) (lt-ltb c.clock n h) (le-leb c.bound 10000 i)

fitting_guard : (n : ℕ) (cs : List Constraint) → fine_guard n cs ≡ true → Fitting n all_relations cs
fitting_guard n [] e = fit_none
fitting_guard n (c ∷ cs) e =
    let s = and_parts (fine_constraint n c) (fine_guard n cs) e in
    let t = fine-parts n c s.0 in
    fit_more
    (fits-from n all_relations c.clock (code c.relation) c.bound t.0 (code-small c.relation) t.1)
    (fitting_guard n cs s.1)

guard_fitting : (n : ℕ) {cs : List Constraint} → Fitting n all_relations cs → fine_guard n cs ≡ true
guard_fitting n fit_none = refl
guard_fitting n (fit_more {c = c} {cs = cs} e f) =
    let t = fits-parts n all_relations c.clock (code c.relation) c.bound e in
    and_from (fine_constraint n c) (fine_guard n cs) (fine-from n c t.0 t.2) (guard_fitting n f)

fitting_invariant : (n : ℕ) (cs : List Constraint) → fine_invariant n cs ≡ true → Fitting n upper_only cs
fitting_invariant n [] e = fit_none
fitting_invariant n (c ∷ cs) e =
    let s = and_parts (fine_constraint n c && upper c.relation) (fine_invariant n cs) e in
    let t = and_parts (fine_constraint n c) (upper c.relation) s.0 in
    let u = fine-parts n c t.0 in
    fit_more
    (fits-from n upper_only c.clock (code c.relation) c.bound u.0 (upper-code c.relation t.1) u.1)
    (fitting_invariant n cs s.1)

upper_of : (r : Relation) → code r < 2 → upper r ≡ true
upper_of at_most h = refl
upper_of below h = refl
upper_of at_least h = absurd (omega arith)
upper_of above h = absurd (omega arith)

invariant-fitting : (n : ℕ) {cs : List Constraint} → Fitting n upper_only cs → fine_invariant n cs ≡ true
invariant-fitting n fit_none = refl
invariant-fitting n (fit_more {c = c} {cs = cs} e f) =
    let t = fits-parts n upper_only c.clock (code c.relation) c.bound e in
    and_from
    (fine_constraint n c && upper c.relation)
    (fine_invariant n cs)
    (and_from (fine_constraint n c) (upper c.relation) (fine-from n c t.0 t.2) (upper_of c.relation t.1))
    (invariant-fitting n f)

-- what is written is read back, whatever stands after it
read_constraints : (n r : ℕ) (rest : List ℕ) {cs : List Constraint}
    → Fitting n r cs
    → parse_constraints n r (length cs) (write_constraints cs ++ rest) ≡ some (cs, rest)
read_constraints n r rest fit_none = refl
read_constraints n r rest (fit_more {c = c} {cs = cs} e f) =
    rw (e, read_constraints n r rest f, relation_of-code c.relation)

read_invariants : (n : ℕ) (rest : List ℕ) (css : List (List Constraint))
    → fine_invariants n css ≡ true
    → parse_invariants n (length css) (write_invariants css ++ rest) ≡ some (css, rest)
read_invariants n rest [] e = refl
read_invariants n rest (cs ∷ css) e =
    let s = and_parts _ _ e in
    rw
    (append_assoc (write_constraints cs) (write_invariants css) rest, read_constraints n upper_only (write_invariants css ++ rest) (fitting_invariant n cs s.0), read_invariants n rest css s.1)

read_clocks : (n : ℕ) (rest xs : List ℕ) → fine_resets n xs ≡ true → parse_clocks n (length xs) (xs ++ rest) ≡ some (xs, rest)
read_clocks n rest [] e = refl
read_clocks n rest (x ∷ xs) e = let s = and_parts (ltb x n) (fine_resets n xs) e in rw (s.0, read_clocks n rest xs s.1)

fine_edge-parts : (n p : ℕ) (e : Edge)
    → fine_edge n p e ≡ true
    → ((ltb e.source p && ltb e.target p) ≡ true) × (fine_guard n e.guard ≡ true) × (fine_resets n e.resets ≡ true)
fine_edge-parts n p e h =
    let s = and_parts (ltb e.source p && ltb e.target p) (fine_guard n e.guard && fine_resets n e.resets) h in
    let t = and_parts (fine_guard n e.guard) (fine_resets n e.resets) s.1 in
    (s.0, t.0, t.1)

read_edge : (n p : ℕ) (rest : List ℕ) (e : Edge)
    → fine_edge n p e ≡ true
    → parse_edge n p (edge_words e rest) ≡ some (e, rest)
read_edge n p rest e h =
    let t = fine_edge-parts n p e h in
    rw
    (t.0, read_constraints n all_relations (length e.resets ∷ (e.resets ++ rest)) (fitting_guard n e.guard t.1), read_clocks n rest e.resets t.2)

read_edges : (n p fuel : ℕ) (es : List Edge)
    → length (write_edges es) ≤ fuel
    → fine_edges n p es ≡ true
    → parse_edges n p fuel (write_edges es) ≡ some (es, [])
read_edges n p fuel [] h e = refl
read_edges n p zero (x ∷ es) h e = absurd (omega arith)
read_edges n p (suc fuel) (x ∷ es) h e =
    let s = and_parts (fine_edge n p x) (fine_edges n p es) e in
    let shorter : length (write_edges es) ≤ fuel = omega (arith, simp length-append at h) in
    rw (read_edge n p (write_edges es) x s.0, read_edges n p fuel es shorter s.1)

pub complete : (row : List ℕ) (a : Automaton) → Reads row a → parse row ≡ some a
complete row a r = subst (λ (ws : List ℕ). parse ws ≡ some a) r.written whole
  where
    n : ℕ
    n = a.clocks

    p : ℕ
    p = length a.invariants

    limits : Bool
    limits = leb 1 n && leb n 8

    places : Bool
    places = leb 1 p && leb p 256

    parts : (limits ≡ true) × (places ≡ true) × (fine_invariants n a.invariants ≡ true) × (fine_edges n p a.edges ≡ true)
    parts =
        let s = and_parts limits (places && (fine_invariants n a.invariants && fine_edges n p a.edges)) (is_true (fine a) r.sound) in
        let t = and_parts places (fine_invariants n a.invariants && fine_edges n p a.edges) s.1 in
        let u = and_parts (fine_invariants n a.invariants) (fine_edges n p a.edges) t.1 in
        (s.0, t.0, u.0, u.1)

    short : leb (length (write a)) 16384 ≡ true
    short = le-leb (length (write a)) 16384 (subst (λ (ws : List ℕ). length ws ≤ 16384) (sym r.written) r.short)

    open_tests : (limits && (places && leb (length (write a)) 16384)) ≡ true
    open_tests =
        and_from limits (places && leb (length (write a)) 16384) parts.0 (and_from places (leb (length (write a)) 16384) parts.1 short)

    whole : parse (write a) ≡ some a
    whole =
        rw
        (open_tests, read_invariants n (write_edges a.edges) a.invariants parts.2, read_edges n p (length (write_edges a.edges)) a.edges (omega arith) parts.3)

-- what is read is what was written
abbrev pub Written : {A : Type 0} → (A → List ℕ → Type 0) → Outcome A → Type 0
Written P none = Unit {0}
Written P (some r) = P r.0 r.1

written_constraints : (n r k : ℕ) (ws : List ℕ)
    → r ≤ 4
    → Written (λ cs rest. (write_constraints cs ++ rest ≡ ws) × (length cs ≡ k) × Fitting n r cs) (parse_constraints n r k ws)
written_constraints n r zero ws h = (refl, refl, fit_none)
written_constraints n r (suc k) [] h = tt
written_constraints n r (suc k) (c ∷ []) h = tt
written_constraints n r (suc k) (c ∷ q ∷ []) h = tt
written_constraints n r (suc k) (c ∷ q ∷ b ∷ ws) h =
    go (fits n r c q b) refl (parse_constraints n r k ws) (written_constraints n r k ws h)
  where
    go : (t : Bool)
        → fits n r c q b ≡ t
        → (o : Outcome (List Constraint))
        → Written (λ cs rest. (write_constraints cs ++ rest ≡ ws) × (length cs ≡ k) × Fitting n r cs) o
        → Written
        (λ cs rest. (write_constraints cs ++ rest ≡ c ∷ q ∷ b ∷ ws) × (length cs ≡ suc k) × Fitting n r cs)
        (cond t (prepend (constraint c q b) o) none)
    go false e o w = tt
    go true e none w = tt
    go true e (some x) w =
        let f = fits-parts n r c q b e in
        let z : code (relation_of q) ≡ q = code-relation_of q (omega (arith, f.1)) in (
          cc,
          ap suc w.1,
          fit_more (subst (λ (m : ℕ). fits n r c m b ≡ true) (sym z) e) w.2,
        )

written_conjunction : (n r : ℕ) (ws : List ℕ)
    → r ≤ 4
    → Written
    (λ cs rest. (length cs ∷ (write_constraints cs ++ rest) ≡ ws) × Fitting n r cs)
    (parse_conjunction n r ws)
written_conjunction n r [] h = tt
written_conjunction n r (k ∷ ws) h = go (parse_constraints n r k ws) (written_constraints n r k ws h)
  where
    go : (o : Outcome (List Constraint))
        → Written (λ cs rest. (write_constraints cs ++ rest ≡ ws) × (length cs ≡ k) × Fitting n r cs) o
        → Written (λ cs rest. (length cs ∷ (write_constraints cs ++ rest) ≡ k ∷ ws) × Fitting n r cs) o
    go none w = tt
    go (some x) w = (cc, w.2)

pub written_invariants : (n p : ℕ) (ws : List ℕ)
    → Written
    (λ css rest. (write_invariants css ++ rest ≡ ws) × (length css ≡ p) × (fine_invariants n css ≡ true))
    (parse_invariants n p ws)
written_invariants n zero ws = (refl, refl, refl)
written_invariants n (suc p) ws =
    go (parse_conjunction n upper_only ws) (written_conjunction n upper_only ws (omega arith)) (λ rest. written_invariants n p rest)
  where
    more : (cs : List Constraint) (rest : List ℕ) (o : Outcome (List (List Constraint)))
        → (length cs ∷ (write_constraints cs ++ rest) ≡ ws) × Fitting n upper_only cs
        → Written (λ css end. (write_invariants css ++ end ≡ rest) × (length css ≡ p) × (fine_invariants n css ≡ true)) o
        → Written
        (λ css end. (write_invariants css ++ end ≡ ws) × (length css ≡ suc p) × (fine_invariants n css ≡ true))
        (prepend cs o)
    more cs rest none w v = tt
    more cs rest (some x) w v = (
      ap (λ (z : List ℕ). length cs ∷ z) (append_assoc (write_constraints cs) (write_invariants x.0) x.1 ∙ ap (λ (z : List ℕ). write_constraints cs ++ z) v.0) ∙ w.0,
      ap suc v.1,
      and_from (fine_invariant n cs) (fine_invariants n x.0) (invariant-fitting n w.1) v.2,
    )

    go : (o : Outcome (List Constraint))
        → Written (λ cs rest. (length cs ∷ (write_constraints cs ++ rest) ≡ ws) × Fitting n upper_only cs) o
        → ((rest : List ℕ)
        → Written
        (λ css end. (write_invariants css ++ end ≡ rest) × (length css ≡ p) × (fine_invariants n css ≡ true))
        (parse_invariants n p rest))
        → Written
        (λ css rest. (write_invariants css ++ rest ≡ ws) × (length css ≡ suc p) × (fine_invariants n css ≡ true))
        (and_then o (λ cs rest. prepend cs (parse_invariants n p rest)))
    go none w v = tt
    go (some x) w v = more x.0 x.1 (parse_invariants n p x.1) w (v x.1)

written_clocks : (n k : ℕ) (ws : List ℕ)
    → Written (λ xs rest. (xs ++ rest ≡ ws) × (length xs ≡ k) × (fine_resets n xs ≡ true)) (parse_clocks n k ws)
written_clocks n zero ws = (refl, refl, refl)
written_clocks n (suc k) [] = tt
written_clocks n (suc k) (x ∷ ws) = go (ltb x n) refl (parse_clocks n k ws) (written_clocks n k ws)
  where
    go : (t : Bool)
        → ltb x n ≡ t
        → (o : Outcome (List ℕ))
        → Written (λ xs rest. (xs ++ rest ≡ ws) × (length xs ≡ k) × (fine_resets n xs ≡ true)) o
        → Written
        (λ xs rest. (xs ++ rest ≡ x ∷ ws) × (length xs ≡ suc k) × (fine_resets n xs ≡ true))
        (cond t (prepend x o) none)
    go false e o w = tt
    go true e none w = tt
    go true e (some y) w = (ap (λ (z : List ℕ). x ∷ z) w.0, ap suc w.1, and_from (ltb x n) (fine_resets n y.0) e w.2)

written_resets : (n : ℕ) (ws : List ℕ)
    → Written (λ xs rest. (length xs ∷ (xs ++ rest) ≡ ws) × (fine_resets n xs ≡ true)) (parse_resets n ws)
written_resets n [] = tt
written_resets n (k ∷ ws) = go (parse_clocks n k ws) (written_clocks n k ws)
  where
    go : (o : Outcome (List ℕ))
        → Written (λ xs rest. (xs ++ rest ≡ ws) × (length xs ≡ k) × (fine_resets n xs ≡ true)) o
        → Written (λ xs rest. (length xs ∷ (xs ++ rest) ≡ k ∷ ws) × (fine_resets n xs ≡ true)) o
    go none w = tt
    go (some x) w = (cc, w.2)

pub written_edge : (n p : ℕ) (ws : List ℕ)
    → Written (λ e rest. (edge_words e rest ≡ ws) × (fine_edge n p e ≡ true)) (parse_edge n p ws)
written_edge n p [] = tt
written_edge n p (s ∷ []) = tt
written_edge n p (s ∷ t ∷ ws) =
    go
    (ltb s p && ltb t p)
    refl
    (parse_conjunction n all_relations ws)
    (written_conjunction n all_relations ws (omega arith))
  where
    last : (guard : List Constraint) (rest : List ℕ) (o : Outcome (List ℕ))
        → (ltb s p && ltb t p) ≡ true
        → (length guard ∷ (write_constraints guard ++ rest) ≡ ws) × Fitting n all_relations guard
        → Written (λ xs end. (length xs ∷ (xs ++ end) ≡ rest) × (fine_resets n xs ≡ true)) o
        → Written
        (λ e end. (edge_words e end ≡ s ∷ t ∷ ws) × (fine_edge n p e ≡ true))
        (and_then o (λ resets end. some (record { source = s; target = t; guard = guard; resets = resets }, end)))
    last guard rest none h w v = tt
    last guard rest (some x) h w v = (
      ap (λ (z : List ℕ). s ∷ t ∷ z) (ap (λ (z : List ℕ). length guard ∷ (write_constraints guard ++ z)) v.0 ∙ w.0),
      and_from (ltb s p && ltb t p) (fine_guard n guard && fine_resets n x.0) h (and_from (fine_guard n guard) (fine_resets n x.0) (guard_fitting n w.1) v.1),
    )

    go : (b : Bool)
        → (ltb s p && ltb t p) ≡ b
        → (o : Outcome (List Constraint))
        → Written (λ cs rest. (length cs ∷ (write_constraints cs ++ rest) ≡ ws) × Fitting n all_relations cs) o
        → Written
        (λ e rest. (edge_words e rest ≡ s ∷ t ∷ ws) × (fine_edge n p e ≡ true))
        (cond
        b
        (and_then
        o
        (λ guard rest. and_then
        (parse_resets n rest)
        (λ resets end. some (record { source = s; target = t; guard = guard; resets = resets }, end))))
        none)
    go false h o w = tt
    go true h none w = tt
    go true h (some x) w = last x.0 x.1 (parse_resets n x.1) h w (written_resets n x.1)

pub written_edges : (n p fuel : ℕ) (ws : List ℕ)
    → Written (λ es rest. (rest ≡ []) × (write_edges es ≡ ws) × (fine_edges n p es ≡ true)) (parse_edges n p fuel ws)
written_edges n p fuel [] = (refl, refl, refl)
written_edges n p zero (w ∷ ws) = tt
written_edges n p (suc fuel) (w ∷ ws) =
    go (parse_edge n p (w ∷ ws)) (written_edge n p (w ∷ ws)) (λ rest. written_edges n p fuel rest)
  where
    more : (e : Edge) (rest : List ℕ) (o : Outcome (List Edge))
        → (edge_words e rest ≡ w ∷ ws) × (fine_edge n p e ≡ true)
        → Written (λ es end. (end ≡ []) × (write_edges es ≡ rest) × (fine_edges n p es ≡ true)) o
        → Written (λ es end. (end ≡ []) × (write_edges es ≡ w ∷ ws) × (fine_edges n p es ≡ true)) (prepend e o)
    more e rest none h v = tt
    more e rest (some x) h v = (
      v.0,
      ap (edge_words e) v.1 ∙ h.0,
      and_from (fine_edge n p e) (fine_edges n p x.0) h.1 v.2,
    )

    go : (o : Outcome Edge)
        → Written (λ e rest. (edge_words e rest ≡ w ∷ ws) × (fine_edge n p e ≡ true)) o
        → ((rest : List ℕ)
        → Written
        (λ es end. (end ≡ []) × (write_edges es ≡ rest) × (fine_edges n p es ≡ true))
        (parse_edges n p fuel rest))
        → Written
        (λ es rest. (rest ≡ []) × (write_edges es ≡ w ∷ ws) × (fine_edges n p es ≡ true))
        (and_then o (λ e rest. prepend e (parse_edges n p fuel rest)))
    go none h v = tt
    go (some x) h v = more x.0 x.1 (parse_edges n p fuel x.1) h (v x.1)

abbrev ReadsIt : List ℕ → Option Automaton → Type 0
ReadsIt row none = Unit {0}
ReadsIt row (some a) = Reads row a

reads_it : (row : List ℕ) → ReadsIt row (parse row)
reads_it [] = tt
reads_it (c ∷ []) = tt
reads_it (c ∷ p ∷ ws) = go limits refl (parse_invariants c p ws) (written_invariants c p ws)
  where
    limits : Bool
    limits = (leb 1 c && leb c 8) && ((leb 1 p && leb p 256) && leb (length (c ∷ p ∷ ws)) 16384)

    last : (css : List (List Constraint)) (rest : List ℕ) (o : Outcome (List Edge))
        → limits ≡ true
        → (write_invariants css ++ rest ≡ ws) × (length css ≡ p) × (fine_invariants c css ≡ true)
        → Written (λ es end. (end ≡ []) × (write_edges es ≡ rest) × (fine_edges c p es ≡ true)) o
        → ReadsIt
        (c ∷ p ∷ ws)
        (and_then o (λ edges end. some (record { clocks = c; invariants = css; edges = edges })))
    last css rest none h w v = tt
    last css rest (some x) h w v =
        let s = and_parts (leb 1 c && leb c 8) ((leb 1 p && leb p 256) && leb (length (c ∷ p ∷ ws)) 16384) h in
        let t = and_parts (leb 1 p && leb p 256) (leb (length (c ∷ p ∷ ws)) 16384) s.1 in
        let same : p ≡ length css = sym w.1 in
        let locations : (leb 1 (length css) && leb (length css) 256) ≡ true =
        subst (λ (m : ℕ). (leb 1 m && leb m 256) ≡ true) same t.0 in
        let edges : fine_edges c (length css) x.0 ≡ true = subst (λ (m : ℕ). fine_edges c m x.0 ≡ true) same v.2 in
        record {
          written =
              ap (λ (m : ℕ). c ∷ m ∷ (write_invariants css ++ write_edges x.0)) w.1 ∙ ap (λ (z : List ℕ). c ∷ p ∷ z) (ap (λ (z : List ℕ). write_invariants css ++ z) v.1 ∙ w.0);
          sound =
              T_from_true
              _
              (and_from
              (leb 1 c && leb c 8)
              ((leb 1 (length css) && leb (length css) 256) && (fine_invariants c css && fine_edges c (length css) x.0))
              s.0
              (and_from
              (leb 1 (length css) && leb (length css) 256)
              (fine_invariants c css && fine_edges c (length css) x.0)
              locations
              (and_from (fine_invariants c css) (fine_edges c (length css) x.0) w.2 edges)));
          short = leb-true (length (c ∷ p ∷ ws)) 16384 t.1;
        }

    go : (b : Bool)
        → limits ≡ b
        → (o : Outcome (List (List Constraint)))
        → Written (λ css rest. (write_invariants css ++ rest ≡ ws) × (length css ≡ p) × (fine_invariants c css ≡ true)) o
        → ReadsIt
        (c ∷ p ∷ ws)
        (cond
        b
        (and_then
        o
        (λ invariants rest. and_then
        (parse_edges c p (length rest) rest)
        (λ edges end. some (record { clocks = c; invariants = invariants; edges = edges }))))
        none)
    go false h o w = tt
    go true h none w = tt
    go true h (some x) w =
        last x.0 x.1 (parse_edges c p (length x.1) x.1) h w (written_edges c p (length x.1) x.1)

pub sound : (row : List ℕ) (a : Automaton) → parse row ≡ some a → Reads row a
sound row a e = subst (ReadsIt row) e (reads_it row)

pub one_automaton : OneAutomaton
one_automaton row a b r s =
    let e : parse row ≡ some a = complete row a r in
    let f : parse row ≡ some b = complete row b s in
    cc

pub rows_round : RowsRound
rows_round = record { sound = sound; complete = complete; one = one_automaton }
