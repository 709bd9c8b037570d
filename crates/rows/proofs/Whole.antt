-- A whole row: what its parts say of it.
use Rattle.std.proofs.Common.{◌≡◌, ℕ, ◌+◌, ◌<◌, ◌≤◌, Bool, true, false, cond, ◌&&◌, leb, List, [], ◌∷◌, ◌++◌, length, get_or, drop, Ok, Err, Result, sym, refl, subst, arith, le-leb, leb-true}
use mathlib.Core.Option.{Option, some, none}
use borrow.Author.Tests.{lt-leb}
use Rattle.std.proofs.lemmas.Bool.{and_from, and_left, and_right}
use Rattle.automata.specs.Automata.{Constraint, Edge, Automaton}
use Rattle.automata.specs.Rows.{Reads, write_invariants, write_edges, fine_invariants, fine_edges}
use Rattle.rows.specs.declared.refusals.Refusal.{Refusal}
use Rattle.rows.specs.declared.views.Automaton as view
use Rattle.rows.specs.Parse.{all_relations, parse_conjunction, parse_invariants, parse_resets, parse_edge, parse_edges, parse}
use Rattle.rows.specs.Reading.{Wrong, Tells, ReadPost}
use Rattle.rows.specs.Viewed.{value_of, Viewed}
use Rattle.rows.specs.Views.{automaton_value}
use Rattle.rows.proofs.Round.{complete, sound, one_automaton, Written, written_invariants, written_edges}
use Rattle.rows.proofs.Values.{value_of-is, views}
use Rattle.rows.proofs.Walking.{edge-resets, edge-read}

-- an edge ends where its resets end
pub edge-tells : (n p : ℕ) (row : List ℕ) (at middle : ℕ) (guard : List Constraint) (r : Result ℕ Refusal)
    → at + 2 ≤ length row
    → get_or row at 0 < p
    → get_or row (at + 1) 0 < p
    → at < middle
    → parse_conjunction n all_relations (drop (at + 2) row) ≡ some (guard, drop middle row)
    → Tells (parse_resets n) row middle r
    → Tells (parse_edge n p) row at r
edge-tells n p row at middle guard (Ok end) room h i j e t = (
  omega (arith, t.0),
  t.1,
  edge-read n p row at room guard (drop middle row) t.2.0 (drop end row) h i e t.2.1,
)
edge-tells n p row at middle guard (Err f) room h i j e t =
    (edge-resets n p row at room guard (drop middle row) h i e t.0, t.1)

-- a row that is not read is the writing of no automaton
pub refused : (row : List ℕ) (f : Refusal) → parse row ≡ none → Wrong row f.rule f.word → ReadPost row (Err f)
refused row f e w =
    record {
      cases = (
        λ a r.
            let h : parse row ≡ some a = complete row a r in
            let z : ◌≡◌ {A = ℕ} 0 1 = cc in
            omega arith,
        w,
      );
      one = one_automaton;
    }

range_false : (low x high : ℕ) → (low ≤ x → high < x) → (leb low x && leb x high) ≡ false
range_false low x high h = go (leb low x) refl
  where
    go : (t : Bool) → leb low x ≡ t → (t && leb x high) ≡ false
    go true e = lt-leb x high (h (leb-true low x e))
    go false e = refl

pub parse-short : (row : List ℕ) → length row < 2 → parse row ≡ none
parse-short [] h = refl
parse-short (c ∷ []) h = refl
parse-short (c ∷ p ∷ ws) h = absurd (omega arith)

pub parse-long : (row : List ℕ) → 16384 < length row → parse row ≡ none
parse-long [] h = refl
parse-long (c ∷ []) h = refl
parse-long (c ∷ p ∷ ws) h =
    rw
    (and_right (leb 1 c && leb c 8) ((leb 1 p && leb p 256) && leb (length (c ∷ p ∷ ws)) 16384) (and_right (leb 1 p && leb p 256) (leb (length (c ∷ p ∷ ws)) 16384) (lt-leb (length (c ∷ p ∷ ws)) 16384 h)))

pub parse-clocks : (row : List ℕ) → (1 ≤ get_or row 0 0 → 8 < get_or row 0 0) → parse row ≡ none
parse-clocks [] h = refl
parse-clocks (c ∷ []) h = refl
parse-clocks (c ∷ p ∷ ws) h =
    rw
    (and_left (leb 1 c && leb c 8) ((leb 1 p && leb p 256) && leb (length (c ∷ p ∷ ws)) 16384) (range_false 1 c 8 h))

pub parse-locations : (row : List ℕ) → (1 ≤ get_or row 1 0 → 256 < get_or row 1 0) → parse row ≡ none
parse-locations [] h = refl
parse-locations (c ∷ []) h = refl
parse-locations (c ∷ p ∷ ws) h =
    rw
    (and_right (leb 1 c && leb c 8) ((leb 1 p && leb p 256) && leb (length (c ∷ p ∷ ws)) 16384) (and_left (leb 1 p && leb p 256) (leb (length (c ∷ p ∷ ws)) 16384) (range_false 1 p 256 h)))

pub parse-invariants : (row : List ℕ) → 2 ≤ length row → parse_invariants (get_or row 0 0) (get_or row 1 0) (drop 2 row) ≡ none → parse row ≡ none
parse-invariants [] h e = refl
parse-invariants (c ∷ []) h e = refl
parse-invariants (c ∷ p ∷ ws) h e = rw e (go ((leb 1 c && leb c 8) && ((leb 1 p && leb p 256) && leb (length (c ∷ p ∷ ws)) 16384)))
  where
    go : (t : Bool) → ◌≡◌ {A = Option Automaton} (cond t none none) none
    go true = refl
    go false = refl

pub parse-edges : (row : List ℕ) (css : List (List Constraint)) (rest : List ℕ)
    → parse_invariants (get_or row 0 0) (get_or row 1 0) (drop 2 row) ≡ some (css, rest)
    → parse_edges (get_or row 0 0) (get_or row 1 0) (length rest) rest ≡ none
    → parse row ≡ none
parse-edges [] css rest e f = refl
parse-edges (c ∷ []) css rest e f = refl
parse-edges (c ∷ p ∷ ws) css rest e f =
    rw (e, f) (go ((leb 1 c && leb c 8) && ((leb 1 p && leb p 256) && leb (length (c ∷ p ∷ ws)) 16384)))
  where
    go : (t : Bool) → ◌≡◌ {A = Option Automaton} (cond t none none) none
    go true = refl
    go false = refl

range_true : (low x high : ℕ) → low ≤ x → x ≤ high → (leb low x && leb x high) ≡ true
range_true low x high h i = and_from (leb low x) (leb x high) (le-leb low x h) (le-leb x high i)

parse-row : (row : List ℕ) (css : List (List Constraint)) (rest : List ℕ) (es : List Edge) (end : List ℕ)
    → 2 ≤ length row
    → length row ≤ 16384
    → 1 ≤ get_or row 0 0
    → get_or row 0 0 ≤ 8
    → 1 ≤ get_or row 1 0
    → get_or row 1 0 ≤ 256
    → parse_invariants (get_or row 0 0) (get_or row 1 0) (drop 2 row) ≡ some (css, rest)
    → parse_edges (get_or row 0 0) (get_or row 1 0) (length rest) rest ≡ some (es, end)
    → parse row ≡ some (record { clocks = get_or row 0 0; invariants = css; edges = es })
parse-row [] css rest es end h i j k l m e f = absurd (omega arith)
parse-row (c ∷ []) css rest es end h i j k l m e f = absurd (omega arith)
parse-row (c ∷ p ∷ ws) css rest es end h i j k l m e f =
    rw
    (and_from (leb 1 c && leb c 8) ((leb 1 p && leb p 256) && leb (length (c ∷ p ∷ ws)) 16384) (range_true 1 c 8 j k) (and_from (leb 1 p && leb p 256) (leb (length (c ∷ p ∷ ws)) 16384) (range_true 1 p 256 l m) (le-leb (length (c ∷ p ∷ ws)) 16384 i)), e, f)

-- a row that is read is the writing of the automaton that it stands for
pub viewed : (row : List ℕ) (css : List (List Constraint)) (at : ℕ) (es : List Edge) (end : List ℕ)
    → 2 ≤ length row
    → length row ≤ 16384
    → 1 ≤ get_or row 0 0
    → get_or row 0 0 ≤ 8
    → 1 ≤ get_or row 1 0
    → get_or row 1 0 ≤ 256
    → parse_invariants (get_or row 0 0) (get_or row 1 0) (drop 2 row) ≡ some (css, drop at row)
    → parse_edges (get_or row 0 0) (get_or row 1 0) (length (drop at row)) (drop at row) ≡ some (es, end)
    → Viewed row (get_or row 0 0) (get_or row 1 0) at (value_of row)
viewed row css at es end h i j k l m e f =
    let a : Automaton = record { clocks = get_or row 0 0; invariants = css; edges = es } in
    let reads : Reads row a = sound row a (parse-row row css (drop at row) es end h i j k l m e f) in
    let w = subst (Written (λ css rest. (write_invariants css ++ rest ≡ drop 2 row) × (length css ≡ get_or row 1 0) × (fine_invariants (get_or row 0 0) css ≡ true))) e (written_invariants (get_or row 0 0) (get_or row 1 0) (drop 2 row)) in
    let u = subst (Written (λ es rest. (rest ≡ []) × (write_edges es ≡ drop at row) × (fine_edges (get_or row 0 0) (get_or row 1 0) es ≡ true))) f (written_edges (get_or row 0 0) (get_or row 1 0) (length (drop at row)) (drop at row)) in
    subst
    (Viewed row (get_or row 0 0) (get_or row 1 0) at)
    (sym (value_of-is row a reads))
    (record { reads = reads; clocks_are = refl; locations_are = sym w.1; edges_are = sym u.1 })

pub accepted : (row : List ℕ) (v : view.Automaton) → v.row.now ≡ row → ReadPost row (Ok v)
accepted row v same = record { cases = (same, (automaton_value v, views v)); one = one_automaton }
