-- The text that a row is drawn as. Clocks are named x0, x1, .., and positions p0, p1, ..
use Rattle.std.specs.Prelude.{ℕ, zero, suc, List, [], ◌∷◌, ◌++◌, codes, decimal}
use Rattle.std.specs.List.{flat_map}
use Rattle.automata.specs.Automata.{Constraint, Edge, Automaton}
use Rattle.rows.specs.Parts.{relation_text}

-- a test after a word
abbrev pub test_text : List ℕ → Constraint → List ℕ
test_text word c =
    word ++ (codes " x" ++ (decimal c.clock ++ (codes " " ++ (relation_text c.relation ++ (codes " " ++ decimal c.bound)))))

abbrev pub more_tests : List Constraint → List ℕ
more_tests cs = flat_map (test_text (codes ",")) cs

-- tests with commas between them, after a word
abbrev pub tests_text : List ℕ → List Constraint → List ℕ
tests_text word [] = []
tests_text word (c ∷ cs) = test_text word c ++ more_tests cs

abbrev pub clock_text : ℕ → List ℕ
clock_text n = codes " x" ++ decimal n

-- the names of the first n clocks
abbrev pub first_clocks : ℕ → List ℕ
first_clocks zero = []
first_clocks (suc n) = first_clocks n ++ clock_text n

abbrev pub clocks_line : ℕ → List ℕ
clocks_line n = codes "clocks" ++ (first_clocks n ++ codes "\n")

abbrev pub each_clock : List ℕ → List ℕ
each_clock xs = flat_map clock_text xs

abbrev pub resets_text : List ℕ → List ℕ
resets_text [] = []
resets_text (x ∷ xs) = codes " reset" ++ each_clock (x ∷ xs)

abbrev pub position_line : ℕ → List Constraint → List ℕ
position_line n cs = (codes "position p" ++ decimal n) ++ (tests_text (codes ":") cs ++ codes "\n")

-- the lines of the positions from number n on
abbrev pub position_lines : ℕ → List (List Constraint) → List ℕ
position_lines n [] = []
position_lines n (cs ∷ css) = position_line n cs ++ position_lines (suc n) css

abbrev pub step_line : Edge → List ℕ
step_line e =
    (codes "step p" ++ (decimal e.source ++ (codes " -> p" ++ decimal e.target)))
    ++ (tests_text (codes " when") e.guard ++ (resets_text e.resets ++ codes "\n"))

abbrev pub step_lines : List Edge → List ℕ
step_lines es = flat_map step_line es

abbrev pub sheet_of : Automaton → List ℕ
sheet_of a = clocks_line a.clocks ++ (position_lines 0 a.invariants ++ step_lines a.edges)
