-- The text of bounds on clocks and on their differences.
use Rattle.std.specs.Prelude.{ℕ, zero, suc, ◌+◌, Bool, false, cond, not, ◌&&◌, List, [], ◌++◌, neg_ℤ, codes}
use Rattle.std.specs.Int.Signed.{le_z}
use Rattle.std.specs.Fmt.{signed_decimal}
use Rattle.squares.specs.declared.bounds.Bound.{Bound}
use Rattle.squares.specs.declared.bounds.Bound.TheVariants.{Unbounded, UpTo}
use Rattle.squares.specs.declared.squares.Square.{Square}
use Rattle.squares.specs.Squares.{entry}
use Rattle.accounts.specs.Lines.{name_of}

abbrev pub upper_sign : Bool → List ℕ
upper_sign below = cond below (codes "<") (codes "<=")

abbrev pub lower_sign : Bool → List ℕ
lower_sign above = cond above (codes ">") (codes ">=")

-- bounds on what is named: the first on nought less it, the second on it
abbrev pub range_text : List ℕ → Bound → Bound → List ℕ
range_text name Unbounded Unbounded = []
range_text name Unbounded (UpTo high below) =
    name ++ (codes " " ++ (upper_sign below ++ (codes " " ++ (signed_decimal high ++ codes "\n"))))
range_text name (UpTo low above) Unbounded =
    name ++ (codes " " ++ (lower_sign above ++ (codes " " ++ (signed_decimal (neg_ℤ low) ++ codes "\n"))))
range_text name (UpTo low above) (UpTo high below) =
    cond ((not above && not below) && le_z high (neg_ℤ low)) (name ++ (codes " = " ++ (signed_decimal high ++ codes "\n")))
    (signed_decimal (neg_ℤ low) ++ (codes " " ++ (upper_sign above ++ (codes " " ++ (name ++ (codes " " ++ (upper_sign below ++ (codes " " ++ (signed_decimal high ++ codes "\n")))))))))

-- the clock is between two whole numbers. Where it has one value, or is beyond the top, its differences follow from the clocks' own bounds
abbrev pub stays_open : Bound → Bool
stays_open Unbounded = false
stays_open (UpTo number below) = below

module _ {X : Type 0} (text : X → List ℕ) (names : List X) (q : Square) where
  abbrev pub clock_text : ℕ → List ℕ
  clock_text i = range_text (name_of text names i) (entry q 0 (i + 1)) (entry q (i + 1) 0)

  -- a line for each of the first n clocks
  abbrev pub clocks_text : ℕ → List ℕ
  clocks_text zero = []
  clocks_text (suc n) = clocks_text n ++ clock_text n

  -- clock i less clock j
  abbrev pub pair_text : ℕ → ℕ → List ℕ
  pair_text j i =
      cond (stays_open (entry q (i + 1) 0) && stays_open (entry q (j + 1) 0))
      (range_text (name_of text names i ++ (codes " - " ++ name_of text names j)) (entry q (j + 1) (i + 1)) (entry q (i + 1) (j + 1)))
      []

  -- the first n clocks less clock j
  abbrev pub pairs_below : ℕ → ℕ → List ℕ
  pairs_below j zero = []
  pairs_below j (suc n) = pairs_below j n ++ pair_text j n

  -- the pairs of the first n clocks
  abbrev pub pairs_text : ℕ → List ℕ
  pairs_text zero = []
  pairs_text (suc n) = pairs_text n ++ pairs_below n n

  abbrev pub bounds_text : ℕ → List ℕ
  bounds_text n = clocks_text n ++ pairs_text n
