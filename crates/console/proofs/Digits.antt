-- A word of digits: the number that is put together digit by digit is what the library reads of it, and what a fold comes to.
use Rattle.std.proofs.Common.{◌≡◌, ℕ, ◌+◌, ◌-◌, ◌*◌, ◌<◌, ◌≤◌, ◌^◌, true, false, List, [], ◌∷◌, ◌++◌, length, get_or, Some, None, Option, sym, refl, ap, ◌∙◌, arith, rules, ◌&&◌, Bool, ltb, Result, Ok, Err, Bor, subst}
use Rattle.std.specs.Char.{is_ascii_digit}
use Rattle.std.specs.Result.{MatchResult, OkIff, result_ok}
use Rattle.std.specs.Str.{all_ascii_digits, IsUtf8}
use Rattle.std.proofs.lemmas.Fmt.{IsAscii-from_digits}
use Rattle.std.proofs.lemmas.Str.{IsUtf8-from_ascii}
use Rattle.std.proofs.lemmas.Bool.{false≢true, and_parts, ltb-true, ltb-false}
use Rattle.std.proofs.lemmas.Bool.Decides.{nat_tests}
use Rattle.std.proofs.lemmas.Str.Parse.{IsNumeralModel, numerals_by_fold}
use denote.Param.Members.{Mut, Called}
use Rattle.std.specs.ControlFlow.{continue_value}
use Rattle.std.specs.Option.{MatchOption}
use Rattle.std.specs.Iterator.{Yields, AlwaysYields, TryFoldTurn, TryFoldsItems}
use Rattle.std.specs.List.{FoldsTo}
use Rattle.console.specs.Numbers.{digit_pushed, push_all, number_of}

-- the number that digits go on with
abbrev pub read_on : ℕ → List ℕ → ℕ
read_on n [] = n
read_on n (c ∷ cs) = read_on (n * 10 + (c - 48)) cs

pub numerals : IsNumeralModel (λ ds. all_ascii_digits ds ≡ true) (read_on 0)
numerals = numerals_by_fold _ (search rules) read_on (search rules)

read_more : (cs : List ℕ) (n : ℕ) → n ≤ read_on n cs
read_more [] n = omega arith
read_more (c ∷ cs) n = let rest = read_more cs (n * 10 + (c - 48)) in omega arith

pushed-digit : (n c : ℕ) → is_ascii_digit c ≡ true → n * 10 + (c - 48) < 4294967296 → digit_pushed n c ≡ Some (n * 10 + (c - 48))
pushed-digit n c d fits = grind (arith, nat_tests)

pushed-beyond : (n c : ℕ) → 4294967296 ≤ n * 10 + (c - 48) → digit_pushed n c ≡ None
pushed-beyond n c past = grind (arith, nat_tests)

pushed-none : (n c : ℕ) → is_ascii_digit c ≡ false → digit_pushed n c ≡ None
pushed-none n c d = grind (arith, nat_tests)

push_reads : (cs : List ℕ) (n : ℕ) → all_ascii_digits cs ≡ true → read_on n cs < 4294967296 → push_all (Some n) cs ≡ Some (read_on n cs)
push_reads [] n d fits = refl
push_reads (c ∷ cs) n d fits =
    let more = read_more cs (n * 10 + (c - 48)) in
    let here = pushed-digit n c (and_parts _ _ d).0 (omega arith) in
    ap (λ (o : Option ℕ). push_all o cs) here ∙ push_reads cs (n * 10 + (c - 48)) (and_parts _ _ d).1 fits

push_any : (o : Option ℕ) (cs : List ℕ) → ((m : ℕ) → push_all (Some m) cs ≡ None) → push_all o cs ≡ None
push_any None cs h = refl
push_any (Some m) cs h = h m

other_here : (c n : ℕ) (cs : List ℕ) (a : Bool) → is_ascii_digit c ≡ a → (a && all_ascii_digits cs) ≡ false → (all_ascii_digits cs ≡ false → (m : ℕ) → push_all (Some m) cs ≡ None) → push_all (digit_pushed n c) cs ≡ None
other_here c n cs true e d later = push_any (digit_pushed n c) cs (later d)
other_here c n cs false e d later = ap (λ (o : Option ℕ). push_all o cs) (pushed-none n c e)

push_other : (cs : List ℕ) (n : ℕ) → all_ascii_digits cs ≡ false → push_all (Some n) cs ≡ None
push_other [] n d = absurd (false≢true (sym d))
push_other (c ∷ cs) n d = other_here c n cs (is_ascii_digit c) refl d (λ e m. push_other cs m e)

large_here : (c n : ℕ) (cs : List ℕ) (b : Bool) → ltb (n * 10 + (c - 48)) 4294967296 ≡ b → is_ascii_digit c ≡ true → (n * 10 + (c - 48) < 4294967296 → push_all (Some (n * 10 + (c - 48))) cs ≡ None) → push_all (digit_pushed n c) cs ≡ None
large_here c n cs true e d later =
    let fits = ltb-true _ _ e in ap (λ (o : Option ℕ). push_all o cs) (pushed-digit n c d fits) ∙ later fits
large_here c n cs false e d later = ap (λ (o : Option ℕ). push_all o cs) (pushed-beyond n c (ltb-false _ _ e))

push_large : (cs : List ℕ) (n : ℕ) → all_ascii_digits cs ≡ true → n < 4294967296 → 4294967296 ≤ read_on n cs → push_all (Some n) cs ≡ None
push_large [] n d small large = absurd (omega arith)
push_large (c ∷ cs) n d small large =
    large_here c n cs (ltb (n * 10 + (c - 48)) 4294967296) refl (and_parts _ _ d).0
    (λ fits. push_large cs (n * 10 + (c - 48)) (and_parts _ _ d).1 fits large)

some_number : (bs : List ℕ) → all_ascii_digits bs ≡ true → 0 < length bs → read_on 0 bs < 4294967296 → number_of bs ≡ Some (read_on 0 bs)
some_number [] d more fits = absurd (omega arith)
some_number (b ∷ bs) d more fits = push_reads (b ∷ bs) 0 d fits

none_where : (b : ℕ) (bs : List ℕ) (a f : Bool) → all_ascii_digits (b ∷ bs) ≡ a → ltb (read_on 0 (b ∷ bs)) 4294967296 ≡ f → ((all_ascii_digits (b ∷ bs) ≡ true) × (0 < length (b ∷ bs)) × (read_on 0 (b ∷ bs) < 2 ^ 32) → ⊥) → number_of (b ∷ bs) ≡ None
none_where b bs false f d e none = push_other (b ∷ bs) 0 d
none_where b bs true false d e none = push_large (b ∷ bs) 0 d (omega arith) (ltb-false _ _ e)
none_where b bs true true d e none = absurd (none (d, omega arith, ltb-true _ _ e))

no_number : (bs : List ℕ) → ((all_ascii_digits bs ≡ true) × (0 < length bs) × (read_on 0 bs < 2 ^ 32) → ⊥) → number_of bs ≡ None
no_number [] none = refl
no_number (b ∷ bs) none =
    none_where b bs (all_ascii_digits (b ∷ bs)) (ltb (read_on 0 (b ∷ bs)) 4294967296) refl refl none

-- what the library reads of a text of digits
pub parsed : {E : Type 0} (bs : List ℕ) (r : Result ℕ E) → OkIff r ((all_ascii_digits bs ≡ true) × (0 < length bs) × (read_on 0 bs < 2 ^ 32)) (read_on 0 bs) → result_ok r ≡ number_of bs
parsed bs (Ok x) h = ap Some h.1 ∙ sym (some_number bs h.0.0 h.0.1 h.0.2)
parsed bs (Err e) h = sym (no_number bs h)

-- what is no number
pub other_bytes : (bs : List ℕ) → (IsUtf8 bs → ⊥) → number_of bs ≡ None
other_bytes bs none =
    no_number bs (λ h. none (IsUtf8-from_ascii bs (IsAscii-from_digits bs (numerals.to bs h.0))))

-- a text that does not begin with a plus
pub no_plus : (bs : List ℕ) (r : Bool) → ((rest : List ℕ) → bs ≡ (43 ∷ []) ++ rest → r ≡ true) → r ≡ false → get_or bs 0 0 ≡ 43 → ⊥
no_plus [] r all e h = omega arith
no_plus (b ∷ bs) r all e h = false≢true (sym e ∙ all bs (ap (λ (x : ℕ). x ∷ bs) h))

-- what was read of bytes, as text
pub not_text : {E : Type 0} (X : E → Type 0) (bs : List ℕ) (r : Result (Bor (List ℕ)) E) → None ≡ result_ok r → MatchResult r (λ s. (s.now ≡ bs) × IsUtf8 bs) (λ e. (IsUtf8 bs → ⊥) × X e) → IsUtf8 bs → ⊥
not_text X bs (Ok s) e h = cc
not_text X bs (Err f) e h = h.0

pub same_text : {E : Type 0} (X : E → Type 0) (bs : List ℕ) (s : Bor (List ℕ)) (r : Result (Bor (List ℕ)) E) → Some s ≡ result_ok r → MatchResult r (λ t. (t.now ≡ bs) × IsUtf8 bs) X → s.now ≡ bs
same_text X bs s (Ok t) e h = let one : s ≡ t = cc in ap (λ (b : Bor (List ℕ)). b.now) one ∙ h.0
same_text X bs s (Err f) e h = cc

pub some_digits : (word : List ℕ) → (length word ≡ 0 → ⊥) → number_of word ≡ push_all (Some 0) word
some_digits [] ne = absurd (ne refl)
some_digits (b ∷ bs) ne = refl

-- what a fold by `digit_pushed` comes to that ends at the first `None`
module _ {S A F : Type 0} (E : Type 0) (steps : S → Option A → S → Type 0) (v : A → ℕ) (g : Mut F (ℕ × (A × Unit {0})) (Option ℕ)) (pushes : (n : ℕ) (x : A) (o : Option ℕ) (f h : F) → Called g f (n, (x, tt)) o h → o ≡ digit_pushed n (v x)) (r : Option ℕ) (u : S) where
  tried : (xs : List A) (o : Option A) (word : List ℕ) (s t : S) (f h : F) (n a : ℕ) → Yields steps s xs t → steps t o u → FoldsTo {P = F × ℕ} (TryFoldTurn {E = E} g (λ w c. w ≡ continue_value c)) (f, n) xs (h, a)
      → MatchOption o (r ≡ Some a) (λ x. (w : Option ℕ) × (k : F) × (e : E) × Called g h (a, (x, tt)) w k × (w ≡ None) × (r ≡ None))
      → AlwaysYields steps v s word → r ≡ push_all (Some n) word
  tried [] None [] s t f h n a y last c ends all = ends ∙ ap (λ (p : F × ℕ). Some p.1) (sym c)
  tried [] (Some x) [] s t f h n a y last c ends all = absurd (all x u (subst (λ (i : S). steps i (Some x) u) (sym y) last))
  tried [] None (b ∷ bs) s t f h n a y last c ends all = absurd (all.0 u (subst (λ (i : S). steps i None u) (sym y) last))
  tried [] (Some x) (b ∷ bs) s t f h n a y last c ends all =
      let item : v x ≡ b = (all.1 x u (subst (λ (i : S). steps i (Some x) u) (sym y) last)).0 in
      let total : n ≡ a = ap (λ (p : F × ℕ). p.1) c in
      let none : digit_pushed n b ≡ None = ap (λ m. digit_pushed m b) total ∙ (ap (digit_pushed a) (sym item) ∙ (sym (pushes a x ends.0 h ends.1 ends.3) ∙ ends.4)) in
      ends.5 ∙ sym (ap (λ (o : Option ℕ). push_all o bs) none)
  tried (x ∷ xs) o [] s t f h n a y last c ends all = absurd (all x y.0 y.1)
  tried (x ∷ xs) o (b ∷ bs) s t f h n a y last c ends all =
      let here = all.1 x y.0 y.1 in
      let some : digit_pushed n b ≡ Some c.0.1 = ap (digit_pushed n) (sym here.0) ∙ (sym (pushes n x c.1.0 f c.0.0 c.1.1) ∙ c.1.2) in
      tried xs o bs y.0 t c.0.0 h c.0.1 a y.2 last c.2 ends here.1 ∙ sym (ap (λ (o : Option ℕ). push_all o bs) some)

pub tried_all : {S A F E : Type 0} (steps : S → Option A → S → Type 0) (v : A → ℕ) {g : Mut F (ℕ × (A × Unit {0})) (Option ℕ)} {r : Option ℕ} {u s : S} {f : F} (n : ℕ) (word : List ℕ)
    → TryFoldsItems steps g (λ w c. w ≡ continue_value c) (λ (e : E) w. w ≡ None) s f n r u → AlwaysYields steps v s word
    → ((m : ℕ) (x : A) (o : Option ℕ) (h k : F) → Called g h (m, (x, tt)) o k → o ≡ digit_pushed m (v x)) → r ≡ push_all (Some n) word
tried_all {E = E} steps v {g} {r} {u} {s} {f} n word d all pushes =
    tried E steps v g pushes r u d.0 d.1 word s d.4.0 f d.2 n d.3 d.4.1 d.4.2 d.5 d.6 all
