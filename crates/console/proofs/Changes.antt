-- Words that differ at one place: what is left of them after their common start differs at its start.
use Rattle.std.proofs.Common.{◌≡◌, ℕ, zero, suc, ◌-◌, ◌<◌, ◌≤◌, Bool, true, List, [], ◌∷◌, ◌++◌, map, length, get_or, take, drop, sym, refl, ap, ◌∙◌, subst, inl, inr, arith}
use Rattle.std.specs.Bool.{Decides}
use Rattle.std.specs.Char.{to_ascii_lowercase}
use Rattle.std.specs.Str.{chars}
use Rattle.std.proofs.lemmas.List.{take_rest}
use Rattle.console.specs.Nearness.{Exchange, OneChange, Nearly, Swapped, StartChange, changed, left_out, put_in, swapped}

-- where the front is empty
few_at_start : (xs ys old new back : List ℕ) → xs ≡ old ++ back → ys ≡ new ++ back → length old ≤ 1 → length new ≤ 1 → StartChange xs ys
few_at_start xs ys [] [] back p q h k = changed (ap (drop 1) (p ∙ sym q))
few_at_start xs ys [] (b ∷ []) back p q h k = put_in (p ∙ sym (ap (drop 1) q))
few_at_start xs ys [] (b ∷ c ∷ r) back p q h k = absurd (omega arith)
few_at_start xs ys (a ∷ []) [] back p q h k = left_out (ap (drop 1) p ∙ sym q)
few_at_start xs ys (a ∷ []) (b ∷ []) back p q h k = changed (ap (drop 1) p ∙ sym (ap (drop 1) q))
few_at_start xs ys (a ∷ []) (b ∷ c ∷ r) back p q h k = absurd (omega arith)
few_at_start xs ys (a ∷ b ∷ r) new back p q h k = absurd (omega arith)

swapped_at_start : (a b : ℕ) (xs ys back : List ℕ) → xs ≡ a ∷ b ∷ back → ys ≡ b ∷ a ∷ back → StartChange xs ys
swapped_at_start a b xs ys back p q =
    swapped (
      rw p (omega arith),
      rw q (omega arith),
      ap (λ (l : List ℕ). get_or l 0 0) p ∙ sym (ap (λ (l : List ℕ). get_or l 1 0) q),
      ap (λ (l : List ℕ). get_or l 1 0) p ∙ sym (ap (λ (l : List ℕ). get_or l 0 0) q),
      ap (λ (l : List ℕ). drop 1 (drop 1 l)) p ∙ sym (ap (λ (l : List ℕ). drop 1 (drop 1 l)) q),
    )

exchange_at_start : (xs ys old new back : List ℕ) → xs ≡ old ++ back → ys ≡ new ++ back → Exchange old new → StartChange xs ys
exchange_at_start xs ys old new back p q (inl h) = few_at_start xs ys old new back p q h.0 h.1
exchange_at_start xs ys old new back p q (inr h) =
    swapped_at_start h.0 h.1 xs ys back (p ∙ ap (λ (l : List ℕ). l ++ back) h.2) (q ∙ ap (λ (l : List ℕ). l ++ back) h.3)

-- xs and ys are the same up to s, and not at s
pub record Parted (xs ys : List ℕ) (s : ℕ) : Type 0 where
  pub first_within : s ≤ length xs
  pub second_within : s ≤ length ys
  pub before : (k : ℕ) → k < s → get_or xs k 0 ≡ get_or ys k 0
  pub differ : s < length xs → s < length ys → get_or xs s 0 ≡ get_or ys s 0 → ⊥

parted_tail : (x y : ℕ) (xs ys : List ℕ) (s : ℕ) → Parted (x ∷ xs) (y ∷ ys) (suc s) → Parted xs ys s
parted_tail x y xs ys s h =
    record {
      first_within = omega (arith, h.first_within);
      second_within = omega (arith, h.second_within);
      before = λ k lt. h.before (suc k) (omega arith);
      differ = λ lt gt. h.differ (omega arith) (omega arith);
    }

-- the same first character more or less
more_front : (x y : ℕ) (xs ys : List ℕ) → x ≡ y → OneChange xs ys → OneChange (x ∷ xs) (y ∷ ys)
more_front x y xs ys e h =
    record {
      front = x ∷ h.front;
      old = h.old;
      new = h.new;
      back = h.back;
      first = ap (λ (l : List ℕ). x ∷ l) h.first;
      second = ap (λ (z : ℕ). z ∷ ys) (sym e) ∙ ap (λ (l : List ℕ). x ∷ l) h.second;
      exchange = h.exchange;
    }

none_changed : (xs ys : List ℕ) → xs ≡ ys → OneChange xs ys
none_changed xs ys e =
    record { front = []; old = []; new = []; back = xs; first = refl; second = sym e; exchange = inl (omega arith, omega arith) }

one_left_out : (x : ℕ) (xs ys : List ℕ) → xs ≡ x ∷ ys → OneChange xs ys
one_left_out x xs ys e =
    record { front = []; old = x ∷ []; new = []; back = ys; first = e; second = refl; exchange = inl (omega arith, omega arith) }

one_put_in : (x : ℕ) (xs ys : List ℕ) → ys ≡ x ∷ xs → OneChange xs ys
one_put_in x xs ys e =
    record { front = []; old = []; new = x ∷ []; back = xs; first = refl; second = e; exchange = inl (omega arith, omega arith) }

few_less : (x y : ℕ) (xs ys old new back : List ℕ) → x ≡ y → x ∷ xs ≡ old ++ back → y ∷ ys ≡ new ++ back → length old ≤ 1 → length new ≤ 1 → OneChange xs ys
few_less x y xs ys [] [] back e p q h k = none_changed xs ys (cc)
few_less x y xs ys [] (b ∷ []) back e p q h k = one_put_in x xs ys (cc)
few_less x y xs ys [] (b ∷ c ∷ r) back e p q h k = absurd (omega arith)
few_less x y xs ys (a ∷ []) [] back e p q h k = one_left_out x xs ys (cc)
few_less x y xs ys (a ∷ []) (b ∷ []) back e p q h k = none_changed xs ys (cc)
few_less x y xs ys (a ∷ []) (b ∷ c ∷ r) back e p q h k = absurd (omega arith)
few_less x y xs ys (a ∷ b ∷ r) new back e p q h k = absurd (omega arith)

swapped_less : (x y a b : ℕ) (xs ys back : List ℕ) → x ≡ y → x ∷ xs ≡ a ∷ b ∷ back → y ∷ ys ≡ b ∷ a ∷ back → OneChange xs ys
swapped_less x y a b xs ys back e p q = none_changed xs ys (cc)

exchange_less : (x y : ℕ) (xs ys old new back : List ℕ) → x ≡ y → x ∷ xs ≡ old ++ back → y ∷ ys ≡ new ++ back → Exchange old new → OneChange xs ys
exchange_less x y xs ys old new back e p q (inl h) = few_less x y xs ys old new back e p q h.0 h.1
exchange_less x y xs ys old new back e p q (inr h) =
    swapped_less x y h.0 h.1 xs ys back e (p ∙ ap (λ (l : List ℕ). l ++ back) h.2) (q ∙ ap (λ (l : List ℕ). l ++ back) h.3)

less_front : (x y : ℕ) (xs ys front old new back : List ℕ) → x ≡ y → x ∷ xs ≡ front ++ (old ++ back) → y ∷ ys ≡ front ++ (new ++ back) → Exchange old new → OneChange xs ys
less_front x y xs ys [] old new back e p q h = exchange_less x y xs ys old new back e p q h
less_front x y xs ys (z ∷ zs) old new back e p q h =
    record { front = zs; old = old; new = new; back = back; first = cc; second = cc; exchange = h }

-- where the first characters differ, or there are none, the front is empty
start_change : (xs ys front old new back : List ℕ) → Parted xs ys 0 → xs ≡ front ++ (old ++ back) → ys ≡ front ++ (new ++ back) → Exchange old new → StartChange xs ys
start_change xs ys [] old new back h p q e = exchange_at_start xs ys old new back p q e
start_change xs ys (z ∷ zs) old new back h p q e =
    absurd
    (h.differ (rw p (omega arith)) (rw q (omega arith))
    (ap (λ (l : List ℕ). get_or l 0 0) p ∙ sym (ap (λ (l : List ℕ). get_or l 0 0) q)))

pub from_change : (xs ys : List ℕ) (s : ℕ) → Parted xs ys s → OneChange xs ys → StartChange (drop s xs) (drop s ys)
from_change xs ys zero h c =
    start_change xs ys c.front c.old c.new c.back h c.first c.second c.exchange
from_change [] ys (suc s) h c = absurd (omega (arith, h.first_within))
from_change (x ∷ xs) [] (suc s) h c = absurd (omega (arith, h.second_within))
from_change (x ∷ xs) (y ∷ ys) (suc s) h c =
    from_change xs ys s (parted_tail x y xs ys s h)
    (less_front x y xs ys c.front c.old c.new c.back (h.before 0 (omega arith)) c.first c.second c.exchange)

changed_once : (xs ys : List ℕ) → drop 1 xs ≡ drop 1 ys → OneChange xs ys
changed_once [] [] e = none_changed [] [] refl
changed_once [] (y ∷ ys) e = one_put_in y [] (y ∷ ys) (ap (λ (l : List ℕ). y ∷ l) (sym e))
changed_once (x ∷ xs) [] e = one_left_out x (x ∷ xs) [] (ap (λ (l : List ℕ). x ∷ l) e)
changed_once (x ∷ xs) (y ∷ ys) e =
    record { front = []; old = x ∷ []; new = y ∷ []; back = xs; first = refl; second = ap (λ (l : List ℕ). y ∷ l) (sym e); exchange = inl (omega arith, omega arith) }

left-out_once : (xs ys : List ℕ) → drop 1 xs ≡ ys → OneChange xs ys
left-out_once [] ys e = none_changed [] ys e
left-out_once (x ∷ xs) ys e = one_left_out x (x ∷ xs) ys (ap (λ (l : List ℕ). x ∷ l) e)

put_in_once : (xs ys : List ℕ) → xs ≡ drop 1 ys → OneChange xs ys
put_in_once xs [] e = none_changed xs [] e
put_in_once xs (y ∷ ys) e = one_put_in y xs (y ∷ ys) (ap (λ (l : List ℕ). y ∷ l) (sym e))

swapped_once : (xs ys : List ℕ) → Swapped xs ys → OneChange xs ys
swapped_once [] ys h = absurd (omega (arith, h.0))
swapped_once (a ∷ []) ys h = absurd (omega (arith, h.0))
swapped_once (a ∷ b ∷ xs) [] h = absurd (omega (arith, h.1))
swapped_once (a ∷ b ∷ xs) (c ∷ []) h = absurd (omega (arith, h.1))
swapped_once (a ∷ b ∷ xs) (c ∷ d ∷ ys) h =
    record {
      front = [];
      old = a ∷ b ∷ [];
      new = b ∷ a ∷ [];
      back = xs;
      first = refl;
      second = let p = h.2 in let q = h.3 in let r = h.4 in cc;
      exchange = inr (a, b, refl, refl);
    }

one_change : (xs ys : List ℕ) → StartChange xs ys → OneChange xs ys
one_change xs ys (changed e) = changed_once xs ys e
one_change xs ys (left_out e) = left-out_once xs ys e
one_change xs ys (put_in e) = put_in_once xs ys e
one_change xs ys (swapped e) = swapped_once xs ys e

pub to_change : (xs ys : List ℕ) (s : ℕ) → Parted xs ys s → StartChange (drop s xs) (drop s ys) → OneChange xs ys
to_change xs ys zero h c = one_change xs ys c
to_change [] ys (suc s) h c = absurd (omega (arith, h.first_within))
to_change (x ∷ xs) [] (suc s) h c = absurd (omega (arith, h.second_within))
to_change (x ∷ xs) (y ∷ ys) (suc s) h c =
    more_front x y xs ys (h.before 0 (omega arith)) (to_change xs ys s (parted_tail x y xs ys s h) c)

pub start_same : {xs ys vs ws : List ℕ} → xs ≡ vs → ys ≡ ws → StartChange xs ys → StartChange vs ws
start_same {xs = xs} {ws = ws} p q c = subst (λ (l : List ℕ). StartChange l ws) p (subst (λ (l : List ℕ). StartChange xs l) q c)

pub change_same : {xs ys vs ws : List ℕ} → xs ≡ vs → ys ≡ ws → OneChange xs ys → OneChange vs ws
change_same {xs = xs} {ws = ws} p q c = subst (λ (l : List ℕ). OneChange l ws) p (subst (λ (l : List ℕ). OneChange xs l) q c)

-- where the case of letters is not all that is different
pub only_changed : (xs ys : List ℕ) (r : Bool) → (map to_ascii_lowercase xs ≡ map to_ascii_lowercase ys → ⊥) → (OneChange (chars xs) (chars ys) → r ≡ true) → Nearly xs ys → r ≡ true
only_changed xs ys r other change (inl e) = absurd (other e)
only_changed xs ys r other change (inr h) = change h

-- where the first two elements are the same in the other order
pub swapped_at : (xs ys : List ℕ) (r : Bool) (a b c d : ℕ) → 2 ≤ length xs → 2 ≤ length ys → a ≡ get_or xs 0 a → b ≡ get_or xs 1 b → c ≡ get_or ys 0 c → d ≡ get_or ys 1 d → a ≡ d → b ≡ c → Decides r (take (length xs - 2) (drop 2 xs) ≡ take (length ys - 2) (drop 2 ys)) → Decides r (Swapped xs ys)
swapped_at [] ys r a b c d le ge p q s t e f h = absurd (omega arith)
swapped_at (x ∷ []) ys r a b c d le ge p q s t e f h = absurd (omega arith)
swapped_at (x ∷ v ∷ xs) [] r a b c d le ge p q s t e f h = absurd (omega arith)
swapped_at (x ∷ v ∷ xs) (y ∷ []) r a b c d le ge p q s t e f h = absurd (omega arith)
swapped_at (x ∷ v ∷ xs) (y ∷ w ∷ ys) r a b c d le ge p q s t e f h =
    let first = take_rest (x ∷ v ∷ xs) 2 in
    let second = take_rest (y ∷ w ∷ ys) 2 in (
      λ yes'. (le, ge, sym p ∙ (e ∙ t), sym q ∙ (f ∙ s), sym first ∙ (h.0 yes' ∙ second)),
      λ swap. h.1 (first ∙ (swap.4 ∙ sym second)),
    )
