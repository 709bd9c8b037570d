-- Replies that are written one after the other.
use Rattle.std.proofs.Common.{◌≡◌, ℕ, ◌+◌, ◌<◌, ◌≤◌, ◌≢◌, List, length, get_or, set, refl, sym, ◌∙◌, subst, inl, inr, arith, length-set, get_or-set_other, get_or-set_same}
use Rattle.std.proofs.lemmas.Bool.{cases_eq}
use Rattle.automata.specs.Automata.{Automaton}
use Rattle.automata.specs.Regions.{MoreThan}
use Rattle.regions.proofs.CountedKinds.{kinds_counted}
use Rattle.search.specs.Least.{region_at}
use Rattle.search.specs.Memory.{stored_label}
use Rattle.search.specs.declared.answers.Table.{Table}
use Rattle.search.specs.Answering.{TableIs}
use Rattle.c_interface.specs.declared.replies.Reply.{Reply}
use Rattle.c_interface.specs.Exploring.{ReplyIs, Replied}

-- what the table tells is right of the automaton whose table it is
abbrev pub RightFor : Table → ℕ → Reply → Type 0
RightFor t p reply = (row : List ℕ) (kinds : ℕ) (a : Automaton) → TableIs row kinds t a → ReplyIs a p reply

-- the first n replies are right, and the others as they were
pub record RepliedUpTo (t : Table) (n : ℕ) (old new : List Reply) : Type 0 where
  pub size : length new ≡ length old
  pub before : (p : ℕ) (other : Reply) → p < n → RightFor t p (get_or new p other)
  pub behind : (p : ℕ) (other : Reply) → n ≤ p → get_or new p other ≡ get_or old p other

pub none_yet : (t : Table) (old : List Reply) → RepliedUpTo t 0 old old
none_yet t old =
    record {
      size = refl;
      before = λ p other h. absurd (omega (arith, h));
      behind = λ p other h. refl;
    }

pub one_more : (t : Table) (n : ℕ) (old new : List Reply) (reply : Reply)
    → n < length new
    → RightFor t n reply
    → RepliedUpTo t n old new
    → RepliedUpTo t (n + 1) old (set new n reply)
one_more t n old new reply room right was =
    record {
      size = length-set new n reply ∙ was.size;
      before =
          λ p other h.
          elim (cases_eq p n) [
            | inl same ↦ subst (λ (q : ℕ). RightFor t q (get_or (set new n reply) q other)) (sym same) (subst (RightFor t n) (sym (get_or-set_same new n reply other room)) right)
            | inr ne ↦ subst (RightFor t p) (sym (get_or-set_other new n p reply other ne)) (was.before p other (omega (arith, h, ne)))
          ];
      behind =
          λ p other h.
          let ne : p ≢ n = omega (arith, h) in
          get_or-set_other new n p reply other ne ∙ was.behind p other (omega (arith, h));
    }

pub all_replied : (row : List ℕ) (kinds : ℕ) (t : Table) (a : Automaton) (n : ℕ) (old new : List Reply)
    → TableIs row kinds t a
    → n ≡ t.locations
    → RepliedUpTo t n old new
    → Replied a old new
all_replied row kinds t a n old new table end done =
    record {
      positions = λ p other h. done.before p other (omega (arith, h, end, table.locations)) row kinds a table;
      behind = λ p other h. done.behind p other (omega (arith, h, end, table.locations));
    }

-- a table that is known has all kinds
pub none_beyond : (row : List ℕ) (kinds : ℕ) (t : Table) (a : Automaton) → TableIs row kinds t a → MoreThan a t.count → ⊥
none_beyond row kinds t a is =
    kinds_counted.no_more row a t.count t.count (region_at t.keys.now) (stored_label t.labels.now) is.reads is.closed (omega arith)
