-- What is sorted and has each number once rises, and has the same numbers.
use Rattle.std.proofs.Common.{ℕ, List, eqb, sym, subst, arith}
use Rattle.std.specs.List.{Contains}
use Rattle.std.specs.List.Sorted.{IsStrictlyIncreasing}
use Rattle.std.proofs.lemmas.List.Filters.{dedup_is}
use Rattle.std.proofs.lemmas.List.Kept.{Contains-dedup_nat, Contains-from_dedup}
use Rattle.std.proofs.lemmas.List.Sorted.{Contains-permutation, IsPermutation-sym}
use Rattle.std.proofs.lemmas.Map.Keys.{IsStrictlyIncreasing-dedup}
use Rattle.realise.proofs.places.Places.of.Goals as goal

pub invariant_of-result : goal.invariant_of-result
invariant_of-result c =
    let sorted = c.sort_unstable.new.self.items in
    let is = dedup_is eqb sorted _ c.dedup.ensures.filtered in
    record { rising = subst IsStrictlyIncreasing (sym is) (IsStrictlyIncreasing-dedup sorted c.sort_unstable.ensures.sorted) }

pub returns : goal.returns
returns c =
    let given = c.args.numbers.items in
    let sorted = c.sort_unstable.new.self.items in
    let is = dedup_is eqb sorted _ c.dedup.ensures.filtered in
    let moved = c.sort_unstable.ensures.permutation in
    record {
      same = λ x. (
        λ has. subst (λ (ns : List ℕ). Contains ns x) (sym is) (Contains-dedup_nat sorted x (Contains-permutation given sorted x moved has)),
        λ has. Contains-permutation sorted given x (IsPermutation-sym given sorted moved) (Contains-from_dedup eqb sorted x (subst (λ (ns : List ℕ). Contains ns x) is has)),
      );
      size = omega (arith, c.dedup.ensures.bound, c.sort_unstable.ensures.len);
    }
