-- The point of partition is the number of those that are less.
use Rattle.std.proofs.Common.{◌≡◌, ℕ, List, ltb, sym, ap, ◌∙◌, subst, rules, arith}
use Rattle.std.specs.List.Sorted.{IsStrictlyIncreasing}
use Rattle.std.proofs.lemmas.List.Sorted.{IsPartitionPoint-from_clause, IsPartitionedBy-ltb}
use Rattle.realise.specs.Places.{place_among}
use Rattle.realise.proofs.Rising.{counted_until, rising_non_decreasing}
use Rattle.realise.proofs.places.Places.place.Goals as goal

pub returns : goal.returns
returns c =
    let xs = c.deref.result.now in
    let ns = c.args.self.now.numbers.items in
    let x = c.args.number in
    let same : xs ≡ ns = search rules in
    let up = subst IsStrictlyIncreasing (sym same) c.args.self.now.rising in
    let parted = IsPartitionedBy-ltb (λ n. n) xs x (rising_non_decreasing xs up) in
    let point = IsPartitionPoint-from_clause (λ n. ltb n x) xs c.partition_point.result c.partition_point.ensures.partitioned parted (λ a r q k. search rules) in
    let counted = counted_until (λ n. ltb n x) xs c.partition_point.result c.partition_point.ensures.bound (λ k h. point.0 k 0 (omega arith) h) (λ k h h'. point.1 k 0 h h') in
    sym counted ∙ ap (λ (l : List ℕ). place_among l x) same
