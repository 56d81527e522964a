use Rattle.std.proofs.Common.{◌≡◌, ◌<◌, ◌≤◌, true, false, leb, ltb, arith, inl, inr, length, rules}
use Rattle.std.proofs.lemmas.Bool.{cases_lt}
use Rattle.std.proofs.lemmas.Bool.Decides.{nat_tests}
use Rattle.std.proofs.lemmas.List.Sorted.{IsPartitionPoint-from_clause, IsPartitionedBy-leb, IsPartitionedBy-ltb}
use Rattle.std.specs.List.Sorted.{IsPartitionPoint}
use Rattle.h5_file.specs.declared.by_array.ArrayView.{ArrayView}
use Rattle.h5_file.proofs.ByArrayLaws.{fall_order, under_range}
use Rattle.h5_file.proofs.by_array.views_on.Goals as goal
use Rattle.h5_file.proofs.by_array.views_on.Goals.{After-partition_point-end}

before : (c : After-partition_point-end) → IsPartitionPoint (λ (v : ArrayView). ltb v.object c.args.object ≡ true) (λ v. ltb v.object c.args.object ≡ false) c.args.listed.now c.partition_point-from.result
before c = IsPartitionPoint-from_clause (λ (v : ArrayView). ltb v.object c.args.object) _ _ c.partition_point-from.ensures.partitioned
    (IsPartitionedBy-ltb (λ (v : ArrayView). v.object) c.args.listed.now c.args.object (fall_order c.args.listed.now 0 c.requires)) (λ a r f called. search rules)

up_to : (c : After-partition_point-end) → IsPartitionPoint (λ (v : ArrayView). leb v.object c.args.object ≡ true) (λ v. leb v.object c.args.object ≡ false) c.args.listed.now c.partition_point-end.result
up_to c = IsPartitionPoint-from_clause (λ (v : ArrayView). leb v.object c.args.object) _ _ c.partition_point-end.ensures.partitioned
    (IsPartitionedBy-leb (λ (v : ArrayView). v.object) c.args.listed.now c.args.object (fall_order c.args.listed.now 0 c.requires)) (λ a r f called. search rules)

order : (c : After-partition_point-end) → c.partition_point-from.result ≤ c.partition_point-end.result
order c = elim (cases_lt c.partition_point-end.result c.partition_point-from.result) [
  | inl less ↦
      let any : ArrayView = record { object = 0; number = 0 } in
      let there : c.partition_point-end.result < length c.args.listed.now = omega (arith, less, c.partition_point-from.ensures.bound) in
      let under = (before c).0 c.partition_point-end.result any (omega arith) less in
      let over = (up_to c).1 c.partition_point-end.result any (omega arith) there in
      absurd (grind (arith, nat_tests, under, over))
  | inr more ↦ more
]

pub slice_bounds-result-count : goal.slice_bounds-result-count
slice_bounds-result-count c = order (goal.at.slice_bounds-result-count c).After-partition_point-end

pub slice_bounds-result-start : goal.slice_bounds-result-start
slice_bounds-result-start c = order (goal.at.slice_bounds-result-start c).After-partition_point-end

pub returns : goal.returns
returns c =
    let b = (goal.at.returns c).After-partition_point-end in
    let first = before b in
    let last = up_to b in
    under_range (λ (v : ArrayView). v.object) (λ (v : ArrayView). v.number) c.args.object c.args.listed.now c.partition_point-from.result c.partition_point-end.result (order b)
    (λ k d there under. let t = first.0 k d (omega arith) under in grind (arith, nat_tests, t))
    (λ k d there behind. let t = first.1 k d behind there in grind (arith, nat_tests, t))
    (λ k d there under. let t = last.0 k d (omega arith) under in grind (arith, nat_tests, t))
    (λ k d there behind. let t = last.1 k d behind there in grind (arith, nat_tests, t))
