use Rattle.std.proofs.Common.{◌≡◌, true, false, ltb, arith, rules}
use Rattle.std.proofs.lemmas.List.Sorted.{IsPartitionPoint-from_clause}
use Rattle.std.proofs.lemmas.Bool.{cases_eq}
use Rattle.std.proofs.lemmas.Bool.Decides.{nat_tests}
use Rattle.std.specs.List.Sorted.{IsPartitionPoint}
use Rattle.h5_bytes.specs.declared.Block.{Block}
use Rattle.h5_space.proofs.free_list.place_of.Goals as goal

partitioned : (c : goal.After-partition_point) → IsPartitionPoint (λ (b : Block). ltb b.at c.args.at ≡ true) (λ b. ltb b.at c.args.at ≡ false) c.args.free.now c.partition_point.result
partitioned c = IsPartitionPoint-from_clause (λ (b : Block). ltb b.at c.args.at) _ _ c.partition_point.ensures.partitioned
    (λ i j d le l t. grind (arith, nat_tests, c.requires.1.apart i j d, cases_eq i j)) (λ a r f called. search rules)

pub returns-clause-before : goal.returns-clause-before
returns-clause-before c k d l = let t = (partitioned c).0 k d (omega arith) l in grind (arith, nat_tests)

pub returns-clause-after : goal.returns-clause-after
returns-clause-after c k d l h = let t = (partitioned c).1 k d l h in grind (arith, nat_tests)
