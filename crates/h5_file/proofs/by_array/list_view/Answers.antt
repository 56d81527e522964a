use Rattle.std.proofs.Common.{◌≡◌, ◌<◌, ◌≤◌, ℕ, List, true, false, leb, arith, length, get_or, sym, ap, ◌∙◌, subst, rules}
use Rattle.std.proofs.lemmas.Bool.Decides.{nat_tests}
use Rattle.std.proofs.lemmas.List.Sorted.{IsPartitionPoint-from_clause, IsPartitionedBy-leb}
use Rattle.std.specs.List.Sorted.{IsPartitionPoint}
use Rattle.h5_file.specs.ByArray.{DoNotFall, listed_under}
use Rattle.h5_file.specs.declared.by_array.ArrayView.{ArrayView}
use Rattle.h5_file.proofs.ByArrayLaws.{fall_insert, fall_order, under_insert}
use Rattle.h5_file.proofs.by_array.list_view.Goals as goal
use Rattle.h5_file.proofs.by_array.list_view.Goals.{After-partition_point-at}

items : (c : After-partition_point-at) → c.deref.result.now ≡ c.args.listed.now.items
items c = c.deref.ensures.value

order : (c : After-partition_point-at) → DoNotFall 0 c.deref.result.now
order c = subst (DoNotFall 0) (sym (items c)) c.requires

up_to : (c : After-partition_point-at) → IsPartitionPoint (λ (v : ArrayView). leb v.object c.args.view.object ≡ true) (λ v. leb v.object c.args.view.object ≡ false) c.args.listed.now.items c.partition_point-at.result
up_to c = subst (λ (vs : List ArrayView). IsPartitionPoint (λ (v : ArrayView). leb v.object c.args.view.object ≡ true) (λ v. leb v.object c.args.view.object ≡ false) vs c.partition_point-at.result) (items c)
    (IsPartitionPoint-from_clause (λ (v : ArrayView). leb v.object c.args.view.object) _ _ c.partition_point-at.ensures.partitioned
    (IsPartitionedBy-leb (λ (v : ArrayView). v.object) c.deref.result.now c.args.view.object (fall_order c.deref.result.now 0 (order c))) (λ a r f called. search rules))

bound : (c : After-partition_point-at) → c.partition_point-at.result ≤ length c.args.listed.now.items
bound c = subst (λ (vs : List ArrayView). c.partition_point-at.result ≤ length vs) (items c) c.partition_point-at.ensures.bound

above : (c : After-partition_point-at) → (k : ℕ) (d : ArrayView) → c.partition_point-at.result ≤ k → k < length c.args.listed.now.items → c.args.view.object < (get_or c.args.listed.now.items k d).object
above c k d behind there = let t = (up_to c).1 k d behind there in grind (arith, nat_tests, t)

below : (c : After-partition_point-at) → (k : ℕ) (d : ArrayView) → k < length c.args.listed.now.items → k < c.partition_point-at.result → (get_or c.args.listed.now.items k d).object ≤ c.args.view.object
below c k d there before = let t = (up_to c).0 k d (omega arith) before in grind (arith, nat_tests, t)

pub returns-clause-ordered : goal.returns-clause-ordered
returns-clause-ordered c =
    let b = (goal.at.returns-clause-ordered c).After-partition_point-at in
    subst (DoNotFall 0) (sym c.in_ok-insert.ensures.items)
    (fall_insert c.args.listed.now.items 0 c.partition_point-at.result c.args.view c.requires (omega arith) (bound b) (below b) (above b))

pub returns-clause-ok : goal.returns-clause-ok
returns-clause-ok c object =
    let b = (goal.at.returns-clause-ok c).After-partition_point-at in
    ap (listed_under object) c.in_ok-insert.ensures.items
    ∙ under_insert (λ (v : ArrayView). v.object) (λ (v : ArrayView). v.number) object c.args.listed.now.items c.partition_point-at.result c.args.view (bound b) (above b)
