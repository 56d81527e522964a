use Rattle.std.proofs.Common.{List, ℕ, subst, rules}
use Rattle.std.specs.Ordering.{nat_cmp, is_lt}
use Rattle.std.specs.Cmp.Lexicographic.{slice_cmp, nat_list_cmp_total}
use Rattle.std.specs.List.Sorted.{IsPermutation}
use Rattle.std.proofs.lemmas.List.Sorted.{answers_always, ranks_by}
use Rattle.h5_model.specs.Tree.Objects.{Attribute}
use Rattle.h5_attr.proofs.EntryOrder.{entries-are}
use Rattle.h5_attr.proofs.order.sorted.Goals as goal

pub returns : goal.returns
returns c attributes has =
    let moved = subst (λ (listed : List (List ℕ × Attribute)). IsPermutation listed c.sort_unstable_by.new.self.items) c.in_ok-listed.ensures c.sort_unstable_by.ensures.permutation in
    let up = c.sort_unstable_by.ensures.sorted (λ (x y : List ℕ × Attribute). is_lt (slice_cmp nat_cmp x.0 y.0))
    (ranks_by nat_list_cmp_total (λ (x : List ℕ × Attribute). x.0)) (answers_always _ _ _ (λ f a r q k. search rules)) in
    entries-are c.args.header.now.messages attributes c.sort_unstable_by.new.self.items has moved up
