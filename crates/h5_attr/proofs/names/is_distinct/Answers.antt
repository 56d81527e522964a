use Rattle.std.proofs.Common.{◌≡◌, ◌∙◌, Bor, List, ℕ, Some, rules, tests}
use Rattle.std.specs.Ordering.{nat_cmp, is_lt, is_some_and}
use Rattle.std.specs.Cmp.Lexicographic.{slice_cmp, slice_partial_cmp}
use Rattle.std.proofs.lemmas.List.Sorted.{answers_always}
use Rattle.h5_attr.proofs.OrderLaws.{partial-less, told_distinct}
use Rattle.h5_attr.proofs.names.is_distinct.Goals as goal

pub returns : goal.returns
returns c =
    let below = answers_always _ _ _ (λ f a r q k.
    let tested : r ≡ is_some_and is_lt (slice_partial_cmp (λ x y. Some (nat_cmp x y)) a.0.now.now a.1.0.now.now) = search (rules, tests) in
    tested ∙ partial-less a.0.now.now a.1.0.now.now) in
    told_distinct c.args.names.now c.is_sorted_by.result c.requires (c.is_sorted_by.ensures.cases (λ (x y : Bor (List ℕ)). is_lt (slice_cmp nat_cmp x.now y.now)) below)
