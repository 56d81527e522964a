use Rattle.std.proofs.Common.{map, List, ℕ, Bor, subst}
use Rattle.std.specs.List.Sorted.{IsPermutation}
use Rattle.std.proofs.lemmas.List.Sorted.{IsPermutation-map}
use Rattle.h5_attr.proofs.OrderLaws.{sorted-texts, keys-are}
use Rattle.h5_attr.proofs.names.list.Goals as goal
use Rattle.h5_attr.proofs.names.list.Goals.{In_ok-names}

abbrev texts : List (Bor (List ℕ)) → List (List ℕ)
texts names = map (λ (name : Bor (List ℕ)). name.now) names

pub returns-clause-sorted : goal.returns-clause-sorted
returns-clause-sorted c = sorted-texts c.sort_unstable.new.self.items c.sort_unstable.ensures.sorted

pub returns-clause-same : goal.returns-clause-same
returns-clause-same c =
    let moved = IsPermutation-map (λ (name : Bor (List ℕ)). name.now) c.in_ok-names.names.items c.sort_unstable.new.self.items c.sort_unstable.ensures.permutation in
    subst (λ (names : List (List ℕ)). IsPermutation names (texts c.sort_unstable.new.self.items)) c.in_ok-names.ensures moved

pub returns-clause-names : goal.returns-clause-names
returns-clause-names c attributes has =
    keys-are c.args.header.now.messages attributes (texts c.sort_unstable.new.self.items) has
    (returns-clause-same c) (returns-clause-sorted c)
