-- An order of a tree's objects has the members that the tree's entries are, each once, so that sums over both are the same.
use Rattle.std.proofs.Common.{◌≡◌, ℕ, List, [], ◌∷◌, sym, ap, ◌∙◌, false, true, Some}
use Rattle.std.specs.Prelude.{T}
use Rattle.std.specs.Ordering.{nat_cmp, is_lt}
use Rattle.std.specs.Cmp.{nat_cmp_total, tied_itself}
use Rattle.std.specs.FinMap.{get, entries, is_sorted, entries_sorted}
use Rattle.std.specs.FinMap.Entries.{below_all}
use Rattle.h5_model.specs.Tree.Objects.{Tree, Object}
use Rattle.h5_model.proofs.ReachLaws.{halves, below_entry}
use Rattle.h5_laws.proofs.Lists.{In, in_contains, contains_in}
use Rattle.h5_laws.proofs.Maps.{to_entry, get_of_entry, entry_of_get}
use Rattle.h5_laws.proofs.Pigeonhole.{Apart, apart_of_distinct}
use Rattle.h5_repack.specs.Image.Written.{IsOrder}
use Rattle.h5_repack.proofs.ImageLaws.Places.{Objects, numbers}
use Rattle.h5_repack.proofs.ImageLaws.Totals.{total, total-same, Once, once_by_key}

-- entries whose numbers ascend stand once
pub once_sorted : {X : Type 0} (es : List (ℕ × X)) → T (is_sorted nat_cmp es) → Once es
once_sorted [] h = tt
once_sorted {X = X} (e ∷ es) h =
    let parts : T (below_all nat_cmp e.0 es) × T (is_sorted nat_cmp es) = halves _ _ h in
    ((λ at. never parts.0 at), once_sorted es parts.1) where
      never : T (below_all nat_cmp e.0 es) → In e es → ⊥
      never below at =
          let less : false ≡ true = sym (ap is_lt (tied_itself nat_cmp_total e.0)) ∙ below_entry nat_cmp e.0 e.0 e.1 es below (to_entry es e.0 e.1 at) in
          absurd (cc)

module _ (tree : Tree) (order : Objects) (is : IsOrder tree order) where
  pub order_apart : Apart (numbers order)
  order_apart = apart_of_distinct (numbers order) is.distinct

  pub got_in_order : (n : ℕ) (o : Object) → In (n, o) order → get tree n ≡ Some o
  got_in_order n o at = is.each n o (contains_in (n, o) order at)

  pub in_order_got : (n : ℕ) (o : Object) → get tree n ≡ Some o → In (n, o) order
  in_order_got n o got = in_contains (n, o) order (is.all n o got)

  pub in_tree : (e : ℕ × Object) → In e order → In e (entries tree)
  in_tree e at = entry_of_get tree e.0 e.1 (got_in_order e.0 e.1 at)

  pub in_order : (e : ℕ × Object) → In e (entries tree) → In e order
  in_order e at = in_order_got e.0 e.1 (get_of_entry nat_cmp_total tree e.0 e.1 at)

  pub order-total : (f : ℕ × Object → ℕ) → total f order ≡ total f (entries tree)
  order-total f = total-same f order (entries tree) (once_by_key order order_apart) (once_sorted (entries tree) (entries_sorted tree)) in_tree in_order
