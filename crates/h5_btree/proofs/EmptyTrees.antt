-- A tree whose root has no children.
use Rattle.std.proofs.Common.{◌≡◌, ℕ, zero, suc, ◌≤◌, Bool, true, false, List, [], ◌∷◌, ◌++◌, length, refl, ap, ◌∙◌, subst, arith}
use Rattle.std.specs.Prelude.{if◌then◌else◌, ◌==◌}
use Rattle.std.specs.List.{AllByRecursion, list_any}
use Rattle.h5_model.specs.Format.Nodes.{HasTree, Kind, entries_in, node_at, node_bytes, reading_of}
use Rattle.h5_model.specs.Format.Rows.{blank, next_row}
use Rattle.h5_btree.proofs.NodeLaws.{length-children}

module _ (image : List ℕ) (kind : Kind) (root : ℕ) (owned : List ℕ) (none : (node_at image kind root).children ≡ []) where
  read_none : (b : Bool) → (if b then node_at image kind root else blank).children ≡ []
  read_none true = none
  read_none false = refl

  row_none : next_row (reading_of image kind owned) (root ∷ []) ≡ []
  row_none = ap (λ (ns : List ℕ). ns ++ []) (read_none (list_any (λ n. n == root) owned))

pub empty_tree : (image : List ℕ) (kind : Kind) (root level : ℕ) (owned list : List ℕ) → HasTree image kind root level owned list
    → (node_at image kind root).children ≡ [] → (level ≡ 0) × (owned ≡ root ∷ []) × (list ≡ [])
empty_tree image kind root zero owned list has none = (refl, has.owns, has.all ∙ row_none image kind root owned none)
empty_tree image kind root (suc level) owned list has none =
    let filled = subst (AllByRecursion (λ at. 1 ≤ entries_in (node_bytes image kind at))) has.owns (has.filled (omega arith)) in
    let count = length-children kind (node_bytes image kind root) (node_at image kind root) refl in
    let zero_long = ap (λ (ns : List ℕ). length ns) none in
    absurd (omega (arith, filled.0, count, zero_long))
