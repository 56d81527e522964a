-- The root of a tree that was read stands over the whole tree.
use Rattle.std.proofs.Common.{◌≡◌, ℕ, zero, suc, List, [], ◌∷◌, length, sym, ap, ◌∙◌, subst}
use Rattle.std.specs.List.{AllByRecursion}
use Rattle.h5_bytes.specs.Bytes.{undefined_address}
use Rattle.h5_bytes.specs.Blocks.{Inside}
use Rattle.h5_bytes.proofs.BlockLaws.{all_left, all_right}
use Rattle.h5_model.specs.Format.Rows.{IsRow, AreRows, next_row, nodes, leaves}
use Rattle.h5_model.proofs.OneTree.{level_is, owned_is, children_are}
use Rattle.h5_laws.proofs.Trees.{tree_rows}
use Rattle.h5_btree.specs.Order.{HasSubtree, nodes_from}
use Rattle.h5_btree.specs.Walk.Below.{IsBottom, reading_in}
use Rattle.h5_btree.specs.Walk.Forms.{TreeForm, kind_of}
use Rattle.h5_btree.specs.Walk.Trees.{IsTree, nodes_blocks}
use Rattle.h5_btree.specs.Walk.Stands.{IsNodeAt}
use Rattle.h5_btree.proofs.WalkLaws.StandLaws.{leaves_stand, nodes_stand}

module _ (image : List ℕ) (form : TreeForm) where
  -- a row of this level, over a row of subtrees
  row_over : (level left : ℕ) (row : List ℕ) → IsRow (reading_in image form) level left row → AllByRecursion (IsNodeAt image form) row
      → AllByRecursion (HasSubtree image form level) (next_row (reading_in image form) row) → AllByRecursion (HasSubtree image form (suc level)) row
  row_over level left [] is has below = tt
  row_over level left (n ∷ row) is has below =
      let rest : List ℕ = next_row (reading_in image form) row in (
        (record { formed = (has.0).formed; high = is.0; there = (has.0).inside }, all_left (HasSubtree image form level) (reading_in image form n).children rest below),
        row_over level n row is.3 has.1 (all_right (HasSubtree image form level) (reading_in image form n).children rest below),
      )

  row_has : (level : ℕ) (row : List ℕ) → AreRows (reading_in image form) level row → AllByRecursion (IsNodeAt image form) (nodes (reading_in image form) level row)
      → AllByRecursion (IsBottom image form) (leaves (reading_in image form) level row) → AllByRecursion (HasSubtree image form (suc level)) row
  row_has zero row are has below = row_over 0 undefined_address row are has below
  row_has (suc level) row are has below =
      let next : List ℕ = next_row (reading_in image form) row in
      row_over (suc level) undefined_address row are.0 (all_left (IsNodeAt image form) row (nodes (reading_in image form) level next) has)
      (row_has level next are.1 (all_right (IsNodeAt image form) row (nodes (reading_in image form) level next) has) below)

module _ (image : List ℕ) (form : TreeForm) (root : ℕ) (owned bottom : List ℕ) (t : IsTree image form root owned bottom) (inside : Inside (length image) (nodes_blocks image form owned bottom)) where
  owned_are : owned ≡ nodes_from image form t.level root
  owned_are = owned_is image (kind_of image form) root t.level owned bottom t.tree

  level_of_root : (reading_in image form root).level ≡ t.level
  level_of_root = level_is image (kind_of image form) root t.level owned bottom t.tree

  pub root_stands : HasSubtree image form (suc ((reading_in image form root).level)) root
  root_stands =
      let row = row_has image form t.level (root ∷ []) (tree_rows image (kind_of image form) root t.level owned bottom t.tree)
      (subst (AllByRecursion (IsNodeAt image form)) owned_are (nodes_stand image form root owned bottom t inside))
      (subst (AllByRecursion (IsBottom image form)) (children_are image (kind_of image form) root t.level owned bottom t.tree) (leaves_stand image form root owned bottom t inside)) in
      subst (λ (l : ℕ). HasSubtree image form (suc l) root) (sym level_of_root) row.0

  pub all_owned : nodes_from image form (reading_in image form root).level root ≡ owned
  all_owned = ap (λ (l : ℕ). nodes_from image form l root) level_of_root ∙ sym owned_are
