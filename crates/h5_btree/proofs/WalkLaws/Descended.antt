-- The way down the rows of a tree that was read before, to its nodes of level 0.
use Rattle.std.proofs.Common.{◌≡◌, ℕ, zero, suc, List, [], ◌∷◌, refl, sym, subst}
use Rattle.std.specs.List.{AllByRecursion}
use Rattle.h5_bytes.proofs.BlockLaws.{all_left, all_right}
use Rattle.h5_model.specs.Format.Rows.{IsRow, AreRows, next_row, nodes, row_below}
use Rattle.h5_model.specs.Format.Reached.{level_at}
use Rattle.h5_model.proofs.OneTree.{level_is, owned_is}
use Rattle.h5_laws.proofs.Trees.{tree_rows}
use Rattle.h5_btree.specs.Walk.Forms.{TreeForm, kind_of}
use Rattle.h5_btree.specs.Walk.Below.{reading_in, IsStanding}
use Rattle.h5_btree.specs.Walk.Stands.{IsNodeAt, IsTreeAt, bottom_at}
use Rattle.h5_btree.proofs.WalkLaws.StandLaws.{each_node}

-- how far the way down has come: this row, of this height, stands there, and so far below it are the nodes of level 0
pub record IsComeTo (image : List ℕ) (form : TreeForm) (root height : ℕ) (row : List ℕ) : Type 0 where
  pub rows : AreRows (reading_in image form) height row
  pub there : AllByRecursion (IsNodeAt image form) (nodes (reading_in image form) height row)
  pub leads : row_below (reading_in image form) height row ≡ bottom_at image form root

module _ (image : List ℕ) (form : TreeForm) (root : ℕ) where
  row_stands : (level left : ℕ) (row : List ℕ) → IsRow (reading_in image form) level left row → AllByRecursion (IsNodeAt image form) row
      → AllByRecursion (IsStanding image form level) row
  row_stands level left [] is there = tt
  row_stands level left (n ∷ row) is there =
      (record { formed = (there.0).formed; high = is.0; there = (there.0).inside }, row_stands level n row is.3 there.1)

  -- the row's nodes stand there
  pub row_there : (height : ℕ) (row : List ℕ) → IsComeTo image form root height row → AllByRecursion (IsStanding image form height) row
  row_there zero row come = row_stands 0 _ row come.rows come.there
  row_there (suc height) row come =
      row_stands (suc height) _ row come.rows.0 (all_left (IsNodeAt image form) row (nodes (reading_in image form) height (next_row (reading_in image form) row)) come.there)

  -- the next row
  pub next_come : (height : ℕ) (row : List ℕ) → IsComeTo image form root (suc height) row → IsComeTo image form root height (next_row (reading_in image form) row)
  next_come height row come = record {
    rows = come.rows.1;
    there = all_right (IsNodeAt image form) row (nodes (reading_in image form) height (next_row (reading_in image form) row)) come.there;
    leads = come.leads;
  }

  module _ (tree : IsTreeAt image form root) where
    level_of : level_at image (kind_of image form) root ≡ tree.level
    level_of = level_is image (kind_of image form) root tree.level tree.nodes tree.leaves tree.has

    all_there : AllByRecursion (IsNodeAt image form) tree.nodes
    all_there = each_node image form tree.nodes (tree.has).formed tree.inside

    -- the root is one of the nodes
    pub root_come : IsComeTo image form root (level_at image (kind_of image form) root) (root ∷ [])
    root_come = record {
      rows = subst (λ (l : ℕ). AreRows (reading_in image form) l (root ∷ [])) (sym level_of) (tree_rows image (kind_of image form) root tree.level tree.nodes tree.leaves tree.has);
      there = subst (λ (l : ℕ). AllByRecursion (IsNodeAt image form) (nodes (reading_in image form) l (root ∷ []))) (sym level_of)
          (subst (AllByRecursion (IsNodeAt image form)) (owned_is image (kind_of image form) root tree.level tree.nodes tree.leaves tree.has) all_there);
      leads = refl;
    }

    first_of : (level : ℕ) → IsComeTo image form root level (root ∷ []) → IsNodeAt image form root
    first_of zero come = come.there.0
    first_of (suc level) come = come.there.0

    pub root_there : IsNodeAt image form root
    root_there = first_of (level_at image (kind_of image form) root) root_come
