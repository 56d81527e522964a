-- What is refused of the order of chunks holds at a node that is reached.
use Rattle.std.proofs.Common.{◌≡◌, ℕ, ◌+◌, ◌≤◌, List, [], ◌∷◌, ◌++◌, length, map, inl, inr, refl, sym, ap, ◌∙◌, subst, arith}
use Rattle.std.specs.Prelude.{◌⊎◌}
use Rattle.std.specs.List.{AllByRecursion, Contains}
use Rattle.h5_bytes.specs.Bytes.{undefined_address}
use Rattle.h5_bytes.specs.Blocks.{Inside}
use Rattle.h5_bytes.specs.declared.Block.{Block}
use Rattle.h5_bytes.proofs.BlockLaws.{all_left}
use Rattle.h5_model.specs.Format.Rows.{AreRows, Reading, row_below, nodes}
use Rattle.h5_model.specs.Format.Nodes.{node_at, node_block, tree_blocks}
use Rattle.h5_model.specs.Format.Chunks.{IsChunkOrdered, chunks_at, chunks_in}
use Rattle.h5_model.specs.Format.Links.{Before}
use Rattle.h5_model.specs.Format.Reached.{Named, naming_of, ChunkNode, Shape, shape_kind, level_at}
use Rattle.h5_model.specs.Faults.TreeFaults.{ChunksDescend, ChunkOrderBreach}
use Rattle.h5_model.specs.declared.open_fault.Cause.{Cause}
use Rattle.h5_model.specs.declared.open_fault.Cause.TheVariants.{KeyOrder}
use Rattle.h5_model.proofs.OneTree.{level_is, owned_is}
use Rattle.h5_laws.proofs.Lists.{In, all_in, in_all, in_contains, in_map, in_right}
use Rattle.h5_laws.proofs.Rows.{in_nodes, row_is, row_level, rows_below}
use Rattle.h5_laws.proofs.Trees.{tree_rows}
use Rattle.h5_btree.specs.Walk.Followed.{IsFault, IsNodeReached, IsTreeFollowed}
use Rattle.h5_btree.specs.Walk.Forms.{OfChunks, leaf_block}
use Rattle.h5_btree.specs.Walk.Trees.{IsTree, nodes_blocks}
use Rattle.h5_btree.specs.Rising.{FallAt}
use Rattle.h5_btree.specs.Walk.Stands.{IsNodeAt}
use Rattle.h5_btree.proofs.WalkLaws.StandLaws.{nodes_stand}
use Rattle.h5_chunks.specs.Between.{offsets_of}
use Rattle.h5_chunks.specs.Told.{listed_told}
use Rattle.h5_chunks.specs.Order.{IsChunkOrderRefused}
use Rattle.h5_chunks.proofs.ReachedRows.{reached_level}

-- the one between these
between : (before after : List ℕ) (at : ℕ) → In at (before ++ at ∷ after)
between before after at = in_right at before (at ∷ after) (inl refl)

module _ (image : List ℕ) (shape : Shape) (root : ℕ) (owned addresses : List ℕ) (t : IsTree image (OfChunks shape) root owned addresses) where
  abbrev V : Reading
  V = node_at image (shape_kind image shape)

  top : level_at image (shape_kind image shape) root ≡ t.level
  top = level_is image (shape_kind image shape) root t.level owned addresses t.tree

  -- the node at which chunks do not ascend is of level 0
  pub descend_bottom : (at : ℕ) → ChunksDescend image shape root at → In at (row_below V t.level (root ∷ []))
  descend_bottom at (before, after, row, falls) =
      subst (λ (l : ℕ). In at (row_below V l (root ∷ []))) top (subst (In at) (sym row) (between before after at))

  descend_owned : (at : ℕ) → ChunksDescend image shape root at → In at owned
  descend_owned at descend =
      subst (In at) (sym (owned_is image (shape_kind image shape) root t.level owned addresses t.tree))
      (in_nodes V t.level 0 t.level at (root ∷ []) (omega arith) (descend_bottom at descend))

  descend_level : (at : ℕ) → ChunksDescend image shape root at → (V at).level ≡ 0
  descend_level at descend =
      let rows = tree_rows image (shape_kind image shape) root t.level owned addresses t.tree in
      row_level V 0 undefined_address at (row_below V t.level (root ∷ []))
      (row_is V 0 (row_below V t.level (root ∷ [])) (rows_below V t.level 0 t.level (root ∷ []) (omega arith) rows)) (descend_bottom at descend)

  -- ---- the nodes of level 0

  pub rows_stand : AreRows V t.level (root ∷ [])
  rows_stand = tree_rows image (shape_kind image shape) root t.level owned addresses t.tree

  pub nodes_listed : owned ≡ nodes V t.level (root ∷ [])
  nodes_listed = owned_is image (shape_kind image shape) root t.level owned addresses t.tree

  pub bottom_stands : Inside (length image) (nodes_blocks image (OfChunks shape) owned addresses) → AllByRecursion (IsNodeAt image (OfChunks shape)) (row_below V t.level (root ∷ []))
  bottom_stands inside = all_in (IsNodeAt image (OfChunks shape)) (row_below V t.level (root ∷ [])) (λ at there.
      in_all (IsNodeAt image (OfChunks shape)) at owned (nodes_stand image (OfChunks shape) root owned addresses t inside)
      (subst (In at) (sym nodes_listed) (in_nodes V t.level 0 t.level at (root ∷ []) (omega arith) there)))

  pub listed_is : listed_told image shape root ≡ chunks_at V (length shape.sizes) (row_below V t.level (root ∷ []))
  listed_is = ap (λ (l : ℕ). chunks_at V (length shape.sizes) (row_below V l (root ∷ []))) top

  pub fall_descends : (row : List ℕ) (at : ℕ) → row ≡ row_below V t.level (root ∷ [])
      → FallAt offsets_of Before (λ n. chunks_in (length shape.sizes) (V n)) row at → ChunksDescend image shape root at
  fall_descends row at is fall = (fall.0, fall.1, ap (λ (l : ℕ). row_below V l (root ∷ [])) top ∙ sym is ∙ fall.2, fall.3)

  pub order_fault : (cause : Cause) (at : ℕ) → cause ≡ KeyOrder
      → (Contains owned at × (IsChunkOrdered V (length shape.sizes) (V at) → ⊥)) ⊎ ChunksDescend image shape root at
      → IsChunkOrderRefused image shape root owned cause at
  order_fault cause at is breach = rw is breach

  module _ (now : List Block) (followed : List Named) (field heap depth : ℕ) (walk : IsTreeFollowed image (OfChunks shape) now followed field root heap depth owned addresses)
      (inside : Inside (length image) (nodes_blocks image (OfChunks shape) owned addresses)) where
    abbrev IsInside : Block → Type 0
    IsInside b = b.at + b.len ≤ length image

    at_node : (at : ℕ) → In at owned → ((l : ℕ) → (V at).level ≡ l → ChunkOrderBreach image shape root l at) → IsFault image KeyOrder at
    at_node at there breach =
        let by = in_all (IsNodeReached image (OfChunks shape) root heap depth) at owned walk.nodes_reached there in
        let block = in_all IsInside (node_block (shape_kind image shape) at) (tree_blocks (shape_kind image shape) owned)
        (all_left IsInside (tree_blocks (shape_kind image shape) owned) (map (leaf_block image (OfChunks shape)) addresses) inside)
        (in_map (node_block (shape_kind image shape)) at owned there) in
        let level = reached_level image shape root t.level (tree_rows image (shape_kind image shape) root t.level owned addresses t.tree) top by.0 by.1 at depth by.2 in
        (naming_of by.0 (ChunkNode shape root by.1) at depth, by.2, refl, (block, breach by.1 level))

    pub order_refused : (cause : Cause) (address : ℕ) → IsChunkOrderRefused image shape root owned cause address → IsFault image cause address
    order_refused KeyOrder address (inl (there, breaks)) = at_node address (in_contains address owned there) (λ l level. inl breaks)
    order_refused KeyOrder address (inr descend) =
        at_node address (descend_owned address descend) (λ l level. inr (sym level ∙ descend_level address descend, descend))
    order_refused _ address refused = absurd refused
