-- The tree of keys of a tree of chunks, with the key of each chunk at its bottom: it is in order where each node is, and where its chunks
-- have keys of the shape; and the other way.
use Rattle.std.proofs.Common.{◌≡◌, ℕ, zero, suc, ◌<◌, ◌≤◌, List, [], ◌∷◌, length, map, refl, sym, ap, ◌∙◌, subst, arith}
use Rattle.std.specs.Prelude.{slice_index_or}
use Rattle.std.specs.List.{AllByRecursion, zip}
use Rattle.h5_model.specs.Format.Chunks.{IsChunkKey, IsChunkOrdered, chunks_at, offsets_in}
use Rattle.h5_model.specs.Format.Nodes.{HasTree, Kind, node_at, reading_of}
use Rattle.h5_model.specs.Format.Reached.{Shape}
use Rattle.h5_model.specs.Format.Rows.{Node, Reading, row_below}
use Rattle.h5_laws.specs.ChunkLadders.{chunk_lists, rising_chunk_sides}
use Rattle.h5_laws.specs.Ladders.{IsOrderedBy}
use Rattle.h5_laws.proofs.ChunkLadders.{chunks_by, chunks_under}
use Rattle.h5_laws.proofs.LadderTrees.{ordered_there, own_ordered}
use Rattle.h5_laws.proofs.Lists.{In, all_in, in_all}
use Rattle.h5_laws.proofs.Subtrees.{read_same}
use Rattle.h5_btree.specs.Keyed.{AtChild, IsInOrder, at_children, items_of_tree}
use Rattle.h5_btree.specs.Walk.Forms.{IsKeyed, OfChunks}
use Rattle.h5_btree.proofs.KeyedOrder.{IsBottomOf, IsNodeInOrder, items-under, nodes_in_order, tree_in_order}
use Rattle.h5_btree.proofs.KeyedOwn.{keys_count}
use Rattle.h5_chunks.proofs.KeyedTold.{at_bottom, bottom_level, bottom_owned}

-- a chunk at the bottom, by its key and its address
abbrev pub keyed_chunk : AtChild (List (List ℕ × ℕ))
keyed_chunk key child = (key, child) ∷ []

-- its offsets and its address
abbrev pub chunks_of : ℕ → List (List ℕ × ℕ) → List (List ℕ × ℕ)
chunks_of rank keyed = map (λ (e : List ℕ × ℕ). (offsets_in rank e.0, e.1)) keyed

-- its key is one of a whole chunk
abbrev pub HasShape : Shape → List (List ℕ × ℕ) → Type 0
HasShape shape keyed = AllByRecursion (λ (e : List ℕ × ℕ). IsChunkKey shape.sizes shape.bytes e.0) keyed

-- the keys of the tree rise and have the chunks of this shape between them
abbrev pub AreInOrder : Kind → List ℕ → Shape → ℕ → ℕ → Type 0
AreInOrder kind image shape level root =
    IsInOrder (rising_chunk_sides (length shape.sizes)) (chunks_of (length shape.sizes)) (HasShape shape) image kind keyed_chunk level root

listed : (rank : ℕ) (keys : List (List ℕ)) (children : List ℕ)
    → map (λ (chunk : List ℕ × ℕ). chunk ∷ []) (zip (map (offsets_in rank) keys) children) ≡ map (chunks_of rank) (at_children keyed_chunk keys children)
listed rank [] children = refl
listed rank (key ∷ keys) [] = refl
listed rank (key ∷ keys) (c ∷ children) = ap (λ (lists : List (List (List ℕ × ℕ))). ((offsets_in rank key, c) ∷ []) ∷ lists) (listed rank keys children)

bottom_of : (rank : ℕ) (V : Reading) → IsBottomOf (chunks_of rank) keyed_chunk (chunk_lists rank) V
bottom_of rank V n = listed rank (V n).keys (V n).children

-- ---- the keys of one node

module _ (shape : Shape) where
  abbrev IsOne : List ℕ → Type 0
  IsOne = IsChunkKey shape.sizes shape.bytes

  all_keyed : (keys : List (List ℕ)) (children : List ℕ) → ((i : ℕ) → i < length children → IsOne (slice_index_or keys i []))
      → AllByRecursion (HasShape shape) (at_children keyed_chunk keys children)
  all_keyed [] children each = tt
  all_keyed (key ∷ keys) [] each = tt
  all_keyed (key ∷ keys) (c ∷ children) each = ((each 0 (omega arith), tt), all_keyed keys children (λ i low. each (suc i) (omega (arith, low))))

  each_keyed : (keys : List (List ℕ)) (children : List ℕ) → length children ≤ length keys → AllByRecursion (HasShape shape) (at_children keyed_chunk keys children)
      → (i : ℕ) → i < length children → IsOne (slice_index_or keys i [])
  each_keyed [] children few all i low = absurd (omega (arith, few, low))
  each_keyed (key ∷ keys) [] few all i low = absurd (omega (arith, low))
  each_keyed (key ∷ keys) (c ∷ children) few all zero low = all.0.0
  each_keyed (key ∷ keys) (c ∷ children) few all (suc i) low = each_keyed keys children (omega (arith, few)) all.1 i (omega (arith, low))

module _ (kind : Kind) (image : List ℕ) (shape : Shape) (root level : ℕ) where
  abbrev rank : ℕ
  rank = length shape.sizes

  abbrev V : Reading
  V = node_at image kind

  abbrev bottom : List ℕ
  bottom = row_below V level (root ∷ [])

  -- the chunks of the tree, from left to right
  pub items_are : items_of_tree (chunks_of rank) image kind keyed_chunk level root ≡ chunks_at V rank bottom
  items_are = items-under (chunks_of rank) keyed_chunk (chunk_lists rank) V (bottom_of rank V) level root ∙ chunks_under V rank level root

  module _ (owned list : List ℕ) (has : HasTree image kind root level owned list) where
    abbrev Y : Reading
    Y = reading_of image kind owned

    abbrev IsRight : ℕ → Type 0
    IsRight n = IsNodeInOrder (chunks_of rank) keyed_chunk (chunk_lists rank) Y (bottom_of rank Y) (rising_chunk_sides rank) (HasShape shape) n

    abbrev Rises : ℕ → Type 0
    Rises n = IsOrderedBy (rising_chunk_sides rank) V (chunk_lists rank) (V n)

    -- A TREE IS IN ORDER where each of its nodes is, and its keys are those of chunks
    pub chunks_in_order : AllByRecursion Rises owned → AllByRecursion (λ at. IsKeyed (OfChunks shape) (V at)) bottom → AreInOrder kind image shape level root
    chunks_in_order rises keyed =
        tree_in_order (rising_chunk_sides rank) (chunks_of rank) (HasShape shape) keyed_chunk image kind root level owned list has (chunk_lists rank) (bottom_of rank Y)
        (all_in IsRight owned (λ n there.
        let same : Y n ≡ V n = read_same image kind root level owned list has n there in (
          own_ordered image kind root level owned list has (chunk_lists rank) (chunk_lists rank) (λ m row. refl) n there (rising_chunk_sides rank)
              (in_all Rises n owned rises there),
          λ low. subst (λ (o : Node). AllByRecursion (HasShape shape) (at_children keyed_chunk o.keys o.children)) (sym same)
              (all_keyed shape (V n).keys (V n).children
              (in_all (λ at. IsKeyed (OfChunks shape) (V at)) n bottom keyed (at_bottom kind image shape root level owned list has n there (ap (λ (o : Node). o.level) (sym same) ∙ low)))),
        )))

    module _ (sorted : AreInOrder kind image shape level root) where
      all_right : AllByRecursion IsRight owned
      all_right =
          nodes_in_order (rising_chunk_sides rank) (chunks_of rank) (HasShape shape) keyed_chunk image kind root level owned list has
          (chunk_lists rank) (bottom_of rank Y) sorted

      -- each node is in order by the definition
      pub chunks_ordered : AllByRecursion (λ at. IsChunkOrdered V rank (V at)) owned
      chunks_ordered = all_in (λ at. IsChunkOrdered V rank (V at)) owned (λ n there.
          let rises : Rises n
          = ordered_there image kind root level owned list has (chunk_lists rank) (chunk_lists rank) (λ m row. refl) n there (rising_chunk_sides rank)
          (in_all IsRight n owned all_right there).0 in
          chunks_by V rank (V n) (record { between = rises.between; rising = λ i low. tt }))

      -- and the keys of the lowest row are those of chunks
      pub chunks_keyed : AllByRecursion (λ at. IsKeyed (OfChunks shape) (V at)) bottom
      chunks_keyed = all_in (λ at. IsKeyed (OfChunks shape) (V at)) bottom (λ n there.
          let own : In n owned = bottom_owned kind image shape root level owned list has n there in
          let same : Y n ≡ V n = read_same image kind root level owned list has n own in
          let low : (V n).level ≡ 0 = bottom_level kind image shape root level owned list has n there in
          let all : AllByRecursion (HasShape shape) (at_children keyed_chunk (V n).keys (V n).children)
          = subst (λ (o : Node). AllByRecursion (HasShape shape) (at_children keyed_chunk o.keys o.children)) same
          ((in_all IsRight n owned all_right own).1 (ap (λ (o : Node). o.level) same ∙ low)) in
          each_keyed shape (V n).keys (V n).children (let more = keys_count image kind n in omega (arith, more)) all)
