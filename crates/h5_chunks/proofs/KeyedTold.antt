-- The tree of keys of a tree of chunks, with the key of each chunk at its bottom: it is in order exactly where the tree's nodes are, and its
-- chunks have their keys (File Format Specification 3.0, section III.A.1, node type 1).
use Rattle.std.proofs.Common.{◌≡◌, ℕ, zero, suc, ◌+◌, ◌*◌, ◌<◌, ◌≤◌, List, [], ◌∷◌, ◌++◌, length, get_or, map, refl, sym, ap, ◌∙◌, subst, arith}
use Rattle.std.specs.List.{AllByRecursion, zip}
use Rattle.std.proofs.lemmas.List.FromFn.{map-range_with_len_more}
use Rattle.h5_bytes.specs.Bytes.{number_at, undefined_address}
use Rattle.h5_bytes.proofs.BlockLaws.{all_so}
use Rattle.h5_model.specs.Format.Rows.{Node, Reading, row_below}
use Rattle.h5_model.specs.Format.Nodes.{HasTree, Kind, node_at, reading_of}
use Rattle.h5_model.specs.Format.Chunks.{IsChunkKey, IsChunkOrdered, all_offsets_in, chunks_at, offsets_in}
use Rattle.h5_model.specs.Format.Reached.{Shape, shape_kind}
use Rattle.h5_model.proofs.OneTree.{owned_is}
use Rattle.h5_model.proofs.RowLaws.{at_listed}
use Rattle.h5_laws.specs.ChunkLadders.{chunk_lists, rising_chunk_sides}
use Rattle.h5_laws.specs.Ladders.{IsOrderedBy}
use Rattle.h5_laws.proofs.ChunkLadders.{chunk_order_there, chunks_by, chunks_under}
use Rattle.h5_laws.proofs.LadderTrees.{own_ordered}
use Rattle.h5_laws.proofs.Lists.{In, all_in, in_all}
use Rattle.h5_laws.proofs.Rows.{row_is, row_level, row_of, rows_below}
use Rattle.h5_laws.proofs.Subtrees.{read_same}
use Rattle.h5_laws.proofs.Trees.{row_owned, tree_rows}
use Rattle.h5_btree.specs.Keyed.{AtChild, IsInOrder, at_children, items_of_tree}
use Rattle.h5_btree.specs.Walk.Forms.{IsKeyed, OfChunks}
use Rattle.h5_btree.specs.Walk.Trees.{IsTree}
use Rattle.h5_btree.proofs.KeyedOrder.{IsBottomOf, IsNodeInOrder, items-tree, nodes_in_order, tree_in_order}
use Rattle.h5_btree.proofs.KeyedOwn.{keys_count}
use Rattle.h5_btree.proofs.TreeReadings.{Listed, owned_at}
use Rattle.h5_chunks.specs.Told.{listed_told}
use Rattle.h5_chunks.proofs.OrderFaults.{listed_is}
use Rattle.h5_chunks.proofs.Readable.{each_formed}
use Rattle.h5_chunks.proofs.Stored.{bottom_same, chunks_same}

-- ---- what stands at a child of a node of level 0

-- a key, and the address of the chunk that it is of
abbrev pub KeyedChunk : Type 0
KeyedChunk = List ℕ × ℕ

abbrev pub keyed_at : AtChild KeyedChunk
keyed_at key child = (key, child)

-- its offsets and its address
abbrev pub chunk_of : ℕ → KeyedChunk → List (List ℕ × ℕ)
chunk_of rank c = (offsets_in rank c.0, c.1) ∷ []

abbrev pub IsKeyedChunk : Shape → KeyedChunk → Type 0
IsKeyedChunk shape c = IsChunkKey shape.sizes shape.bytes c.0

keyed_listed : (rank : ℕ) (keys : List (List ℕ)) (children : List ℕ)
    → map (λ (chunk : List ℕ × ℕ). chunk ∷ []) (zip (map (offsets_in rank) keys) children) ≡ map (chunk_of rank) (at_children keyed_at keys children)
keyed_listed rank [] children = refl
keyed_listed rank (k ∷ keys) [] = refl
keyed_listed rank (k ∷ keys) (c ∷ children) = ap (λ (ls : List (List (List ℕ × ℕ))). ((offsets_in rank k, c) ∷ []) ∷ ls) (keyed_listed rank keys children)

module _ (P : List ℕ → Type 0) where
  each_keyed : (keys : List (List ℕ)) (children : List ℕ) → ((i : ℕ) → i < length children → P (get_or keys i []))
      → AllByRecursion (λ (c : KeyedChunk). P c.0) (at_children keyed_at keys children)
  each_keyed [] children each = tt
  each_keyed (k ∷ keys) [] each = tt
  each_keyed (k ∷ keys) (c ∷ children) each = (each 0 (omega arith), each_keyed keys children (λ i low. each (suc i) (omega (arith, low))))

  keyed_each : (keys : List (List ℕ)) (children : List ℕ) → length children ≤ length keys → AllByRecursion (λ (c : KeyedChunk). P c.0) (at_children keyed_at keys children)
      → (i : ℕ) → i < length children → P (get_or keys i [])
  keyed_each [] [] long all i low = absurd (omega (arith, low))
  keyed_each [] (c ∷ children) long all i low = absurd (omega (arith, long))
  keyed_each (k ∷ keys) [] long all i low = absurd (omega (arith, low))
  keyed_each (k ∷ keys) (c ∷ children) long all zero low = all.0
  keyed_each (k ∷ keys) (c ∷ children) long all (suc i) low = keyed_each keys children (omega (arith, long)) all.1 i (omega (arith, low))

-- all numbers of a chunk's key: its offsets, and 0 for the element
pub chunk_numbers : (sizes : List ℕ) (bytes : ℕ) (key : List ℕ) → IsChunkKey sizes bytes key → all_offsets_in (length sizes) key ≡ offsets_in (length sizes) key ++ 0 ∷ []
chunk_numbers sizes bytes key keyed =
    let f = λ (d : ℕ). number_at key (8 + 8 * d) 8 in
    map-range_with_len_more f 0 (length sizes) (length sizes) (omega arith)
    ∙ ap (λ (n : ℕ). offsets_in (length sizes) key ++ n ∷ []) keyed.element

-- ---- a tree in an image

module _ (kind : Kind) (image : List ℕ) (shape : Shape) (root level : ℕ) (owned list : List ℕ) (has : HasTree image kind root level owned list) where
  abbrev rank : ℕ
  rank = length shape.sizes

  abbrev V : Reading
  V = node_at image kind

  abbrev Y : Reading
  Y = reading_of image kind owned

  abbrev bottom : List ℕ
  bottom = row_below V level (root ∷ [])

  -- its keys are in order, and each chunk has a key of its shape
  abbrev pub IsOrderedTree : Type 0
  IsOrderedTree = IsInOrder (rising_chunk_sides (length shape.sizes)) (chunk_of (length shape.sizes)) (IsKeyedChunk shape) image kind keyed_at level root

  bottom_is : IsBottomOf (chunk_of rank) keyed_at (chunk_lists rank) Y
  bottom_is n = keyed_listed rank (Y n).keys (Y n).children

  abbrev InOrder : ℕ → Type 0
  InOrder = IsNodeInOrder (chunk_of rank) keyed_at (chunk_lists rank) Y bottom_is (rising_chunk_sides rank) (IsKeyedChunk shape)

  -- the nodes of level 0 are those of the row at the bottom
  pub at_bottom : (n : ℕ) → In n owned → (V n).level ≡ 0 → In n bottom
  at_bottom n there zero_level =
      let place = row_of V level n (root ∷ []) (subst (In n) (owned_is image kind root level owned list has) there) in
      let rows = rows_below V place.0 place.1 level (root ∷ []) place.2 (tree_rows image kind root level owned list has) in
      let here = row_level V place.1 undefined_address n (row_below V place.0 (root ∷ [])) (row_is V place.1 (row_below V place.0 (root ∷ [])) rows) place.3 in
      let last : place.0 ≡ level = let sum = place.2 in omega (arith, sum, here, zero_level) in
      subst (λ (d : ℕ). In n (row_below V d (root ∷ []))) last place.3

  pub bottom_owned : (n : ℕ) → In n bottom → In n owned
  bottom_owned n there = row_owned image kind root level owned list has level 0 n (omega arith) there

  pub bottom_level : (n : ℕ) → In n bottom → (V n).level ≡ 0
  bottom_level n there =
      row_level V 0 undefined_address n bottom (row_is V 0 bottom (rows_below V level 0 level (root ∷ []) (omega arith) (tree_rows image kind root level owned list has))) there

  -- IT IS IN ORDER where each node is, and the nodes of level 0 have keys of chunks
  pub to_order : AllByRecursion (λ at. IsOrderedBy (rising_chunk_sides (length shape.sizes)) (node_at image kind) (chunk_lists (length shape.sizes))
      (node_at image kind at)) owned
      → ((at : ℕ) → In at (row_below (node_at image kind) level (root ∷ [])) → IsKeyed (OfChunks shape) (node_at image kind at)) → IsOrderedTree
  to_order rises keyed =
      tree_in_order (rising_chunk_sides rank) (chunk_of rank) (IsKeyedChunk shape) keyed_at image kind root level owned list has (chunk_lists rank) bottom_is
      (all_in InOrder owned (λ n there.
      let same = read_same image kind root level owned list has n there in (
        own_ordered image kind root level owned list has (chunk_lists rank) (chunk_lists rank) (λ m row. refl) n there (rising_chunk_sides rank)
            (in_all (λ at. IsOrderedBy (rising_chunk_sides rank) V (chunk_lists rank) (V at)) n owned rises there),
        λ zero_level.
            let of_bottom = keyed n (at_bottom n there (sym (ap (λ (o : Node). o.level) same) ∙ zero_level)) in
            subst (λ (o : Node). AllByRecursion (IsKeyedChunk shape) (at_children keyed_at o.keys o.children)) (sym same)
            (each_keyed (IsChunkKey shape.sizes shape.bytes) (V n).keys (V n).children of_bottom),
      )))

  module _ (ordered : IsOrderedTree) where
    each : AllByRecursion InOrder owned
    each = nodes_in_order (rising_chunk_sides rank) (chunk_of rank) (IsKeyedChunk shape) keyed_at image kind root level owned list has (chunk_lists rank) bottom_is ordered

    keyed_at_bottom : (n : ℕ) → In n bottom → IsKeyed (OfChunks shape) (V n)
    keyed_at_bottom n there =
        let is_owned = bottom_owned n there in
        let same = read_same image kind root level owned list has n is_owned in
        let here = in_all InOrder n owned each is_owned in
        let all = subst (λ (o : Node). AllByRecursion (IsKeyedChunk shape) (at_children keyed_at o.keys o.children)) same
        (here.1 (ap (λ (o : Node). o.level) same ∙ bottom_level n there)) in
        let long = keys_count image kind n in
        keyed_each (IsChunkKey shape.sizes shape.bytes) (V n).keys (V n).children (omega (arith, long)) all

    -- each key before a child of a node of level 0 is that of a chunk
    pub key_there : (n : ℕ) → Listed owned n → (node_at image kind n).level ≡ 0 → (i : ℕ) → i < length (node_at image kind n).children
        → IsChunkKey shape.sizes shape.bytes (get_or (node_at image kind n).keys i [])
    key_there n listed zero_level i low =
        let same = owned_at V owned n listed in
        let here = at_listed InOrder owned n each listed in
        let all = subst (λ (o : Node). AllByRecursion (IsKeyedChunk shape) (at_children keyed_at o.keys o.children)) same
        (here.1 (ap (λ (o : Node). o.level) same ∙ zero_level)) in
        let long = keys_count image kind n in
        keyed_each (IsChunkKey shape.sizes shape.bytes) (V n).keys (V n).children (omega (arith, long)) all i low

    by_sides : (n : ℕ) → InOrder n → IsChunkOrdered Y rank (Y n)
    by_sides n is = let o = is.0 in chunks_by Y rank (Y n) (record { between = o.between; rising = λ i low. tt })

    nodes_ordered : AllByRecursion (λ at. IsChunkOrdered (node_at image kind) (length shape.sizes) (node_at image kind at)) owned
    nodes_ordered = chunk_order_there image kind root level owned list has rank (all_so InOrder (λ n. IsChunkOrdered Y rank (Y n)) owned by_sides each)

    items_listed : items_of_tree (chunk_of rank) image kind keyed_at level root ≡ chunks_at Y rank (row_below Y level (root ∷ []))
    items_listed =
        items-tree (rising_chunk_sides rank) (chunk_of rank) (IsKeyedChunk shape) keyed_at image kind root level owned list has (chunk_lists rank) bottom_is
        ∙ chunks_under Y rank level root

-- ---- of the kind that the image's trees have

module _ (image : List ℕ) (shape : Shape) (root level : ℕ) (owned list : List ℕ) (has : HasTree image (shape_kind image shape) root level owned list)
    (ordered : IsOrderedTree (shape_kind image shape) image shape root level owned list has) where
  abbrev own : Kind
  own = shape_kind image shape

  -- THE TREE IS ONE OF CHUNKS where it is in order
  pub ordered_tree : IsTree image (OfChunks shape) root owned list
  ordered_tree = record {
    level = level;
    tree = has;
    formed = each_formed image shape list;
    keyed = all_in (λ at. IsKeyed (OfChunks shape) (node_at image own at)) (row_below (node_at image own) level (root ∷ []))
        (keyed_at_bottom own image shape root level owned list has ordered);
  }

  pub ordered_nodes : AllByRecursion (λ at. IsChunkOrdered (node_at image (shape_kind image shape)) (length shape.sizes) (node_at image (shape_kind image shape) at)) owned
  ordered_nodes = nodes_ordered own image shape root level owned list has ordered

  -- its items are the chunks that are told
  pub items_told : items_of_tree (chunk_of (length shape.sizes)) image (shape_kind image shape) keyed_at level root ≡ listed_told image shape root
  unfolding ordered_tree
  items_told =
      items_listed own image shape root level owned list has ordered
      ∙ ap (chunks_at (reading_of image own owned) (length shape.sizes)) (bottom_same image shape root owned list ordered_tree)
      ∙ chunks_same image shape root owned list ordered_tree
      ∙ sym (listed_is image shape root owned list ordered_tree)

-- a tree of another image's kind, which is this one's too
module _ (kind : Kind) (image : List ℕ) (shape : Shape) (same : shape_kind image shape ≡ kind) (root level : ℕ) (owned list : List ℕ) (has : HasTree image kind root level owned list)
    (ordered : IsOrderedTree kind image shape root level owned list has) where
  pub own_tree : HasTree image (shape_kind image shape) root level owned list
  own_tree = subst (λ (k : Kind). HasTree image k root level owned list) (sym same) has

  pub own_order : IsOrderedTree (shape_kind image shape) image shape root level owned list own_tree
  own_order = subst (λ (k : Kind). IsInOrder (rising_chunk_sides (length shape.sizes)) (chunk_of (length shape.sizes)) (IsKeyedChunk shape) image k keyed_at level root)
      (sym same) ordered

  pub items_told-kind : items_of_tree (chunk_of (length shape.sizes)) image kind keyed_at level root ≡ listed_told image shape root
  items_told-kind = subst (λ (k : Kind). items_of_tree (chunk_of (length shape.sizes)) image k keyed_at level root ≡ listed_told image shape root) same
      (items_told image shape root level owned list own_tree own_order)
