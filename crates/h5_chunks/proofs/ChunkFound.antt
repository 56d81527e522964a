-- The chunk at some offsets stands where the way to it ends, if it is stored.
use Rattle.std.proofs.Common.{◌≡◌, ℕ, zero, suc, ◌+◌, ◌*◌, ◌<◌, ◌≤◌, List, [], ◌∷◌, ◌++◌, length, map, take, slice_get, slice_index, Bool, Option, Some, None, inl, inr, refl, sym, ap, ◌∙◌, subst, arith}
use Rattle.std.specs.Prelude.{◌↔◌, IfNone, IsTrue, slice_index_or}
use Rattle.std.specs.Ordering.{nat_cmp}
use Rattle.std.specs.declared.cmp.Ordering.TheVariants.{Equal}
use Rattle.std.specs.Cmp.Lexicographic.{slice_cmp, nat_list_cmp_total}
use Rattle.std.specs.FinMap.{entries, get, get-entries, nat_cmp-IsAntisymmetric, slice_cmp-IsAntisymmetric, values}
use Rattle.std.specs.List.{AllByRecursion}
use Rattle.std.proofs.lemmas.Cmp.{tied_itself}
use Rattle.std.proofs.lemmas.List.{length-map}
use Rattle.std.proofs.lemmas.List.FromFn.{map-range_with_len_more, take-map-range_with_len}
use Rattle.std.proofs.lemmas.Option.{get_or_from_slice_get}
use Rattle.std.proofs.lemmas.Slice.Zip.{length-zip}
use Rattle.std.proofs.Math.Seq.{take-append_seam}
use Rattle.h5_bytes.specs.Bytes.{number_at}
use Rattle.h5_bytes.specs.Blocks.{Inside, block}
use Rattle.h5_bytes.specs.declared.Block.{Block}
use Rattle.h5_bytes.proofs.BlockLaws.{all_left}
use Rattle.h5_model.specs.Format.Rows.{Node, Reading, leaves, next_row, row_below}
use Rattle.h5_model.specs.Format.Nodes.{HasTree, chunk_kind, node_at, reading_of, tree_blocks}
use Rattle.h5_model.specs.Format.Chunks.{Chunks, IsChunkKey, IsChunkOrdered, all_offsets_in, chunks_at, chunks_in, offsets_in}
use Rattle.h5_model.specs.Format.Reached.{Shape, shape_kind, level_at}
use Rattle.h5_model.specs.Format.Superblock.{chunk_k}
use Rattle.h5_model.proofs.OneTree.{level_is}
use Rattle.h5_laws.specs.Ladders.{IsOrderedBy, items_under}
use Rattle.h5_laws.specs.ChunkLadders.{chunk_lists, rising_chunk_sides}
use Rattle.h5_laws.proofs.ChunkLadders.{chunk_order, chunk_order_there, chunks_under}
use Rattle.h5_laws.proofs.Lists.{In, all_in, in_all, in_flat, in_left, in_map}
use Rattle.h5_laws.proofs.Maps.{found_entry, get_of_entry}
use Rattle.h5_laws.proofs.Subtrees.{index_in, one_within, rows_within}
use Rattle.h5_btree.specs.Descent.{EndsAt}
use Rattle.h5_btree.specs.Walk.Forms.{IsKeyed, OfChunks}
use Rattle.h5_btree.specs.Walk.Trees.{IsTree}
use Rattle.h5_btree.proofs.LeafLaws.{leaves-nil}
use Rattle.h5_btree.proofs.PlaceFound.{place_found}
use Rattle.h5_btree.proofs.WayLaws.{ends_low}
use Rattle.h5_chunks.specs.Read.{AreChunksRead}
use Rattle.h5_chunks.specs.Told.{chunks_told}
use Rattle.h5_chunks.specs.Way.{EndsForChunk, chunk_behind}
use Rattle.h5_chunks.proofs.ChunkNodes.{chunk_alone, chunk_is, length-chunks}
use Rattle.h5_chunks.proofs.ChunkRows.{row_addresses}
use Rattle.h5_chunks.proofs.KeysRise.{keys_rise}
use Rattle.h5_chunks.proofs.NodeKeys.{one_more_key}
use Rattle.h5_chunks.proofs.Readable.{stored_tree}
use Rattle.h5_chunks.proofs.Stored.{bottom_same, chunks_same}

none_below : (V : Reading) (level at : ℕ) → (V at).children ≡ [] → leaves V level (at ∷ []) ≡ []
none_below V zero at none = rw none refl
none_below V (suc level) at none = rw none (leaves-nil V level)

-- the way ends at a node of level 0
ends_bottom : (V : Reading) (behind : List ℕ → Bool) (level at : ℕ) (node : Node) (i : ℕ) → EndsAt V behind level at node i
    → (a : ℕ) × In a (row_below V level (at ∷ [])) × (node ≡ V a)
ends_bottom V behind zero at node i ends = (at, inl refl, ends.0)
ends_bottom V behind (suc level) at node i ends =
    let children : List ℕ = (V at).children in
    let child : ℕ = slice_index children ends.0 in
    let row : List ℕ = next_row V (at ∷ []) in
    let there : In child row = in_left child children [] (index_in children ends.0 0 (ends.1).child) in
    let rest = ends_bottom V behind level child node i ends.2 in
    (rest.0, rows_within V level (child ∷ []) row (one_within V child row there) rest.0 rest.1, rest.2)

lists_few : (rank : ℕ) (node : Node) → length (chunk_lists rank node) ≤ length node.children
lists_few rank node =
    omega (arith, length-map (chunks_in rank node) (λ (c : List ℕ × ℕ). c ∷ []), length-zip (map (offsets_in rank) node.keys) node.children)

pub if_none : {P : Type 0} (r : Option P) (Q : Type 0) → (r ≡ None → Q) → IfNone r Q
if_none None Q so = so refl
if_none (Some p) Q so = tt

-- ---- the numbers of a key

module _ (rank : ℕ) (key offsets : List ℕ) (same : length offsets ≡ rank) where
  abbrev pub key_is_chunk : Type 0
  key_is_chunk = slice_cmp nat_cmp (all_offsets_in rank key) (offsets ++ 0 ∷ []) ≡ Equal

  pub heads : key_is_chunk → offsets_in rank key ≡ offsets
  heads is =
      let f = λ (d : ℕ). number_at key (8 + 8 * d) 8 in
      let all : all_offsets_in rank key ≡ offsets ++ 0 ∷ [] = slice_cmp-IsAntisymmetric nat_cmp-IsAntisymmetric (all_offsets_in rank key) (offsets ++ 0 ∷ []) is in
      sym (take-map-range_with_len f 0 (rank + 1) rank (omega arith)) ∙ ap (take rank) all
      ∙ ap (λ (n : ℕ). take n (offsets ++ 0 ∷ [])) (sym same) ∙ take-append_seam offsets (0 ∷ [])

  whole : offsets_in rank key ≡ offsets → number_at key (8 + 8 * rank) 8 ≡ 0 → key_is_chunk
  whole offsets_are element =
      let f = λ (d : ℕ). number_at key (8 + 8 * d) 8 in
      let all : all_offsets_in rank key ≡ offsets ++ 0 ∷ []
      = map-range_with_len_more f 0 rank rank (omega arith) ∙ ap (λ (xs : List ℕ). xs ++ f rank ∷ []) offsets_are ∙ ap (λ (n : ℕ). offsets ++ n ∷ []) element in
      rw all (tied_itself nat_list_cmp_total (offsets ++ 0 ∷ []))

-- ---- chunks that were read

module _ (image : List ℕ) (shape : Shape) (root : ℕ) (read : AreChunksRead image shape root) where
  abbrev V : Reading
  V = node_at image (shape_kind image shape)

  abbrev rank : ℕ
  rank = length shape.sizes

  abbrev chunks : Chunks
  chunks = chunks_told image shape root

  abbrev level : ℕ
  level = (read.stored).level

  abbrev owned : List ℕ
  owned = (read.stored).owned

  abbrev tree : IsTree image (OfChunks shape) root owned (values chunks)
  tree = stored_tree image shape root chunks _ read.stored

  pub stored_there : HasTree image (shape_kind image shape) root level owned (values chunks)
  stored_there = (read.stored).tree

  pub nodes_inside : Inside (length image) (tree_blocks (shape_kind image shape) owned)
  nodes_inside =
      all_left (λ (b : Block). b.at + b.len ≤ length image) (tree_blocks (shape_kind image shape) owned) (map (λ (at : ℕ). block at shape.bytes) (values chunks))
      (subst (Inside (length image)) (read.stored).laid read.inside)

  -- the tree in the bytes of a call, by the K and the rank of what the call seeks
  pub tree_sought : (bytes : List ℕ) (k n : ℕ) → bytes ≡ image → k ≡ chunk_k image → n ≡ length shape.sizes
      → HasTree bytes (chunk_kind k n) root (read.stored).level (read.stored).owned (values (chunks_told image shape root))
      × Inside (length bytes) (tree_blocks (chunk_kind k n) (read.stored).owned)
  tree_sought bytes k n same k_is rank_is = rw (same, k_is, rank_is) (stored_there, nodes_inside)

  pub top : level_at image (shape_kind image shape) root ≡ level
  top = level_is image (shape_kind image shape) root level owned (values chunks) stored_there

  abbrev bottom : List ℕ
  bottom = row_below V level (root ∷ [])

  pub entries_are : entries chunks ≡ chunks_at V rank bottom
  entries_are =
      (read.stored).listed.listed
      ∙ ap (chunks_at (reading_of image (shape_kind image shape) owned) rank) (bottom_same image shape root owned (values chunks) tree)
      ∙ chunks_same image shape root owned (values chunks) tree

  pub items_are : items_under V (chunk_lists rank) level root ≡ entries chunks
  items_are = chunks_under V rank level root ∙ sym entries_are

  pub each_rises : AllByRecursion (λ at. IsOrderedBy (rising_chunk_sides rank) V (chunk_lists rank) (V at)) owned
  each_rises =
      let ordered = chunk_order_there image (shape_kind image shape) root level owned (values chunks) stored_there rank (read.stored).listed.ordered in
      all_in (λ at. IsOrderedBy (rising_chunk_sides rank) V (chunk_lists rank) (V at)) owned (λ at there.
      keys_rise image shape root level owned (values chunks) stored_there at there (in_all (λ n. IsChunkOrdered V rank (V n)) at owned ordered there))

  -- a chunk that stands at a node of level 0 is one of the tree
  module _ (a : ℕ) (in_row : In a bottom) (node : Node) (is_node : node ≡ V a) (offsets : List ℕ) (same : length offsets ≡ rank) (i : ℕ) (low : i < length node.children)
      (key : List ℕ) (got : slice_get node.keys i ≡ Some key) where
    pub found_in_row : (child : ℕ) → slice_get node.children i ≡ Some child → key_is_chunk rank key offsets same → get chunks offsets ≡ Some child
    found_in_row child child_got is =
        let long = one_more_key image shape a node is_node in
        let one = chunk_is rank node long i low ([], 0) in
        let key_is : slice_index_or node.keys i [] ≡ key = get_or_from_slice_get node.keys i key [] got in
        let child_is : slice_index_or node.children i 0 ≡ child = get_or_from_slice_get node.children i child 0 child_got in
        let under : i < length (chunks_in rank node) = omega (arith, low, length-chunks rank node long) in
        let member : In (offsets_in rank (slice_index_or node.keys i []), slice_index_or node.children i 0) (chunks_in rank node)
        = subst (λ (c : List ℕ × ℕ). In c (chunks_in rank node)) one (index_in (chunks_in rank node) i ([], 0) under) in
        let exact : In (offsets, child) (chunks_in rank node)
        = subst (λ (n : ℕ). In (offsets, n) (chunks_in rank node)) child_is
        (subst (λ (xs : List ℕ). In (xs, slice_index_or node.children i 0) (chunks_in rank node)) (ap (offsets_in rank) key_is ∙ heads rank key offsets same is) member) in
        let there : In (offsets, child) (chunks_at V rank bottom)
        = in_flat (λ n. chunks_in rank (V n)) a (offsets, child) bottom in_row
        (subst (λ (n : Node). In (offsets, child) (chunks_in rank n)) is_node exact) in
        get_of_entry nat_list_cmp_total chunks offsets child (subst (In (offsets, child)) (sym entries_are) there)

  module _ (offsets : List ℕ) where
    absent : ((at : ℕ) → In (offsets, at) (entries chunks) → ⊥) → get chunks offsets ≡ None
    absent none = by_answer (get chunks offsets) refl where
      by_answer : (o : Option ℕ) → get chunks offsets ≡ o → o ≡ None
      by_answer None is = refl
      by_answer (Some at) is =
          absurd (none at (found_entry (slice_cmp-IsAntisymmetric nat_cmp-IsAntisymmetric) (entries chunks) offsets at (sym (get-entries chunks offsets) ∙ is)))

    -- a root without children has no chunk
    pub none_stored : (V root).children ≡ [] → get chunks offsets ≡ None
    none_stored empty =
        let none : values chunks ≡ []
        = ap (map (λ (c : List ℕ × ℕ). c.1)) entries_are ∙ row_addresses image shape bottom ∙ none_below V level root empty in
        absent (λ at there. subst (In at) none (in_map (λ (c : List ℕ × ℕ). c.1) (offsets, at) (entries chunks) there))

    module _ (same : length offsets ≡ rank) (node : Node) (i : ℕ) (ends : EndsForChunk image shape root offsets node i) where
      behind_right : (at : ℕ) (key : List ℕ) → IsTrue (chunk_behind offsets key) ↔ (rising_chunk_sides rank).Right key (offsets, at)
      behind_right at key = subst (λ (n : ℕ). IsTrue (chunk_behind offsets key) ↔ (rising_chunk_sides n).Right key (offsets, at)) same ((λ is. is), (λ is. is))

      ends_here : EndsAt V (chunk_behind offsets) level root node i
      ends_here = subst (λ (l : ℕ). EndsAt V (chunk_behind offsets) l root node i) top ends

      pub place_low : i < length node.children
      place_low = ends_low V (chunk_behind offsets) level root node i ends_here

      pub at_bottom : (a : ℕ) × In a bottom × (node ≡ V a)
      at_bottom = ends_bottom V (chunk_behind offsets) level root node i ends_here

      long : length node.keys ≡ length node.children + 1
      long = one_more_key image shape at_bottom.0 node at_bottom.2

      pub key_low : i < length node.keys
      key_low = omega (arith, place_low, long)

      keyed : IsChunkKey shape.sizes shape.bytes (slice_index_or node.keys i [])
      keyed =
          let all : IsKeyed (OfChunks shape) (V at_bottom.0) = in_all (λ n. IsKeyed (OfChunks shape) (V n)) at_bottom.0 bottom tree.keyed at_bottom.1 in
          let here : IsKeyed (OfChunks shape) node = subst (IsKeyed (OfChunks shape)) (sym at_bottom.2) all in
          here i place_low

      module _ (key : List ℕ) (got : slice_get node.keys i ≡ Some key) where
        key_is : slice_index_or node.keys i [] ≡ key
        key_is = get_or_from_slice_get node.keys i key [] got

        pub chunk_found : (child : ℕ) → slice_get node.children i ≡ Some child → key_is_chunk rank key offsets same → get chunks offsets ≡ Some child
        chunk_found = found_in_row at_bottom.0 at_bottom.1 node at_bottom.2 offsets same i place_low key got

        pub chunk_absent : (key_is_chunk rank key offsets same → ⊥) → get chunks offsets ≡ None
        chunk_absent other = absent (λ at there.
            let found = place_found (rising_chunk_sides rank) (chunk_order rank) (chunk_lists rank) (lists_few rank) (chunk_behind offsets) (offsets, at)
            (behind_right at) image (shape_kind image shape) root level owned (values chunks) stored_there each_rises node i ends
            (subst (In (offsets, at)) (sym items_are) there) in
            let alone = subst (In (offsets, at)) (chunk_alone rank node long i place_low) found in
            let offsets_are : offsets_in rank key ≡ offsets = ap (offsets_in rank) (sym key_is) ∙ ap (λ (c : List ℕ × ℕ). c.0) (the_one _ _ alone) in
            other (whole rank key offsets same offsets_are (subst (λ (k : List ℕ). number_at k (8 + 8 * rank) 8 ≡ 0) key_is keyed.element))) where
              the_one : (x y : List ℕ × ℕ) → In x (y ∷ []) → y ≡ x
              the_one x y (inl e) = e
              the_one x y (inr none) = absurd none
