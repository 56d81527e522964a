-- Each block that is reached is among the blocks of an object, behind the field that names it.
use Rattle.std.proofs.Common.{◌≡◌, inl, inr, ℕ, zero, suc, ◌+◌, ◌-◌, List, [], ◌∷◌, ◌++◌, length, sym, ap, ap₂, ◌∙◌, subst, arith, Option, Some, None}
use Rattle.std.specs.Prelude.{option_map}
use Rattle.std.specs.Option.{option_and_then}
use Rattle.std.specs.Ordering.{nat_cmp}
use Rattle.std.specs.FinMap.{FinMap, values}
use Rattle.h5_bytes.specs.Bytes.{number_at}
use Rattle.h5_bytes.specs.Blocks.{block}
use Rattle.h5_bytes.specs.declared.Block.{Block}
use Rattle.h5_bytes.proofs.PartLaws.{length-part}
use Rattle.h5_bytes.proofs.FieldLaws.{number_at-part}
use Rattle.h5_model.specs.Format.MessageTypes.{data_layout_kind}
use Rattle.h5_model.specs.Format.Messages.{Message, continuation, prefix_at, first_size, first_body}
use Rattle.h5_model.specs.Format.Heap.{heap_header, segment_size, segment_block}
use Rattle.h5_model.specs.Format.Nodes.{Kind, group_kind, node_block}
use Rattle.h5_model.specs.Format.Symbols.{symbol_block}
use Rattle.h5_model.specs.Format.Layout.{Layout, InBlock, InChunks, layout_of}
use Rattle.h5_model.specs.Format.Superblock.{leaf_k, internal_k}
use Rattle.h5_model.specs.Tree.Objects.{Tree}
use Rattle.h5_model.specs.Format.Reads.{Placed, Holds}
use Rattle.h5_model.specs.Format.Reached.{Named, Role, ObjectHeader, Continuation, GroupNode, SymbolNode, HeapHeader, Segment, Data, ChunkNode, Chunk, Shape, shape_kind, level_at, length_by}
use Rattle.h5_model.proofs.OneTree.{level_is}
use Rattle.h5_laws.proofs.Lists.{In, in_left, in_right, in_map, in_flat}
use Rattle.h5_laws.proofs.Heads.{in_continuations}
use Rattle.h5_laws.proofs.Rows.{named_next, named_row}
use Rattle.h5_laws.proofs.Tags.{Tagged, named_all, tag_all, tagged, tagged_header, tagged_continuation, tagged_table, tagged_layout, tagged_tree, tagged_group, tagged_chunks}
use Rattle.h5_laws.proofs.ObjectBlocks.{table_tags, layout_tags}
use Rattle.h5_laws.proofs.Datasets.{find_in, layout_there}
use Rattle.h5_laws.proofs.Bodies.{message_bodied, block_says}
use Rattle.h5_laws.proofs.Steps.{header_inside}
use Rattle.h5_laws.proofs.Located.{Known, KnownAt, KnownBlock, KnownGroup, KnownNode, KnownSymbols, KnownHeap, KnownSegment, KnownBytes, KnownChunks, KnownChunkNode, KnownChunk, Located}

-- the field that names a block, but none for a header
abbrev pub tag_of : ℕ → Role → Option ℕ
tag_of field ObjectHeader = None
tag_of field _ = Some field

-- a block among those of an object that is placed
pub record Entered (image : List ℕ) (table : FinMap nat_cmp ℕ) (tree : Tree) (placed : List Placed) (x : Tagged) : Type 0 where
  pub depth : ℕ
  pub k : Known image table tree placed depth
  pub there : In x (tagged image k.o.header k.has.messages)

first_row_all : (image : List ℕ) (kind : Kind) (level : ℕ) (z : ℕ × ℕ) (row : List (ℕ × ℕ)) → In z row → In z (named_all image kind level row)
first_row_all image kind zero z row at = at
first_row_all image kind (suc level) z row at = in_left z row (named_all image kind level (named_next image kind row)) at

-- a node of a row is among all nodes
in_named_all : (image : List ℕ) (kind : Kind) (d l level : ℕ) (z : ℕ × ℕ) (row : List (ℕ × ℕ)) → d + l ≡ level → In z (named_row image kind d row) → In z (named_all image kind level row)
in_named_all image kind zero l level z row e at = first_row_all image kind level z row at
in_named_all image kind (suc d) l zero z row e at = absurd (omega (arith, e))
in_named_all image kind (suc d) l (suc level) z row e at =
    in_right z row (named_all image kind level (named_next image kind row)) (in_named_all image kind d l level z (named_next image kind row) (omega (arith, e)) at)

module _ (image : List ℕ) (kind : Kind) (first root : ℕ) (leaf : ℕ → Block) where
  node_tagged : (d l field at : ℕ) → d + l ≡ level_at image kind root → In (field, at) (named_row image kind d ((first, root) ∷ []))
      → In (Some field, node_block kind at) (tagged_tree image kind first root leaf)
  node_tagged d l field at e there =
      in_left (Some field, node_block kind at) (tag_all (node_block kind) (named_all image kind (level_at image kind root) ((first, root) ∷ [])))
      (tag_all leaf (named_row image kind (suc (level_at image kind root)) ((first, root) ∷ [])))
      (in_map (λ (x : ℕ × ℕ). (Some x.0, node_block kind x.1)) (field, at) (named_all image kind (level_at image kind root) ((first, root) ∷ []))
      (in_named_all image kind d l (level_at image kind root) (field, at) ((first, root) ∷ []) e there))

  leaf_tagged : (level field at : ℕ) → level ≡ level_at image kind root → In (field, at) (named_row image kind (suc level) ((first, root) ∷ []))
      → In (Some field, leaf at) (tagged_tree image kind first root leaf)
  leaf_tagged level field at e there =
      in_right (Some field, leaf at) (tag_all (node_block kind) (named_all image kind (level_at image kind root) ((first, root) ∷ [])))
      (tag_all leaf (named_row image kind (suc (level_at image kind root)) ((first, root) ∷ [])))
      (in_map (λ (x : ℕ × ℕ). (Some x.0, leaf x.1)) (field, at) (named_row image kind (suc (level_at image kind root)) ((first, root) ∷ []))
      (subst (λ (n : ℕ). In (field, at) (named_row image kind (suc n) ((first, root) ∷ []))) e there))

module _ (image : List ℕ) (table : FinMap nat_cmp ℕ) (tree : Tree) (placed : List Placed) (reads : Holds image table tree placed) where
  abbrev Among : Tagged → Type 0
  Among x = Entered image table tree placed x

  module _ (depth : ℕ) (k : Known image table tree placed depth) (x : Tagged) where
    by_header : In x (tagged_header image k.o.header k.has.messages) → Among x
    by_header at = record {
      depth = depth;
      k = k;
      there = in_left x (tagged_header image k.o.header k.has.messages) (tagged_table image k.has.messages ++ tagged_layout image k.has.messages) at;
    }

    by_table : In x (tagged_table image k.has.messages) → Among x
    by_table at = record {
      depth = depth;
      k = k;
      there = in_right x (tagged_header image k.o.header k.has.messages) (tagged_table image k.has.messages ++ tagged_layout image k.has.messages)
          (in_left x (tagged_table image k.has.messages) (tagged_layout image k.has.messages) at);
    }

    by_layout : In x (tagged_layout image k.has.messages) → Among x
    by_layout at = record {
      depth = depth;
      k = k;
      there = in_right x (tagged_header image k.o.header k.has.messages) (tagged_table image k.has.messages ++ tagged_layout image k.has.messages)
          (in_right x (tagged_table image k.has.messages) (tagged_layout image k.has.messages) at);
    }

  -- ---- headers and their blocks

  header_entered : (depth at : ℕ) → KnownAt image table tree placed depth at → Among (None, block at (16 + first_size (prefix_at image at)))
  header_entered depth at k =
      by_header depth k.0 (None, block at (16 + first_size (prefix_at image at)))
      (inl (ap (λ (h : ℕ). (None, block h (16 + first_size (prefix_at image h)))) k.1))

  block_entered : (depth header field at : ℕ) → KnownBlock image table tree placed depth header field at → Among (Some field, block at (number_at image (field + 8) 8))
  block_entered depth header field at k =
      let b = block at (number_at image (field + 8) 8) in
      let named : In (Some k.m.at, b) (tagged_continuation k.m) = in_map (λ (c : Block). (Some k.m.at, c)) b (continuation k.m) (in_continuations k.m b k.kind k.names) in
      by_header depth k.k (Some field, b)
      (inr (in_flat tagged_continuation k.m (Some field, b) k.k.has.messages k.member (subst (λ (f : ℕ). In (Some f, b) (tagged_continuation k.m)) (sym k.place) named)))

  -- ---- groups

  module _ (depth root heap : ℕ) (g : KnownGroup image table tree placed depth root heap) where
    in_group : (x : Tagged) → In x (tagged_group image g.m.at (record { tree = root; heap = heap })) → Among x
    in_group x at =
        by_table depth g.k x (subst (In x) (sym (table_tags image g.k.has.messages g.m (record { tree = root; heap = heap }) g.first g.says)) at)

    top : level_at image (group_kind (internal_k image)) root ≡ g.linked.level
    top = level_is image (group_kind (internal_k image)) root g.linked.level g.linked.owned g.linked.symbol_nodes g.linked.tree

    in_tree_part : (x : Tagged) → In x (tagged_tree image (group_kind (internal_k image)) g.m.at root (symbol_block (leaf_k image))) → Among x
    in_tree_part x at =
        in_group x (in_left x (tagged_tree image (group_kind (internal_k image)) g.m.at root (symbol_block (leaf_k image)))
        ((Some (g.m.at + 8), block heap 32) ∷ (Some (heap + 24), segment_block image heap) ∷ []) at)

    in_heap_part : (x : Tagged) → In x ((Some (g.m.at + 8), block heap 32) ∷ (Some (heap + 24), segment_block image heap) ∷ []) → Among x
    in_heap_part x at =
        in_group x (in_right x (tagged_tree image (group_kind (internal_k image)) g.m.at root (symbol_block (leaf_k image)))
        ((Some (g.m.at + 8), block heap 32) ∷ (Some (heap + 24), segment_block image heap) ∷ []) at)

  node_entered : (depth root heap level field at : ℕ) → KnownNode image table tree placed depth root heap level field at
      → Among (Some field, node_block (group_kind (internal_k image)) at)
  node_entered depth root heap level field at k =
      in_tree_part depth root heap k.g (Some field, node_block (group_kind (internal_k image)) at)
      (node_tagged image (group_kind (internal_k image)) k.g.m.at root (symbol_block (leaf_k image)) k.down level field at
      (k.levels ∙ sym (top depth root heap k.g)) k.there)

  symbols_entered : (depth root heap field at : ℕ) → KnownSymbols image table tree placed depth root heap field at → Among (Some field, symbol_block (leaf_k image) at)
  symbols_entered depth root heap field at k =
      in_tree_part depth root heap k.g (Some field, symbol_block (leaf_k image) at)
      (leaf_tagged image (group_kind (internal_k image)) k.g.m.at root (symbol_block (leaf_k image)) k.g.linked.level field at
      (sym (top depth root heap k.g)) k.there)

  heap_entered : (depth root field at : ℕ) → KnownHeap image table tree placed depth root field at → Among (Some field, block at 32)
  heap_entered depth root field at k =
      in_heap_part depth root at k.g (Some field, block at 32) (inl (ap (λ (f : ℕ). (Some f, block at 32)) (sym k.place)))

  segment_entered : (depth field at : ℕ) → KnownSegment image table tree placed depth field at
      → Among (Some field, block at (segment_size (heap_header image (field - 24))))
  segment_entered depth field at k =
      let back : field - 24 ≡ k.heap = omega (arith, k.place) in
      let size : segment_size (heap_header image k.heap) ≡ segment_size (heap_header image (field - 24)) = ap (λ (h : ℕ). segment_size (heap_header image h)) (sym back) in
      in_heap_part depth k.root k.heap k.g (Some field, block at (segment_size (heap_header image (field - 24))))
      (inr (inl (ap₂ (λ (f : ℕ) (b : Block). (Some f, b)) (sym k.place) (ap₂ block (sym k.here) size))))

  -- ---- datasets

  bytes_entered : (depth field at : ℕ) → KnownBytes image table tree placed depth field at → Among (Some field, block at (number_at image (field + 8) 8))
  bytes_entered depth field at k =
      let ms = k.d.k.has.messages in
      let there = find_in data_layout_kind ms k.m k.first in
      let bodied = message_bodied image k.d.k.o.header ms k.d.k.has.header_blocks k.d.k.has.listed (header_inside image table tree placed reads depth k.d.k) k.m there.0 in
      let body : first_body data_layout_kind ms ≡ Some k.m.body = ap (option_map (λ (x : Message). x.body)) k.first in
      let laid : layout_of k.d.d.sizes k.d.d.fixed.size k.m.body ≡ Some (InBlock (Some k.b))
      = sym (ap (option_and_then (layout_of k.d.d.sizes k.d.d.fixed.size)) body) ∙ k.d.stored.array.laid_out ∙ ap (λ (l : Layout). Some l) k.laid in
      let says = block_says k.d.d.sizes k.d.d.fixed.size k.m.body k.b laid in
      let len : length k.m.body ≡ bodied.size = ap length bodied.is ∙ length-part k.m.at bodied.size image bodied.inside in
      let over : k.m.at + 10 ≡ field + 8 = omega (arith, k.place) in
      let size : k.b.len ≡ number_at image (field + 8) 8
      = says.1 ∙ ap (λ bs. number_at bs 10 8) bodied.is ∙ number_at-part 10 8 k.m.at bodied.size image (omega (arith, len, says.0)) ∙ ap (λ (p : ℕ). number_at image p 8) over in
      let tags : tagged_layout image ms ≡ (Some (k.m.at + 2), k.b) ∷ []
      = layout_tags image ms k.m k.d.d.fixed (InBlock (Some k.b)) k.first k.d.stored.array.type
      (layout_there image ms k.d.d k.d.k.has.content_blocks k.d.stored ∙ ap (λ (l : Layout). Some l) k.laid) in
      let same : block k.b.at k.b.len ≡ block at (number_at image (field + 8) 8) = ap₂ block (sym k.here) size in
      by_layout depth k.d.k (Some field, block at (number_at image (field + 8) 8))
      (subst (In (Some field, block at (number_at image (field + 8) 8))) (sym tags) (inl (ap₂ (λ (f : ℕ) (b : Block). (Some f, b)) (sym k.place) same)))

  module _ (depth : ℕ) (shape : Shape) (root : ℕ) (c : KnownChunks image table tree placed depth shape root) where
    chunk_top : level_at image (shape_kind image shape) root ≡ c.chunks.level
    chunk_top = level_is image (shape_kind image shape) root c.chunks.level c.chunks.owned (values c.d.stored.chunks) c.chunks.tree

    tags_are : tagged_layout image c.d.k.has.messages ≡ tagged_chunks image (c.m.at + 3) shape root
    tags_are =
        layout_tags image c.d.k.has.messages c.m c.d.d.fixed (InChunks shape.sizes (Some root)) c.first c.d.stored.array.type
        (layout_there image c.d.k.has.messages c.d.d c.d.k.has.content_blocks c.d.stored ∙ ap (λ (l : Layout). Some l) c.laid)
        ∙ ap (λ (n : ℕ). tagged_chunks image (c.m.at + 3) (record { sizes = shape.sizes; bytes = n }) root) (sym c.size)

    in_chunks : (x : Tagged) → In x (tagged_chunks image (c.m.at + 3) shape root) → Among x
    in_chunks x at = by_layout depth c.d.k x (subst (In x) (sym tags_are) at)

  chunk_node_entered : (depth : ℕ) (shape : Shape) (root level field at : ℕ) → KnownChunkNode image table tree placed depth shape root level field at
      → Among (Some field, node_block (shape_kind image shape) at)
  chunk_node_entered depth shape root level field at k =
      in_chunks depth shape root k.c (Some field, node_block (shape_kind image shape) at)
      (node_tagged image (shape_kind image shape) (k.c.m.at + 3) root (λ a. block a shape.bytes) k.down level field at
      (k.levels ∙ sym (chunk_top depth shape root k.c)) k.there)

  chunk_entered : (depth bytes field at : ℕ) → KnownChunk image table tree placed depth bytes field at → Among (Some field, block at bytes)
  chunk_entered depth bytes field at k =
      subst (λ (n : ℕ). Among (Some field, block at n)) (sym k.size)
      (in_chunks depth k.shape k.root k.c (Some field, block at k.shape.bytes)
      (leaf_tagged image (shape_kind image k.shape) (k.c.m.at + 3) k.root (λ a. block a k.shape.bytes) k.c.chunks.level field at
      (sym (chunk_top depth k.shape k.root k.c)) k.there))

  -- each of them
  pub entered : (role : Role) (x : Named) → Located image table tree placed x role → Among (tag_of x.field role, block x.at (length_by image x role))
  entered ObjectHeader x k = header_entered x.depth x.at k.0
  entered (Continuation header) x k = block_entered x.depth header x.field x.at k
  entered (GroupNode root heap level) x k = node_entered x.depth root heap level x.field x.at k
  entered (SymbolNode root heap) x k = symbols_entered x.depth root heap x.field x.at k
  entered (HeapHeader root) x k = heap_entered x.depth root x.field x.at k
  entered Segment x k = segment_entered x.depth x.field x.at k
  entered Data x k = bytes_entered x.depth x.field x.at k
  entered (ChunkNode shape root level) x k = chunk_node_entered x.depth shape root level x.field x.at k
  entered (Chunk bytes) x k = chunk_entered x.depth bytes x.field x.at k
