-- A rule of a block that is reached, broken, excludes the reading.
use Rattle.std.proofs.Common.{◌≡◌, ℕ, suc, ◌+◌, List, true, false}
use Rattle.std.specs.Prelude.{IsTrue}
use Rattle.std.specs.Ordering.{nat_cmp}
use Rattle.std.specs.FinMap.{FinMap, values}
use Rattle.h5_model.specs.Format.Nodes.{group_kind}
use Rattle.h5_model.specs.Format.Superblock.{internal_k}
use Rattle.h5_model.specs.Tree.Objects.{Tree}
use Rattle.h5_model.specs.Format.Reads.{Placed, Holds}
use Rattle.h5_model.specs.Format.Reached.{Named, Role, ObjectHeader, GroupNode, SymbolNode, HeapHeader, ChunkNode, Reached, shape_kind}
use Rattle.h5_model.specs.Faults.Breaches.{BlockBreach, is_header, IsNoRoot}
use Rattle.h5_model.specs.declared.open_fault.Cause.{Cause}
use Rattle.h5_model.specs.declared.open_fault.Cause.TheVariants.{HeapForm, HeapName, NodeForm, NameOrder, KeyOrder, Sibling, ChunkKey, TooDeep, BadName}
use Rattle.h5_laws.proofs.Lists.{In}
use Rattle.h5_laws.proofs.Rows.{in_row}
use Rattle.h5_laws.proofs.Entries.{in_symbol_nodes}
use Rattle.h5_laws.proofs.Located.{KnownAt, KnownSymbols, LinkField, Located}
use Rattle.h5_laws.proofs.Steps.{located}
use Rattle.h5_laws.proofs.HeaderExcluded.{header_excluded, no_root_excluded}
use Rattle.h5_laws.proofs.NodeExcluded.{node_excluded, sibling_excluded}
use Rattle.h5_laws.proofs.GroupExcluded.{symbol_excluded, name_excluded, bad_name_excluded, heap_excluded, heap_name_excluded, deep_excluded}
use Rattle.h5_laws.proofs.OrderExcluded.{key_excluded}
use Rattle.h5_laws.proofs.ChunkExcluded.{chunk_key_excluded, chunk_order_excluded}

module _ (image : List ℕ) (table : FinMap nat_cmp ℕ) (tree : Tree) (placed : List Placed) (reads : Holds image table tree placed) where
  symbol_node : (root heap : ℕ) (x : Named) (k : KnownSymbols image table tree placed x.depth root heap x.field x.at) → In x.at k.g.linked.symbol_nodes
  symbol_node root heap x k =
      in_symbol_nodes image root heap k.g.found k.g.k.has.content_blocks k.g.linked x.at
      (in_row image (group_kind (internal_k image)) (suc k.g.linked.level) x.field root x.at k.g.m.at k.there)

  block_breach : (role : Role) (x : Named) (cause : Cause) → Located image table tree placed x role → BlockBreach image x role cause → ⊥
  block_breach ObjectHeader x cause k h = header_excluded image table tree placed reads x.depth x.at k.0 cause h
  block_breach (GroupNode root heap level) x NodeForm k h =
      node_excluded image (group_kind (internal_k image)) root k.g.linked.level k.g.linked.owned k.g.linked.symbol_nodes k.g.linked.tree k.down level x.at k.levels
      (in_row image (group_kind (internal_k image)) k.down x.field root x.at k.g.m.at k.there) h
  block_breach (GroupNode root heap level) x Sibling k h =
      sibling_excluded image (group_kind (internal_k image)) root k.g.linked.level k.g.linked.owned k.g.linked.symbol_nodes k.g.linked.tree x.at h
  block_breach (GroupNode root heap level) x KeyOrder k h =
      key_excluded image root heap k.g.found k.g.k.has.content_blocks k.g.linked k.down level x.at k.levels
      (in_row image (group_kind (internal_k image)) k.down x.field root x.at k.g.m.at k.there) h
  block_breach (SymbolNode root heap) x NodeForm k h =
      symbol_excluded image root heap k.g.found k.g.k.has.content_blocks k.g.linked x.at (symbol_node root heap x k) h
  block_breach (SymbolNode root heap) x NameOrder k h = name_excluded image root heap k.g.found k.g.k.has.content_blocks k.g.linked x.at h
  block_breach (SymbolNode root heap) x TooDeep k h =
      deep_excluded image table tree placed reads x.depth root heap x.at k.g (symbol_node root heap x k) h.0 h.1
  block_breach (HeapHeader root) x HeapForm k h = heap_excluded image root x.at k.g.found k.g.k.has.content_blocks k.g.linked h
  block_breach (HeapHeader root) x HeapName k h = heap_name_excluded image root x.at k.g.found k.g.k.has.content_blocks k.g.linked h
  block_breach (HeapHeader root) x BadName k h = bad_name_excluded image root x.at k.g.found k.g.k.has.content_blocks k.g.linked h
  block_breach (ChunkNode shape root level) x NodeForm k h =
      node_excluded image (shape_kind image shape) root k.c.chunks.level k.c.chunks.owned (values k.c.d.stored.chunks) k.c.chunks.tree k.down level x.at k.levels
      (in_row image (shape_kind image shape) k.down x.field root x.at (k.c.m.at + 3) k.there) h
  block_breach (ChunkNode shape root level) x Sibling k h =
      sibling_excluded image (shape_kind image shape) root k.c.chunks.level k.c.chunks.owned (values k.c.d.stored.chunks) k.c.chunks.tree x.at h
  block_breach (ChunkNode shape root level) x ChunkKey k h =
      chunk_key_excluded image shape root k.c.d.stored.chunks k.c.d.k.has.content_blocks k.c.chunks k.down level x.at k.levels
      (in_row image (shape_kind image shape) k.down x.field root x.at (k.c.m.at + 3) k.there) h
  block_breach (ChunkNode shape root level) x KeyOrder k h =
      chunk_order_excluded image shape root k.c.d.stored.chunks k.c.d.k.has.content_blocks k.c.chunks k.down level x.at k.levels
      (in_row image (shape_kind image shape) k.down x.field root x.at (k.c.m.at + 3) k.there) h
  block_breach _ x cause k h = absurd h

  as_header : (role : Role) (x : Named) → IsTrue (is_header role) → Located image table tree placed x role → KnownAt image table tree placed x.depth x.at
  as_header ObjectHeader x is k = k.0
  as_header _ x is k = absurd (let never : false ≡ true = is in cc)

  as_link : (role : Role) (x : Named) → IsTrue (is_header role) → Located image table tree placed x role → LinkField image table tree placed x.field x.at
  as_link ObjectHeader x is k = k.1
  as_link _ x is k = absurd (let never : false ≡ true = is in cc)

  pub link_known : (x : Named) → Reached image x → IsTrue (is_header x.role) → LinkField image table tree placed x.field x.at
  link_known x reached is = as_link x.role x is (located image table tree placed reads reached)

  -- a header that is reached is that of an object
  pub header_known : (x : Named) → Reached image x → IsTrue (is_header x.role) → KnownAt image table tree placed x.depth x.at
  header_known x reached is = as_header x.role x is (located image table tree placed reads reached)

  -- a rule of the block's form
  pub form_excluded : (x : Named) → Reached image x → (cause : Cause) → BlockBreach image x x.role cause → ⊥
  form_excluded x reached cause h = block_breach x.role x cause (located image table tree placed reads reached) h

  -- the root is a group
  pub root_excluded : (x : Named) → Reached image x → IsNoRoot image x → ⊥
  root_excluded x reached (top, is, (messages, all, none)) =
      no_root_excluded image table tree placed reads x.depth x.at (header_known x reached is) top messages all none
