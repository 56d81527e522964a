-- A node of a tree of chunks that is reached stands in the row of the level that its role says.
use Rattle.std.proofs.Common.{◌≡◌, ℕ, zero, suc, ◌+◌, ◌-◌, List, [], ◌∷◌, inl, inr, refl, sym, ap, ◌∙◌, subst, arith, false}
use Rattle.std.specs.Prelude.{◌==◌, if◌then◌else◌, Some, None}
use Rattle.std.proofs.lemmas.Bool.Decides.{nat_tests}
use Rattle.h5_bytes.specs.Bytes.{undefined_address}
use Rattle.h5_model.specs.Format.Rows.{Reading, AreRows, row_below}
use Rattle.h5_model.specs.Format.Nodes.{group_kind, node_at, node_bytes, key_place, child_in}
use Rattle.h5_model.specs.Format.Superblock.{internal_k}
use Rattle.h5_model.specs.Format.Messages.{Message}
use Rattle.h5_model.specs.Format.Layout.{InBlock, InChunks, InMessage}
use Rattle.h5_model.specs.Format.Reached.{Named, naming_of, Role, ObjectHeader, Continuation, GroupNode, SymbolNode, HeapHeader, Segment, Data, ChunkNode, Chunk, Reached, by_superblock, by_block, Names, FromMessage, FromHeader, FromNode, FromLayout, Shape, shape_kind, level_at}
use Rattle.h5_laws.proofs.Lists.{In, in_at}
use Rattle.h5_laws.proofs.Rows.{row_is, row_level, rows_below}
use Rattle.h5_laws.proofs.Subtrees.{child_below}
use Rattle.h5_btree.proofs.NodeLaws.{child_is, length-children}

inner_role : (level : ℕ) (bottom : Role) (inner : ℕ → Role) → (if suc level == 0 then bottom else inner (suc level - 1)) ≡ inner level
inner_role level bottom inner =
    let other : (suc level == 0) ≡ false = grind (arith, nat_tests) in
    let less : suc level - 1 ≡ level = omega arith in
    rw other (ap inner less)

module _ (image : List ℕ) where
  -- so many levels below the root of its tree; of other blocks nothing is said
  abbrev pub InRow : Role → ℕ → Type 0
  InRow (ChunkNode shape root level) at =
      (d : ℕ) × (d + level ≡ level_at image (shape_kind image shape) root) × In at (row_below (node_at image (shape_kind image shape)) d (root ∷ []))
  InRow _ at = Unit {0}

  abbrev Placed : Named → Type 0
  Placed y = InRow y.role y.at

  from_message : (header depth at : ℕ) (y : Named) → FromMessage image header depth at y → Placed y
  from_message header depth at y (inl p) = subst Placed (sym p.1) tt
  from_message header depth at y (inr (inl p)) = subst Placed (sym p.1) tt
  from_message header depth at y (inr (inr p)) = subst Placed (sym p.1) tt

  from_layout : (messages : List Message) (depth : ℕ) (y : Named) → FromLayout image messages depth y → Placed y
  from_layout messages depth y (m, t, InMessage bytes, first, type, among, gives) = absurd gives
  from_layout messages depth y (m, t, InBlock None, first, type, among, gives) = absurd gives
  from_layout messages depth y (m, t, InBlock (Some b), first, type, among, gives) = subst Placed (sym gives) tt
  from_layout messages depth y (m, t, InChunks sizes None, first, type, among, gives) = absurd gives
  from_layout messages depth y (m, t, InChunks sizes (Some root), first, type, among, gives) = subst Placed (sym gives) (0, omega arith, inl refl)

  from_header : (depth header : ℕ) (y : Named) → FromHeader image header depth y → Placed y
  from_header depth header y (inl (at, fits, long, names)) = from_message header depth at y names
  from_header depth header y (inr (messages, all, layout)) = from_layout messages depth y layout

  from_group_node : (depth root heap at : ℕ) (y : Named) (level : ℕ)
      → FromNode image (group_kind (internal_k image)) (if level == 0 then SymbolNode root heap else GroupNode root heap (level - 1)) at depth y → Placed y
  from_group_node depth root heap at y zero (i, low, room, is) = subst Placed (sym is) tt
  from_group_node depth root heap at y (suc level) (i, low, room, is) =
      let kind = group_kind (internal_k image) in
      let place = at + key_place kind i + kind.key_length in
      let child = child_in kind (node_bytes image kind at) i in
      subst Placed (sym (is ∙ ap (λ (r : Role). naming_of place r child depth) (inner_role level (SymbolNode root heap) (GroupNode root heap)))) tt

  from_chunk_node : (depth : ℕ) (shape : Shape) (root at : ℕ) (y : Named) (level : ℕ) → InRow (ChunkNode shape root level) at
      → FromNode image (shape_kind image shape) (if level == 0 then Chunk shape.bytes else ChunkNode shape root (level - 1)) at depth y → Placed y
  from_chunk_node depth shape root at y zero here (i, low, room, is) = subst Placed (sym is) tt
  from_chunk_node depth shape root at y (suc level) (d, levels, row) (i, low, room, is) =
      let kind = shape_kind image shape in
      let V : Reading = node_at image kind in
      let place = at + key_place kind i + kind.key_length in
      let child = child_in kind (node_bytes image kind at) i in
      let count = length-children kind (node_bytes image kind at) (V at) refl in
      let there : In child (V at).children = in_at (V at).children i child (child_is kind (node_bytes image kind at) (V at) refl i (omega (arith, low, count))) in
      subst Placed (sym (is ∙ ap (λ (r : Role). naming_of place r child depth) (inner_role level (Chunk shape.bytes) (ChunkNode shape root))))
      (suc d, omega (arith, levels), child_below V d at child (root ∷ []) row there)

  step : (role : Role) (at depth : ℕ) (y : Named) → InRow role at → Names image role at depth y → Placed y
  step ObjectHeader at depth y here names = from_header depth at y names
  step (Continuation header) at depth y here names = absurd names
  step (GroupNode root heap level) at depth y here names = from_group_node depth root heap at y level names.1
  step (SymbolNode root heap) at depth y here (i, low, room, hard, is) = subst Placed (sym is) tt
  step (HeapHeader root) at depth y here names = subst Placed (sym names) tt
  step Segment at depth y here names = absurd names
  step Data at depth y here names = absurd names
  step (ChunkNode shape root level) at depth y here names = from_chunk_node depth shape root at y level here names.1
  step (Chunk bytes) at depth y here names = absurd names

  placed : {x : Named} → Reached image x → Placed x
  placed (by_superblock {x = x} whole is) = subst Placed (sym is) tt
  placed (by_block {x = x} {y = y} reached names there) = step x.role x.at x.depth y (placed reached) names

  pub reached_level : (shape : Shape) (root level : ℕ) → AreRows (node_at image (shape_kind image shape)) level (root ∷ [])
      → level_at image (shape_kind image shape) root ≡ level → (field l at depth : ℕ) → Reached image (naming_of field (ChunkNode shape root l) at depth)
      → (node_at image (shape_kind image shape) at).level ≡ l
  reached_level shape root level rows top field l at depth reached =
      let V : Reading = node_at image (shape_kind image shape) in
      let here : InRow (ChunkNode shape root l) at = placed reached in
      row_level V l undefined_address at (row_below V here.0 (root ∷ []))
      (row_is V l (row_below V here.0 (root ∷ [])) (rows_below V here.0 l level (root ∷ []) (here.1 ∙ top) rows)) here.2
