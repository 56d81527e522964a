-- Every block that is reached stands in the reading.
use Rattle.std.proofs.Common.{◌≡◌, inl, inr, ℕ, zero, suc, ◌+◌, ◌*◌, ◌-◌, ◌≤◌, List, [], ◌∷◌, length, refl, sym, ap, ◌∙◌, subst, arith, Some, None, false}
use Rattle.std.proofs.lemmas.Bool.Decides.{nat_tests}
use Rattle.std.specs.Prelude.{◌==◌, if◌then◌else◌}
use Rattle.std.specs.Ordering.{nat_cmp}
use Rattle.std.specs.FinMap.{FinMap, values}
use Rattle.std.specs.List.{flat_map}
use Rattle.h5_bytes.specs.Bytes.{number_at, part}
use Rattle.h5_bytes.specs.Blocks.{Inside}
use Rattle.h5_bytes.specs.declared.Block.{Block}
use Rattle.h5_bytes.proofs.BlockLaws.{all_left, all_right}
use Rattle.h5_model.specs.Format.Addresses.{symbol_table_of}
use Rattle.h5_model.specs.Format.Layout.{InMessage, InBlock, InChunks}
use Rattle.h5_model.specs.Tree.Places.{cells}
use Rattle.h5_model.specs.Format.Messages.{Message}
use Rattle.h5_model.specs.Format.Nodes.{group_kind, node_bytes, key_place, child_in}
use Rattle.h5_model.specs.Format.Superblock.{internal_k}
use Rattle.h5_model.specs.Tree.Objects.{Tree}
use Rattle.h5_model.specs.Format.Reads.{Placed, Holds}
use Rattle.h5_model.specs.Format.Reached.{Named, naming_of, Role, ObjectHeader, Continuation, GroupNode, SymbolNode, HeapHeader, Segment, Data, ChunkNode, Chunk, Reached, by_superblock, by_block, Names, FittingAt, FromMessage, FromHeader, FromNode, FromSymbols, FromLayout, AllMessages, Shape, shape_kind, Met, size_at, entry_in}
use Rattle.h5_model.proofs.OneTree.{level_is}
use Rattle.h5_laws.proofs.Lists.{In}
use Rattle.h5_laws.proofs.Heads.{Headed, headed, standing, two_numbers, names_block}
use Rattle.h5_laws.proofs.Rows.{in_row, in_next, named_row}
use Rattle.h5_laws.proofs.Entries.{in_symbol_nodes, entry_listed, header_listed}
use Rattle.h5_laws.proofs.Datasets.{all_messages, bytes_known, chunks_known}
use Rattle.h5_laws.proofs.Located.{Known, KnownAt, KnownNode, KnownSymbols, KnownChunkNode, Located}
use Rattle.h5_laws.proofs.Objects.{root_known, linked_known, group_known}

symbol_table_at : (image : List ℕ) (at size : ℕ) (body : List ℕ) → body ≡ part at size image → at + size ≤ length image → 16 ≤ size
    → symbol_table_of body ≡ Some (record { tree = number_at image at 8; heap = number_at image (at + 8) 8 })
unfolding symbol_table_of
symbol_table_at image at size body is inside long =
    let two = two_numbers image at size body is inside long in rw (two.0, two.1, two.2) refl

all_inside : (end : ℕ) (placed : List Placed) (o : Placed) → Inside end (flat_map (λ (x : Placed). x.blocks) placed) → In o placed → Inside end o.blocks
all_inside end [] o inside at = absurd at
all_inside end (x ∷ placed) o inside (inl e) =
    subst (λ (y : Placed). Inside end y.blocks) e (all_left (λ (b : Block). b.at + b.len ≤ end) x.blocks (flat_map (λ (y : Placed). y.blocks) placed) inside)
all_inside end (x ∷ placed) o inside (inr at) =
    all_inside end placed o (all_right (λ (b : Block). b.at + b.len ≤ end) x.blocks (flat_map (λ (y : Placed). y.blocks) placed) inside) at

module _ (image : List ℕ) (table : FinMap nat_cmp ℕ) (tree : Tree) (placed : List Placed) (reads : Holds image table tree placed) where
  pub blocks_inside : (o : Placed) → In o placed → Inside (length image) o.blocks
  blocks_inside o at = all_inside (length image) placed o reads.within.1 at

  pub header_inside : (depth : ℕ) (k : Known image table tree placed depth) → Inside (length image) k.has.header_blocks
  header_inside depth k =
      all_left (λ (b : Block). b.at + b.len ≤ length image) k.has.header_blocks k.has.content_blocks
      (subst (Inside (length image)) k.has.laid (blocks_inside k.o k.member))

  pub content_inside : (depth : ℕ) (k : Known image table tree placed depth) → Inside (length image) k.has.content_blocks
  content_inside depth k =
      all_right (λ (b : Block). b.at + b.len ≤ length image) k.has.header_blocks k.has.content_blocks
      (subst (Inside (length image)) k.has.laid (blocks_inside k.o k.member))

  -- a message that begins at a place of a header that is reached
  pub message_known : (depth header at : ℕ) (k : KnownAt image table tree placed depth header) (f : FittingAt image header at) → Headed image k.0.has.messages at f.0.end
  message_known depth header at k f =
      let met = subst (λ (h : ℕ). Met image h at f.0.end) (sym k.1) f.0.met in
      headed image k.0.has.messages at f.0.end
      (standing image k.0.o.header k.0.has.messages k.0.has.header_blocks k.0.has.listed (header_inside depth k.0) met) (λ e. omega (arith, e, f.0.inside))

  abbrev Stands : Named → Type 0
  Stands y = Located image table tree placed y y.role

  from_message : (depth header at : ℕ) (y : Named) → KnownAt image table tree placed depth header → FittingAt image header at → 16 ≤ size_at image at
      → FromMessage image header depth at y → Stands y
  from_message depth header at y k f long names =
      let h = message_known depth header at k f in
      let inside : at + 8 + size_at image at ≤ length image = omega (arith, h.fits, h.inside) in
      let tables = symbol_table_at image (at + 8) (size_at image at) h.m.body h.body inside long in
      let over : at + 8 + 8 ≡ at + 16 = omega arith in
      let table_is : symbol_table_of h.m.body ≡ Some (record { tree = number_at image (at + 8) 8; heap = number_at image (at + 16) 8 })
      = tables ∙ ap (λ (p : ℕ). Some (record { tree = number_at image (at + 8) 8; heap = number_at image p 8 })) over in
      elim names [
        | inl continued ↦ subst (λ (z : Named). Located image table tree placed z z.role) (sym continued.1) (record {
          k = k.0;
          here = k.1;
          m = h.m;
          member = h.member;
          kind = h.kind ∙ continued.0;
          place = sym h.place;
          names = names_block image (at + 8) (size_at image at) h.m.body h.body inside long;
        })
        | inr (inl nodes) ↦
            let g = group_known image table tree placed reads depth k.0 h.m (number_at image (at + 8) 8) (number_at image (at + 16) 8) h.member (h.kind ∙ nodes.0) table_is in
            let level = level_is image (group_kind (internal_k image)) (number_at image (at + 8) 8) g.0.linked.level g.0.linked.owned g.0.linked.symbol_nodes g.0.linked.tree in
            let place : g.0.m.at ≡ at + 8 = ap (λ (m : Message). m.at) g.1 ∙ h.place in
            subst (λ (z : Named). Located image table tree placed z z.role) (sym nodes.1) (record {
              g = g.0;
              down = 0;
              levels = omega (arith, level);
              there = inl (ap (λ (p : ℕ). (p, number_at image (at + 8) 8)) place);
            })
        | inr (inr heaps) ↦
            let g = group_known image table tree placed reads depth k.0 h.m (number_at image (at + 8) 8) (number_at image (at + 16) 8) h.member (h.kind ∙ heaps.0) table_is in
            let place : g.0.m.at ≡ at + 8 = ap (λ (m : Message). m.at) g.1 ∙ h.place in
            subst (λ (z : Named). Located image table tree placed z z.role) (sym heaps.1) (record {
              g = g.0;
              place = omega (arith, place);
            })
      ]

  -- a Data Layout message names bytes, or a tree of chunks
  from_layout : (messages : List Message) (depth : ℕ) (k : Known image table tree placed depth) (y : Named) → messages ≡ k.has.messages
      → FromLayout image messages depth y → Stands y
  from_layout messages depth k y same (m, t, InMessage bytes, first, type, among, gives) = absurd gives
  from_layout messages depth k y same (m, t, InBlock None, first, type, among, gives) = absurd gives
  from_layout messages depth k y same (m, t, InBlock (Some b), first, type, among, gives) =
      subst (λ (z : Named). Located image table tree placed z z.role) (sym gives) (bytes_known image table tree placed depth k messages same m t first type b among)
  from_layout messages depth k y same (m, t, InChunks sizes None, first, type, among, gives) = absurd gives
  from_layout messages depth k y same (m, t, InChunks sizes (Some root), first, type, among, gives) =
      let c = chunks_known image table tree placed depth k messages same m t first type sizes root among in
      let shape : Shape = record { sizes = sizes; bytes = cells sizes * t.size } in
      let level = level_is image (shape_kind image shape) root c.0.chunks.level c.0.chunks.owned (values c.0.d.stored.chunks) c.0.chunks.tree in
      subst (λ (z : Named). Located image table tree placed z z.role) (sym gives) (record {
        c = c.0;
        down = 0;
        levels = omega (arith, level);
        there = inl (ap (λ (x : Message). (x.at + 3, root)) c.1);
      })

  from_header : (depth header : ℕ) (y : Named) → KnownAt image table tree placed depth header → FromHeader image header depth y → Stands y
  from_header depth header y k (inl (at, fits, long, names)) = from_message depth header at y k fits long names
  from_header depth header y k (inr (messages, all, layout)) =
      let here : AllMessages image k.0.o.header messages = subst (λ (h : ℕ). AllMessages image h messages) (sym k.1) all in
      from_layout messages depth k.0 y (all_messages image k.0.o.header messages k.0.has.messages k.0.has.header_blocks here k.0.has.listed) layout

  pub below_role : (level : ℕ) (bottom : Role) (inner : ℕ → Role) → (if suc level == 0 then bottom else inner (suc level - 1)) ≡ inner level
  below_role level bottom inner =
      let other : (suc level == 0) ≡ false = grind (arith, nat_tests) in
      let less : suc level - 1 ≡ level = omega arith in
      rw other (ap inner less)

  from_node : (depth root heap field at : ℕ) (y : Named) (level : ℕ) → KnownNode image table tree placed depth root heap level field at
      → FromNode image (group_kind (internal_k image)) (if level == 0 then SymbolNode root heap else GroupNode root heap (level - 1)) at depth y → Stands y
  from_node depth root heap field at y zero k (i, low, room, is) =
      let kind = group_kind (internal_k image) in
      let z : ℕ × ℕ = (at + key_place kind i + 8, child_in kind (node_bytes image kind at) i) in
      let next = in_next image kind k.down field root at k.g.m.at i k.there low in
      let bottom : k.down ≡ k.g.linked.level = omega (arith, k.levels) in
      subst (λ (w : Named). Located image table tree placed w w.role) (sym is) (record {
        g = k.g;
        there = subst (λ (d : ℕ). In z (named_row image kind (suc d) ((k.g.m.at, root) ∷ []))) bottom next;
      })
  from_node depth root heap field at y (suc level) k (i, low, room, is) =
      let kind = group_kind (internal_k image) in
      let next = in_next image kind k.down field root at k.g.m.at i k.there low in
      let role = below_role level (SymbolNode root heap) (GroupNode root heap) in
      let place = at + key_place kind i + 8 in
      let child = child_in kind (node_bytes image kind at) i in
      subst (λ (w : Named). Located image table tree placed w w.role) (sym (is ∙ ap (λ (r : Role). naming_of place r child depth) role)) (record {
        g = k.g;
        down = suc k.down;
        levels = omega (arith, k.levels);
        there = next;
      })

  from_chunk_node : (depth : ℕ) (shape : Shape) (root field at : ℕ) (y : Named) (level : ℕ) → KnownChunkNode image table tree placed depth shape root level field at
      → FromNode image (shape_kind image shape) (if level == 0 then Chunk shape.bytes else ChunkNode shape root (level - 1)) at depth y → Stands y
  from_chunk_node depth shape root field at y zero k (i, low, room, is) =
      let kind = shape_kind image shape in
      let z : ℕ × ℕ = (at + key_place kind i + kind.key_length, child_in kind (node_bytes image kind at) i) in
      let next = in_next image kind k.down field root at (k.c.m.at + 3) i k.there low in
      let bottom : k.down ≡ k.c.chunks.level = omega (arith, k.levels) in
      subst (λ (w : Named). Located image table tree placed w w.role) (sym is) (record {
        shape = shape;
        root = root;
        c = k.c;
        size = refl;
        there = subst (λ (d : ℕ). In z (named_row image kind (suc d) ((k.c.m.at + 3, root) ∷ []))) bottom next;
      })
  from_chunk_node depth shape root field at y (suc level) k (i, low, room, is) =
      let kind = shape_kind image shape in
      let next = in_next image kind k.down field root at (k.c.m.at + 3) i k.there low in
      let role = below_role level (Chunk shape.bytes) (ChunkNode shape root) in
      let place = at + key_place kind i + kind.key_length in
      let child = child_in kind (node_bytes image kind at) i in
      subst (λ (w : Named). Located image table tree placed w w.role) (sym (is ∙ ap (λ (r : Role). naming_of place r child depth) role)) (record {
        c = k.c;
        down = suc k.down;
        levels = omega (arith, k.levels);
        there = next;
      })

  from_symbols : (depth root heap field at : ℕ) (y : Named) → KnownSymbols image table tree placed depth root heap field at → FromSymbols image at depth y → Stands y
  from_symbols depth root heap field at y k (i, low, room, hard, is) =
      let row = in_row image (group_kind (internal_k image)) (suc k.g.linked.level) field root at k.g.m.at k.there in
      let member = in_symbol_nodes image root heap k.g.found k.g.k.has.content_blocks k.g.linked at row in
      let entry = entry_listed image root heap k.g.found k.g.k.has.content_blocks k.g.linked at i member low in
      let link = header_listed image root heap k.g.found k.g.k.has.content_blocks k.g.linked (entry_in image at i) entry hard in
      subst (λ (z : Named). Located image table tree placed z z.role) (sym is) (
        linked_known image table tree placed reads depth root heap k.g _ (entry_in image at i).header link,
        inr (record {
          depth = depth;
          root = root;
          heap = heap;
          g = k.g;
          node = at;
          member = member;
          i = i;
          low = low;
          hard = hard;
          place = refl;
          names = refl;
        }),
      )

  step : (role : Role) (x y : Named) → Located image table tree placed x role → Names image role x.at x.depth y → Stands y
  step ObjectHeader x y k names = from_header x.depth x.at y k.0 names
  step (Continuation header) x y k names = absurd names
  step (GroupNode root heap level) x y k names = from_node x.depth root heap x.field x.at y level k names.1
  step (SymbolNode root heap) x y k names = from_symbols x.depth root heap x.field x.at y k names
  step (HeapHeader root) x y k names = subst (λ (z : Named). Located image table tree placed z z.role) (sym names) (record {
    root = root;
    heap = x.at;
    g = k.g;
    here = refl;
    place = refl;
  })
  step Segment x y k names = absurd names
  step Data x y k names = absurd names
  step (ChunkNode shape root level) x y k names = from_chunk_node x.depth shape root x.field x.at y level k names.1
  step (Chunk bytes) x y k names = absurd names

  -- every block that is reached stands in the reading
  pub located : {x : Named} → Reached image x → Stands x
  located (by_superblock {x = x} whole is) =
      subst (λ (z : Named). Located image table tree placed z z.role) (sym is) (root_known image table tree placed reads, inl (refl, refl))
  located (by_block {x = x} {y = y} reached names there) = step x.role x y (located reached) names
