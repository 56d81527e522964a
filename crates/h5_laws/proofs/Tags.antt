-- The blocks of an object, each behind the field that names it.
use Rattle.std.proofs.Common.{◌≡◌, ℕ, zero, suc, ◌+◌, ◌*◌, List, [], ◌∷◌, ◌++◌, map, refl, sym, ap, ap₂, ◌∙◌, Option, Some, None}
use Rattle.std.proofs.lemmas.List.{map-append}
use Rattle.std.proofs.lemmas.Simd.{map-map}
use Rattle.std.specs.Prelude.{◌==◌}
use Rattle.std.specs.Option.{option_map_or}
use Rattle.std.specs.List.{find, flat_map}
use Rattle.h5_bytes.specs.Blocks.{block}
use Rattle.h5_bytes.specs.declared.Block.{Block}
use Rattle.h5_model.specs.Format.Addresses.{SymbolTable, symbol_table_of}
use Rattle.h5_model.specs.Format.MessageTypes.{data_layout_kind, symbol_table_kind}
use Rattle.h5_model.specs.Format.Messages.{Message, continuation, continuations, prefix_at, first_size}
use Rattle.h5_model.specs.Format.Heap.{segment_block, heap_blocks}
use Rattle.h5_model.specs.Format.Rows.{nodes, row_below}
use Rattle.h5_model.specs.Format.Nodes.{Kind, group_kind, node_at, node_block, HasTree, tree_blocks}
use Rattle.h5_model.specs.Format.Symbols.{Target, symbol_block}
use Rattle.h5_model.specs.Format.Links.{HasLinks}
use Rattle.h5_model.specs.Format.Fixed.{Fixed}
use Rattle.h5_model.specs.Tree.Places.{cells}
use Rattle.h5_model.specs.Format.Layout.{Layout, InMessage, InBlock, InChunks}
use Rattle.h5_model.specs.Format.Superblock.{leaf_k, internal_k}
use Rattle.h5_model.specs.Format.Reached.{Shape, shape_kind, level_at, type_among, layout_among}
use Rattle.h5_model.proofs.OneTree.{level_is, owned_is, children_are}
use Rattle.h5_laws.proofs.Rows.{named_next, named_row, named_nodes, next-named, row-named, row_after}

-- a block behind the field that names it; behind none for a header, which several fields may name
abbrev pub Tagged : Type 0
Tagged = Option ℕ × Block

abbrev pub blocks_in : List Tagged → List Block
blocks_in tags = map (λ (x : Tagged). x.1) tags

abbrev pub tagged_continuation : Message → List Tagged
tagged_continuation m = map (λ b. (Some m.at, b)) (continuation m)

abbrev pub tag_all : (ℕ → Block) → List (ℕ × ℕ) → List Tagged
tag_all f row = map (λ (x : ℕ × ℕ). (Some x.0, f x.1)) row

-- all nodes from a row of this level down, each behind the field that names it
abbrev pub named_all : List ℕ → Kind → ℕ → List (ℕ × ℕ) → List (ℕ × ℕ)
named_all image kind zero row = row
named_all image kind (suc level) row = row ++ named_all image kind level (named_next image kind row)

abbrev pub tagged_tree : List ℕ → Kind → ℕ → ℕ → (ℕ → Block) → List Tagged
tagged_tree image kind first root leaf =
    tag_all (node_block kind) (named_all image kind (level_at image kind root) ((first, root) ∷ []))
    ++ tag_all leaf (named_row image kind (suc (level_at image kind root)) ((first, root) ∷ []))

abbrev pub tagged_group : List ℕ → ℕ → SymbolTable → List Tagged
tagged_group image first s =
    tagged_tree image (group_kind (internal_k image)) first s.tree (symbol_block (leaf_k image))
    ++ ((Some (first + 8), block s.heap 32) ∷ (Some (s.heap + 24), segment_block image s.heap) ∷ [])

abbrev pub tagged_chunks : List ℕ → ℕ → Shape → ℕ → List Tagged
tagged_chunks image first shape root = tagged_tree image (shape_kind image shape) first root (λ at. block at shape.bytes)

abbrev pub tagged_data : List ℕ → ℕ → Fixed → Layout → List Tagged
tagged_data image place t (InMessage bytes) = []
tagged_data image place t (InBlock None) = []
tagged_data image place t (InBlock (Some b)) = (Some (place + 2), b) ∷ []
tagged_data image place t (InChunks sizes None) = []
tagged_data image place t (InChunks sizes (Some root)) = tagged_chunks image (place + 3) (record { sizes = sizes; bytes = cells sizes * t.size }) root

abbrev pub tagged_table : List ℕ → List Message → List Tagged
tagged_table image ms = option_map_or (λ (m : Message). option_map_or (tagged_group image m.at) (symbol_table_of m.body) []) (find (λ m. m.kind == symbol_table_kind) ms) []

abbrev pub tagged_layout : List ℕ → List Message → List Tagged
tagged_layout image ms =
    option_map_or (λ (m : Message). option_map_or (λ (t : Fixed). option_map_or (tagged_data image m.at t) (layout_among ms) []) (type_among ms) []) (find (λ m. m.kind == data_layout_kind) ms) []

abbrev pub tagged_header : List ℕ → ℕ → List Message → List Tagged
tagged_header image header ms = (None, block header (16 + first_size (prefix_at image header))) ∷ flat_map tagged_continuation ms

-- the blocks of the object with these messages
abbrev pub tagged : List ℕ → ℕ → List Message → List Tagged
tagged image header ms = tagged_header image header ms ++ (tagged_table image ms ++ tagged_layout image ms)

-- ---- they are the object's blocks

tag_all-blocks : (f : ℕ → Block) (row : List (ℕ × ℕ)) → blocks_in (tag_all f row) ≡ map f (named_nodes row)
tag_all-blocks f row =
    map-map (λ (x : Tagged). x.1) (λ (x : ℕ × ℕ). (Some x.0, f x.1)) row ∙ sym (map-map f (λ (x : ℕ × ℕ). x.1) row)

all-named : (image : List ℕ) (kind : Kind) (level : ℕ) (row : List (ℕ × ℕ)) → named_nodes (named_all image kind level row) ≡ nodes (node_at image kind) level (named_nodes row)
all-named image kind zero row = refl
all-named image kind (suc level) row =
    map-append (λ (x : ℕ × ℕ). x.1) row (named_all image kind level (named_next image kind row))
    ∙ ap (λ (ns : List ℕ). named_nodes row ++ ns) (all-named image kind level (named_next image kind row)
    ∙ ap (nodes (node_at image kind) level) (next-named image kind row))

pub tree-blocks : (image : List ℕ) (kind : Kind) (root level : ℕ) (owned children : List ℕ) → HasTree image kind root level owned children → (first : ℕ) (leaf : ℕ → Block)
    → blocks_in (tagged_tree image kind first root leaf) ≡ tree_blocks kind owned ++ map leaf children
tree-blocks image kind root level owned children has first leaf =
    let V = node_at image kind in
    let n = level_at image kind root in
    let row = (first, root) ∷ [] in
    let top : n ≡ level = level_is image kind root level owned children has in
    let all : named_nodes (named_all image kind n row) ≡ owned
    = all-named image kind n row ∙ ap (λ (k : ℕ). nodes V k (root ∷ [])) top ∙ sym (owned_is image kind root level owned children has) in
    let last : named_nodes (named_row image kind (suc n) row) ≡ children
    = row-named image kind (suc n) row ∙ ap (λ (k : ℕ). row_below V (suc k) (root ∷ [])) top ∙ row_after V level (root ∷ [])
    ∙ sym (children_are image kind root level owned children has) in
    map-append (λ (x : Tagged). x.1) (tag_all (node_block kind) (named_all image kind n row)) (tag_all leaf (named_row image kind (suc n) row))
    ∙ ap₂ (λ (a b : List Block). a ++ b)
    (tag_all-blocks (node_block kind) (named_all image kind n row) ∙ ap (map (node_block kind)) all)
    (tag_all-blocks leaf (named_row image kind (suc n) row) ∙ ap (map leaf) last)

pub group-blocks : (image : List ℕ) (s : SymbolTable) (found : List (List ℕ × Target)) (blocks : List Block) (first : ℕ)
    → HasLinks image (leaf_k image) (internal_k image) s.tree s.heap found blocks → blocks_in (tagged_group image first s) ≡ blocks
group-blocks image s found blocks first has =
    let kind = group_kind (internal_k image) in
    map-append (λ (x : Tagged). x.1) (tagged_tree image kind first s.tree (symbol_block (leaf_k image)))
    ((Some (first + 8), block s.heap 32) ∷ (Some (s.heap + 24), segment_block image s.heap) ∷ [])
    ∙ ap (λ (bs : List Block). bs ++ heap_blocks image s.heap)
    (tree-blocks image kind s.tree has.level has.owned has.symbol_nodes has.tree first (symbol_block (leaf_k image))) ∙ sym has.laid

tagged_one : (m : Message) → blocks_in (tagged_continuation m) ≡ continuation m
tagged_one m = map-map (λ (x : Tagged). x.1) (λ b. (Some m.at, b)) (continuation m) ∙ same (continuation m) where
  same : (bs : List Block) → map (λ (b : Block). b) bs ≡ bs
  same [] = refl
  same (b ∷ bs) = ap (λ (cs : List Block). b ∷ cs) (same bs)

continuation-blocks : (ms : List Message) → blocks_in (flat_map tagged_continuation ms) ≡ continuations ms
continuation-blocks [] = refl
continuation-blocks (m ∷ ms) =
    map-append (λ (x : Tagged). x.1) (tagged_continuation m) (flat_map tagged_continuation ms)
    ∙ ap₂ (λ (a b : List Block). a ++ b) (tagged_one m) (continuation-blocks ms)

pub header-blocks : (image : List ℕ) (header : ℕ) (ms : List Message)
    → blocks_in (tagged_header image header ms) ≡ block header (16 + first_size (prefix_at image header)) ∷ continuations ms
header-blocks image header ms = ap (λ (bs : List Block). block header (16 + first_size (prefix_at image header)) ∷ bs) (continuation-blocks ms)
