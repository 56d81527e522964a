-- One symbol node of a group is written, and nothing else: the group's other blocks keep their bytes, so its tree, its heap and its other
-- symbol nodes read as before (File Format Specification 3.0, sections III.A.1, III.B and III.D).
use Rattle.std.proofs.Common.{◌≡◌, ℕ, ◌+◌, ◌*◌, ◌≤◌, List, [], ◌∷◌, ◌++◌, map, length, sym, ap, ◌∙◌, subst, arith}
use Rattle.std.proofs.lemmas.List.{map-append}
use Rattle.std.proofs.lemmas.Grind.{flat_map-append}
use Rattle.std.specs.List.{AllByRecursion, flat_map}
use Rattle.h5_bytes.specs.Blocks.{cover, Inside, IsKept, Keeps}
use Rattle.h5_bytes.specs.declared.Block.{Block}
use Rattle.h5_bytes.proofs.BlockLaws.{cover-append, all_append, all_left, all_right}
use Rattle.h5_model.specs.Format.Addresses.{SymbolTable}
use Rattle.h5_model.specs.Format.Superblock.{leaf_k, internal_k}
use Rattle.h5_model.specs.Format.Heap.{heap_blocks, segment_block, segment_of}
use Rattle.h5_model.specs.Format.Nodes.{HasTree, Kind, node_block, reading_of, tree_blocks}
use Rattle.h5_model.specs.Format.Symbols.{IsSymbolNode, Target, entries_of, symbol_block, symbol_bytes, symbols_at, symbols_of}
use Rattle.h5_model.proofs.Frames.{heap-same, reading-same, tree-same, read-same, each-same}
use Rattle.h5_model.proofs.RowLaws.{only_here}
use Rattle.h5_laws.proofs.Entries.{flat-same}
use Rattle.h5_space.specs.Space.{Space}
use Rattle.h5_space.specs.Moves.{Moves}
use Rattle.h5_btree.proofs.BlocksInside.{inside_held, made_long}
use Rattle.h5_group.specs.Edited.{IsGroupIn}
use Rattle.h5_group.specs.Nodes.Trees.{kind_in}
use Rattle.h5_group.proofs.EditFrames.{internal_kept, leaf_kept, rest_kept}

-- ---- the group's symbol node at this place among its symbol nodes

module _ (s t : Space) (table : SymbolTable) (links : List (List ℕ × Target)) (spare : List ℕ) (blocks : List Block)
    (group : IsGroupIn s table links spare blocks) (node : ℕ) (front back : List ℕ) (cut : (group.linked).symbol_nodes ≡ front ++ node ∷ back) where
  abbrev pub leaf : ℕ
  leaf = leaf_k s.bytes

  abbrev pub kind : Kind
  kind = kind_in s.bytes

  abbrev pub owned : List ℕ
  owned = (group.linked).owned

  abbrev pub symbol_nodes : List ℕ
  symbol_nodes = (group.linked).symbol_nodes

  abbrev pub written : List Block
  written = symbol_block leaf node ∷ []

  abbrev symbols_rest : List Block
  symbols_rest = map (symbol_block leaf) front ++ map (symbol_block leaf) back

  abbrev pub rest : List Block
  rest = (tree_blocks kind owned ++ symbols_rest) ++ heap_blocks s.bytes table.heap

  pub symbols_parted : (p : ℕ) → cover p (map (symbol_block leaf) symbol_nodes) ≡ cover p written + cover p symbols_rest
  symbols_parted p =
      let all : map (symbol_block leaf) symbol_nodes ≡ map (symbol_block leaf) front ++ symbol_block leaf node ∷ map (symbol_block leaf) back
      = ap (map (symbol_block leaf)) cut ∙ map-append (symbol_block leaf) front (node ∷ back) in
      ap (cover p) all ∙ omega (
        arith,
        cover-append p (map (symbol_block leaf) front) (symbol_block leaf node ∷ map (symbol_block leaf) back),
        cover-append p (map (symbol_block leaf) front) (map (symbol_block leaf) back),
      )

  pub parted : (p : ℕ) → cover p blocks ≡ cover p (written ++ rest)
  parted p =
      let trees = tree_blocks kind owned in
      let symbols = map (symbol_block leaf) symbol_nodes in
      let heap = heap_blocks s.bytes table.heap in
      ap (cover p) (group.linked).laid
      ∙ omega (
        arith,
        symbols_parted p,
        cover-append p (trees ++ symbols) heap,
        cover-append p trees symbols,
        cover-append p (trees ++ symbols_rest) heap,
        cover-append p trees symbols_rest,
        cover-append p written rest,
      )

  rest_long : AllByRecursion (λ (b : Block). 1 ≤ b.len) rest
  rest_long =
      let P : Block → Type 0 = λ (b : Block). 1 ≤ b.len in
      let size : 1 ≤ (segment_block s.bytes table.heap).len = let form = (group.linked).listed.heap_form.size in omega (arith, form) in
      all_append P (tree_blocks kind owned ++ symbols_rest) (heap_blocks s.bytes table.heap)
      (all_append P (tree_blocks kind owned) symbols_rest (made_long (node_block kind) owned (λ n. omega arith))
      (all_append P (map (symbol_block leaf) front) (map (symbol_block leaf) back) (made_long (symbol_block leaf) front (λ n. omega arith))
      (made_long (symbol_block leaf) back (λ n. omega arith))))
      (omega arith, (size, tt))

  pub within : Inside (length s.bytes) rest
  within = inside_held (length s.bytes) rest (λ p. omega (arith, group.apart p, parted p, cover-append p written rest)) rest_long

  -- the block itself lies in the image
  pub node_within : node + (8 + 80 * leaf) ≤ length s.bytes
  node_within = (inside_held (length s.bytes) written (λ p. omega (arith, group.apart p, parted p, cover-append p written rest)) (omega arith, tt)).0

  -- ---- its bytes are written

  module _ (moves : Moves s t written written) where
    kept : Keeps s.bytes t.bytes rest
    kept = rest_kept s t table links spare blocks group written written rest moves parted within

    pub leaf_same : leaf_k t.bytes ≡ leaf
    leaf_same = leaf_kept s t table links spare blocks group written written rest moves parted within

    pub internal_same : internal_k t.bytes ≡ internal_k s.bytes
    internal_same = internal_kept s t table links spare blocks group written written rest moves parted within

    trees_and_symbols : Keeps s.bytes t.bytes (tree_blocks kind owned ++ symbols_rest)
    trees_and_symbols = all_left (IsKept s.bytes t.bytes) (tree_blocks kind owned ++ symbols_rest) (heap_blocks s.bytes table.heap) kept

    pub trees_kept : Keeps s.bytes t.bytes (tree_blocks kind owned)
    trees_kept = all_left (IsKept s.bytes t.bytes) (tree_blocks kind owned) symbols_rest trees_and_symbols

    symbols_kept : Keeps s.bytes t.bytes symbols_rest
    symbols_kept = all_right (IsKept s.bytes t.bytes) (tree_blocks kind owned) symbols_rest trees_and_symbols

    front_kept : Keeps s.bytes t.bytes (map (symbol_block leaf) front)
    front_kept = all_left (IsKept s.bytes t.bytes) (map (symbol_block leaf) front) (map (symbol_block leaf) back) symbols_kept

    back_kept : Keeps s.bytes t.bytes (map (symbol_block leaf) back)
    back_kept = all_right (IsKept s.bytes t.bytes) (map (symbol_block leaf) front) (map (symbol_block leaf) back) symbols_kept

    pub heap_kept : Keeps s.bytes t.bytes (heap_blocks s.bytes table.heap)
    heap_kept = all_right (IsKept s.bytes t.bytes) (tree_blocks kind owned ++ symbols_rest) (heap_blocks s.bytes table.heap) kept

    pub segment_same : segment_of t.bytes table.heap ≡ segment_of s.bytes table.heap
    segment_same = (heap-same s.bytes t.bytes table.heap heap_kept).1

    pub rows_same : reading_of t.bytes kind owned ≡ reading_of s.bytes kind owned
    rows_same = reading-same s.bytes t.bytes kind owned trees_kept

    pub tree_still : HasTree t.bytes kind table.tree (group.linked).level owned symbol_nodes
    tree_still = tree-same s.bytes t.bytes kind owned trees_kept table.tree (group.linked).level symbol_nodes (group.linked).tree

    -- and its other symbol nodes, one by one
    pub fronts_same : AllByRecursion (λ at. symbols_at t.bytes leaf at ≡ symbols_at s.bytes leaf at) front
    fronts_same = read-same s.bytes t.bytes entries_of (8 + 80 * leaf) front front_kept

    pub backs_same : AllByRecursion (λ at. symbols_at t.bytes leaf at ≡ symbols_at s.bytes leaf at) back
    backs_same = read-same s.bytes t.bytes entries_of (8 + 80 * leaf) back back_kept

    -- they are all symbol nodes still, if this one is
    pub formed_still : IsSymbolNode leaf (symbol_bytes t.bytes leaf node) → AllByRecursion (λ at. IsSymbolNode leaf (symbol_bytes t.bytes leaf at)) symbol_nodes
    formed_still here =
        let P : ℕ → Type 0 = λ at. IsSymbolNode leaf (symbol_bytes s.bytes leaf at) in
        let Q : ℕ → Type 0 = λ at. IsSymbolNode leaf (symbol_bytes t.bytes leaf at) in
        let all = subst (AllByRecursion P) cut (group.linked).formed in
        let before = each-same s.bytes t.bytes (IsSymbolNode leaf) (8 + 80 * leaf) front front_kept (all_left P front (node ∷ back) all) in
        let behind = each-same s.bytes t.bytes (IsSymbolNode leaf) (8 + 80 * leaf) back back_kept (all_right P front (node ∷ back) all).1 in
        subst (AllByRecursion Q) (sym cut) (all_append Q front (node ∷ back) before (here, behind))

-- ---- the entries of a group, cut at one of its symbol nodes

module _ (bytes : List ℕ) (leaf node : ℕ) (front back symbol_nodes : List ℕ) (cut : symbol_nodes ≡ front ++ node ∷ back) where
  pub entries_cut : flat_map (symbols_of bytes leaf symbol_nodes) symbol_nodes
      ≡ flat_map (symbols_at bytes leaf) front ++ (symbols_at bytes leaf node ++ flat_map (symbols_at bytes leaf) back)
  entries_cut =
      sym (flat-same (symbols_at bytes leaf) (symbols_of bytes leaf symbol_nodes) symbol_nodes (only_here [] (symbols_at bytes leaf) symbol_nodes))
      ∙ ap (flat_map (symbols_at bytes leaf)) cut ∙ flat_map-append (symbols_at bytes leaf) front (node ∷ back)
