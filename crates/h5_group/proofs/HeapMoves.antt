-- A group whose heap alone is edited has its links still.
use Rattle.std.proofs.Common.{◌≡◌, ℕ, ◌+◌, ◌*◌, ◌^◌, ◌<◌, ◌≤◌, List, [], ◌∷◌, ◌++◌, map, length, refl, sym, ◌∙◌, ap, subst, arith}
use Rattle.std.specs.List.{AllByRecursion, Contains, flat_map}
use Rattle.h5_bytes.specs.Blocks.{holds, cover, Inside, Keeps}
use Rattle.h5_bytes.specs.declared.Block.{Block}
use Rattle.h5_bytes.proofs.BlockLaws.{all_so, cover-append, holds-le, all_left, all_right}
use Rattle.h5_model.specs.Format.Addresses.{SymbolTable}
use Rattle.h5_model.specs.Format.Superblock.{leaf_k, internal_k}
use Rattle.h5_model.specs.Format.Heap.{HasNames, KeyNames, heap_header, segment_of, heap_blocks}
use Rattle.h5_model.specs.Format.Rows.{Node, Reading, blank}
use Rattle.h5_model.specs.Format.Nodes.{Kind, group_kind, node_at, node_length, node_of, reading_of, tree_blocks}
use Rattle.h5_model.specs.Format.Symbols.{Entry, Target, IsSymbolNode, symbol_block, symbols_at, symbols_of, entries_of, texts_of}
use Rattle.h5_model.specs.Format.Links.{AreLinks, HasLinks, Symbols, offset_in, key_offsets}
use Rattle.h5_model.proofs.Frames.{reading-same, tree-same, read-same, each-same}
use Rattle.h5_model.proofs.RowLaws.{only-same, only_here}
use Rattle.h5_laws.proofs.Entries.{flat-same}
use Rattle.h5_laws.proofs.Lists.{In, in_all, in_contains}
use Rattle.h5_space.specs.Space.{Space}
use Rattle.h5_space.specs.Moves.{Moves}
use Rattle.h5_space.specs.Whole.{IsApart}
use Rattle.h5_heap.specs.Edited.{IsStandingHeap, free_blocks}
use Rattle.h5_heap.proofs.EditedLaws.{standing_heap}
use Rattle.h5_btree.proofs.KeyedKeys.{all_unmapped}
use Rattle.h5_group.specs.Edited.{IsGroupIn, HasGroupMoved}
use Rattle.h5_group.specs.KeptNodes.{AreNodesKept, keys_told}
use Rattle.h5_group.specs.Nodes.Trees.{kind_in}
use Rattle.h5_group.specs.Told.{nodes_told, symbol_nodes_told}
use Rattle.h5_group.proofs.ToldLaws.{nodes_are_told, symbol_nodes_are_told}
use Rattle.h5_group.proofs.EditFrames.{rest_kept, k_kept, leaf_kept, internal_kept, group_apart, group_moves, still_long}
use Rattle.h5_group.proofs.HeapLinks.{IsTextKept, begin_kept, keys_kept, links_stay}
use Rattle.h5_group.proofs.Ways.{heap_inside, nodes_inside}

-- the offsets in the keys of a tree's nodes, as they stand
pub keys_there : (image : List ℕ) (kind : Kind) (ns : List ℕ) → key_offsets (node_at image kind) ns ≡ key_offsets (reading_of image kind ns) ns
keys_there image kind ns =
    flat-same (λ (at : ℕ). map offset_in (node_at image kind at).keys) (λ (at : ℕ). map offset_in (reading_of image kind ns at).keys) ns
    (all_so (λ (at : ℕ). node_at image kind at ≡ reading_of image kind ns at)
    (λ (at : ℕ). map offset_in (node_at image kind at).keys ≡ map offset_in (reading_of image kind ns at).keys) ns
    (λ at same. ap (λ (n : Node). map offset_in n.keys) same) (only_here blank (node_at image kind) ns))

-- each node reads as it did, and its keys name what they named
kept_nodes : (s t : Space) (table : SymbolTable) (ns : List ℕ) → AllByRecursion (λ n. node_at t.bytes (kind_in s.bytes) n ≡ node_at s.bytes (kind_in s.bytes) n) ns
    → AllByRecursion (IsTextKept (segment_of s.bytes table.heap) (segment_of t.bytes table.heap)) (key_offsets (node_at s.bytes (kind_in s.bytes)) ns) → AreNodesKept s t table ns
kept_nodes s t table [] same kept = tt
kept_nodes s t table (n ∷ ns) same kept =
    let Stays = IsTextKept (segment_of s.bytes table.heap) (segment_of t.bytes table.heap) in
    let own = (node_at s.bytes (kind_in s.bytes) n).keys in
    let more = key_offsets (node_at s.bytes (kind_in s.bytes)) ns in
    ((same.0, all_unmapped Stays offset_in own (all_left Stays (map offset_in own) more kept)), kept_nodes s t table ns same.1 (all_right Stays (map offset_in own) more kept))

-- keys name an offset where those that the image tells do
pub unnamed_told : (s : Space) (table : SymbolTable) (links : List (List ℕ × Target)) (spare : List ℕ) (blocks : List Block) (g : IsGroupIn s table links spare blocks)
    → key_offsets (node_at s.bytes (kind_in s.bytes)) (g.linked).owned ≡ keys_told s.bytes table
unnamed_told s table links spare blocks g = ap (key_offsets (node_at s.bytes (kind_in s.bytes))) (nodes_are_told s.bytes table links blocks g.linked)

-- ---- the heap of a group

module _ (s : Space) (table : SymbolTable) (links : List (List ℕ × Target)) (spare : List ℕ) (blocks : List Block) (g : IsGroupIn s table links spare blocks) where
  abbrev owned : List ℕ
  owned = (g.linked).owned

  abbrev symbol_nodes : List ℕ
  symbol_nodes = (g.linked).symbol_nodes

  abbrev leaf : ℕ
  leaf = leaf_k s.bytes

  abbrev kind : Kind
  kind = group_kind (internal_k s.bytes)

  abbrev node_blocks : List Block
  node_blocks = tree_blocks kind owned ++ map (symbol_block leaf) symbol_nodes

  abbrev old_heap : List Block
  old_heap = heap_blocks s.bytes table.heap

  abbrev segment : List ℕ
  segment = segment_of s.bytes table.heap

  abbrev entries : List Entry
  entries = flat_map (symbols_of s.bytes leaf symbol_nodes) symbol_nodes

  -- the offsets of the links' names and texts, and those in the keys
  abbrev pub name_offsets : List ℕ
  name_offsets = map (λ (e : Entry). e.name) entries

  abbrev pub text_offsets : List ℕ
  text_offsets = texts_of entries

  abbrev pub keys : List ℕ
  keys = key_offsets (reading_of s.bytes kind owned) owned

  parted : (p : ℕ) → cover p blocks ≡ cover p (old_heap ++ node_blocks)
  parted p = ap (cover p) (g.linked).laid ∙ omega (arith, cover-append p node_blocks old_heap, cover-append p old_heap node_blocks)

  all_apart : (p : ℕ) → cover p old_heap + cover p node_blocks + cover p s.free ≤ holds p 0 (length s.bytes)
  all_apart p = omega (arith, g.apart p, parted p, cover-append p old_heap node_blocks)

  within : Inside (length s.bytes) node_blocks
  within = nodes_inside s table links spare blocks g

  pub heap_apart : IsApart old_heap s.free (length s.bytes)
  heap_apart p = omega (arith, all_apart p)

  both : IsStandingHeap s.bytes table.heap × (free_blocks s.bytes table.heap ≡ (g.linked).listed.free)
  both = standing_heap s.bytes table.heap (g.linked).listed.free (heap_inside s table links spare blocks g) (λ p. omega (arith, all_apart p, holds-le p 0 (length s.bytes))) (g.linked).listed.heap_form

  -- it stands, and its names are sound
  pub heap_stands : IsStandingHeap s.bytes table.heap
  heap_stands = both.0

  pub heap_names : HasNames segment (free_blocks s.bytes table.heap) name_offsets text_offsets keys (spare ++ g.more)
  heap_names = subst (HasNames segment (free_blocks s.bytes table.heap) name_offsets text_offsets keys) g.spared
      (subst (λ (free : List Block). HasNames segment free name_offsets text_offsets keys (g.linked).listed.loose) (sym both.1) (g.linked).listed.spans)

  -- ---- after an edit

  module _ (t : Space) (moves : Moves s t (heap_blocks s.bytes table.heap) (heap_blocks t.bytes table.heap)) (standing : IsStandingHeap t.bytes table.heap)
      (short : length t.bytes < 2 ^ 63) where
    abbrev new_heap : List Block
    new_heap = heap_blocks t.bytes table.heap

    abbrev new_segment : List ℕ
    new_segment = segment_of t.bytes table.heap

    abbrev new_blocks : List Block
    new_blocks = node_blocks ++ new_heap

    joined : (p : ℕ) → cover p new_blocks ≡ cover p (new_heap ++ node_blocks)
    joined p = omega (arith, cover-append p node_blocks new_heap, cover-append p new_heap node_blocks)

    kept_blocks : Keeps s.bytes t.bytes node_blocks
    kept_blocks = rest_kept s t table links spare blocks g old_heap new_heap node_blocks moves parted within

    tree_kept : Keeps s.bytes t.bytes (tree_blocks kind owned)
    tree_kept = all_left _ (tree_blocks kind owned) (map (symbol_block leaf) symbol_nodes) kept_blocks

    nodes_kept : Keeps s.bytes t.bytes (map (symbol_block leaf) symbol_nodes)
    nodes_kept = all_right _ (tree_blocks kind owned) (map (symbol_block leaf) symbol_nodes) kept_blocks

    leaf_is : leaf_k t.bytes ≡ leaf
    leaf_is = leaf_kept s t table links spare blocks g old_heap new_heap node_blocks moves parted within

    internal_is : internal_k t.bytes ≡ internal_k s.bytes
    internal_is = internal_kept s t table links spare blocks g old_heap new_heap node_blocks moves parted within

    tree_same : reading_of t.bytes kind owned ≡ reading_of s.bytes kind owned
    tree_same = reading-same s.bytes t.bytes kind owned tree_kept

    symbols_same : symbols_of t.bytes leaf symbol_nodes ≡ symbols_of s.bytes leaf symbol_nodes
    symbols_same = only-same [] (symbols_at s.bytes leaf) (symbols_at t.bytes leaf) symbol_nodes (read-same s.bytes t.bytes entries_of (8 + 80 * leaf) symbol_nodes nodes_kept)

    -- the symbol nodes have their entries still
    pub entries_stay : (node : ℕ) → Contains (symbol_nodes_told s.bytes table) node → symbols_at t.bytes (leaf_k t.bytes) node ≡ symbols_at s.bytes leaf node
    entries_stay node there =
        let own : In node symbol_nodes
        = subst (In node) (sym (symbol_nodes_are_told s.bytes table links blocks g.linked)) (in_contains node (symbol_nodes_told s.bytes table) there) in
        ap (λ (l : ℕ). symbols_at t.bytes l node) leaf_is
        ∙ in_all (λ n. symbols_at t.bytes leaf n ≡ symbols_at s.bytes leaf n) node symbol_nodes (read-same s.bytes t.bytes entries_of (8 + 80 * leaf) symbol_nodes nodes_kept) own

    -- links in these blocks, with these loose texts
    abbrev Linked : ℕ → ℕ → List ℕ → Type 0
    Linked l k loose = (h : HasLinks t.bytes l k table.tree table.heap links new_blocks) × ((h.listed).loose ≡ loose) × (h.owned ≡ owned)

    abbrev Listed : Reading → Symbols → List ℕ → Type 0
    Listed V S loose = (l : AreLinks V S (heap_header t.bytes table.heap) new_segment owned symbol_nodes links) × (l.loose ≡ loose)

    -- The links stay where the texts that links name are as before, and those that keys name, and the names are sound.
    module _ (kept : List ℕ) (all : AllByRecursion (IsTextKept segment new_segment) (name_offsets ++ text_offsets ++ kept))
        (named : AllByRecursion (KeyNames (name_offsets ++ text_offsets) kept) keys) (spare' more : List ℕ)
        (names : HasNames new_segment (free_blocks t.bytes table.heap) name_offsets text_offsets keys (spare' ++ more)) where
      listed_then : Listed (reading_of t.bytes kind owned) (symbols_of t.bytes leaf symbol_nodes) (spare' ++ more)
      listed_then =
          let stay = links_stay segment new_segment (reading_of s.bytes kind owned) (symbols_at s.bytes leaf) (heap_header s.bytes table.heap) (heap_header t.bytes table.heap)
          owned symbol_nodes links (g.linked).listed kept all named (free_blocks t.bytes table.heap) (spare' ++ more) standing.form names in
          subst (λ (V : Reading). Listed V (symbols_of t.bytes leaf symbol_nodes) (spare' ++ more)) (sym tree_same)
          (subst (λ (S : Symbols). Listed (reading_of s.bytes kind owned) S (spare' ++ more)) (sym symbols_same) stay)

      there : Linked leaf (internal_k s.bytes) (spare' ++ more)
      there = (
        record {
          level = (g.linked).level;
          owned = owned;
          symbol_nodes = symbol_nodes;
          tree = tree-same s.bytes t.bytes kind owned tree_kept table.tree (g.linked).level symbol_nodes (g.linked).tree;
          formed = each-same s.bytes t.bytes (IsSymbolNode leaf) (8 + 80 * leaf) symbol_nodes nodes_kept (g.linked).formed;
          listed = listed_then.0;
          laid = refl;
        },
        listed_then.1,
        refl,
      )

      linked_then : Linked (leaf_k t.bytes) (internal_k t.bytes) (spare' ++ more)
      linked_then = subst (λ (l : ℕ). Linked l (internal_k t.bytes) (spare' ++ more)) (sym leaf_is)
          (subst (λ (k : ℕ). Linked leaf k (spare' ++ more)) (sym internal_is) there)

      pub group_moved : HasGroupMoved s t table blocks links spare'
      group_moved = record {
        blocks = new_blocks;
        group = record {
          linked = linked_then.0;
          more = more;
          spared = linked_then.1;
          apart = group_apart s t table links spare blocks g old_heap new_heap node_blocks moves parted within new_blocks joined;
          long = still_long s t table links spare blocks g old_heap new_heap node_blocks moves parted within;
          leaf_some = omega (arith, leaf_is, g.leaf_some);
          leaf_few = omega (arith, leaf_is, g.leaf_few);
          some = omega (arith, internal_is, g.some);
          few = omega (arith, internal_is, g.few);
          short = short;
        };
        moves = group_moves s t table links spare blocks g old_heap new_heap node_blocks moves parted within new_blocks joined;
        k = k_kept s t table links spare blocks g old_heap new_heap node_blocks moves parted within;
      }

      keys_stay : AllByRecursion (IsTextKept segment new_segment) keys
      keys_stay = keys_kept segment new_segment (name_offsets ++ text_offsets) kept keys (begin_kept segment new_segment heap_names.empty names.empty) all named

      -- the nodes stay, and their keys
      pub nodes_stay : AreNodesKept s t table owned
      nodes_stay = kept_nodes s t table owned (read-same s.bytes t.bytes (node_of kind) (node_length kind) owned tree_kept)
          (subst (AllByRecursion (IsTextKept segment new_segment)) (sym (keys_there s.bytes kind owned)) keys_stay)

      pub told_stay : keys_told t.bytes table ≡ keys_told s.bytes table
      told_stay =
          let told : nodes_told t.bytes table ≡ owned = sym (nodes_are_told t.bytes table links new_blocks linked_then.0) ∙ linked_then.2 in
          ap (key_offsets (node_at t.bytes (kind_in t.bytes))) told
          ∙ ap (λ (k : ℕ). key_offsets (node_at t.bytes (group_kind k)) owned) internal_is
          ∙ keys_there t.bytes kind owned
          ∙ ap (λ (V : Reading). key_offsets V owned) tree_same
          ∙ sym (keys_there s.bytes kind owned)
          ∙ unnamed_told s table links spare blocks g
