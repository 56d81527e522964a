-- A group of whose tree the keys alone are edited: the nodes stay in their blocks, and its symbol nodes and its heap as they are.
use Rattle.std.proofs.Common.{◌≡◌, ℕ, ◌+◌, ◌*◌, ◌<◌, ◌^◌, List, [], ◌∷◌, ◌++◌, length, map, refl, sym, ap, ◌∙◌, subst, arith}
use Rattle.std.specs.List.{AllByRecursion, flat_map}
use Rattle.h5_bytes.specs.Blocks.{block, cover, Inside, IsKept, Keeps}
use Rattle.h5_bytes.specs.declared.Block.{Block}
use Rattle.h5_bytes.proofs.BlockLaws.{all_left, all_right}
use Rattle.h5_model.specs.Format.Addresses.{SymbolTable}
use Rattle.h5_model.specs.Format.Superblock.{leaf_k, internal_k}
use Rattle.h5_model.specs.Format.Heap.{KeyNames, heap_blocks, heap_header, segment_of, segment_place, segment_size}
use Rattle.h5_model.specs.Format.Links.{AreLinks, HasLinks, IsOrdered, Symbols, key_offsets}
use Rattle.h5_model.specs.Format.Nodes.{HasTree, Kind, group_kind, reading_of, tree_blocks}
use Rattle.h5_model.specs.Format.Rows.{Reading}
use Rattle.h5_model.specs.Format.Symbols.{Entry, IsSymbolNode, Target, entries_of, symbol_block, symbols_at, symbols_of, texts_of}
use Rattle.h5_model.proofs.Frames.{heap-same, read-same, each-same}
use Rattle.h5_model.proofs.RowLaws.{only-same}
use Rattle.h5_space.specs.Moves.{Moves}
use Rattle.h5_space.specs.Space.{Space}
use Rattle.h5_group.specs.Edited.{HasGroupMoved, IsGroupIn}
use Rattle.h5_group.specs.Nodes.Trees.{kind_in}
use Rattle.h5_group.proofs.EditFrames.{group_apart, group_moves, internal_kept, k_kept, leaf_kept, rest_kept, still_long}
use Rattle.h5_group.proofs.Ways.{others_inside, trees_parted}

abbrev AreLoose : Reading → Symbols → List ℕ → List ℕ → List ℕ → List ℕ → List (List ℕ × Target) → List ℕ → Type 0
AreLoose V S header segment owned symbol_nodes links loose = (a : AreLinks V S header segment owned symbol_nodes links) × (a.loose ≡ loose)

abbrev HasLoose : List ℕ → ℕ → ℕ → SymbolTable → List (List ℕ × Target) → List Block → List ℕ → List ℕ → Type 0
HasLoose image leaf k table links blocks loose owned = (l : HasLinks image leaf k table.tree table.heap links blocks) × (l.listed.loose ≡ loose) × (l.owned ≡ owned)

module _ (s t : Space) (table : SymbolTable) (links : List (List ℕ × Target)) (spare : List ℕ) (blocks : List Block) (group : IsGroupIn s table links spare blocks)
    (moved : Moves s t (tree_blocks (kind_in s.bytes) (group.linked).owned) (tree_blocks (kind_in s.bytes) (group.linked).owned)) where
  abbrev kind : Kind
  kind = kind_in s.bytes

  abbrev owned : List ℕ
  owned = (group.linked).owned

  abbrev symbol_nodes : List ℕ
  symbol_nodes = (group.linked).symbol_nodes

  abbrev Z : Reading
  Z = reading_of t.bytes kind owned

  abbrev S : Symbols
  S = symbols_of s.bytes (leaf_k s.bytes) symbol_nodes

  abbrev segment : List ℕ
  segment = segment_of s.bytes table.heap

  -- ---- blocks

  abbrev trees : List Block
  trees = tree_blocks kind owned

  abbrev symbols : List Block
  symbols = map (symbol_block (leaf_k s.bytes)) symbol_nodes

  abbrev heap : List Block
  heap = heap_blocks s.bytes table.heap

  parted : (p : ℕ) → cover p blocks ≡ cover p (trees ++ (symbols ++ heap))
  parted = trees_parted s table links spare blocks group

  within : Inside (length s.bytes) (symbols ++ heap)
  within = others_inside s table links spare blocks group

  kept : Keeps s.bytes t.bytes (symbols ++ heap)
  kept = rest_kept s t table links spare blocks group trees trees (symbols ++ heap) moved parted within

  pub leaf_now : leaf_k t.bytes ≡ leaf_k s.bytes
  leaf_now = leaf_kept s t table links spare blocks group trees trees (symbols ++ heap) moved parted within

  pub internal_now : internal_k t.bytes ≡ internal_k s.bytes
  internal_now = internal_kept s t table links spare blocks group trees trees (symbols ++ heap) moved parted within

  pub kind_now : kind_in t.bytes ≡ kind
  kind_now = ap group_kind internal_now

  symbols_kept : Keeps s.bytes t.bytes symbols
  symbols_kept = all_left (IsKept s.bytes t.bytes) symbols heap kept

  -- the heap has its header and its segment still
  pub heap_kept : (heap_header t.bytes table.heap ≡ heap_header s.bytes table.heap) × (segment_of t.bytes table.heap ≡ segment)
  heap_kept = heap-same s.bytes t.bytes table.heap (all_right (IsKept s.bytes t.bytes) symbols heap kept)

  -- and the symbol nodes their entries
  pub entries_kept : AllByRecursion (λ at. symbols_at t.bytes (leaf_k s.bytes) at ≡ symbols_at s.bytes (leaf_k s.bytes) at) symbol_nodes
  entries_kept = read-same s.bytes t.bytes entries_of (8 + 80 * leaf_k s.bytes) symbol_nodes symbols_kept

  symbols_now : symbols_of t.bytes (leaf_k s.bytes) symbol_nodes ≡ S
  symbols_now = only-same [] (symbols_at s.bytes (leaf_k s.bytes)) (symbols_at t.bytes (leaf_k s.bytes)) symbol_nodes entries_kept

  -- the offsets that links name, and the texts on their own
  abbrev pub named_offsets : List ℕ
  named_offsets = map (λ (x : Entry). x.name) (flat_map S symbol_nodes) ++ texts_of (flat_map S symbol_nodes)

  abbrev pub loose_offsets : List ℕ
  loose_offsets = (group.linked).listed.loose

  -- ---- the links stay, where the tree is one still, and its keys are in order and name texts

  module _ (tree : HasTree t.bytes kind table.tree (group.linked).level owned symbol_nodes) (ordered : AllByRecursion (λ at. IsOrdered Z S segment (Z at)) owned)
      (keyed : AllByRecursion (KeyNames named_offsets loose_offsets) (key_offsets Z owned)) (short : length t.bytes < 2 ^ 63) where
    listed_now : AreLoose Z S (heap_header s.bytes table.heap) segment owned symbol_nodes links loose_offsets
    listed_now =
        let l = (group.linked).listed in
        let n = l.spans in (
          record {
            cached = l.cached;
            all = l.all;
            ascending = l.ascending;
            named = l.named;
            ordered = ordered;
            free = l.free;
            loose = l.loose;
            heap_form = l.heap_form;
            spans = record { empty = n.empty; aligned = n.aligned; apart = n.apart; within = n.within; keyed = keyed };
          },
          refl,
        )

    listed_there : AreLoose Z (symbols_of t.bytes (leaf_k s.bytes) symbol_nodes) (heap_header t.bytes table.heap) (segment_of t.bytes table.heap) owned symbol_nodes links loose_offsets
    listed_there =
        subst (λ (h : List ℕ). AreLoose Z (symbols_of t.bytes (leaf_k s.bytes) symbol_nodes) h (segment_of t.bytes table.heap) owned symbol_nodes links loose_offsets) (sym heap_kept.0)
        (subst (λ (g : List ℕ). AreLoose Z (symbols_of t.bytes (leaf_k s.bytes) symbol_nodes) (heap_header s.bytes table.heap) g owned symbol_nodes links loose_offsets) (sym heap_kept.1)
        (subst (λ (f : Symbols). AreLoose Z f (heap_header s.bytes table.heap) segment owned symbol_nodes links loose_offsets) (sym symbols_now) listed_now))

    linked_there : HasLoose t.bytes (leaf_k s.bytes) (internal_k s.bytes) table links blocks loose_offsets owned
    linked_there = (
      record {
        level = (group.linked).level;
        owned = owned;
        symbol_nodes = symbol_nodes;
        tree = tree;
        formed = each-same s.bytes t.bytes (IsSymbolNode (leaf_k s.bytes)) (8 + 80 * leaf_k s.bytes) symbol_nodes symbols_kept (group.linked).formed;
        listed = listed_there.0;
        laid = (group.linked).laid ∙ ap (λ (h : List ℕ). (trees ++ symbols) ++ (block table.heap 32 ∷ block (segment_place h) (segment_size h) ∷ [])) (sym heap_kept.0);
      },
      listed_there.1,
      refl,
    )

    linked_now : HasLoose t.bytes (leaf_k t.bytes) (internal_k t.bytes) table links blocks loose_offsets owned
    linked_now = subst (λ (k : ℕ). HasLoose t.bytes (leaf_k t.bytes) k table links blocks loose_offsets owned) (sym internal_now)
        (subst (λ (leaf : ℕ). HasLoose t.bytes leaf (internal_k s.bytes) table links blocks loose_offsets owned) (sym leaf_now) linked_there)

    group_now : IsGroupIn t table links spare blocks
    group_now = record {
      linked = linked_now.0;
      more = group.more;
      spared = linked_now.1 ∙ group.spared;
      apart = group_apart s t table links spare blocks group trees trees (symbols ++ heap) moved parted within blocks parted;
      long = still_long s t table links spare blocks group trees trees (symbols ++ heap) moved parted within;
      leaf_some = let some = group.leaf_some in omega (arith, some, leaf_now);
      leaf_few = let few = group.leaf_few in omega (arith, few, leaf_now);
      some = let some = group.some in omega (arith, some, internal_now);
      few = let few = group.few in omega (arith, few, internal_now);
      short = short;
    }

    -- ALL LINKS STAY, and the tree has its nodes still
    pub keys_moved : (m : HasGroupMoved s t table blocks links spare) × (((m.group).linked).owned ≡ owned)
    unfolding group_now linked_now
    keys_moved = (
      record {
        blocks = blocks;
        group = group_now;
        moves = group_moves s t table links spare blocks group trees trees (symbols ++ heap) moved parted within blocks parted;
        k = k_kept s t table links spare blocks group trees trees (symbols ++ heap) moved parted within;
      },
      linked_now.2,
    )
