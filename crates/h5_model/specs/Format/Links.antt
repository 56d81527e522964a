-- The links of a group: those that stand in the symbol nodes of its B-tree, in the order of their names (File Format
-- Specification 3.0, sections III.A.1, III.B and IV.A.2.r).
use Rattle.std.specs.Prelude.{◌≡◌, ℕ, zero, suc, ◌+◌, ◌<◌, IsTrue, List, [], ◌∷◌, ◌++◌, map, length, slice_index_or}
use Rattle.std.specs.Ordering.{nat_cmp, is_lt, is_le}
use Rattle.std.specs.Cmp.Lexicographic.{slice_cmp}
use Rattle.std.specs.List.{flat_map, AllByRecursion}
use Rattle.h5_bytes.specs.Bytes.{number_at}
use Rattle.h5_bytes.specs.Texts.{text_at}
use Rattle.h5_bytes.specs.declared.Block.{Block}
use Rattle.h5_model.specs.Format.Heap.{heap_header, segment_of, heap_blocks, IsHeap, HasNames}
use Rattle.h5_model.specs.Format.Rows.{Node, Reading, leaves}
use Rattle.h5_model.specs.Format.Nodes.{group_kind, reading_of, HasTree, tree_blocks}
use Rattle.h5_model.specs.Format.Symbols.{Entry, IsEntry, IsSymbolNode, Target, symbol_block, symbol_bytes, symbols_of, link_of, texts_of}
use Rattle.h5_model.specs.Tree.Paths.{is_name}

-- one name is before another, or is not after it, in the order of their bytes
abbrev pub Before : List ℕ → List ℕ → Type 0
Before a b = IsTrue (is_lt (slice_cmp nat_cmp a b))

abbrev pub NotAfter : List ℕ → List ℕ → Type 0
NotAfter a b = IsTrue (is_le (slice_cmp nat_cmp a b))

-- each name is before the next
abbrev pub Ascend : List (List ℕ × Target) → Type 0
Ascend [] = Unit {0}
Ascend (a ∷ []) = Unit {0}
Ascend (a ∷ b ∷ more) = Before a.0 b.0 × Ascend (b ∷ more)

-- what is read at each address of a symbol node
abbrev pub Symbols : Type 0
Symbols = ℕ → List Entry

-- the names in these symbol nodes
abbrev pub names_in : Symbols → List ℕ → List ℕ → List (List ℕ)
names_in S segment symbol_nodes = map (λ (e : Entry). text_at segment e.name) (flat_map S symbol_nodes)

-- the offset of a name that a group's key holds
abbrev pub offset_in : List ℕ → ℕ
offset_in key = number_at key 0 8

-- the name that key i of a node stands for
abbrev pub key_name : List ℕ → Node → ℕ → List ℕ
key_name segment node i = text_at segment (offset_in (slice_index_or node.keys i []))

-- the symbol nodes below child i of a node of a tree
abbrev pub symbol_nodes_below : Reading → Node → ℕ → List ℕ
symbol_nodes_below V node i = below node.level (slice_index_or node.children i 0) where
  below : ℕ → ℕ → List ℕ
  below zero child = child ∷ []
  below (suc level) child = leaves V level (child ∷ [])

-- the name is above key i of the node and not above key i+1
abbrev pub IsBetween : List ℕ → Node → ℕ → List ℕ → Type 0
IsBetween segment node i name = Before (key_name segment node i) name × NotAfter name (key_name segment node (i + 1))

-- the names below each child of a node lie between the keys around it, and no key is above the next
pub record IsOrdered (V : Reading) (S : Symbols) (segment : List ℕ) (node : Node) : Type 0 where
  pub between : (i : ℕ) → i < length node.children
      → AllByRecursion (IsBetween segment node i) (names_in S segment (symbol_nodes_below V node i))
  pub rising : (i : ℕ) → i < length node.children → NotAfter (key_name segment node i) (key_name segment node (i + 1))

-- the offsets in the keys of these nodes
abbrev pub key_offsets : Reading → List ℕ → List ℕ
key_offsets V owned = flat_map (λ at. map offset_in (V at).keys) owned

-- These links stand in a tree that is read as V, over symbol nodes that are read as S, with names in this heap.
pub record AreLinks (V : Reading) (S : Symbols) (header segment owned symbol_nodes : List ℕ) (links : List (List ℕ × Target)) : Type 0 where
  pub cached : AllByRecursion IsEntry (flat_map S symbol_nodes)
  pub all : links ≡ map (link_of segment) (flat_map S symbol_nodes)
  pub ascending : Ascend links
  pub named : AllByRecursion (λ (l : List ℕ × Target). IsTrue (is_name l.0)) links
  pub ordered : AllByRecursion (λ at. IsOrdered V S segment (V at)) owned
  pub free : List Block
  pub loose : List ℕ
  pub heap_form : IsHeap header segment free
  pub spans : HasNames segment free (map (λ (e : Entry). e.name) (flat_map S symbol_nodes)) (texts_of (flat_map S symbol_nodes)) (key_offsets V owned) loose

-- These links stand in the tree at this root and in this heap, in these blocks.
pub record HasLinks (image : List ℕ) (leaf k root heap : ℕ) (links : List (List ℕ × Target)) (blocks : List Block) : Type 0 where
  pub level : ℕ
  pub owned : List ℕ
  pub symbol_nodes : List ℕ
  pub tree : HasTree image (group_kind k) root level owned symbol_nodes
  pub formed : AllByRecursion (λ at. IsSymbolNode leaf (symbol_bytes image leaf at)) symbol_nodes
  pub listed : AreLinks (reading_of image (group_kind k) owned) (symbols_of image leaf symbol_nodes) (heap_header image heap) (segment_of image heap) owned symbol_nodes links
  pub laid : blocks ≡ (tree_blocks (group_kind k) owned ++ map (symbol_block leaf) symbol_nodes) ++ heap_blocks image heap
