-- What the image tells of the group at a tree and a heap: its nodes, its symbol nodes, its links and its blocks (File Format Specification
-- 3.0, sections III.A.1, III.B and III.D).
use Rattle.std.specs.Prelude.{ℕ, List, [], ◌∷◌, ◌++◌, map}
use Rattle.h5_bytes.specs.declared.Block.{Block}
use Rattle.h5_model.specs.Format.Addresses.{SymbolTable}
use Rattle.h5_model.specs.Format.Rows.{leaves, nodes}
use Rattle.h5_model.specs.Format.Nodes.{node_at}
use Rattle.h5_model.specs.Format.Reached.{level_at}
use Rattle.h5_model.specs.Format.Symbols.{Target, link_of}
use Rattle.h5_model.specs.Format.Heap.{segment_of, heap_blocks}
use Rattle.h5_model.specs.Faults.TreeFaults.{all_entries}
use Rattle.h5_group.specs.Nodes.Trees.{kind_in, group_nodes_blocks}

-- the nodes of its tree, row by row from the root down, and the symbol nodes below them, from left to right
abbrev pub nodes_told : List ℕ → SymbolTable → List ℕ
nodes_told image table = nodes (node_at image (kind_in image)) (level_at image (kind_in image) table.tree) (table.tree ∷ [])

abbrev pub symbol_nodes_told : List ℕ → SymbolTable → List ℕ
symbol_nodes_told image table = leaves (node_at image (kind_in image)) (level_at image (kind_in image) table.tree) (table.tree ∷ [])

-- its links, in the order of their names, and its blocks
abbrev pub links_told : List ℕ → SymbolTable → List (List ℕ × Target)
links_told image table = map (link_of (segment_of image table.heap)) (all_entries image (symbol_nodes_told image table))

abbrev pub blocks_told : List ℕ → SymbolTable → List Block
blocks_told image table = group_nodes_blocks image (nodes_told image table) (symbol_nodes_told image table) ++ heap_blocks image table.heap
