-- A group's links in the plain layout: the tree, the heap with its segment, and the symbol nodes, one behind another (File Format
-- Specification 3.0, sections III.A.1, III.B and III.D).
use Rattle.std.specs.Prelude.{ℕ, ◌+◌, ◌*◌, List, [], ◌∷◌, ◌++◌, length, map}
use Rattle.std.specs.List.{flat_map}
use Rattle.h5_bytes.specs.Numbers.{word}
use Rattle.h5_model.specs.Format.Nodes.{group_kind}
use Rattle.h5_model.specs.Format.PlainLength.{rows_of, nodes_over}
use Rattle.h5_model.specs.Format.Sizes.{group_node, symbol_node, text_span}
use Rattle.h5_btree.specs.Writing.Written.{chunks, tree_bytes, root_level}
use Rattle.h5_btree.specs.declared.write.child.Child.{Child}
use Rattle.h5_heap.specs.Writing.Links.{Leads, ToGroup, ToArray, ToText}
use Rattle.h5_heap.specs.Writing.Written.{placed_links, written_segment, heap_bytes}
use Rattle.h5_snod.specs.Written.{new_bytes, symbol_node_bytes}
use Rattle.h5_snod.specs.declared.write.NewSymbol.{NewSymbol}
use Rattle.h5_snod.specs.declared.write.NewTarget.{NewTarget}
use Rattle.h5_snod.specs.declared.write.NewTarget.TheVariants as target

-- ---- symbol nodes

-- the entry of a link whose name stands at this offset; a soft link's text stands behind its name
abbrev pub target_for : ℕ → List ℕ × Leads → NewTarget
target_for at (name, ToGroup header tree heap) = target.Group header tree heap
target_for at (name, ToArray header) = target.Dataset header
target_for at (name, ToText text) = target.Text (at + text_span name)

abbrev pub symbol_for : ℕ × (List ℕ × Leads) → NewSymbol
symbol_for (at, l) = record { name = at; target = target_for at l }

abbrev pub entry_bytes : ℕ × (List ℕ × Leads) → List ℕ
entry_bytes l = new_bytes (symbol_for l)

-- the links of each symbol node, with the offsets of their names; none of a group without links
abbrev pub runs_of : ℕ → List (ℕ × (List ℕ × Leads)) → List (List (ℕ × (List ℕ × Leads)))
runs_of leaf [] = []
runs_of leaf (l ∷ links) = chunks (2 * leaf) (l ∷ links)

abbrev pub written_symbol_node : ℕ → List (ℕ × (List ℕ × Leads)) → List ℕ
written_symbol_node leaf run = symbol_node_bytes (map symbol_for run) (symbol_node leaf)

-- the offset of the last name of a run
abbrev pub last_name_offset : ℕ → List (ℕ × (List ℕ × Leads)) → ℕ
last_name_offset before [] = before
last_name_offset before (l ∷ run) = last_name_offset l.0 run

-- the symbol nodes as the children of the tree, the first of them at this place; behind each is the key of its last name
abbrev pub children_of : ℕ → ℕ → List (List (ℕ × (List ℕ × Leads))) → List (Child ℕ)
children_of leaf at [] = []
children_of leaf at (run ∷ runs) = record { at = at; key = last_name_offset 0 run } ∷ children_of leaf (at + symbol_node leaf) runs

-- ---- the whole

-- how many symbol nodes there are
abbrev pub symbol_nodes : ℕ → List (List ℕ × Leads) → ℕ
symbol_nodes leaf links = rows_of (2 * leaf) (length links)

-- the heap behind a tree that begins at this place, and the symbol nodes behind its segment
abbrev pub heap_place : ℕ → ℕ → ℕ → List (List ℕ × Leads) → ℕ
heap_place leaf internal at links = at + nodes_over 64 (2 * internal) (symbol_nodes leaf links) * group_node internal

abbrev pub symbols_place : ℕ → ℕ → ℕ → List (List ℕ × Leads) → ℕ
symbols_place leaf internal at links = heap_place leaf internal at links + 32 + length (written_segment links)

unfoldable pub links_bytes : ℕ → ℕ → ℕ → List (List ℕ × Leads) → List ℕ
links_bytes leaf internal at links =
    tree_bytes (group_kind internal) word 0 at (children_of leaf (symbols_place leaf internal at links) (runs_of leaf (placed_links links)))
    ++ (heap_bytes (heap_place leaf internal at links) links ++ flat_map (written_symbol_node leaf) (runs_of leaf (placed_links links)))

-- how long they are
abbrev pub links_length : ℕ → ℕ → List (List ℕ × Leads) → ℕ
links_length leaf internal links =
    nodes_over 64 (2 * internal) (symbol_nodes leaf links) * group_node internal + 32 + length (written_segment links)
    + symbol_nodes leaf links * symbol_node leaf

-- the level of the tree's root, which is at most 15 in an image
abbrev pub tree_level : ℕ → ℕ → List (List ℕ × Leads) → ℕ
tree_level leaf internal links = root_level internal (symbol_nodes leaf links)
