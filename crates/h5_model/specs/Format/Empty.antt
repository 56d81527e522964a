-- The empty file: a root group without links, in the plain layout's 800 bytes.
use Rattle.std.specs.Prelude.{ℕ, None, List, [], ◌∷◌, ◌++◌}
use Rattle.std.specs.Ordering.{nat_cmp}
use Rattle.std.specs.FinMap.{FinMap, empty, insert}
use Rattle.h5_bytes.specs.Bytes.{undefined_address}
use Rattle.h5_model.specs.Format.MessageTypes.{symbol_table_kind}
use Rattle.h5_model.specs.Format.Nodes.{group_kind}
use Rattle.h5_bytes.specs.Numbers.{word}
use Rattle.h5_model.specs.Format.Bodies.{pair_bytes}
use Rattle.h5_model.specs.Format.Plain.{superblock_bytes, header_bytes, node_bytes_of, heap_header_bytes, segment_bytes, free_head_of}
use Rattle.h5_model.specs.Tree.Objects.{Tree, Object, Group}
use Rattle.h5_model.specs.declared.k_values.KValues.{KValues}

-- a superblock of version 0, leaf K 4 and internal K 16
abbrev pub new_k : KValues
new_k = record { leaf = 4; internal = 16; chunk = None }

-- the header at 96 with one message, the node at 136, the heap at 680 and its segment at 712
unfoldable pub empty_file : List ℕ
empty_file = superblock_bytes new_k 800 96 136 680 ++ (header_bytes 1 ((symbol_table_kind, pair_bytes 136 680) ∷ [])
    ++ (node_bytes_of (group_kind 16) 0 undefined_address undefined_address (word 0 ∷ []) [] ++ (heap_header_bytes 88 (free_head_of []) 712 ++ segment_bytes [])))

-- the root's header stands behind the superblock
unfoldable pub root_table : FinMap nat_cmp ℕ
root_table = insert empty 0 96

abbrev pub root_object : Object
root_object = record { content = Group empty; attributes = empty; kept = [] }

unfoldable pub root_tree : Tree
root_tree = insert empty 0 root_object
