-- The data of a chunked array in the plain layout: the nodes of its tree, and behind them its stored chunks in the order of their
-- offsets (File Format Specification 3.0, sections III.A.1 and IV.A.2.i).
use Rattle.std.specs.Prelude.{ℕ, ◌+◌, ◌*◌, List, [], ◌∷◌, ◌++◌, length}
use Rattle.std.specs.List.{flat_map}
use Rattle.h5_model.specs.Format.Nodes.{chunk_kind, node_length}
use Rattle.h5_model.specs.Format.Plain.{cells_bytes}
use Rattle.h5_model.specs.Format.PlainLength.{nodes_over}
use Rattle.h5_model.specs.Tree.Objects.{Dataset}
use Rattle.h5_model.specs.Tree.Places.{cells}
use Rattle.h5_btree.specs.Writing.Written.{tree_bytes}
use Rattle.h5_btree.specs.declared.write.child.Child.{Child}
use Rattle.h5_chunks.specs.Keys.{OffsetKey, chunk_key, index_from}
use Rattle.h5_layout.specs.HeldChunks.{chunk_values}

-- ---- a chunk

-- the bytes of the cells of the chunk at these offsets
abbrev pub chunk_data : Dataset → List ℕ → List ℕ → List ℕ
chunk_data d chunk offsets = cells_bytes d.fixed (chunk_values d chunk offsets)

-- how many bytes each chunk has
abbrev pub chunk_length : Dataset → List ℕ → ℕ
chunk_length d chunk = cells chunk * (d.fixed).size

-- ---- the tree

-- the key behind a chunk: that of the next one, or offsets behind the last one
abbrev pub key_after : ℕ → List ℕ → List ℕ → List (List ℕ) → OffsetKey
key_after size chunk offsets [] = record { bytes = 0; offsets = index_from offsets chunk }
key_after size chunk offsets (next ∷ others) = record { bytes = size; offsets = next }

-- chunks of so many bytes at these offsets, the first of which stands at this place, each with the key behind it
abbrev pub chunk_children : ℕ → List ℕ → ℕ → List (List ℕ) → List (Child OffsetKey)
chunk_children size chunk at [] = []
chunk_children size chunk at (offsets ∷ others) =
    record { at = at; key = key_after size chunk offsets others } ∷ chunk_children size chunk (at + size) others

-- where so many chunks stand behind their tree, of nodes of this K, which is at this place
abbrev pub chunks_place : ℕ → List ℕ → ℕ → ℕ → ℕ
chunks_place k chunk count at = at + nodes_over 64 (2 * k) count * node_length (chunk_kind k (length chunk))

-- the tree of the chunks of so many bytes at these offsets, of which the first is given apart
abbrev pub chunk_nodes : ℕ → ℕ → List ℕ → List ℕ → List (List ℕ) → ℕ → List ℕ
chunk_nodes k size chunk first all at =
    tree_bytes (chunk_kind k (length chunk)) chunk_key (record { bytes = size; offsets = first }) at
    (chunk_children size chunk (chunks_place k chunk (length all) at) all)

-- the tree at this place, and the chunks; nothing where no chunk is stored
abbrev pub chunked_data : ℕ → Dataset → List ℕ → List (List ℕ) → ℕ → List ℕ
chunked_data k d chunk [] at = []
chunked_data k d chunk (first ∷ others) at =
    chunk_nodes k (chunk_length d chunk) chunk first (first ∷ others) at ++ flat_map (chunk_data d chunk) (first ∷ others)
