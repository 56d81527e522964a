-- The stored chunks of an array to be written, behind their tree, as they are appended (File Format Specification 3.0, sections III.A.1
-- and IV.A.2.i).
use Rattle.std.specs.Prelude.{◌≡◌, ℕ, ◌-◌, ◌*◌, ℤ, Some, List, [], ◌∷◌, ◌++◌, length, slice_get}
use Rattle.std.specs.List.{flat_map}
use Rattle.h5_model.specs.Format.Fixed.{Fixed}
use Rattle.h5_model.specs.Format.Plain.{cells_bytes}
use Rattle.h5_model.specs.Tree.Places.{cells}
use Rattle.h5_btree.specs.declared.write.child.Child.{Child}
use Rattle.h5_chunks.specs.Keys.{chunk_key, index_from}
use Rattle.h5_chunks.specs.declared.write.ChunkKey.{ChunkKey}
use Rattle.h5_layout.specs.HeldChunks.{HeldCells}
use Rattle.h5_repack.specs.Bodies.Chunks.{chunk_nodes}
use Rattle.h5_repack.specs.Blocks.Written.{part_offsets}

-- how many bytes each of these chunks has
abbrev pub part_length : HeldCells → ℕ
part_length h = cells h.chunk * (h.fixed).size

-- the bytes of all these chunks, one behind another
abbrev pub part_bytes : Fixed → List ℕ × List ℤ → List ℕ
part_bytes t part = cells_bytes t part.1

abbrev pub parts_bytes : HeldCells → List ℕ
parts_bytes h = flat_map (part_bytes h.fixed) h.parts

-- chunks at these offsets behind their tree, of nodes of this K, which is at this place; nothing where there is none
abbrev pub parts_written : ℕ → HeldCells → List (List ℕ) → ℕ → List ℕ
parts_written k h [] place = []
parts_written k h (first ∷ others) place = chunk_nodes k (part_length h) h.chunk first (first ∷ others) place ++ parts_bytes h

abbrev pub chunks_written : ℕ → HeldCells → ℕ → List ℕ
chunks_written k h place = parts_written k h (part_offsets h) place

-- ---- keys of the tree

-- the key behind the last of these chunks, which is of no chunk
abbrev pub IsLastKey : HeldCells → List ℕ → Type 0
IsLastKey h bytes =
    (part : List ℕ × List ℤ) → slice_get h.parts (length h.parts - 1) ≡ Some part
    → bytes ≡ chunk_key (record { bytes = 0; offsets = index_from part.0 h.chunk })

abbrev pub key_bytes : ChunkKey → List ℕ
key_bytes key = key.bytes.now

-- a child of a node with the bytes of the key behind it
abbrev pub with_key_bytes : {K : Type 0} → (K → List ℕ) → Child K → Child (List ℕ)
with_key_bytes bytes child = record { at = child.at; key = bytes child.key }
