-- The value of a cell, by the layout of its array (File Format Specification 3.0, sections IV.A.2.i and III.A.1).
use Rattle.std.specs.Prelude.{ℕ, ◌*◌, ℤ, Option, Some, None, List, map}
use Rattle.std.specs.FinMap.{get}
use Rattle.std.specs.List.{range_with_len}
use Rattle.h5_bytes.specs.Bytes.{part}
use Rattle.h5_model.specs.Format.Fixed.{Fixed, value_at}
use Rattle.h5_model.specs.Tree.Places.{cells, place_of, index_of}
use Rattle.h5_model.specs.Tree.Grid.{corner_of, inner_of}
use Rattle.h5_model.specs.Format.Layout.{Layout, InMessage, InBlock, InChunks}
use Rattle.h5_model.specs.Format.Chunks.{Chunks}

-- the value at a place of cells that stand one after another
abbrev pub value_in : Fixed → List ℕ → ℕ → ℤ
value_in t bytes place = value_at t bytes (place * t.size)

-- the value at a place of the chunk of so many bytes at this address, or the fill where the chunk isn't stored
abbrev pub value_in_chunk : List ℕ → Fixed → ℤ → ℕ → ℕ → Option ℕ → ℤ
value_in_chunk image t fill bytes place None = fill
value_in_chunk image t fill bytes place (Some at) = value_in t (part at bytes image) place

-- the value of the cell at an index of an array of these sizes
abbrev pub cell_of : List ℕ → Fixed → ℤ → List ℕ → Layout → Chunks → List ℕ → ℤ
cell_of image t fill sizes (InMessage data_bytes) chunks index = value_in t data_bytes (place_of sizes index)
cell_of image t fill sizes (InBlock None) chunks index = fill
cell_of image t fill sizes (InBlock (Some b)) chunks index = value_in t (part b.at b.len image) (place_of sizes index)
cell_of image t fill sizes (InChunks chunk_sizes root) chunks index =
    value_in_chunk image t fill (cells chunk_sizes * t.size) (place_of chunk_sizes (inner_of chunk_sizes index)) (get chunks (corner_of chunk_sizes index))

-- the cells of an array, in row-major order
abbrev pub cells_of : List ℕ → Fixed → ℤ → List ℕ → Layout → Chunks → List ℤ
cells_of image t fill sizes layout chunks =
    map (λ place. cell_of image t fill sizes layout chunks (index_of sizes place)) (range_with_len 0 (cells sizes))
