-- The cells of an array in chunks, one behind another in a row of a chunk (File Format Specification 3.0, section III.A.1).
use Rattle.std.specs.Prelude.{◌≡◌, ℕ, ◌+◌, ◌-◌, ◌%◌, ◌<◌, ◌≤◌, min, ℤ, Option, None, Some, List, length, get_or}
use Rattle.std.specs.FinMap.{get}
use Rattle.h5_model.specs.Format.Limits.{most_cells, most_chunk_bytes}
use Rattle.h5_bytes.specs.Bytes.{part}
use Rattle.h5_model.specs.Format.Cells.{value_in_chunk}
use Rattle.h5_model.specs.Format.Fixed.{Fixed}
use Rattle.h5_model.specs.Format.Reached.{Shape}
use Rattle.h5_model.specs.Tree.Grid.{corner_of, inner_of}
use Rattle.h5_model.specs.Tree.Places.{cells, index_of, place_of}
use Rattle.h5_chunks.specs.Read.{AreChunksRead}
use Rattle.h5_chunks.specs.Shapes.{AreChunkSizes}
use Rattle.h5_chunks.specs.Told.{chunks_told}

-- an array of these sizes in an image, in chunks of this shape below this root
pub record Grid : Type 0 where
  pub image : List ℕ
  pub sizes : List ℕ
  pub shape : Shape
  pub root : ℕ

-- the address of the chunk that has the cell at a place, where it is stored
abbrev pub chunk_of : Grid → ℕ → Option ℕ
chunk_of g place = get (chunks_told g.image g.shape g.root) (corner_of g.shape.sizes (index_of g.sizes place))

-- the cell's place in that chunk
abbrev pub place_in_chunk : Grid → ℕ → ℕ
place_in_chunk g place = place_of g.shape.sizes (inner_of g.shape.sizes (index_of g.sizes place))

-- the cell's value
abbrev pub value_in_grid : Fixed → ℤ → Grid → ℕ → ℤ
value_in_grid t fill g place = value_in_chunk g.image t fill g.shape.bytes (place_in_chunk g place) (chunk_of g place)

-- what every such array keeps to
pub record IsGrid (g : Grid) : Type 0 where
  pub rank : length g.shape.sizes ≡ length g.sizes
  pub sizes : AreChunkSizes g.shape.sizes
  pub few : cells g.sizes ≤ most_cells
  pub small : cells g.shape.sizes ≤ most_chunk_bytes
  pub stored : AreChunksRead g.image g.shape g.root

-- so many cells from this place on stand one behind another in one chunk
pub record AreBeside (sizes chunk : List ℕ) (place n : ℕ) : Type 0 where
  pub corner : (j : ℕ) → j < n → corner_of chunk (index_of sizes (place + j)) ≡ corner_of chunk (index_of sizes place)
  pub inner : (j : ℕ) → j < n
      → place_of chunk (inner_of chunk (index_of sizes (place + j))) ≡ place_of chunk (inner_of chunk (index_of sizes place)) + j

-- how many cells from a place on are left in its row of the chunk and of the array, where there are dimensions
abbrev pub left_in_row : List ℕ → List ℕ → ℕ → ℕ
left_in_row sizes chunk place =
    let last = length sizes - 1 in
    let number = place % get_or sizes last 0 in
    min (get_or sizes last 0 - number) (get_or chunk last 0 - number % get_or chunk last 0)

-- these are the bytes of the chunk, where it is stored
abbrev pub AreChunkBytes : Grid → Option ℕ → Option (List ℕ) → Type 0
AreChunkBytes g address None = address ≡ None
AreChunkBytes g address (Some bytes) = (at : ℕ) × (address ≡ Some at) × (bytes ≡ part at g.shape.bytes g.image)
    × (length bytes ≡ g.shape.bytes)
