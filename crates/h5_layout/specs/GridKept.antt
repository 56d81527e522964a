-- An array in chunks, and what was found of it last (File Format Specification 3.0, section III.A.1).
use Rattle.std.specs.Prelude.{◌≡◌, ℕ, ◌+◌, ◌-◌, ◌<◌, ◌≤◌, None, IfSome, IsSome, List, length, get_or, min, option_map, replicate}
use Rattle.h5_chunks.specs.Cursor.{IsCursor}
use Rattle.h5_chunks.specs.Told.{chunks_told}
use Rattle.h5_model.specs.Format.Reached.{Shape}
use Rattle.h5_model.specs.Tree.Grid.{corner_of}
use Rattle.h5_model.specs.Tree.Places.{cells, index_of}
use Rattle.h5_layout.specs.ChunkCells.{AreBeside, Grid, IsGrid, chunk_of, left_in_row, place_in_chunk}
use Rattle.h5_layout.specs.FoundChunks.{AreChunksBeside, IsFirstCell, IsNumberBeside, address_found}
use Rattle.h5_layout.specs.declared.beside.FoundChunks.{FoundChunks}
use Rattle.h5_layout.specs.declared.beside.RowCursor.{RowCursor}
use Rattle.h5_layout.specs.declared.grid.ChunkRow.{ChunkRow}
use Rattle.h5_layout.specs.declared.index.FoundRow.{FoundRow}

-- nothing yet
abbrev pub no_chunk_found : RowCursor
no_chunk_found = record { tree = None; beside = record { first = record { place = 0; column = 0 }; at = replicate 64 0 } }

abbrev pub no_row : FoundRow
no_row = record { start = 0; cells = 0; inner = 0; at = None; corner = record { place = 0; column = 0 }; number = None }

-- these cells stand one behind another in the chunk that begins there, where it is stored: all that are left in its row
pub record IsRowOf (g : Grid) (row : FoundRow) : Type 0 where
  pub beside : AreBeside g.sizes g.shape.sizes row.start row.cells
  pub inner : row.inner ≡ place_in_chunk g row.start
  pub at : row.at ≡ chunk_of g row.start
  pub first : IsFirstCell g.sizes g.shape.sizes row.corner
  pub corner : index_of g.sizes row.corner.place ≡ corner_of g.shape.sizes (index_of g.sizes row.start)
  pub all : 0 < length g.sizes → row.cells ≡ left_in_row g.sizes g.shape.sizes row.start

-- some cells from this place on stand one behind another in a chunk, from a place in it on; its address, where it is stored
pub record IsChunkRow (g : Grid) (place : ℕ) (row : ChunkRow) : Type 0 where
  pub some : 0 < row.cells
  pub beside : AreBeside g.sizes g.shape.sizes place row.cells
  pub inner : row.place ≡ place_in_chunk g place
  pub room : row.place + row.cells ≤ cells g.shape.sizes
  pub at : row.at ≡ chunk_of g place
  pub inside : IfSome row.at (λ at. at + g.shape.bytes ≤ length g.image)

-- the array's row of these cells goes on in the next chunk
pub record HasNext (sizes chunk : List ℕ) (row : FoundRow) : Type 0 where
  pub rank : 0 < length sizes
  pub some : 0 < row.cells
  pub more : row.corner.column + get_or chunk (length sizes - 1) 0 < get_or sizes (length sizes - 1) 0

-- how many cells the next chunk has of it
abbrev pub next_cells : List ℕ → List ℕ → FoundRow → ℕ
next_cells sizes chunk row =
    let width = get_or chunk (length sizes - 1) 0 in
    min width (get_or sizes (length sizes - 1) 0 - (row.corner.column + width))

-- the row goes on in the next chunk, which has the cell at this place in it
pub record GoesOn (sizes chunk : List ℕ) (row : FoundRow) (place : ℕ) : Type 0 where
  pub next : HasNext sizes chunk row
  pub since : row.start + row.cells ≤ place
  pub until : place < row.start + row.cells + next_cells sizes chunk row

-- and the next chunk is one of those that were found
abbrev pub GoesOnFound : List ℕ → List ℕ → FoundChunks → FoundRow → ℕ → Type 0
GoesOnFound sizes chunk found row place =
    GoesOn sizes chunk row place × IsSome (address_found found (option_map (λ k. k + 1) row.number))

-- the chunks of an array stand in its image, and what was found of them last is so, if anything was
pub record IsFoundIn (g : Grid) (found : RowCursor) (last : FoundRow) : Type 0 where
  pub grid : IsGrid g
  pub cursor : IsCursor g.image g.shape g.root found.tree
  pub beside : AreChunksBeside (chunks_told g.image g.shape g.root) g.sizes g.shape.sizes found.beside
  pub row : 0 < last.cells → IsRowOf g last
  pub number : IsNumberBeside g.shape.sizes (index_of g.sizes found.beside.first.place) (index_of g.sizes last.corner.place) last.number

-- ---- without its image

-- an array of these sizes, in chunks of this shape below this root; where chunks of it were found, and the last row of a chunk
pub record GridKept : Type 0 where
  pub sizes : List ℕ
  pub shape : Shape
  pub root : ℕ
  pub cursor : RowCursor
  pub row : FoundRow

-- in this image
abbrev pub grid_in : List ℕ → GridKept → Grid
grid_in image g = record { image = image; sizes = g.sizes; shape = g.shape; root = g.root }

-- its chunks stand in this image, and what was found last is so
abbrev pub IsGridKept : List ℕ → GridKept → Type 0
IsGridKept image g = IsFoundIn (grid_in image g) g.cursor g.row
