-- Where the cells of an array stand in an image, cell by cell (File Format Specification 3.0, sections III.A.1 and IV.A.2.i).
use Rattle.std.specs.Prelude.{◌≡◌, ℕ, ◌+◌, ◌*◌, ◌<◌, Bool, true, is_some, Option, None, Some, List, [], ◌∷◌, map, option_map}
use Rattle.std.specs.FinMap.{get, values}
use Rattle.h5_bytes.specs.Blocks.{block}
use Rattle.h5_bytes.specs.declared.Block.{Block}
use Rattle.h5_model.specs.Format.Chunks.{Chunks}
use Rattle.h5_model.specs.Format.Fixed.{Fixed}
use Rattle.h5_model.specs.Format.Layout.{Layout, InMessage, InBlock, InChunks}
use Rattle.h5_model.specs.Format.Described.{Described}
use Rattle.h5_model.specs.Tree.Grid.{corner_of, inner_of}
use Rattle.h5_model.specs.Tree.Places.{cells, index_of, place_of}
use Rattle.h5_layout.specs.Data.{stored_chunks}

-- the address of the cell at an index, in the block of the data or in its chunk, where it is stored there
abbrev pub address_of : Fixed → List ℕ → Layout → Chunks → List ℕ → Option ℕ
address_of t sizes (InMessage bytes) chunks index = None
address_of t sizes (InBlock b) chunks index = option_map (λ (b : Block). b.at + place_of sizes index * t.size) b
address_of t sizes (InChunks chunk root) chunks index =
    option_map (λ at. at + place_of chunk (inner_of chunk index) * t.size) (get chunks (corner_of chunk index))

-- the address of the cell at a place of an array
abbrev pub address_at : List ℕ → Described → ℕ → Option ℕ
address_at image a place =
    address_of a.fixed a.sizes a.layout (stored_chunks image a.fixed a.layout) (index_of a.sizes place)

-- so many cells from this place on stand one behind another, the first at this address
abbrev pub IsStandingAt : List ℕ → Described → ℕ → ℕ → ℕ → Type 0
IsStandingAt image a place n at = (k : ℕ) → k < n → address_at image a (place + k) ≡ Some (at + k * a.fixed.size)

-- ---- whether a cell is stored

-- the cell at an index: in the message, in the block that there is, or in its chunk
abbrev pub is_stored_in : Layout → Chunks → List ℕ → Bool
is_stored_in (InMessage bytes) chunks index = true
is_stored_in (InBlock b) chunks index = is_some b
is_stored_in (InChunks chunk root) chunks index = is_some (get chunks (corner_of chunk index))

-- the cell at a place of an array
abbrev pub is_stored_cell : List ℕ → Described → ℕ → Bool
is_stored_cell image a place = is_stored_in a.layout (stored_chunks image a.fixed a.layout) (index_of a.sizes place)

-- ---- where all of them stand

-- the blocks that cells stand in: those of the header, the block of the data, or the chunks
abbrev pub blocks_with_cells : Fixed → Layout → Chunks → List Block → List Block
blocks_with_cells t (InMessage bytes) chunks header = header
blocks_with_cells t (InBlock None) chunks header = []
blocks_with_cells t (InBlock (Some b)) chunks header = b ∷ []
blocks_with_cells t (InChunks chunk root) chunks header = map (λ at. block at (cells chunk * t.size)) (values chunks)

-- those of an array whose header has these
abbrev pub cell_blocks : List ℕ → Described → List Block → List Block
cell_blocks image a header = blocks_with_cells a.fixed a.layout (stored_chunks image a.fixed a.layout) header
