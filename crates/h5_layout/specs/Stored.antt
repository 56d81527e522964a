-- Where the cells of an array stand, by its layout (File Format Specification 3.0, section IV.A.2.i).
use Rattle.std.specs.Prelude.{◌≡◌, ◌≢◌, ℕ, ◌+◌, ◌*◌, ◌≤◌, ◌==◌, Bool, true, false, nat_le, Option, None, Some, List, length, replicate}
use Rattle.h5_model.specs.Format.Limits.{most_cells}
use Rattle.h5_model.specs.Tree.Places.{cells, extent_cells}
use Rattle.h5_model.specs.Format.Layout.{Layout, InMessage, InBlock, InChunks}
use Rattle.h5_model.specs.Format.Described.{Described}
use Rattle.h5_bytes.specs.Bytes.{part}
use Rattle.h5_model.specs.Scripts.Answers.{stored_values}
use Rattle.h5_model.specs.Tree.Objects.{Dataset, Contiguous}
use Rattle.h5_layout.specs.Judged.{is_chunk_large}

-- the data that a layout names have room for cells of these sizes and so many bytes; of chunks there are as many sizes
abbrev pub has_room : List ℕ → ℕ → Layout → Bool
has_room sizes size (InMessage bytes) = nat_le (cells sizes * size) (length bytes)
has_room sizes size (InBlock None) = true
has_room sizes size (InBlock (Some b)) = nat_le (cells sizes * size) b.len
has_room sizes size (InChunks chunk_sizes root) = length chunk_sizes == length sizes

-- what every array that messages describe keeps to
pub record IsArray (a : Described) : Type 0 where
  pub small : extent_cells a.sizes ≤ most_cells
  pub room : has_room a.sizes a.fixed.size a.layout ≡ true
  pub chunk_small : is_chunk_large a.fixed a.layout ≡ false

-- the cells are not in chunks, and their block, where they have one, ends by this place
abbrev pub IsUnchunked : ℕ → Layout → Type 0
IsUnchunked end (InMessage bytes) = Unit {0}
IsUnchunked end (InBlock None) = Unit {0}
IsUnchunked end (InBlock (Some b)) = b.at + b.len ≤ end
IsUnchunked end (InChunks chunk_sizes root) = ⊥

-- ---- the bytes of the cells

-- the bytes that the cells of a layout without chunks stand in, where they stand in any
abbrev pub data_in : List ℕ → Layout → Option (List ℕ)
data_in image (InMessage bytes) = Some bytes
data_in image (InBlock None) = None
data_in image (InBlock (Some b)) = Some (part b.at b.len image)
data_in image (InChunks chunk_sizes root) = None

-- no cell is stored in a block: each reads the fill
abbrev pub AreFilled : Dataset → Type 0
AreFilled d = (d.cells ≡ replicate (cells d.sizes) d.fill) × (d.storage ≢ Contiguous true)

-- the cells stand in these bytes, one behind the other, each in as many as the type has
abbrev pub AreStored : Dataset → List ℕ → Type 0
AreStored d bytes = (length bytes ≡ cells d.sizes * (d.fixed).size) × (d.cells ≡ stored_values d.fixed bytes) × (d.storage ≢ Contiguous false)
